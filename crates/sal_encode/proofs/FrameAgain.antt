-- The bytes of a plan are read as its record.
use Rattle.std.proofs.Common.{◌≡◌, ℕ, ◌+◌, ◌-◌, ◌*◌, ◌<◌, ◌∙◌, List, [], ◌∷◌, ◌++◌, Bool, true, false, if◌then◌else◌, length, map, replicate, refl, ap, arith, subst, Result, Ok, slice_index_or}
use Rattle.sal_base.specs.declared.coding.Fault.{Fault}
use Rattle.sal_base.specs.Pictures.{blocks_of}
use Rattle.sal_bool.specs.Bits.{start}
use Rattle.sal_bool.specs.Syntax.{Follows, read}
use Rattle.sal_bool.proofs.Meaning.{follows_then, read_back}
use Rattle.sal_bool.proofs.Writing.{follows_made}
use Rattle.sal_header.specs.declared.tag.Tag.{Tag}
use Rattle.sal_header.specs.declared.header.Header.{Header}
use Rattle.sal_header.specs.Headers.{header_of}
use Rattle.sal_header.specs.Tags.{head_length, first_part_of, parts_of}
use Rattle.sal_header.specs.Written.{header_pairs}
use Rattle.sal_header.proofs.ReadBack.{header_again}
use Rattle.sal_macroblock.specs.declared.mode.MbMode.{MbMode}
use Rattle.sal_macroblock.specs.Macroblocks.{outside}
use Rattle.sal_modes.specs.Written.{as_read}
use Rattle.sal_tokens.specs.Blocks.{no_contexts}
use Rattle.sal_state.specs.States.{StateData}
use Rattle.sal_frame.specs.Records.{Macroblock, Record}
use Rattle.sal_frame.specs.After.{decoded_of}
use Rattle.sal_decode.specs.Decode.{decode_of}
use Rattle.sal_decode.specs.FirstPartition.{mb_modes, first_partition, segment_of, with_segments}
use Rattle.sal_decode.specs.TokenPartitions.{Progress, begun, part_bytes, macroblocks}
use Rattle.sal_decode.specs.Syntax.{◌>>=◌, size_kept, size_of, record_of, frame_of}
use Rattle.sal_encode.specs.declared.plan.Plan.{Plan}
use Rattle.sal_encode.specs.Plans.{planned_all, record_of_plan, IsPlan}
use Rattle.sal_encode.specs.FrameBytes.{probs_of, modes_pairs, first_pairs, plan_branches, head_bytes, first_bytes, token_bytes, plan_bytes}
use Rattle.sal_encode.proofs.TokensAgain.{tokens_again}
use Rattle.sal_encode.proofs.ModesAgain.{modes_again, segments_again}
use Rattle.sal_encode.proofs.HeadAgain.{tag_with, tag_again, first_again, parts_again, tokens_there}

module _ (s : StateData) (size : ℕ × ℕ) (p : Plan) (valid : IsPlan s size p) where
  abbrev columns : ℕ
  columns = blocks_of size.0

  abbrev rows : ℕ
  rows = blocks_of size.1

  abbrev first : List ℕ
  first = first_bytes s size p

  abbrev tokens : List ℕ
  tokens = token_bytes s size p

  abbrev tag : Tag
  tag = tag_with p.header.key p.header.shown (length first) size

  abbrev bytes : List ℕ
  bytes = head_bytes p.header.key p.header.shown (length first) size ++ (first ++ tokens)

  abbrev said : Header × List MbMode
  said = (p.header, map (as_read p.header) p.modes)

  -- its size
  size_again : size_of s tag ≡ Ok size
  size_again = by_kind p.header.key valid.kept_size
    where
      by_kind : (key : Bool) → (key ≡ false → size_kept s.references ≡ Ok size)
          → (if key then Ok ((if key then size.0 else 0), (if key then size.1 else 0)) else size_kept s.references) ≡ Ok size
      by_kind true kept = refl
      by_kind false kept = kept refl

  -- its first partition
  modes_follow : Follows (mb_modes p.header (probs_of s p) columns rows (columns * rows) []) (modes_pairs p.header (probs_of s p) columns rows [] p.modes) (map (as_read p.header) p.modes)
  modes_follow =
      subst (λ n. Follows (mb_modes p.header (probs_of s p) columns rows n []) (modes_pairs p.header (probs_of s p) columns rows [] p.modes) (map (as_read p.header) p.modes)) valid.many_modes
      (modes_again p.header (probs_of s p) columns rows p.modes [] (λ j lt. (valid.macroblocks j lt).mode) (λ j lt. (valid.macroblocks j lt).subblocks))

  first_follows : Follows (first_partition tag s.kept columns rows) (first_pairs s size p) said
  unfolding first_partition first_pairs
  first_follows =
      follows_then (header_of p.header.key p.header.shown s.kept) _ (header_pairs p.header) (modes_pairs p.header (probs_of s p) columns rows [] p.modes) p.header said (header_again s.kept p.header valid.header)
      (follows_made (mb_modes p.header (probs_of s p) columns rows (columns * rows) []) (λ (ms : List MbMode). let x : Header × List MbMode = (p.header, ms) in x) (modes_pairs p.header (probs_of s p) columns rows [] p.modes) (map (as_read p.header) p.modes) modes_follow)

  first_said : (read first start (first_partition tag s.kept columns rows)).0 ≡ said
  unfolding first_bytes
  first_said = read_back (first_partition tag s.kept columns rows) (first_pairs s size p) said first_follows

  -- its token partition
  blocks_again : (part : ℕ × ℕ) → part_bytes bytes (part ∷ []) 0 ≡ tokens
      → macroblocks bytes (part ∷ []) (probs_of s p).coefficients columns 0 (with_segments p.header s.kept.map 0 (map (as_read p.header) p.modes)) (begun 1 columns) ≡ planned_all p.modes p.levels
  unfolding token_bytes plan_branches
  blocks_again part there =
      let probabilities : List ℕ = (probs_of s p).coefficients in
      let start_all : Progress = begun 1 columns in
      ap (λ (ms : List MbMode). macroblocks bytes (part ∷ []) probabilities columns 0 ms start_all)
      (segments_again p.header s.kept.map p.modes 0 (λ j lt. (let same : j ≡ 0 + j = omega arith in (valid.macroblocks j lt).segment ∙ ap (λ n. segment_of p.header s.kept.map n (slice_index_or p.modes j outside)) same)))
      ∙ tokens_again bytes part probabilities columns p.modes p.levels 0 [] (replicate columns no_contexts) no_contexts valid.many_levels (λ j lt. (valid.macroblocks j lt).levels) tt there

  -- all of it
  abbrev with_parts : List ℕ → Tag → ℕ × ℕ → Header × List MbMode → Result Record Fault
  with_parts bs t z x = parts_of bs t x.0.log2 >>= λ parts. Ok (record_of s bs z parts x)

  abbrev with_first : List ℕ → Tag → ℕ × ℕ → Result Record Fault
  with_first bs t z = first_part_of bs t >>= λ part. with_parts bs t z (read part start (first_partition t s.kept (blocks_of z.0) (blocks_of z.1))).0

  abbrev with_size : List ℕ → Tag → Result Record Fault
  with_size bs t = size_of s t >>= λ z. with_first bs t z

  record_again : (part : ℕ × ℕ) → part_bytes bytes (part ∷ []) 0 ≡ tokens → record_of s bytes size (part ∷ []) said ≡ record_of_plan size p
  unfolding record_of record_of_plan
  record_again part there =
      ap (λ (bs : List Macroblock). let f : Record = record { header = p.header; width = size.0; height = size.1; blocks = bs } in f) (blocks_again part there)

  pub frame_again : length first < 524288 → frame_of s (plan_bytes s size p) ≡ Ok (record_of_plan size p)
  unfolding frame_of plan_bytes
  frame_again fits =
      let part : ℕ × ℕ = (head_length p.header.key + length first + 3 * 0, length bytes - (head_length p.header.key + length first + 3 * 0)) in
      ap (λ (r : Result Tag Fault). r >>= with_size bytes) (tag_again p.header.key p.header.shown (length first) size (first ++ tokens) fits (λ e. valid.sides))
      ∙ (ap (λ (r : Result (ℕ × ℕ) Fault). r >>= with_first bytes tag) size_again
      ∙ (ap (λ (r : Result (List ℕ) Fault). r >>= λ bs. with_parts bytes tag size (read bs start (first_partition tag s.kept columns rows)).0) (first_again p.header.key p.header.shown size first tokens)
      ∙ (ap (λ (x : Header × List MbMode). with_parts bytes tag size x) first_said
      ∙ (ap (λ n. parts_of bytes tag n >>= λ parts. Ok (record_of s bytes size parts said)) valid.one_partition
      ∙ (ap (λ (r : Result (List (ℕ × ℕ)) Fault). r >>= λ parts. Ok (record_of s bytes size parts said)) (parts_again p.header.key p.header.shown size first tokens)
      ∙ ap (λ (f : Record). let r : Result Record Fault = Ok f in r) (record_again part (tokens_there p.header.key p.header.shown size first tokens)))))))

  pub decoded_again : length first < 524288 → decode_of s (plan_bytes s size p) ≡ Ok (decoded_of s (record_of_plan size p))
  unfolding decode_of
  decoded_again fits = ap (λ (r : Result Record Fault). r >>= λ f. Ok (decoded_of s f)) (frame_again fits)
