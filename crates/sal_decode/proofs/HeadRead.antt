-- The head of a frame: its header says the tag's kind, and what is read one after the other is the frame.
use Rattle.std.proofs.Common.{◌≡◌, ℕ, ◌*◌, ◌∙◌, List, [], Bool, refl, sym, ap}
use Rattle.sal_bool.specs.Bits.{start}
use Rattle.sal_bool.specs.Reading.{Reading, StandsFor, next_bit, after_bit}
use Rattle.sal_bool.specs.Syntax.{Syntax, Done, Bit, ◌>>=◌, byte, read, run}
use Rattle.sal_bool.proofs.Meaning.{run_exact, run_on, run_done}
use Rattle.sal_probs.specs.Probabilities.{used}
use Rattle.sal_header.specs.declared.tag.Tag.{Tag}
use Rattle.sal_header.specs.declared.header.Kept.{Kept}
use Rattle.sal_header.specs.declared.header.Header.{Header}
use Rattle.sal_header.specs.Headers.{header_over, header_of, header_made}
use Rattle.sal_macroblock.specs.declared.mode.MbMode.{MbMode}
use Rattle.sal_decode.specs.FirstPartition.{mb_modes, first_partition}

-- P of all that a meaning can lead to
abbrev Always : {X : Type 0} → (X → Type 0) → Syntax X → Type 0
Always P (Done x) = P x
Always P (Bit p f) = (b : Bool) → Always P (f b)

always_then : {X Y : Type 0} (s : Syntax X) (f : X → Syntax Y) (P : Y → Type 0) → ((x : X) → Always P (f x)) → Always P (s >>= f)
unfolding ◌>>=◌
always_then (Done x) f P h = h x
always_then (Bit p s) f P h = λ b. always_then (s b) f P h

always_run : {X : Type 0} (s : Syntax X) (P : X → Type 0) (r : Reading) → Always P s → P (run s r).0
unfolding run
always_run (Done x) P r h = h
always_run (Bit p s) P r h = always_run (s (next_bit r (byte p))) P (after_bit r (byte p)) (h (next_bit r (byte p)))

-- a header is of the tag's kind
always_key : (key shown : Bool) (kept : Kept) → Always (λ (h : Header). h.key ≡ key) (header_of key shown kept)
unfolding header_over header_made
always_key key shown kept =
    always_then _ _ _ (λ colour. always_then _ _ _ (λ clamping. always_then _ _ _ (λ s. always_then _ _ _ (λ f. always_then _ _ _ (λ log2. always_then _ _ _ (λ q. always_then _ _ _ (λ r. always_then _ _ _ (λ coefficients. always_then _ _ _ (λ m. refl)))))))))

pub header_key : (tag : Tag) (kept : Kept) (d d' : Reading) (h : Header) → run (header_of tag.key tag.shown kept) d ≡ (h, d') → h.key ≡ tag.key
header_key tag kept d d' h e =
    let key = always_run (header_of tag.key tag.shown kept) (λ (x : Header). x.key ≡ tag.key) d (always_key tag.key tag.shown kept) in
    sym (ap (λ (x : Header × Reading). x.0.key) e) ∙ key

-- the first partition
pub first_read : (part : List ℕ) (tag : Tag) (kept : Kept) (columns rows : ℕ) (d d' d'' : Reading) (h : Header) (ms : List MbMode)
    → StandsFor part start d → run (header_of tag.key tag.shown kept) d ≡ (h, d') → run (mb_modes h (used h.key kept.probs h.updates) columns rows (columns * rows) []) d' ≡ (ms, d'')
    → (read part start (first_partition tag kept columns rows)).0 ≡ (h, ms)
unfolding first_partition
first_read part tag kept columns rows d d' d'' h ms stands e f =
    let then_modes : Header → Syntax (Header × List MbMode) = λ x. mb_modes x (used x.key kept.probs x.updates) columns rows (columns * rows) [] >>= λ y. Done (x, y) in
    let all : run (first_partition tag kept columns rows) d ≡ ((h, ms), d'') =
    run_on (header_of tag.key tag.shown kept) then_modes d h d' e ∙ (run_on (mb_modes h (used h.key kept.probs h.updates) columns rows (columns * rows) []) (λ y. Done (h, y)) d' ms d'' f ∙ run_done (h, ms) d'') in
    sym (run_exact (first_partition tag kept columns rows) part start d stands).0 ∙ ap (λ (x : (Header × List MbMode) × Reading). x.0) all
