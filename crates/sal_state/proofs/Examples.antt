-- The bytes that a digest is taken over, computed; the values are by hand.
use Rattle.std.proofs.Common.{◌≡◌, ◌++◌, ℕ, List, pos, negsuc, [], ◌∷◌, true, false, refl, replicate}
use Rattle.sha2.specs.Sha256.{sha256, digest_bytes, hash_after, compress, rounds, schedule, first_words}
use Rattle.sal_base.specs.declared.picture.Planes.{Planes}
use Rattle.sal_base.specs.Pictures.{plane}
use Rattle.sal_header.specs.declared.header.Kept.{Kept}
use Rattle.sal_state.specs.States.{References, initial_state}
use Rattle.sal_state.specs.Digest.{planes_digest, state_bytes, digest_of}
use Rattle.sal_state.specs.Name.{name_of}

-- one probability of each sort, so that their order shows
some_kept : Kept
some_kept = record {
  absolute = true;
  quantisers = pos 127 ∷ negsuc 126 ∷ pos 0 ∷ negsuc 0 ∷ [];
  levels = pos 1 ∷ pos 2 ∷ negsuc 62 ∷ pos 63 ∷ [];
  ref_deltas = negsuc 1 ∷ pos 3 ∷ pos 4 ∷ pos 5 ∷ [];
  mode_deltas = pos 6 ∷ pos 7 ∷ pos 8 ∷ negsuc 8 ∷ [];
  bias_golden = false;
  bias_alt = true;
  map = 3 ∷ 2 ∷ 1 ∷ 0 ∷ [];
  probs = record { coefficients = 10 ∷ []; vectors = 11 ∷ []; y = 12 ∷ []; chroma = 13 ∷ [] };
}

flat : List ℕ → Planes
flat samples = record { y = plane 2 1 samples; u = plane 1 1 (129 ∷ []); v = plane 1 1 (130 ∷ []) }

some_references : References
some_references = record { width = 1280; height = 17; last = flat (1 ∷ 2 ∷ []); golden = flat (3 ∷ 4 ∷ []); alt = flat (5 ∷ 6 ∷ []) }

bytes_in_order : state_bytes some_kept some_references
    ≡ 5 ∷ 0 ∷ 0 ∷ 17 ∷ 10 ∷ 11 ∷ 12 ∷ 13 ∷ 1 ∷ 127 ∷ 129 ∷ 0 ∷ 255 ∷ 1 ∷ 2 ∷ 193 ∷ 63 ∷ 254 ∷ 3 ∷ 4 ∷ 5 ∷ 6 ∷ 7 ∷ 8 ∷ 247 ∷ 0 ∷ 1 ∷ 3 ∷ 2 ∷ 1 ∷ 0
    ∷ planes_digest some_references.last ++ planes_digest some_references.golden ++ planes_digest some_references.alt
unfolding state_bytes some_kept some_references
bytes_in_order = refl

initial_digest : digest_of initial_state ≡ replicate 32 0
unfolding digest_of initial_state
initial_digest = refl

initial_name : name_of initial_state ≡ replicate 16 0
unfolding digest_of initial_state
initial_name = refl

-- four samples, by another program
digest_of_samples : planes_digest some_references.last ≡ 169 ∷ 60 ∷ 124 ∷ 141 ∷ 91 ∷ 178 ∷ 114 ∷ 98 ∷ 198 ∷ 16 ∷ 145 ∷ 17 ∷ 227 ∷ 83 ∷ 7 ∷ 157 ∷ 192 ∷ 107 ∷ 171 ∷ 38 ∷ 76 ∷ 60 ∷ 40 ∷ 240 ∷ 64 ∷ 121 ∷ 162 ∷ 147 ∷ 124 ∷ 192 ∷ 46 ∷ 93 ∷ []
unfolding planes_digest some_references flat sha256 digest_bytes hash_after compress rounds schedule first_words
digest_of_samples = refl
