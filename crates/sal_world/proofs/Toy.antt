-- A codec for examples: a state is one more than the last picture's first sample.
use Rattle.std.proofs.Common.{ℕ, ◌+◌, List, [], ◌∷◌, Ok, Err, Result, true, get_or, replicate}
use Rattle.sal_base.specs.declared.picture.Picture.{Picture}
use Rattle.sal_base.specs.declared.picture.Plane.{Plane}
use Rattle.sal_base.specs.declared.coding.Fault.{Fault}
use Rattle.sal_base.specs.declared.coding.Fault.TheVariants.{Short}
use Rattle.sal_base.specs.declared.coding.Decoded.{Decoded}
use Rattle.sal_base.specs.declared.coding.Encoding.TheVariants.{Frame}
use Rattle.sal_codec.specs.Coding.{Coding}
use Rattle.sal_sender.specs.OneThread.{Session}

abbrev pub plane : ℕ → Plane
plane v = record { width = 16; height = 16; samples = v ∷ [] }

-- a picture of 16 by 16 whose first sample is v
abbrev pub shot : ℕ → Picture
shot v = record { width = 16; height = 16; y = plane v; u = plane 128; v = plane 128 }

abbrev pub first_sample : Picture → ℕ
first_sample p = get_or p.y.samples 0 0

abbrev pub decoded : List ℕ → Result (Decoded ℕ) Fault
decoded [] = Err Short
decoded (v ∷ more) = Ok (record { state = v + 1; picture = shot v; shown = true })

-- the state, and 31 zeros
abbrev pub digest_of : ℕ → List ℕ
digest_of s = s ∷ replicate 31 0

abbrev pub toy : Coding ℕ
toy = record {
  initial = 0;
  encode = λ s p q k. Frame (first_sample p ∷ []) (first_sample p + 1) (shot (first_sample p));
  decode = λ s bytes. decoded bytes;
  digest = digest_of;
  takes = λ s w h. Unit {0};
}

abbrev pub session : Session
session = record { number = 1; head = record { width = 16; height = 16; rate = (30, 1) } }
