-- What holds of the codec without compression.
use Rattle.std.proofs.Common.{◌≡◌, ℕ, ◌+◌, ◌-◌, ◌*◌, ◌/◌, ◌%◌, ◌<◌, ◌≤◌, List, [], ◌∷◌, ◌++◌, length, drop, true, false, Option, Some, None, Ok, refl, ap, sym, subst, ◌∙◌, arith, ltb}
use Rattle.std.proofs.lemmas.Bool.{le-ltb}
use Rattle.std.proofs.lemmas.Bool.Decides.{nat_tests}
use Rattle.std.proofs.lemmas.List.{length-append, length-take, length-drop}
use Rattle.std.proofs.lemmas.Simd.{length-zip2}
use Rattle.std.proofs.lemmas.Nat.{mul-le}
use lib.Lanes.{zip2}
use Rattle.byteorder.specs.Endian.{big_bytes, big_number}
use Rattle.byteorder.specs.Numbers.{big_number-reads_back}
use Rattle.sha2.proofs.Facts256.{length-sha256}
use Rattle.sal_base.specs.Picture.{AreSides, IsPicture, half}
use Rattle.sal_base.specs.declared.picture.Picture.{Picture}
use Rattle.sal_base.specs.declared.coding.Kind.{Kind}
use Rattle.sal_base.specs.declared.coding.Kind.TheVariants.{Key, Inter}
use Rattle.sal_base.specs.declared.coding.Encoding.TheVariants.{Frame}
use Rattle.sal_codec.specs.declared.raw.RawPicture.{RawPicture}
use Rattle.sal_codec.specs.Coding.{MayEncode, IsSound, IsLawful}
use Rattle.sal_codec.specs.Raw.{IsRaw, samples_of, raw_of, picture_of, sample_count}
use Rattle.sal_codec.specs.Plain.{pair, less, plus, sides_of, key_bytes, side_fault, count_fault, unless, sized, key_of, inter_of, raw_of_frame, sums, differences, moved, frame_of, led_to, shows, digest, Takes, Shows, plain}

samples_long : (p : Picture) → IsPicture p → length (samples_of p) ≡ sample_count p.width p.height
samples_long p w = omega (arith, length-append {A = ℕ}, w.y.samples, w.u.samples, w.v.samples)

pub raw_is : (p : Picture) → IsPicture p → IsRaw (raw_of p)
raw_is p w = record { sides = w.sides; samples = samples_long p w }

-- there are at most 1,382,400 samples
few_samples : (w h : ℕ) → AreSides w h → sample_count w h ≤ 1382400
few_samples w h s =
    let a = mul-le w h 1280 720 s.not_wider s.not_higher in
    let b = mul-le (half w) (half h) 640 360 (omega (arith, s.not_wider)) (omega (arith, s.not_higher)) in
    omega arith

key_again : (w h : ℕ) (xs : List ℕ) → w < 65536 → h < 65536 → key_of (sides_of w h ++ xs) ≡ sized w h xs
unfolding key_of pair
key_again w h xs a b =
    let e : big_number 2 (big_bytes 2 w ++ (big_bytes 2 h ++ xs)) ≡ w = big_number-reads_back 2 w (big_bytes 2 h ++ xs) a in
    let f : big_number 2 (big_bytes 2 h ++ xs) ≡ h = big_number-reads_back 2 h xs b in
    let long : ltb (length (big_bytes 2 w ++ (big_bytes 2 h ++ xs))) 4 ≡ false = le-ltb _ _ (omega arith) in
    rw (long, e, f) refl

no_side_fault : (w h : ℕ) → AreSides w h → side_fault w h ≡ None
no_side_fault w h s = grind (arith, nat_tests)

no_count_fault : (w h n : ℕ) → n ≡ sample_count w h → count_fault w h n ≡ None
no_count_fault w h n e = grind (arith, nat_tests)

sized_again : (r : RawPicture) → IsRaw r → sized r.width r.height r.samples ≡ Ok r
sized_again r is =
    let a = no_side_fault r.width r.height is.sides in
    let b = no_count_fault r.width r.height (length r.samples) is.samples in
    ap (λ o. unless o (unless (count_fault r.width r.height (length r.samples)) (Ok r))) a ∙ ap (λ o. unless o (Ok r)) b

whole_picture : (r : RawPicture) → IsRaw r → IsPicture (picture_of r)
whole_picture r is =
    let n = r.width * r.height in
    let m = half r.width * half r.height in
    record {
      sides = is.sides;
      y = record { width = refl; height = refl; samples = omega (arith, length-take n r.samples, is.samples) };
      u = record { width = refl; height = refl; samples = omega (arith, length-take m (drop n r.samples), length-drop n r.samples, is.samples) };
      v = record { width = refl; height = refl; samples = omega (arith, length-drop m (drop n r.samples), length-drop n r.samples, is.samples) };
    }

moved_is : (source : RawPicture) (xs : List ℕ) → IsRaw source → length xs ≡ length source.samples → IsRaw (moved source (differences xs source.samples))
unfolding sums differences
moved_is source xs is same =
    let a : length (zip2 less xs source.samples) ≡ length xs = length-zip2 less xs source.samples same in
    let b : length (zip2 plus (zip2 less xs source.samples) source.samples) ≡ length (zip2 less xs source.samples) = length-zip2 plus (zip2 less xs source.samples) source.samples (a ∙ same) in
    record { sides = is.sides; samples = b ∙ (a ∙ (same ∙ is.samples)) }

length_differences : (xs source : List ℕ) → length xs ≡ length source → length (differences xs source) ≡ length source
unfolding differences
length_differences xs source same = length-zip2 less xs source same ∙ same

key_read : (s : Option RawPicture) (r : RawPicture) → IsRaw r → raw_of_frame s (key_bytes r) ≡ Ok r
unfolding raw_of_frame
key_read s r is = key_again r.width r.height r.samples (omega (arith, is.sides.not_wider)) (omega (arith, is.sides.not_higher)) ∙ sized_again r is

inter_read : (source : RawPicture) (ds : List ℕ) → IsRaw source → length ds ≡ length source.samples → raw_of_frame (Some source) (1 ∷ ds) ≡ Ok (moved source ds)
unfolding raw_of_frame inter_of
inter_read source ds is same = ap (λ o. unless o (Ok (moved source ds))) (no_count_fault source.width source.height (length ds) (same ∙ is.samples))

long_key : (r : RawPicture) → length (key_bytes r) ≡ 5 + length r.samples
unfolding pair
long_key r = omega arith

sound_key : (s : Option RawPicture) (p : Picture) → IsPicture p → IsSound plain s p (key_bytes (raw_of p)) (Some (raw_of p)) (picture_of (raw_of p))
sound_key s p w =
    let is = raw_is p w in
    let few = few_samples p.width p.height w.sides in
    let long = long_key (raw_of p) in
    record {
      frame = record { some = omega (arith, long); counted = omega (arith, long, few, is.samples) };
      decodes = (true, ap shows (key_read s (raw_of p) is));
      takes = record { whole = is; width = refl; height = refl };
      sides = record { whole = whole_picture (raw_of p) is; width = refl; height = refl };
    }

sound_inter : (source : RawPicture) (p : Picture) → IsPicture p → Shows p.width p.height source → IsSound plain (Some source) p (1 ∷ differences (samples_of p) source.samples) (Some (moved source (differences (samples_of p) source.samples))) (picture_of (moved source (differences (samples_of p) source.samples)))
sound_inter source p w sh =
    let is = raw_is p w in
    let few = few_samples p.width p.height w.sides in
    let same : length (samples_of p) ≡ length source.samples = is.samples ∙ (ap (λ (n : ℕ). sample_count n p.height) (sym sh.width) ∙ (ap (λ (n : ℕ). sample_count source.width n) (sym sh.height) ∙ sym sh.whole.samples)) in
    let moved_whole = moved_is source (samples_of p) sh.whole same in
    let long : length (differences (samples_of p) source.samples) ≡ length source.samples = length_differences (samples_of p) source.samples same in
    record {
      frame = record { some = omega arith; counted = omega (arith, long, few, is.samples, same) };
      decodes = (true, ap shows (inter_read source (differences (samples_of p) source.samples) sh.whole long));
      takes = record { whole = moved_whole; width = sh.width; height = sh.height };
      sides = record { whole = whole_picture _ moved_whole; width = sh.width; height = sh.height };
    }

sound_made : (s : Option RawPicture) (p : Picture) (q : ℕ) (k : Kind) → MayEncode plain s p q k → IsSound plain s p (frame_of (raw_of p) s k) (Some (led_to (raw_of p) s k)) (picture_of (led_to (raw_of p) s k))
sound_made s p q Key m = sound_key s p m.picture
sound_made None p q Inter m = absurd (m.size refl)
sound_made (Some source) p q Inter m = sound_inter source p m.picture (m.size refl)

-- the parts of equal frames are equal
sound_same : (s : Option RawPicture) (p : Picture) (bytes made_bytes : List ℕ) (target made_target : Option RawPicture) (recon made_recon : Picture) → IsSound plain s p made_bytes made_target made_recon → made_bytes ≡ bytes → made_target ≡ target → made_recon ≡ recon → IsSound plain s p bytes target recon
sound_same s p bytes made_bytes target made_target recon made_recon is a b c =
    subst (λ x. IsSound plain s p x target recon) a (subst (λ x. IsSound plain s p made_bytes x recon) b (subst (λ x. IsSound plain s p made_bytes made_target x) c is))

plain_sound : (s : Option RawPicture) (p : Picture) (q : ℕ) (k : Kind) (bytes : List ℕ) (target : Option RawPicture) (recon : Picture) → MayEncode plain s p q k → plain.encode s p q k ≡ Frame bytes target recon → IsSound plain s p bytes target recon
plain_sound s p q k bytes target recon m e =
    sound_same s p bytes (frame_of (raw_of p) s k) target (Some (led_to (raw_of p) s k)) recon (picture_of (led_to (raw_of p) s k)) (sound_made s p q k m) (cc) (cc) (cc)

plain_size : (s : Option RawPicture) (w h v g : ℕ) → Takes s w h → Takes s v g → (w ≡ v) × (h ≡ g)
plain_size None w h v g a b = absurd a
plain_size (Some r) w h v g a b = (sym a.width ∙ b.width, sym a.height ∙ b.height)

plain_digest_size : (s : Option RawPicture) → length (digest s) ≡ 32
plain_digest_size None = refl
plain_digest_size (Some r) = length-sha256 (sides_of r.width r.height ++ r.samples)

-- what every codec keeps
pub plain_lawful : IsLawful plain
plain_lawful = record { digest_size = plain_digest_size; initial_digest = refl; one_size = plain_size; sound = plain_sound }
