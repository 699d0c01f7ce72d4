-- Frames one after the other.
use Rattle.std.proofs.Common.{◌≡◌, ◌≤◌, ℕ, List, sym, subst}
use Rattle.sal_base.specs.Picture.{IsPicture}
use Rattle.sal_base.specs.declared.picture.Picture.{Picture}
use Rattle.sal_base.specs.declared.coding.Kind.TheVariants.{Key, Inter}
use Rattle.sal_base.specs.declared.coding.Encoding.TheVariants.{Frame}
use Rattle.sal_codec.specs.Coding.{Coding, MayEncode, HasSides, IsLawful}

-- from the target of a key frame a picture of the same size may be encoded
pub inter_after_key : {S : Type 0} (c : Coding S) (s : S) (first second : Picture) (q : ℕ) (bytes : List ℕ) (target : S) (recon : Picture) → IsLawful c → IsPicture first → HasSides first.width first.height second → q ≤ 127 → c.encode s first q Key ≡ Frame bytes target recon → MayEncode c target second q Inter
inter_after_key c s first second q bytes target recon law is sides small made =
    let sound = law.sound s first q Key bytes target recon (record { picture = is; quantiser = small; size = λ e. absurd (cc) }) made in
    record {
      picture = sides.whole;
      quantiser = small;
      size = λ e. subst (λ (w : ℕ). c.takes target w second.height) (sym sides.width) (subst (λ (h : ℕ). c.takes target first.width h) (sym sides.height) sound.takes);
    }
