-- A codec as functions.
use Rattle.std.specs.Prelude.{◌≡◌, ◌<◌, ◌≤◌, ℕ, List, [], ◌++◌, length, replicate, take, Bool, Result, Ok, Err, IsOk}
use Rattle.sal_base.specs.Picture.{IsPicture}
use Rattle.sal_base.specs.declared.picture.Picture.{Picture}
use Rattle.sal_base.specs.declared.coding.Kind.{Kind}
use Rattle.sal_base.specs.declared.coding.Kind.TheVariants.{Inter}
use Rattle.sal_base.specs.declared.coding.Fault.{Fault}
use Rattle.sal_base.specs.declared.coding.DecodeFault.{DecodeFault}
use Rattle.sal_base.specs.declared.coding.DecodeFault.TheVariants.{Bad, Memory}
use Rattle.sal_base.specs.declared.coding.Encoding.{Encoding}
use Rattle.sal_base.specs.declared.coding.Encoding.TheVariants.{Frame, Oversize}
use Rattle.sal_base.specs.declared.coding.Decoded.{Decoded}

-- what a codec does, for states of this type
pub record Coding (S : Type 0) : Type 1 where
  pub initial : S
  pub encode : S → Picture → ℕ → Kind → Encoding S
  pub decode : S → List ℕ → Result (Decoded S) Fault
  pub digest : S → List ℕ
  -- whether inter frames of this width and height may be encoded from a state
  pub takes : S → ℕ → ℕ → Type 0

-- the name that goes with a digest: its first 8 bytes and 8 zeros
abbrev pub name_of : List ℕ → List ℕ
name_of digest = take 8 digest ++ replicate 8 0

-- what may be encoded: a whole picture at a quantiser of at most 127, as an inter frame only from a state that takes its size
pub record MayEncode {S : Type 0} (c : Coding S) (s : S) (p : Picture) (q : ℕ) (k : Kind) : Type 0 where
  pub picture : IsPicture p
  pub quantiser : q ≤ 127
  pub size : k ≡ Inter → c.takes s p.width p.height

-- a frame, the state that it leads to, and the picture that a decoder of it shows
pub record Made (S : Type 0) : Type 0 where
  pub bytes : List ℕ
  pub target : S
  pub recon : Picture

-- what an encoding made; an oversize one made nothing
abbrev pub made_of : {S : Type 0} → S → Picture → Encoding S → Made S
made_of s p (Frame bytes target recon) = record { bytes = bytes; target = target; recon = recon }
made_of s p (Oversize first) = record { bytes = []; target = s; recon = p }

-- the bytes of a frame: some, and no more than a u32 counts
pub record IsFrame (bytes : List ℕ) : Type 0 where
  pub some : 0 < length bytes
  pub counted : length bytes ≤ 4294967295

-- a whole picture with these sides
pub record HasSides (columns rows : ℕ) (p : Picture) : Type 0 where
  pub whole : IsPicture p
  pub width : p.width ≡ columns
  pub height : p.height ≡ rows

-- what holds of each frame that was encoded from s
pub record IsSound {S : Type 0} (c : Coding S) (s : S) (p : Picture) (bytes : List ℕ) (target : S) (recon : Picture) : Type 0 where
  pub frame : IsFrame bytes
  -- the same state decodes it to its target and its reconstruction
  pub decodes : (shown : Bool) × (c.decode s bytes ≡ Ok (record { state = target; picture = recon; shown = shown }))
  pub takes : c.takes target p.width p.height
  pub sides : HasSides p.width p.height recon

-- what every codec keeps
pub record IsLawful {S : Type 0} (c : Coding S) : Type 0 where
  pub digest_size : (s : S) → length (c.digest s) ≡ 32
  pub initial_digest : c.digest c.initial ≡ replicate 32 0
  -- a state takes some size or none
  pub one_size : (s : S) (w h v g : ℕ) → c.takes s w h → c.takes s v g → (w ≡ v) × (h ≡ g)
  pub sound : (s : S) (p : Picture) (q : ℕ) (k : Kind) (bytes : List ℕ) (target : S) (recon : Picture) → MayEncode c s p q k → c.encode s p q k ≡ Frame bytes target recon → IsSound c s p bytes target recon

-- what a call that decodes answers: a fault of the bytes is answered with it, never as want of memory
abbrev pub DecodesAs : {X : Type 0} → Result X Fault → Result X DecodeFault → Type 0
DecodesAs said (Ok x) = said ≡ Ok x
DecodesAs said (Err (Bad f)) = said ≡ Err f
DecodesAs said (Err Memory) = IsOk said
