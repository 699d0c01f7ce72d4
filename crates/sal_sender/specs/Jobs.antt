-- From which state a picture is encoded, and how often.
use Rattle.std.specs.Prelude.{ℕ, ◌+◌, ◌-◌, min, Bool, ◌&&◌, not, List, [], ◌∷◌, ◌==◌, if◌then◌else◌}
use Rattle.sal_base.specs.declared.limits.TheConstants.{WINDOW}
use Rattle.sal_base.specs.declared.coding.Kind.{Kind}
use Rattle.sal_base.specs.declared.coding.Kind.TheVariants.{Key, Inter}
use Rattle.sal_sender.specs.declared.choice.JobRole.{JobRole}
use Rattle.sal_sender.specs.declared.choice.JobRole.TheVariants.{Coarse, Spare, Fine}
use Rattle.sal_sender.specs.Past.{Past, tip, floor, last_job, quantiser}
use Rattle.sal_sender.specs.Acks.{safe, lost}

-- one encoding of a picture, by its id: from the state of this frame number, with this quantiser index
pub record Job : Type 0 where
  pub id : ℕ
  pub role : JobRole
  pub source : ℕ
  pub q : ℕ

-- a job from the initial state makes a key frame
abbrev pub kind_of : ℕ → Kind
kind_of source = if source == 0 then Key else Inter

-- the frame number of the state to go on from: 0, the initial one, where the window is full, the safe one after a loss, else the tip
abbrev pub base : Past → ℕ
base past =
    if not (tip past == 0) && (((tip past - floor past) + 1) == WINDOW) then 0
    else if lost past then safe past
    else tip past

-- the jobs of a picture, by id, source and quantiser index
abbrev pub coarse_job : ℕ → ℕ → ℕ → Job
coarse_job id source q = record { id = id; role = Coarse; source = source; q = min 127 (q + 4) }

abbrev pub spare_job : ℕ → ℕ → ℕ → Job
spare_job id source q = record { id = id; role = Spare; source = source; q = min 127 (q + 4) }

abbrev pub fine_job : ℕ → ℕ → ℕ → Job
fine_job id source q = record { id = id; role = Fine; source = source; q = q - 4 }

-- whether the base is the tip, and the safe state is another one
abbrev pub needs_spare : ℕ → ℕ → ℕ → Bool
needs_spare base safe tip = base == tip && not (base == safe)

-- a coarse job from the base; a spare one from the safe state, where the base is the tip and that is another one; a fine one from the base
abbrev pub plan : ℕ → ℕ → ℕ → ℕ → ℕ → List Job
plan first base safe tip q =
    if needs_spare base safe tip
    then coarse_job first base q ∷ spare_job (first + 1) safe q ∷ fine_job (first + 2) base q ∷ []
    else coarse_job first base q ∷ fine_job (first + 1) base q ∷ []

-- the jobs of a picture that is started after this past
abbrev pub jobs : Past → List Job
jobs past = plan (last_job past + 1) (base past) (safe past) (tip past) (quantiser past)
