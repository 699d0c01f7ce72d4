-- The sender's window, and the receiver's floor behind it.
use Rattle.std.proofs.Common.{◌≡◌, ℕ, ◌+◌, ◌≤◌, List, [], ◌∷◌, arith, ◌⊎◌, inl, inr}
use Rattle.sal_base.specs.Lists.{Has}
use Rattle.sal_wire.specs.Fields.{FragmentFields}
use Rattle.sal_codec.specs.Coding.{Coding}
use Rattle.sal_sender.specs.declared.choice.Choice.{Choice}
use Rattle.sal_sender.specs.Past.{Past, choices, pictures, tip_of, floor_of, floor}
use Rattle.sal_sender.specs.OneThread.{Session, one_thread}
use Rattle.sal_sender.specs.Sound.{AreChained}
use Rattle.sal_sender.proofs.Sound.{floor_low}
use Rattle.sal_world.specs.Invariant.{IsWindow}
use Rattle.sal_world.proofs.Numbers.{IsPiece, sent_piece, floor_some, floor_high}

low_of : (chosen : List Choice) → AreChained chosen → (floor_of chosen ≤ tip_of chosen + 1) × (tip_of chosen ≤ floor_of chosen + 15)
low_of [] chained = (omega arith, omega arith)
low_of (choice ∷ older) chained = ((let f : choice.floor ≤ choice.number = floor_low choice older chained.0 in omega arith), chained.0.window)

pub window_of : (past : Past) → AreChained (choices past) → IsWindow past
window_of past chained = let l = low_of (choices past) chained in record { some = floor_some (choices past) chained; low = l.0; high = l.1 }

-- 1, or the floor of a fragment that was sent, is no higher than the sender's floor
pub behind_of : {S : Type 0} (codec : Coding S) (session : Session) (past : Past) (low : ℕ) → AreChained (choices past) → (low ≡ 1) ⊎ ((e : FragmentFields) × Has (one_thread codec session (pictures past) (choices past)) e × (e.floor ≡ low)) → low ≤ floor past
behind_of codec session past low chained (inl e) = let some : 1 ≤ floor past = floor_some (choices past) chained in omega arith
behind_of codec session past low chained (inr of) =
    let p : IsPiece codec session (pictures past) (choices past) of.0 = sent_piece codec session (pictures past) (choices past) chained of.0 of.1 in
    let high : p.choice.floor ≤ floor past = floor_high (choices past) of.0.number p.choice chained p.found in
    let own : of.0.floor ≡ low = of.2 in
    omega (arith, p.floor)
