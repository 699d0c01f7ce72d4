-- What is kept of a decoded frame, and what it is answered.
use Rattle.std.specs.Prelude.{◌≡◌, ℕ, ◌+◌, ◌<◌, None, not, nat_le, if◌then◌else◌}
use Rattle.sal_base.specs.Names.{same}
use Rattle.sal_base.specs.declared.limits.TheConstants.{WINDOW}
use Rattle.sal_base.specs.declared.name.Name.{Name}
use Rattle.sal_base.specs.declared.picture.Picture.{Picture}
use Rattle.sal_chain.specs.Held.{inserted, with_number}
use Rattle.sal_receiver.specs.declared.answers.Done.{Done}
use Rattle.sal_receiver.specs.declared.answers.Done.TheVariants.{Stranger, Returned, Unfit, Misnamed, Older, Show}
use Rattle.sal_receiver.specs.declared.answers.Misfit.TheVariants.{Size}
use Rattle.sal_receiver.specs.Answers.{has_size}
use Rattle.sal_receiver.specs.Pending.{without, fed}
use Rattle.sal_receiver.specs.Machine.{ReceiverState}

module _ {S : Type 0} where
  -- the number stands in the window and isn't held
  pub record IsNew (b : ReceiverState S) (n : ℕ) : Type 0 where
    pub near : n < b.store.floor + WINDOW
    pub fresh : with_number n b.store.kept ≡ None

  -- a state is held, and its number is decided
  abbrev pub after_hold : ℕ → Name → S → ReceiverState S → ReceiverState S
  after_hold n name state b = record b { store = record { floor = b.store.floor; kept = inserted (record { number = n; name = name; state = state }) b.store.kept }; frames = without n (fed name.0 state b.frames) }

  -- a state is held, where its number isn't below the floor, and its number is decided
  abbrev pub after_keep : ℕ → Name → S → ReceiverState S → ReceiverState S
  after_keep n name state b =
      if nat_le b.store.floor n
      then after_hold n name state b
      else record b { frames = without n b.frames }

  abbrev pub judged : ℕ → Name → Name → Picture → ReceiverState S → Done
  judged n target name picture b =
      if not (has_size b.known.head picture) then Unfit n (Size picture.width picture.height)
      else if not (same name.0 target.0) then Misnamed target name
      else if nat_le n b.last then Older n b.last
      else Show n picture

  abbrev pub after_judge : ℕ → Name → S → Done → ReceiverState S → ReceiverState S
  after_judge n name state Stranger b = b
  after_judge n name state (Returned m) b = b
  after_judge n name state (Unfit m why) b = record b { frames = without n b.frames }
  after_judge n name state (Misnamed said found) b = record b { frames = without n b.frames }
  after_judge n name state (Older m greater) b = after_keep n name state b
  after_judge n name state (Show m picture) b = record (after_keep n name state b) { last = n }
