-- No number was acknowledged before it was sent.
use Rattle.std.proofs.Common.{◌≡◌, ℕ, ◌≤◌, Bool, true, false, cond, not, List, [], ◌∷◌, ◌++◌, map, Option, Some, None, refl, arith, eqb, leb, ltb}
use Rattle.std.proofs.lemmas.Bool.{ltb-false}
use Rattle.std.specs.Prelude.{Ok, Err}
use Rattle.std.specs.List.{filter, filter_map, cons_option}
use Rattle.sal_base.specs.Lists.{Each}
use Rattle.sal_base.specs.declared.name.Name.{Name}
use Rattle.sal_codec.specs.Coding.{Coding}
use Rattle.sal_wire.specs.Message.{FragmentMessage, AckMessage, ByeMessage}
use Rattle.sal_sender.specs.declared.answers.Chosen.TheVariants.{NoPicture, Waiting, Sent, Nothing, Memory}
use Rattle.sal_sender.specs.declared.answers.Ignore.{Ignore}
use Rattle.sal_sender.specs.declared.answers.Ignore.TheVariants.{Session as OtherSession, Serial, Unsent}
use Rattle.sal_sender.specs.declared.answers.HeardAck.{HeardAck}
use Rattle.sal_sender.specs.declared.answers.HeardAck.TheVariants.{Heard, Ignored}
use Rattle.sal_sender.specs.Past.{Past, NextPicture, TakeJob, Report, Choose, Hear, choices, tip, floor, sent}
use Rattle.sal_sender.specs.OneThread.{Session}
use Rattle.sal_sender.specs.Acks.{acknowledged, heard}
use Rattle.sal_sender.specs.Choosing.{first_in}
use Rattle.sal_sender.specs.Answers.{unsent_or_misnamed, first_wrong, newly_named, fresh, unless_wrong}
use Rattle.sal_sender.specs.Promises.{IsLegalSender}
use Rattle.sal_sender.proofs.Sound.{chained_of_legal, tip_is}

each_append : {X : Type 0} (P : X → Type 0) (xs ys : List X) → Each P xs → Each P ys → Each P (xs ++ ys)
each_append P [] ys a b = b
each_append P (x ∷ xs) ys a b = (a.0, each_append P xs ys a.1 b)

higher : (xs : List ℕ) (m n : ℕ) → m ≤ n → Each (λ k. k ≤ m) xs → Each (λ k. k ≤ n) xs
higher [] m n h e = tt
higher (x ∷ xs) m n h e = ((let low : x ≤ m = e.0 in omega arith), higher xs m n h e.1)

-- what was heard had nothing wrong
none_wrong : (a b : Bool) (why other : Ignore) (o : Option Ignore) (answer : HeardAck) (numbers : List ℕ) → Heard numbers ≡ cond (not a) (Ignored why) (cond b (Ignored other) (unless_wrong o answer)) → o ≡ None
none_wrong false b why other o answer numbers h = absurd (cc)
none_wrong true true why other o answer numbers h = absurd (cc)
none_wrong true false why other None answer numbers h = refl
none_wrong true false why other (Some w) answer numbers h = absurd (cc)

neither_first : {X : Type 0} (o : Option X) (rest : List X) → first_in (cons_option o rest) ≡ None → (o ≡ None) × (first_in rest ≡ None)
neither_first None rest h = (refl, h)
neither_first (Some x) rest h = absurd (cc)

-- where none at or above the floor is wrong, none of them is above the tip
named_low : (tip floor : ℕ) (held : List (ℕ × Name)) (w : ℕ × Name → Option Ignore) → ((h : ℕ × Name) → w h ≡ None → h.0 ≤ tip) → first_in (filter_map w (filter (λ h. leb floor h.0) held)) ≡ None → Each (λ n. n ≤ tip) (filter (λ n. leb floor n) (map (λ h. h.0) held))
named_low tip floor [] w low h = tt
named_low tip floor (x ∷ more) w low h = go (leb floor x.0) h (named_low tip floor more w low)
  where
    go : (b : Bool) → first_in (filter_map w (cond b (x ∷ filter (λ y. leb floor y.0) more) (filter (λ y. leb floor y.0) more))) ≡ None → (first_in (filter_map w (filter (λ y. leb floor y.0) more)) ≡ None → Each (λ n. n ≤ tip) (filter (λ n. leb floor n) (map (λ y. y.0) more))) → Each (λ n. n ≤ tip) (cond b (x.0 ∷ filter (λ n. leb floor n) (map (λ y. y.0) more)) (filter (λ n. leb floor n) (map (λ y. y.0) more)))
    go true q rest = let e = neither_first (w x) (filter_map w (filter (λ y. leb floor y.0) more)) q in (low x e.0, rest e.1)
    go false q rest = rest q

some_none : (b : Bool) (why : Ignore) (o : Option Ignore) → cond b (Some why) o ≡ None → b ≡ false
some_none true why o h = absurd (cc)
some_none false why o h = refl

module _ {S : Type 0} (codec : Coding S) (session : Session) where
  -- no acknowledged number is above the tip
  pub acked_low : (past : Past) → IsLegalSender codec session past → Each (λ n. n ≤ tip past) (acknowledged past)
  acked_low [] legal = tt
  acked_low (NextPicture picture moment answer ∷ past) legal = acked_low past legal.1
  acked_low (TakeJob answer ∷ past) legal = acked_low past legal.1
  acked_low (Report job gave answer ∷ past) legal = acked_low past legal.1
  acked_low (Hear (Err fault) moment answer ∷ past) legal = acked_low past legal.1
  acked_low (Hear (Ok (FragmentMessage e)) moment answer ∷ past) legal = acked_low past legal.1
  acked_low (Hear (Ok (ByeMessage n l)) moment answer ∷ past) legal = acked_low past legal.1
  acked_low (Hear (Ok (AckMessage ack)) moment (Ignored why) ∷ past) legal = acked_low past legal.1
  acked_low (Hear (Ok (AckMessage ack)) moment (Heard numbers) ∷ past) legal =
      let none : first_wrong codec past ack ≡ None = none_wrong (eqb ack.session session.number) (ltb (sent past) ack.serial) OtherSession (Serial (sent past) ack.serial) (first_wrong codec past ack) (fresh (heard past) ack.serial (newly_named past ack)) numbers legal.0 in
      each_append (λ n. n ≤ tip past) (filter (λ n. leb (floor past) n) (map (λ h. h.0) ack.held)) (acknowledged past)
      (named_low (tip past) (floor past) ack.held (unsent_or_misnamed codec past) (λ h (e : unsent_or_misnamed codec past h ≡ None). ltb-false _ _ (some_none (ltb (tip past) h.0) (Unsent h.0) _ e)) none)
      (acked_low past legal.1)
  acked_low (Choose moment NoPicture ∷ past) legal = acked_low past legal.1
  acked_low (Choose moment (Waiting id) ∷ past) legal = acked_low past legal.1
  acked_low (Choose moment Memory ∷ past) legal = acked_low past legal.1
  acked_low (Choose moment (Nothing budget sizes) ∷ past) legal = acked_low past legal.1
  acked_low (Choose moment (Sent choice burst) ∷ past) legal =
      let chained = chained_of_legal codec session (Choose moment (Sent choice burst) ∷ past) legal in
      higher (acknowledged past) (tip past) choice.number (omega (arith, chained.0.number, tip_is (choices past) chained.1)) (acked_low past legal.1)
