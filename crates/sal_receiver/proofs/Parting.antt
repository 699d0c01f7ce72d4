-- The receiver's own answers, from what its parts answered.
use Rattle.std.proofs.Common.{◌≡◌, ℕ, List, [], ◌∷◌, map, Option, Some, None, Ok, ap, sym, ◌∙◌, subst}
use Rattle.std.specs.declared.sync.Arc.{Arc}
use Rattle.sal_codec.specs.Coding.{Coding}
use Rattle.sal_wire.specs.Fields.{FragmentFields}
use Rattle.sal_wire.specs.Message.{FragmentMessage}
use Rattle.sal_reasm.specs.SlotTable.{SlotTable}
use Rattle.sal_reasm.specs.Stands.{SlotsStand}
use Rattle.sal_chain.specs.StateTable.{StateTable, empty_table}
use Rattle.sal_receiver.specs.declared.answers.Delivered.TheVariants.{Taken, Refused, Memory}
use Rattle.sal_receiver.specs.declared.answers.Refuse.{Refuse}
use Rattle.sal_receiver.specs.declared.session_state.SessionState.{SessionState}
use Rattle.sal_receiver.specs.declared.pending_frame.PendingFrame.{PendingFrame}
use Rattle.sal_receiver.specs.Past.{ReceiverCall, Deliver, taken, session, head}
use Rattle.sal_receiver.specs.Answers.{refusal, unless_refused, ack_saying, ack_after}
use Rattle.sal_receiver.specs.Promises.{ReceiverAnswers, IsTaken}
use Rattle.sal_receiver.specs.Known.{nothing_known}
use Rattle.sal_receiver.specs.Pending.{frame_unshared}
use Rattle.sal_receiver.specs.Machine.{ReceiverState, ReceiverStands, IsEntered}
use Rattle.sal_receiver.proofs.Was.{first_parts, clash_none}
use Rattle.sal_receiver.proofs.Entered.{entered_stands}
use Rattle.sal_wire.specs.declared.datagram.Ack.{Ack}
use Rattle.sal_wire.specs.Layout.{IsFragment}
use Rattle.sal_reasm.specs.Offer.{clash_with_taken}
use Rattle.sal_receiver.proofs.BookLemmas.{book}
use Rattle.sal_receiver.proofs.Standing.{stands_new, refused, without_memory}

module _ {S : Type 0} (codec : Coding S) where
  pub new_is : {Z : Type 0} (known : SessionState) (slots : SlotTable) (store : StateTable S) (items : List (PendingFrame (Arc S Z))) → known ≡ nothing_known → SlotsStand slots [] → store ≡ empty_table → items ≡ [] → ReceiverStands codec (book known slots store (map frame_unshared items) 0) []
  new_is known slots store items a keeps b c =
      subst (λ (l : SessionState). ReceiverStands codec (book l slots store (map frame_unshared items) 0) []) (sym a)
      (subst (λ (s : StateTable S). ReceiverStands codec (book nothing_known slots s (map frame_unshared items) 0) []) (sym b)
      (subst (λ (xs : List (PendingFrame (Arc S _))). ReceiverStands codec (book nothing_known slots empty_table (map frame_unshared xs) 0) []) (sym c) (stands_new codec slots keeps)))

  -- the cause that was found is that of the calls before
  cause_is : (r : ReceiverState S) (e : FragmentFields) (past : List (ReceiverCall S)) (o : Option Refuse) → ReceiverStands codec r past → o ≡ refusal r.known.session r.known.head (taken past) e → o ≡ refusal (session past) (head past) (taken past) e
  cause_is r e past o s h = h ∙ (ap (λ x. refusal x r.known.head (taken past) e) s.session ∙ ap (λ x. refusal (session past) x (taken past) e) s.head)

  pub part_refused : (r : ReceiverState S) (e : FragmentFields) (moment : ℕ) (cause : Refuse) (past : List (ReceiverCall S)) (o : Option Refuse) → ReceiverStands codec r past → o ≡ refusal r.known.session r.known.head (taken past) e → o ≡ Some cause → ReceiverAnswers codec (Deliver (Ok (FragmentMessage e)) moment (Refused cause)) past × ReceiverStands codec r (Deliver (Ok (FragmentMessage e)) moment (Refused cause) ∷ past)
  part_refused r e moment cause past o s h is =
      refused codec r (Ok (FragmentMessage e)) moment cause past s (ap (λ x. unless_refused x (Taken (ack_after codec past e moment))) (sym is ∙ cause_is r e past o s h))

  taken_if : (o : Option Refuse) (a : Rattle.sal_wire.specs.declared.datagram.Ack.Ack) → o ≡ None → IsTaken (unless_refused o (Taken a))
  taken_if None a h = tt
  taken_if (Some cause) a h = absurd (cc)

  pub part_memory : (r r' : ReceiverState S) (e : FragmentFields) (moment : ℕ) (past : List (ReceiverCall S)) (o : Option Refuse) → ReceiverStands codec r past → o ≡ refusal r.known.session r.known.head (taken past) e → o ≡ None → r' ≡ r → ReceiverAnswers codec (Deliver (Ok (FragmentMessage e)) moment Memory) past × ReceiverStands codec r' (Deliver (Ok (FragmentMessage e)) moment Memory ∷ past)
  part_memory r r' e moment past o s h is same =
      subst (λ (b : ReceiverState S). ReceiverAnswers codec (Deliver (Ok (FragmentMessage e)) moment Memory) past × ReceiverStands codec b (Deliver (Ok (FragmentMessage e)) moment Memory ∷ past)) (sym same)
      (without_memory codec r e moment past s (taken_if (refusal (session past) (head past) (taken past) e) (ack_after codec past e moment) (sym (cause_is r e past o s h) ∙ is)))

  -- a fragment that is taken, from what entering it left
  pub part_taken : (r r' : ReceiverState S) (e : FragmentFields) (moment : ℕ) (ack : Ack) (past : List (ReceiverCall S)) (o : Option Refuse) → ReceiverStands codec r past → IsFragment e → o ≡ refusal r.known.session r.known.head (taken past) e → o ≡ None → (clash_with_taken (taken past) e ≡ None → IsEntered codec.initial r r' e moment (taken past)) → ack ≡ ack_saying e.session r'.known.gap r'.store.kept
      → ReceiverAnswers codec (Deliver (Ok (FragmentMessage e)) moment (Taken ack)) past × ReceiverStands codec r' (Deliver (Ok (FragmentMessage e)) moment (Taken ack) ∷ past)
  part_taken r r' e moment ack past o s is h none into acks =
      let free : refusal (session past) (head past) (taken past) e ≡ None = sym (cause_is r e past o s h) ∙ none in
      entered_stands codec r r' past e moment ack s is free (into (clash_none (clash_with_taken (taken past) e) (first_parts _ _ (first_parts _ _ free).1).1)) acks
