-- A receiver stands for a decoding that it was given.
use Rattle.std.proofs.Common.{◌≡◌, ℕ, Bool, true, false, cond, ◌&&◌, ◌||◌, not, List, ◌∷◌, map, Option, Some, None, IsTrue, refl, ap, sym, ◌∙◌, eqb}
use Rattle.std.specs.Option.{option_map}
use Rattle.std.specs.declared.sync.Arc.{Arc}
use Rattle.sal_base.specs.Names.{same}
use Rattle.sal_base.specs.declared.name.Name.{Name}
use Rattle.sal_codec.specs.Coding.{Coding}
use Rattle.sal_reasm.specs.SlotTable.{SlotTable}
use Rattle.sal_reasm.specs.Complete.{is_complete}
use Rattle.sal_chain.specs.StateTable.{StateTable}
use Rattle.sal_receiver.specs.declared.answers.Done.{Done}
use Rattle.sal_receiver.specs.declared.answers.Done.TheVariants.{Stranger, Returned, Unfit, Misnamed}
use Rattle.sal_receiver.specs.declared.answers.Misfit.{Misfit}
use Rattle.sal_receiver.specs.declared.session_state.SessionState.{SessionState}
use Rattle.sal_receiver.specs.declared.pending_frame.Stage.TheVariants as stages
use Rattle.sal_receiver.specs.declared.pending_frame.PendingFrame.{PendingFrame}
use Rattle.sal_receiver.specs.Past.{ReceiverCall, Decoding, DecodeResult, Sound, Faulty, NoMemory, taken, shown}
use Rattle.sal_receiver.specs.Held.{held}
use Rattle.sal_receiver.specs.Ready.{ready_source, frame, source_name, target_name, is_out, is_decided, decoding_of}
use Rattle.sal_receiver.specs.Answers.{last_shown, decoded_answer, outcome_answer}
use Rattle.sal_receiver.specs.Promises.{ReceiverAnswers, IsItsDecoding}
use Rattle.sal_receiver.specs.Handed.{HandedFrame, IsReadyFrame, IsRun}
use Rattle.sal_receiver.specs.Pending.{frame_unshared, at, is_out_at, restaged, without}
use Rattle.sal_receiver.specs.Machine.{ReceiverState, ReceiverStands, pending, pending_as, stage_of}
use Rattle.sal_receiver.proofs.BookLemmas.{book}
use Rattle.sal_receiver.proofs.FrameLemmas.{staged, at_restaged, rises_restaged, at_without, rises_without}
use Rattle.sal_receiver.proofs.Lasting.{quiet, returned, gone}
use Rattle.sal_receiver.proofs.Was.{out_undecided}
use Rattle.sal_receiver.proofs.SeenLemmas.{at_seen, out_at_seen}
use Rattle.sal_receiver.proofs.Standing.{stands_calm}

module _ {S : Type 0} (codec : Coding S) where
  -- ---- what is out

  out_case : (out decided complete : Bool) (r : Option S) (n : ℕ) (source target bytes : List ℕ) → is_out_at (option_map (pending_as n source target) (stage_of out decided r complete bytes)) ≡ out
  out_case true decided complete r n source target bytes = refl
  out_case false true complete r n source target bytes = refl
  out_case false false complete (Some s) n source target bytes = refl
  out_case false false true None n source target bytes = refl
  out_case false false false None n source target bytes = refl

  out_is : (r : ReceiverState S) (past : List (ReceiverCall S)) (n : ℕ) → ReceiverStands codec r past → is_out_at (at n r.frames) ≡ is_out past n
  out_is r past n s =
      ap (λ o. is_out_at o) (s.frames n) ∙ out_case (is_out past n) (is_decided past n) (is_complete (taken past) n) (ready_source codec past n) n (source_name past n) (target_name past n) (frame past n)

  -- what the code finds out is out by the calls
  pub found_out : {Z : Type 0} (r : ReceiverState S) (known : SessionState) (slots : SlotTable) (store : StateTable S) (items ys : List (PendingFrame (Arc S Z))) (last n : ℕ) (b : Bool) (past : List (ReceiverCall S)) → book known slots store (map frame_unshared items) last ≡ r → ReceiverStands codec r past → ys ≡ items → b ≡ is_out_at (at n ys) → b ≡ is_out past n
  found_out r known slots store items ys last n b past view s same h =
      h ∙ (ap (λ xs. is_out_at (at n xs)) same ∙ (sym (out_at_seen (at n items)) ∙ (ap (λ o. is_out_at o) (sym (at_seen n items)) ∙ (ap (λ (x : ReceiverState S). is_out_at (at n x.frames)) view ∙ out_is r past n s))))

  -- ---- answers that hold nothing

  held_calm : (n : ℕ) (outcome : DecodeResult S) (past : List (ReceiverCall S)) → held codec (Decoding n outcome Stranger ∷ past) ≡ held codec past
  held_calm n (Sound state picture) past = refl
  held_calm n (Faulty fault) past = refl
  held_calm n NoMemory past = refl

  pub held_unfit : (n k : ℕ) (why : Misfit) (outcome : DecodeResult S) (past : List (ReceiverCall S)) → held codec (Decoding n outcome (Unfit k why) ∷ past) ≡ held codec past
  held_unfit n k why (Sound state picture) past = refl
  held_unfit n k why (Faulty fault) past = refl
  held_unfit n k why NoMemory past = refl

  pub held_misnamed : (n : ℕ) (said found : Name) (outcome : DecodeResult S) (past : List (ReceiverCall S)) → held codec (Decoding n outcome (Misnamed said found) ∷ past) ≡ held codec past
  held_misnamed n said found (Sound state picture) past = refl
  held_misnamed n said found (Faulty fault) past = refl
  held_misnamed n said found NoMemory past = refl

  -- a stranger changes nothing
  stranger_answer : (past : List (ReceiverCall S)) (n : ℕ) (outcome : DecodeResult S) → is_out past n ≡ false → ReceiverAnswers codec (Decoding n outcome Stranger) past
  stranger_answer past n outcome h =
      (sym (ap (λ b. cond (not b) Stranger (outcome_answer codec past n outcome)) h), λ (q : IsTrue (is_out past n)). absurd (let z : true ≡ false = sym q ∙ h in cc))

  pub stranger : (r : ReceiverState S) (past : List (ReceiverCall S)) (n : ℕ) (outcome : DecodeResult S) → ReceiverStands codec r past → is_out past n ≡ false → ReceiverAnswers codec (Decoding n outcome Stranger) past × ReceiverStands codec r (Decoding n outcome Stranger ∷ past)
  stranger r past n outcome s h = (
    stranger_answer past n outcome h,
    stands_calm codec r r.frames r.store.kept r.last (Decoding n outcome Stranger) past s (stranger_answer past n outcome h) refl refl refl refl refl (s.kept ∙ sym (held_calm n outcome past)) s.last s.order
        (λ k. s.frames k ∙ sym (quiet codec (Decoding n outcome Stranger) past k refl (held_calm n outcome past) refl refl)),
  )

  -- ---- own work

  pub own_work : (past : List (ReceiverCall S)) (h : HandedFrame S) (outcome : DecodeResult S) → IsReadyFrame codec past h → IsRun codec h outcome → IsItsDecoding codec past h.number outcome
  own_work past h outcome is run =
      (run.0, run.1 ∙ (ap (λ o. decoding_of codec o h.bytes run.0) (sym is.source) ∙ ap (λ bs. decoding_of codec (ready_source codec past h.number) bs run.0) (sym is.bytes)))

  pub out_answer : (past : List (ReceiverCall S)) (n : ℕ) (outcome : DecodeResult S) (answer : Done) → is_out past n ≡ true → answer ≡ outcome_answer codec past n outcome → answer ≡ decoded_answer codec past n outcome
  out_answer past n outcome answer out h = h ∙ sym (ap (λ b. cond (not b) Stranger (outcome_answer codec past n outcome)) out)

  -- no memory: it is ready again
  pub given_back : (r : ReceiverState S) (past : List (ReceiverCall S)) (h : HandedFrame S) → ReceiverStands codec r past → is_out past h.number ≡ true → IsReadyFrame codec past h → IsRun codec h NoMemory
      → ReceiverAnswers codec (Decoding h.number NoMemory (Returned h.number)) past × ReceiverStands codec (book r.known r.slots r.store (restaged h.number (stages.Ready h.source h.bytes) r.frames) r.last) (Decoding h.number NoMemory (Returned h.number) ∷ past)
  given_back r past h s out is run =
      let answers : ReceiverAnswers codec (Decoding h.number NoMemory (Returned h.number)) past = (out_answer past h.number NoMemory (Returned h.number) out refl, λ (q : IsTrue (is_out past h.number)). own_work past h NoMemory is run) in (
        answers,
        stands_calm codec r (restaged h.number (stages.Ready h.source h.bytes) r.frames) r.store.kept r.last (Decoding h.number NoMemory (Returned h.number)) past s answers refl refl refl refl refl s.kept s.last (rises_restaged 0 h.number (stages.Ready h.source h.bytes) r.frames s.order)
            (λ n. at_restaged h.number n (stages.Ready h.source h.bytes) r.frames
            ∙ (ap (λ o. cond (eqb h.number n) (option_map (staged (stages.Ready h.source h.bytes)) o) o) (s.frames n)
            ∙ (ap (λ bs. cond (eqb h.number n) (option_map (staged (stages.Ready h.source bs)) (pending codec past n)) (pending codec past n)) (sym is.bytes)
            ∙ sym (returned codec past h.number n h.number NoMemory h.source refl out (out_undecided codec past h.number s.legal out) is.source)))),
      )

  -- a number that is decided and not held
  pub decided_away : (r : ReceiverState S) (past : List (ReceiverCall S)) (n : ℕ) (call : ReceiverCall S) → ReceiverStands codec r past → ReceiverAnswers codec call past → taken (call ∷ past) ≡ taken past → Rattle.sal_receiver.specs.Past.session_in call ≡ None → Rattle.sal_receiver.specs.Past.head_in call ≡ None → Rattle.sal_receiver.specs.Past.moment_in call ≡ 0 → Rattle.sal_receiver.specs.Past.arrivals (call ∷ past) ≡ Rattle.sal_receiver.specs.Past.arrivals past → held codec (call ∷ past) ≡ held codec past → ((k : ℕ) → is_out (call ∷ past) k ≡ (not (eqb n k) && is_out past k)) → ((k : ℕ) → is_decided (call ∷ past) k ≡ (eqb n k || is_decided past k)) → (last : ℕ) → last ≡ last_shown (shown (call ∷ past))
      → ReceiverStands codec (book r.known r.slots r.store (without n r.frames) last) (call ∷ past)
  decided_away r past n call s answers t a b c v same out decided last l =
      stands_calm codec r (without n r.frames) r.store.kept last call past s answers t a b c v (s.kept ∙ sym same) l (rises_without 0 n r.frames s.order)
      (λ k. at_without 0 n k r.frames s.order ∙ (ap (λ o. cond (eqb n k) None o) (s.frames k) ∙ sym (gone codec call past n k t same (out k) (decided k))))

  pub faulty : (r : ReceiverState S) (past : List (ReceiverCall S)) (h : HandedFrame S) (fault : Rattle.sal_base.specs.declared.coding.Fault.Fault) → ReceiverStands codec r past → is_out past h.number ≡ true → IsReadyFrame codec past h → IsRun codec h (Faulty fault)
      → ReceiverAnswers codec (Decoding h.number (Faulty fault) (Unfit h.number (Rattle.sal_receiver.specs.declared.answers.Misfit.TheVariants.Fault fault))) past × ReceiverStands codec (book r.known r.slots r.store (without h.number r.frames) r.last) (Decoding h.number (Faulty fault) (Unfit h.number (Rattle.sal_receiver.specs.declared.answers.Misfit.TheVariants.Fault fault)) ∷ past)
  faulty r past h fault s out is run =
      let why : Misfit = Rattle.sal_receiver.specs.declared.answers.Misfit.TheVariants.Fault fault in
      let answers : ReceiverAnswers codec (Decoding h.number (Faulty fault) (Unfit h.number why)) past = (out_answer past h.number (Faulty fault) (Unfit h.number why) out refl, λ (q : IsTrue (is_out past h.number)). own_work past h (Faulty fault) is run) in (
        answers,
        decided_away r past h.number (Decoding h.number (Faulty fault) (Unfit h.number why)) s answers refl refl refl refl refl refl (λ k. refl) (λ k. refl) r.last s.last,
      )
