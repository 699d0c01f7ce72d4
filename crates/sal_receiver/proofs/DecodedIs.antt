-- The receiver's answer to a decoding, from what its parts answered.
use Rattle.std.proofs.Common.{◌≡◌, ℕ, Bool, true, false, List, ◌∷◌, ap, sym, ◌∙◌, subst}
use Rattle.sal_base.specs.declared.coding.Fault.{Fault}
use Rattle.sal_base.specs.declared.name.Name.{Name}
use Rattle.sal_base.specs.declared.picture.Picture.{Picture}
use Rattle.sal_codec.specs.Coding.{Coding, name_of}
use Rattle.sal_receiver.specs.declared.answers.Done.{Done}
use Rattle.sal_receiver.specs.declared.answers.Done.TheVariants.{Stranger, Returned, Unfit}
use Rattle.sal_receiver.specs.declared.pending_frame.Stage.TheVariants as stages
use Rattle.sal_receiver.specs.Past.{ReceiverCall, Decoding, DecodeResult, Sound, Faulty, NoMemory}
use Rattle.sal_receiver.specs.Ready.{is_out}
use Rattle.sal_receiver.specs.Promises.{ReceiverAnswers}
use Rattle.sal_receiver.specs.Handed.{HandedFrame, IsReadyFrame, IsRun}
use Rattle.sal_receiver.specs.Pending.{restaged, without}
use Rattle.sal_receiver.specs.Machine.{ReceiverState, ReceiverStands}
use Rattle.sal_receiver.specs.Judged.{judged, after_judge}
use Rattle.sal_receiver.proofs.Deciding.{stranger, own_work, given_back, faulty}
use Rattle.sal_receiver.proofs.Judging.{judge_stands}

module _ {S : Type 0} (codec : Coding S) where
  -- the number isn't out
  pub stranger_is : (r : ReceiverState S) (past : List (ReceiverCall S)) (n m : ℕ) (outcome : DecodeResult S) (b : Bool) → ReceiverStands codec r past → m ≡ n → b ≡ is_out past m → b ≡ false → ReceiverAnswers codec (Decoding n outcome Stranger) past × ReceiverStands codec r (Decoding n outcome Stranger ∷ past)
  stranger_is r past n m outcome b s same found isnt = stranger codec r past n outcome s (sym (found ∙ ap (λ k. is_out past k) same) ∙ isnt)

  pub out_is_true : (past : List (ReceiverCall S)) (n m : ℕ) (b : Bool) → m ≡ n → b ≡ is_out past m → b ≡ true → is_out past n ≡ true
  out_is_true past n m b same found is = sym (found ∙ ap (λ k. is_out past k) same) ∙ is

  pub given_back_is : (r r' : ReceiverState S) (past : List (ReceiverCall S)) (h t : HandedFrame S) (outcome : DecodeResult S) (result : Done) → ReceiverStands codec r past → is_out past h.number ≡ true → IsReadyFrame codec past h → IsRun codec h outcome → outcome ≡ NoMemory → t ≡ h → result ≡ Returned t.number → r' ≡ record r { frames = restaged t.number (stages.Ready t.source t.bytes) r.frames }
      → ReceiverAnswers codec (Decoding h.number outcome result) past × ReceiverStands codec r' (Decoding h.number outcome result ∷ past)
  given_back_is r r' past h t outcome result s out is run none same answer e =
      let both = given_back codec r past h s out is (subst (λ (o : DecodeResult S). IsRun codec h o) none run) in
      let a : result ≡ Returned h.number = answer ∙ ap (λ x. Returned x.number) same in
      let b : r' ≡ record r { frames = restaged h.number (stages.Ready h.source h.bytes) r.frames } = e ∙ ap (λ (x : HandedFrame S). record r { frames = restaged x.number (stages.Ready x.source x.bytes) r.frames }) same in
      subst (λ (o : DecodeResult S). ReceiverAnswers codec (Decoding h.number o result) past × ReceiverStands codec r' (Decoding h.number o result ∷ past)) (sym none)
      (subst (λ (d : Done). ReceiverAnswers codec (Decoding h.number NoMemory d) past × ReceiverStands codec r' (Decoding h.number NoMemory d ∷ past)) (sym a)
      (subst (λ (x : ReceiverState S). ReceiverAnswers codec (Decoding h.number NoMemory (Returned h.number)) past × ReceiverStands codec x (Decoding h.number NoMemory (Returned h.number) ∷ past)) (sym b) both))

  pub faulty_is : (r r' : ReceiverState S) (past : List (ReceiverCall S)) (h : HandedFrame S) (m : ℕ) (fault : Fault) (outcome : DecodeResult S) (result : Done) → ReceiverStands codec r past → is_out past h.number ≡ true → IsReadyFrame codec past h → IsRun codec h outcome → outcome ≡ Faulty fault → m ≡ h.number → result ≡ Unfit m (Rattle.sal_receiver.specs.declared.answers.Misfit.TheVariants.Fault fault) → r' ≡ record r { frames = without m r.frames }
      → ReceiverAnswers codec (Decoding h.number outcome result) past × ReceiverStands codec r' (Decoding h.number outcome result ∷ past)
  faulty_is r r' past h m fault outcome result s out is run none same answer e =
      let both = faulty codec r past h fault s out is (subst (λ (o : DecodeResult S). IsRun codec h o) none run) in
      let why = Rattle.sal_receiver.specs.declared.answers.Misfit.TheVariants.Fault fault in
      let a : result ≡ Unfit h.number why = answer ∙ ap (λ k. Unfit k why) same in
      let b : r' ≡ record r { frames = without h.number r.frames } = e ∙ ap (λ (k : ℕ). record r { frames = without k r.frames }) same in
      subst (λ (o : DecodeResult S). ReceiverAnswers codec (Decoding h.number o result) past × ReceiverStands codec r' (Decoding h.number o result ∷ past)) (sym none)
      (subst (λ (d : Done). ReceiverAnswers codec (Decoding h.number (Faulty fault) d) past × ReceiverStands codec r' (Decoding h.number (Faulty fault) d ∷ past)) (sym a)
      (subst (λ (x : ReceiverState S). ReceiverAnswers codec (Decoding h.number (Faulty fault) (Unfit h.number why)) past × ReceiverStands codec x (Decoding h.number (Faulty fault) (Unfit h.number why) ∷ past)) (sym b) both))

  pub judge_is : (r r' : ReceiverState S) (past : List (ReceiverCall S)) (h : HandedFrame S) (m : ℕ) (target name : Name) (digest : List ℕ) (state : S) (picture : Picture) (outcome : DecodeResult S) (result : Done) → ReceiverStands codec r past → is_out past h.number ≡ true → IsReadyFrame codec past h → IsRun codec h outcome → outcome ≡ Sound state picture → m ≡ h.number → target.0 ≡ h.target → name.0 ≡ name_of digest → digest ≡ codec.digest state → result ≡ judged m target name picture r → r' ≡ after_judge m name state result r
      → ReceiverAnswers codec (Decoding h.number outcome result) past × ReceiverStands codec r' (Decoding h.number outcome result ∷ past)
  judge_is r r' past h m target name digest state picture outcome result s out is run sound same targeted named digested answer e =
      let own = own_work codec past h (Sound state picture) is (subst (λ (o : DecodeResult S). IsRun codec h o) sound run) in
      subst (λ (o : DecodeResult S). ReceiverAnswers codec (Decoding h.number o result) past × ReceiverStands codec r' (Decoding h.number o result ∷ past)) (sym sound)
      (judge_stands codec r r' past h.number target name state picture result s out own (named ∙ ap (λ d. name_of d) digested) (targeted ∙ sym is.target)
      (answer ∙ ap (λ k. judged k target name picture r) same) (e ∙ ap (λ k. after_judge k name state result r) same))
