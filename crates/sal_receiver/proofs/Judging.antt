-- A receiver stands for a decoded frame that it judged.
use Rattle.std.proofs.Common.{◌≡◌, ℕ, ◌<◌, ◌≤◌, Bool, true, false, cond, ◌&&◌, ◌||◌, not, List, ◌∷◌, None, IsTrue, refl, ap, sym, ◌∙◌, subst, leb, eqb}
use Rattle.std.proofs.lemmas.Bool.{lt-leb, leb-true, leb-false}
use Rattle.std.specs.Option.{option_map}
use Rattle.sal_base.specs.Names.{same}
use Rattle.sal_base.specs.declared.name.Name.{Name}
use Rattle.sal_base.specs.declared.picture.Picture.{Picture}
use Rattle.sal_codec.specs.Coding.{Coding}
use Rattle.sal_chain.specs.Held.{inserted}
use Rattle.sal_receiver.specs.declared.answers.Done.{Done}
use Rattle.sal_receiver.specs.declared.answers.Done.TheVariants.{Stranger, Returned, Unfit, Misnamed, Older, Show}
use Rattle.sal_receiver.specs.declared.answers.Misfit.{Misfit}
use Rattle.sal_receiver.specs.declared.answers.Misfit.TheVariants.{Size}
use Rattle.sal_receiver.specs.Past.{ReceiverCall, Decoding, Sound, taken, floor, head, shown, session_in, head_in, moment_in, arrivals}
use Rattle.sal_chain.specs.Held.{name_in}
use Rattle.sal_receiver.specs.Held.{held}
use Rattle.sal_receiver.specs.Ready.{target_name, is_out, is_decided}
use Rattle.sal_receiver.specs.Answers.{has_size, last_shown, outcome_answer}
use Rattle.sal_receiver.specs.Promises.{ReceiverAnswers, IsItsDecoding}
use Rattle.sal_receiver.specs.Pending.{without, fed, fed_one}
use Rattle.sal_receiver.specs.Machine.{ReceiverState, ReceiverStands, pending}
use Rattle.sal_receiver.specs.Judged.{after_hold, judged, after_judge}
use Rattle.sal_receiver.proofs.BookLemmas.{book}
use Rattle.sal_receiver.proofs.FrameLemmas.{at_without, rises_without, at_fed, rises_fed}
use Rattle.sal_receiver.proofs.Holding.{held_shown, held_older, held_below}
use Rattle.sal_receiver.proofs.Lasting.{fed_next}
use Rattle.sal_receiver.proofs.Standing.{stands_calm}
use Rattle.sal_receiver.proofs.Deciding.{out_answer, decided_away}

-- of the causes in their order none is the first two
never_stranger : (fit named passed : Bool) (n last : ℕ) (why : Misfit) (said found : Name) (picture : Picture) → Stranger ≡ cond (not fit) (Unfit n why) (cond (not named) (Misnamed said found) (cond passed (Older n last) (Show n picture))) → ⊥
never_stranger false named passed n last why said found picture h = cc
never_stranger true false passed n last why said found picture h = cc
never_stranger true true true n last why said found picture h = cc
never_stranger true true false n last why said found picture h = cc

never_returned : (fit named passed : Bool) (k n last : ℕ) (why : Misfit) (said found : Name) (picture : Picture) → Returned k ≡ cond (not fit) (Unfit n why) (cond (not named) (Misnamed said found) (cond passed (Older n last) (Show n picture))) → ⊥
never_returned false named passed k n last why said found picture h = cc
never_returned true false passed k n last why said found picture h = cc
never_returned true true true k n last why said found picture h = cc
never_returned true true false k n last why said found picture h = cc

shown_number : (fit named passed : Bool) (k n last : ℕ) (why : Misfit) (said found : Name) (picture shot : Picture) → Show k shot ≡ cond (not fit) (Unfit n why) (cond (not named) (Misnamed said found) (cond passed (Older n last) (Show n picture))) → n ≡ k
shown_number false named passed k n last why said found picture shot h = absurd (cc)
shown_number true false passed k n last why said found picture shot h = absurd (cc)
shown_number true true true k n last why said found picture shot h = absurd (cc)
shown_number true true false k n last why said found picture shot h = cc

module _ {S : Type 0} (codec : Coding S) where
  -- the judge's answer is that of the calls
  judged_is : (r : ReceiverState S) (past : List (ReceiverCall S)) (n : ℕ) (target name : Name) (state : S) (picture : Picture) → ReceiverStands codec r past → name.0 ≡ name_in codec state → target.0 ≡ target_name past n → judged n target name picture r ≡ outcome_answer codec past n (Sound state picture)
  judged_is r past n target name state picture s named targeted =
      ap (λ h. cond (not (has_size h picture)) (Unfit n (Size picture.width picture.height)) (cond (not (same name.0 target.0)) (Misnamed target name) (cond (leb n r.last) (Older n r.last) (Show n picture)))) s.head
      ∙ (ap (λ (x : List ℕ). cond (not (has_size (head past) picture)) (Unfit n (Size picture.width picture.height)) (cond (not (same x target.0)) (Misnamed target (record { 0 = x })) (cond (leb n r.last) (Older n r.last) (Show n picture)))) named
      ∙ (ap (λ (x : List ℕ). cond (not (has_size (head past) picture)) (Unfit n (Size picture.width picture.height)) (cond (not (same (name_in codec state) x)) (Misnamed (record { 0 = x }) (record { 0 = name_in codec state })) (cond (leb n r.last) (Older n r.last) (Show n picture)))) targeted
      ∙ ap (λ m. cond (not (has_size (head past) picture)) (Unfit n (Size picture.width picture.height)) (cond (not (same (name_in codec state) (target_name past n))) (Misnamed (record { 0 = target_name past n }) (record { 0 = name_in codec state })) (cond (leb n m) (Older n m) (Show n picture)))) s.last))

  -- a state that is held, and from which frames are ready
  held_stands : (r : ReceiverState S) (past : List (ReceiverCall S)) (n last : ℕ) (name : Name) (state : S) (call : ReceiverCall S) → ReceiverStands codec r past → ReceiverAnswers codec call past → taken (call ∷ past) ≡ taken past → session_in call ≡ None → head_in call ≡ None → moment_in call ≡ 0 → arrivals (call ∷ past) ≡ arrivals past → name.0 ≡ name_in codec state → held codec (call ∷ past) ≡ inserted (record { number = n; name = record { 0 = name_in codec state }; state = state }) (held codec past) → ((k : ℕ) → is_out (call ∷ past) k ≡ (not (eqb n k) && is_out past k)) → ((k : ℕ) → is_decided (call ∷ past) k ≡ (eqb n k || is_decided past k)) → last ≡ last_shown (shown (call ∷ past))
      → ReceiverStands codec (book r.known r.slots (record { floor = r.store.floor; kept = inserted (record { number = n; name = name; state = state }) r.store.kept }) (without n (fed name.0 state r.frames)) last) (call ∷ past)
  held_stands r past n last name state call s answers t a b c v named same out decided l =
      stands_calm codec r (without n (fed name.0 state r.frames)) (inserted (record { number = n; name = name; state = state }) r.store.kept) last call past s answers t a b c v
      (ap (λ ks. inserted (record { number = n; name = name; state = state }) ks) s.kept ∙ (ap (λ (x : List ℕ). inserted (record { number = n; name = record { 0 = x }; state = state }) (held codec past)) named ∙ sym same))
      l (rises_without 0 n (fed name.0 state r.frames) (rises_fed 0 name.0 state r.frames s.order))
      (λ k. at_without 0 n k (fed name.0 state r.frames) (rises_fed 0 name.0 state r.frames s.order)
      ∙ (ap (λ o. cond (eqb n k) None o) (at_fed k name.0 state r.frames ∙ (ap (λ o. option_map (fed_one name.0 state) o) (s.frames k) ∙ ap (λ (x : List ℕ). option_map (fed_one x state) (pending codec past k)) named))
      ∙ sym (fed_next codec call past n k state t same (out k) (decided k))))

  kept_stands : (low : Bool) (r : ReceiverState S) (past : List (ReceiverCall S)) (n last : ℕ) (name : Name) (state : S) (call : ReceiverCall S) → leb r.store.floor n ≡ low → ReceiverStands codec r past → ReceiverAnswers codec call past → taken (call ∷ past) ≡ taken past → session_in call ≡ None → head_in call ≡ None → moment_in call ≡ 0 → arrivals (call ∷ past) ≡ arrivals past → name.0 ≡ name_in codec state → (floor past ≤ n → held codec (call ∷ past) ≡ inserted (record { number = n; name = record { 0 = name_in codec state }; state = state }) (held codec past)) → (n < floor past → held codec (call ∷ past) ≡ held codec past) → ((k : ℕ) → is_out (call ∷ past) k ≡ (not (eqb n k) && is_out past k)) → ((k : ℕ) → is_decided (call ∷ past) k ≡ (eqb n k || is_decided past k)) → last ≡ last_shown (shown (call ∷ past))
      → ReceiverStands codec (record (cond low (after_hold n name state r) (book r.known r.slots r.store (without n r.frames) r.last)) { last = last }) (call ∷ past)
  kept_stands true r past n last name state call e s answers t a b c v named above below out decided l =
      held_stands r past n last name state call s answers t a b c v named (above (subst (λ (k : ℕ). k ≤ n) s.floor (leb-true _ _ e))) out decided l
  kept_stands false r past n last name state call e s answers t a b c v named above below out decided l =
      decided_away codec r past n call s answers t a b c v (below (subst (λ (k : ℕ). n < k) s.floor (leb-false _ _ e))) out decided last l

  pub judge_stands : (r r' : ReceiverState S) (past : List (ReceiverCall S)) (n : ℕ) (target name : Name) (state : S) (picture : Picture) (result : Done) → ReceiverStands codec r past → is_out past n ≡ true → IsItsDecoding codec past n (Sound state picture) → name.0 ≡ name_in codec state → target.0 ≡ target_name past n → result ≡ judged n target name picture r → r' ≡ after_judge n name state result r
      → ReceiverAnswers codec (Decoding n (Sound state picture) result) past × ReceiverStands codec r' (Decoding n (Sound state picture) result ∷ past)
  judge_stands r r' past n target name state picture Stranger s out own named targeted h e =
      absurd (never_stranger (has_size r.known.head picture) (same name.0 target.0) (leb n r.last) n r.last _ _ _ picture h)
  judge_stands r r' past n target name state picture (Returned k) s out own named targeted h e =
      absurd (never_returned (has_size r.known.head picture) (same name.0 target.0) (leb n r.last) k n r.last _ _ _ picture h)
  judge_stands r r' past n target name state picture (Unfit k why) s out own named targeted h e =
      let answers : ReceiverAnswers codec (Decoding n (Sound state picture) (Unfit k why)) past = (out_answer codec past n (Sound state picture) (Unfit k why) out (h ∙ judged_is r past n target name state picture s named targeted), λ (q : IsTrue (is_out past n)). own) in (
        answers,
        subst (λ (b : ReceiverState S). ReceiverStands codec b (Decoding n (Sound state picture) (Unfit k why) ∷ past)) (sym e)
            (decided_away codec r past n (Decoding n (Sound state picture) (Unfit k why)) s answers refl refl refl refl refl refl (λ k. refl) (λ k. refl) r.last s.last),
      )
  judge_stands r r' past n target name state picture (Misnamed said found) s out own named targeted h e =
      let answers : ReceiverAnswers codec (Decoding n (Sound state picture) (Misnamed said found)) past = (out_answer codec past n (Sound state picture) (Misnamed said found) out (h ∙ judged_is r past n target name state picture s named targeted), λ (q : IsTrue (is_out past n)). own) in (
        answers,
        subst (λ (b : ReceiverState S). ReceiverStands codec b (Decoding n (Sound state picture) (Misnamed said found) ∷ past)) (sym e)
            (decided_away codec r past n (Decoding n (Sound state picture) (Misnamed said found)) s answers refl refl refl refl refl refl (λ k. refl) (λ k. refl) r.last s.last),
      )
  judge_stands r r' past n target name state picture (Older k g) s out own named targeted h e =
      let answers : ReceiverAnswers codec (Decoding n (Sound state picture) (Older k g)) past = (out_answer codec past n (Sound state picture) (Older k g) out (h ∙ judged_is r past n target name state picture s named targeted), λ (q : IsTrue (is_out past n)). own) in (
        answers,
        subst (λ (b : ReceiverState S). ReceiverStands codec b (Decoding n (Sound state picture) (Older k g) ∷ past)) (sym (e ∙ same_last (leb r.store.floor n)))
            (kept_stands (leb r.store.floor n) r past n r.last name state (Decoding n (Sound state picture) (Older k g)) refl s answers refl refl refl refl refl named (held_older codec past n k g state picture) (older_below past) (λ k. refl) (λ k. refl) s.last),
      )
    where
      same_last : (low : Bool) → ◌≡◌ {A = ReceiverState S} (cond low (after_hold n name state r) (book r.known r.slots r.store (without n r.frames) r.last)) (record (cond low (after_hold n name state r) (book r.known r.slots r.store (without n r.frames) r.last)) { last = r.last })
      same_last true = refl
      same_last false = refl

      older_below : (past : List (ReceiverCall S)) → n < floor past → held codec (Decoding n (Sound state picture) (Older k g) ∷ past) ≡ held codec past
      older_below past low = rw (lt-leb (floor past) n low) refl
  judge_stands r r' past n target name state picture (Show k shot) s out own named targeted h e =
      let answers : ReceiverAnswers codec (Decoding n (Sound state picture) (Show k shot)) past = (out_answer codec past n (Sound state picture) (Show k shot) out (h ∙ judged_is r past n target name state picture s named targeted), λ (q : IsTrue (is_out past n)). own) in (
        answers,
        subst (λ (b : ReceiverState S). ReceiverStands codec b (Decoding n (Sound state picture) (Show k shot) ∷ past)) (sym e)
            (kept_stands (leb r.store.floor n) r past n n name state (Decoding n (Sound state picture) (Show k shot)) refl s answers refl refl refl refl refl named (held_shown codec past n k state picture shot) (held_below codec past n k state picture shot) (λ k. refl) (λ k. refl)
            (shown_number (has_size r.known.head picture) (same name.0 target.0) (leb n r.last) k n r.last _ _ _ picture shot h)),
      )
