-- The numbers that are named for the first time.
use Rattle.std.proofs.Common.{◌≡◌, ℕ, ◌+◌, ◌<◌, ◌≤◌, Bool, true, false, cond, List, [], ◌∷◌, ◌++◌, length, take, get_or, refl, ap, sym, subst, ◌∙◌, arith, length-append}
use Rattle.std.proofs.lemmas.List.{append-nil, take_more}
use Rattle.sal_base.specs.declared.name.Name.{Name}
use Rattle.sal_sender.specs.declared.sent_frame.SentFrame.{SentFrame}
use Rattle.sal_sender.specs.Hearing.{is_new_in, newly_in}

-- one more of these
pub newly_more : (sent_frames : List SentFrame) (floor : ℕ) (xs : List (ℕ × Name)) (h : ℕ × Name) → newly_in sent_frames floor (xs ++ h ∷ []) ≡ newly_in sent_frames floor xs ++ cond (is_new_in sent_frames floor h) (h.0 ∷ []) []
newly_more sent_frames floor [] h = refl
newly_more sent_frames floor (x ∷ xs) h = with_choice (is_new_in sent_frames floor x) x.0 _ _ _ (newly_more sent_frames floor xs h)
  where
    with_choice : (b : Bool) (n : ℕ) (new old own : List ℕ) → new ≡ old ++ own → cond b (n ∷ new) new ≡ cond b (n ∷ old) old ++ own
    with_choice true n new old own e = ap (λ ws. n ∷ ws) e
    with_choice false n new old own e = e

-- the numbers of the first of these, no more than there are
pub record IsSoFar (sent_frames : List SentFrame) (floor : ℕ) (held : List (ℕ × Name)) (i : ℕ) (numbers : List ℕ) : Type 0 where
  pub named : numbers ≡ newly_in sent_frames floor (take i held)
  pub few : length numbers ≤ i

newly_next : (b : Bool) (sent_frames : List SentFrame) (floor : ℕ) (xs : List (ℕ × Name)) (i : ℕ) (d : ℕ × Name) (before : List ℕ) → i < length xs → before ≡ newly_in sent_frames floor (take i xs) → is_new_in sent_frames floor (get_or xs i d) ≡ b → before ++ cond b ((get_or xs i d).0 ∷ []) [] ≡ newly_in sent_frames floor (take (i + 1) xs)
newly_next b sent_frames floor xs i d before low e is =
    let h : ℕ × Name = get_or xs i d in
    ap (λ ws. ws ++ cond b (h.0 ∷ []) []) e
    ∙ (ap (λ c. newly_in sent_frames floor (take i xs) ++ cond c (h.0 ∷ []) []) (sym is)
    ∙ (sym (newly_more sent_frames floor (take i xs) h) ∙ ap (newly_in sent_frames floor) (sym (take_more xs i d low))))

-- a number is added
pub newly_added : (sent_frames : List SentFrame) (floor : ℕ) (xs : List (ℕ × Name)) (i : ℕ) (d : ℕ × Name) (before after : List ℕ) → i < length xs → IsSoFar sent_frames floor xs i before → is_new_in sent_frames floor (get_or xs i d) ≡ true → after ≡ before ++ (get_or xs i d).0 ∷ [] → IsSoFar sent_frames floor xs (i + 1) after
newly_added sent_frames floor xs i d before after low so is e =
    record {
      named = e ∙ newly_next true sent_frames floor xs i d before low so.named is;
      few = subst (λ ws. length ws ≤ i + 1) (sym e) (omega (arith, length-append before ((get_or xs i d).0 ∷ []), so.few));
    }

-- a number is left out
pub newly_left : (sent_frames : List SentFrame) (floor : ℕ) (xs : List (ℕ × Name)) (i : ℕ) (d : ℕ × Name) (before : List ℕ) → i < length xs → IsSoFar sent_frames floor xs i before → is_new_in sent_frames floor (get_or xs i d) ≡ false → IsSoFar sent_frames floor xs (i + 1) before
newly_left sent_frames floor xs i d before low so is =
    record {
      named = sym (append-nil before) ∙ newly_next false sent_frames floor xs i d before low so.named is;
      few = omega (arith, so.few);
    }
