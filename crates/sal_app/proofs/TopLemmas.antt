-- What the top call answers, from what the calls below gave.
use Rattle.std.proofs.Common.{◌≡◌, ◌≢◌, ℕ, ◌<◌, ◌≤◌, inl, inr, List, [], ◌∷◌, ◌++◌, length, map, get_or, Option, Some, IfSome, append_assoc, refl, sym, ap, ◌∙◌, subst, arith}
use Rattle.std.specs.Prelude.{Result, Ok, Err, ◌⊎◌, codes}
use Rattle.std.specs.List.{AllByRecursion}
use Rattle.sal_io.specs.Past.{Past}
use Rattle.sal_io.specs.Past.Past.{In, Out}
use Rattle.sal_io.specs.Calls.{HasCause, Rose, IsOpened, IsCreated}
use Rattle.sal_io.specs.declared.answers.ShelfFault.{ShelfFault}
use Rattle.sal_io.specs.declared.answers.ShelfFault.TheVariants as shelf
use Rattle.sal_status.specs.declared.status.Named.{Named}
use Rattle.sal_status.specs.declared.status.Named.TheVariants.{Word}
use Rattle.sal_status.specs.declared.status.Status.{Status}
use Rattle.sal_status.specs.declared.status.Status.TheVariants as status
use Rattle.sal_app.specs.declared.stop.Stop.{Stop}
use Rattle.sal_app.specs.declared.stop.Stop.TheVariants as stop
use Rattle.sal_codec.specs.Plain.{plain}
use Rattle.sal_y4m.specs.declared.head.Head.{Head}
use Rattle.sal_y4m.specs.declared.fault.Why.{Why}
use Rattle.sal_y4m.specs.Grammar.{header_at}
use Rattle.sal_y4m.specs.Answers.{IsAt}
use Rattle.sal_y4m.proofs.HeadLemmas.{IsRead}
use Rattle.sal_y4m.proofs.HeaderLemmas.{header_is_read}
use Rattle.sal_script.specs.Numbered.{Numbered}
use Rattle.sal_run.specs.Clip.{End, Done, BadInput, BadScript, TooMany, TooLong}
use Rattle.sal_world.specs.Promises.{IsSession}
use Rattle.sal_run.specs.Loop.{session_of, loop_end}
use Rattle.sal_run.proofs.Promised.{session_is}
use Rattle.sal_run.specs.Ends.{KeepsPromises}
use Rattle.sal_app.specs.Stops.{IsNothing}
use Rattle.sal_app.specs.Ends.{RunGives, AtEnd, Ends, UpToNextOrNot}
use Rattle.sal_run.proofs.Emptied.{leaves_nothing}
use Rattle.sal_app.specs.Top.{Files, Shut, Of, LoopAnswers, StatusOf, Unopened, IsLoop, Answers, IsComplete, IsQuiet, Promises, IsStatusOf, faults_of}
use Rattle.sal_app.specs.Printed.{unprinted, after_printing, Printed}
use Rattle.sal_run.specs.declared.end.Summary.{Summary}
use Rattle.sal_status.specs.declared.status.Shows.TheVariants.{Loop}
use Rattle.sal_io.specs.declared.whole.Put.{Put}
use Rattle.sal_io.specs.declared.whole.Put.TheVariants as put
use Rattle.sal_io.specs.Calls.{PutGives}
use Rattle.sal_status.specs.Texts.{text_of}

four : {X : Type 0} (ws : List X) (a b c d : X) → 4 ≤ length ws → length ws < 5 → a ≡ get_or ws 0 a → b ≡ get_or ws 1 b → c ≡ get_or ws 2 c → d ≡ get_or ws 3 d → ws ≡ a ∷ b ∷ c ∷ d ∷ []
four [] a b c d lo hi p q r s = absurd (omega arith)
four (v ∷ []) a b c d lo hi p q r s = absurd (omega arith)
four (v ∷ w ∷ []) a b c d lo hi p q r s = absurd (omega arith)
four (v ∷ w ∷ x ∷ []) a b c d lo hi p q r s = absurd (omega arith)
four (v ∷ w ∷ x ∷ y ∷ []) a b c d lo hi p q r s = cc
four (v ∷ w ∷ x ∷ y ∷ z ∷ ws) a b c d lo hi p q r s = absurd (omega arith)

-- the words are `loop` and three names
pub loop_said : {X : Type 0} (text : X → List ℕ) (ws : List X) (a b c d : X) (i s o : List ℕ) (P : List ℕ → List ℕ → List ℕ → Type 0) → 4 ≤ length ws → length ws < 5
    → a ≡ get_or ws 0 a → b ≡ get_or ws 1 b → c ≡ get_or ws 2 c → d ≡ get_or ws 3 d → text a ≡ codes "loop" → i ≡ text b → s ≡ text c → o ≡ text d → P i s o → IsLoop (map text ws) P
loop_said text ws a b c d i s o P lo hi p q r t command ib sc od done =
    let said : P (text b) (text c) (text d) = rw (← ib, ← sc, ← od) done in
    subst (λ l. IsLoop (map text l) P) (sym (four ws a b c d lo hi p q r t)) (command, said)

-- another number of words
pub not_four : {X : Type 0} (text : X → List ℕ) (ws : List X) (P : List ℕ → List ℕ → List ℕ → Type 0) → length ws ≢ 4 → IsLoop (map text ws) P → ⊥
not_four text [] P ne said = said
not_four text (v ∷ []) P ne said = said
not_four text (v ∷ w ∷ []) P ne said = said
not_four text (v ∷ w ∷ x ∷ []) P ne said = said
not_four text (v ∷ w ∷ x ∷ y ∷ []) P ne said = ne refl
not_four text (v ∷ w ∷ x ∷ y ∷ z ∷ ws) P ne said = said

-- another command
pub not_loop : {X : Type 0} (text : X → List ℕ) (ws : List X) (a b c d : X) (P : List ℕ → List ℕ → List ℕ → Type 0) → 4 ≤ length ws → length ws < 5
    → a ≡ get_or ws 0 a → b ≡ get_or ws 1 b → c ≡ get_or ws 2 c → d ≡ get_or ws 3 d → (text a ≡ codes "loop" → ⊥) → IsLoop (map text ws) P → ⊥
not_loop text ws a b c d P lo hi p q r t other said = other (subst (λ l. IsLoop (map text l) P) (four ws a b c d lo hi p q r t) said).0

rose_later : (a b c : ℕ) → Rose a b → b ≤ c → Rose a c
rose_later a b c r le = omega (arith, r, le)

from_zero : (a b : ℕ) → a ≡ 0 → Rose a b → Rose 0 b
from_zero a b e r = subst (λ (n : ℕ). Rose n b) e r

-- the status of a run that ended
pub answered : (input script output : List ℕ) (holds : List ℕ → Option (List ℕ)) (before after : List Past) (faults faults' : ℕ) (end : Result Summary Stop) (s : Status) (f : Files)
    → Shut input script output holds before after f → StatusOf end s → RunGives plain end (holds input) f.input_left (holds script) f.held → AtEnd end f.input_left → AtEnd end f.script_left
    → HasCause (Err stop.InputFault) 0 f.input_faults end → HasCause (Err stop.ScriptFault) 0 f.script_faults end → HasCause (Err stop.WriteFault) 0 f.out_faults end
    → LoopAnswers input script output holds before after faults faults' s
answered input script output holds before after faults faults' (Ok x) s f shut said gives at_end script_end p q r =
    subst (LoopAnswers input script output holds before after faults faults') (sym said) (f, shut, gives, at_end, script_end)
answered input script output holds before after faults faults' (Err (stop.BadInput place why)) s f shut said gives at_end script_end p q r =
    subst (LoopAnswers input script output holds before after faults faults') (sym said) (refl, (f, (shut, gives)))
answered input script output holds before after faults faults' (Err (stop.BadScript line)) s f shut said gives at_end script_end p q r =
    subst (LoopAnswers input script output holds before after faults faults') (sym said) (f, shut, gives)
answered input script output holds before after faults faults' (Err stop.TooMany) s f shut said gives at_end script_end p q r =
    subst (LoopAnswers input script output holds before after faults faults') (sym said) (f, shut, gives)
answered input script output holds before after faults faults' (Err stop.TooLong) s f shut said gives at_end script_end p q r =
    subst (LoopAnswers input script output holds before after faults faults') (sym said) (f, shut, gives)
answered input script output holds before after faults faults' (Err stop.InputFault) s f shut said gives at_end script_end p q r =
    subst (LoopAnswers input script output holds before after faults faults') (sym said) (f, shut, inl (refl, p.rose refl, gives))
answered input script output holds before after faults faults' (Err stop.ScriptFault) s f shut said gives at_end script_end p q r =
    subst (LoopAnswers input script output holds before after faults faults') (sym said) (f, shut, inr (refl, q.rose refl, gives))
answered input script output holds before after faults faults' (Err stop.WriteFault) s f shut said gives at_end script_end p q r =
    subst (LoopAnswers input script output holds before after faults faults') (sym said) (f, shut, refl, r.rose refl, gives)
answered input script output holds before after faults faults' (Err stop.Memory) s f shut said gives at_end script_end p q r =
    subst (LoopAnswers input script output holds before after faults faults') (sym said) (inr (inr (inr (f, shut, gives))))

-- IN wasn't opened
pub first_unopened : (input script output : List ℕ) (holds : List ℕ → Option (List ℕ)) (before after : List Past) (faults faults' : ℕ) (why : ShelfFault) (s : Status)
    → Unopened why (Word 1) s → (why ≡ shelf.Failed → Rose faults faults') → after ≡ before → LoopAnswers input script output holds before after faults faults' s
first_unopened input script output holds before after faults faults' shelf.Failed s said cause shut =
    subst (LoopAnswers input script output holds before after faults faults') (sym said) (cause refl, inl (refl, shut))
first_unopened input script output holds before after faults faults' shelf.Memory s said cause shut =
    subst (LoopAnswers input script output holds before after faults faults') (sym said) (inl shut)

-- SCRIPT wasn't opened
pub second_unopened : (input script output : List ℕ) (holds : List ℕ → Option (List ℕ)) (before after : List Past) (faults faults' : ℕ) (why : ShelfFault) (s : Status)
    → Unopened why (Word 2) s → (why ≡ shelf.Failed → Rose faults faults') → after ≡ before ++ In input (holds input) (holds input) 0 ∷ [] → LoopAnswers input script output holds before after faults faults' s
second_unopened input script output holds before after faults faults' shelf.Failed s said cause shut =
    subst (LoopAnswers input script output holds before after faults faults') (sym said) (cause refl, inr (inl (refl, shut)))
second_unopened input script output holds before after faults faults' shelf.Memory s said cause shut =
    subst (LoopAnswers input script output holds before after faults faults') (sym said) (inr (inl shut))

-- OUT wasn't opened
pub third_unopened : (input script output : List ℕ) (holds : List ℕ → Option (List ℕ)) (before after : List Past) (faults faults' : ℕ) (why : ShelfFault) (s : Status)
    → Unopened why (Word 3) s → (why ≡ shelf.Failed → Rose faults faults') → after ≡ (before ++ In input (holds input) (holds input) 0 ∷ []) ++ In script (holds script) (holds script) 0 ∷ []
    → LoopAnswers input script output holds before after faults faults' s
third_unopened input script output holds before after faults faults' shelf.Failed s said cause shut =
    subst (LoopAnswers input script output holds before after faults faults') (sym said) (cause refl, inr (inr (refl, shut)))
third_unopened input script output holds before after faults faults' shelf.Memory s said cause shut =
    subst (LoopAnswers input script output holds before after faults faults') (sym said) (inr (inr (inl shut)))

in_past : (wanted : List ℕ) (bytes : Option (List ℕ)) (name name' : List ℕ) (had had' left' : Option (List ℕ)) (faults' : ℕ) → name' ≡ name → name ≡ wanted → had' ≡ had → had ≡ bytes → In name' had' left' faults' ≡ In wanted bytes left' faults'
in_past wanted bytes name name' had had' left' faults' a b c d = ap (λ (n : List ℕ). In n had' left' faults') (a ∙ b) ∙ ap (λ (h : Option (List ℕ)). In wanted h left' faults') (c ∙ d)

out_past : (wanted : List ℕ) (name name' : List ℕ) (held' : Option (List ℕ)) (faults' : ℕ) → name' ≡ name → name ≡ wanted → Out name' held' faults' ≡ Out wanted held' faults'
out_past wanted name name' held' faults' a b = ap (λ (n : List ℕ). Out n held' faults') (a ∙ b)

-- an object that was opened and shut with nothing done to it
untouched : (wanted : List ℕ) (bytes : Option (List ℕ)) (name : List ℕ) (had left : Option (List ℕ)) (faults : ℕ) → IsOpened wanted bytes name had left faults → In name had left faults ≡ In wanted bytes bytes 0
untouched wanted bytes name had left faults is =
    ap (λ (n : List ℕ). In n had left faults) is.name_is ∙ ap (λ (h : Option (List ℕ)). In wanted h left faults) is.had_is
    ∙ ap (λ (l : Option (List ℕ)). In wanted bytes l faults) is.left_is ∙ ap (λ (k : ℕ). In wanted bytes bytes k) is.no_faults

pub second_call : (input script output : List ℕ) (holds : List ℕ → Option (List ℕ)) (p0 p1 p2 p3 : List Past) (f0 f1 f2 f3 : ℕ) (name : List ℕ) (had left : Option (List ℕ)) (n : ℕ) (why : ShelfFault) (s : Status)
    → Unopened why (Word 2) s → IsOpened input (holds input) name had left n → p1 ≡ p0 → p2 ≡ p1 → p3 ≡ p2 ++ In name had left n ∷ []
    → f0 ≤ f1 → (why ≡ shelf.Failed → Rose f1 f2) → f2 ≤ f3 → LoopAnswers input script output holds p0 p3 f0 f3 s
second_call input script output holds p0 p1 p2 p3 f0 f1 f2 f3 name had left n why s said is e1 e2 e3 le cause le' =
    second_unopened input script output holds p0 p3 f0 f3 why s said (λ e. omega (arith, cause e, le, le'))
    (e3 ∙ ap (λ (p : List Past). p ++ In name had left n ∷ []) (e2 ∙ e1) ∙ ap (λ (x : Past). p0 ++ x ∷ []) (untouched input (holds input) name had left n is))

pub third_call : (input script output : List ℕ) (holds holds1 : List ℕ → Option (List ℕ)) (p0 p1 p2 p3 p4 p5 : List Past) (f0 f1 f2 f3 f4 f5 : ℕ) (name sname : List ℕ) (had left shad sleft : Option (List ℕ)) (n m : ℕ) (why : ShelfFault) (s : Status)
    → Unopened why (Word 3) s → IsOpened input (holds input) name had left n → IsOpened script (holds1 script) sname shad sleft m → holds1 ≡ holds → p1 ≡ p0 → p2 ≡ p1 → p3 ≡ p2 → p4 ≡ p3 ++ In name had left n ∷ [] → p5 ≡ p4 ++ In sname shad sleft m ∷ []
    → f0 ≤ f1 → f1 ≤ f2 → (why ≡ shelf.Failed → Rose f2 f3) → f3 ≤ f4 → f4 ≤ f5 → LoopAnswers input script output holds p0 p5 f0 f5 s
third_call input script output holds holds1 p0 p1 p2 p3 p4 p5 f0 f1 f2 f3 f4 f5 name sname had left shad sleft n m why s said is sis hs e1 e2 e3 e4 e5 le1 le2 cause le4 le5 =
    let sis' : IsOpened script (holds script) sname shad sleft m = subst (λ (h : List ℕ → Option (List ℕ)). IsOpened script (h script) sname shad sleft m) hs sis in
    third_unopened input script output holds p0 p5 f0 f5 why s said (λ e. omega (arith, cause e, le1, le2, le4, le5))
    (e5 ∙ ap (λ (p : List Past). p ++ In sname shad sleft m ∷ []) (e4 ∙ ap (λ (p : List Past). p ++ In name had left n ∷ []) (e3 ∙ e2 ∙ e1))
    ∙ ap (λ (x : Past). (p0 ++ x ∷ []) ++ In sname shad sleft m ∷ []) (untouched input (holds input) name had left n is)
    ∙ ap (λ (x : Past). (p0 ++ In input (holds input) (holds input) 0 ∷ []) ++ x ∷ []) (untouched script (holds script) sname shad sleft m sis'))

cause_zero : {A : Type 0} (fault : A) (a b : ℕ) (answer : A) → a ≡ 0 → HasCause fault a b answer → HasCause fault 0 b answer
cause_zero fault a b answer e c = subst (λ (n : ℕ). HasCause fault n b answer) e c

-- all three were opened, the run ended, and all were shut
pub run_answered : (input script output : List ℕ) (holds holds1 : List ℕ → Option (List ℕ)) (p0 p1 p2 p3 p4 p5 p6 : List Past) (f0 f6 : ℕ) (end : Result Summary Stop) (s : Status)
    (name name' sname sname' oname oname' : List ℕ) (had had' left left' shad shad' sleft sleft' held held' : Option (List ℕ)) (n n' m m' k k' : ℕ)
    → StatusOf end s → IsOpened input (holds input) name had left n → IsOpened script (holds1 script) sname shad sleft m → IsCreated output oname held k → holds1 ≡ holds
    → p1 ≡ p0 → p2 ≡ p1 → p3 ≡ p2 → p4 ≡ p3 ++ In name' had' left' n' ∷ [] → p5 ≡ p4 ++ In sname' shad' sleft' m' ∷ [] → p6 ≡ p5 ++ Out oname' held' k' ∷ []
    → name' ≡ name → had' ≡ had → sname' ≡ sname → shad' ≡ shad → oname' ≡ oname
    → RunGives plain end left left' sleft held' → AtEnd end left' → AtEnd end sleft'
    → HasCause (Err stop.InputFault) n n' end → HasCause (Err stop.ScriptFault) m m' end → HasCause (Err stop.WriteFault) k k' end
    → LoopAnswers input script output holds p0 p6 f0 f6 s
run_answered input script output holds holds1 p0 p1 p2 p3 p4 p5 p6 f0 f6 end s name name' sname sname' oname oname' had had' left left' shad shad' sleft sleft' held held' n n' m m' k k'
    said is sis cis hs e1 e2 e3 e4 e5 e6 na ha sna sha ona gives at_end script_end c1 c2 c3 =
    let sis' : IsOpened script (holds script) sname shad sleft m = subst (λ (h : List ℕ → Option (List ℕ)). IsOpened script (h script) sname shad sleft m) hs sis in
    let files : Files = record { input_left = left'; input_faults = n'; script_left = sleft'; script_faults = m'; held = held'; out_faults = k' } in
    let shut : Shut input script output holds p0 p6 files =
    e6 ∙ ap (λ (p : List Past). p ++ Out oname' held' k' ∷ []) (e5 ∙ ap (λ (p : List Past). p ++ In sname' shad' sleft' m' ∷ []) (e4 ∙ ap (λ (p : List Past). p ++ In name' had' left' n' ∷ []) (e3 ∙ e2 ∙ e1)))
    ∙ ap (λ (x : Past). ((p0 ++ x ∷ []) ++ In sname' shad' sleft' m' ∷ []) ++ Out oname' held' k' ∷ []) (in_past input (holds input) name name' had had' left' n' na is.name_is ha is.had_is)
    ∙ ap (λ (x : Past). ((p0 ++ In input (holds input) left' n' ∷ []) ++ x ∷ []) ++ Out oname' held' k' ∷ []) (in_past script (holds script) sname sname' shad shad' sleft' m' sna sis'.name_is sha sis'.had_is)
    ∙ ap (λ (x : Past). ((p0 ++ In input (holds input) left' n' ∷ []) ++ In script (holds script) sleft' m' ∷ []) ++ x ∷ []) (out_past output oname oname' held' k' ona cis.name_is) in
    let told : RunGives plain end (holds input) left' (holds script) held' =
    subst (λ (o : Option (List ℕ)). RunGives plain end o left' (holds script) held') is.left_is (subst (λ (o : Option (List ℕ)). RunGives plain end left left' o held') sis'.left_is gives) in
    answered input script output holds p0 p6 f0 f6 end s files shut said told at_end script_end
    (cause_zero (Err stop.InputFault) n n' end is.no_faults c1) (cause_zero (Err stop.ScriptFault) m m' end sis'.no_faults c2) (cause_zero (Err stop.WriteFault) k k' end cis.no_faults c3)

-- ---- completeness

words_both : (words : List (List ℕ)) (P Q : List ℕ → List ℕ → List ℕ → Type 0) (R : Type 0) → IsLoop words P → IsLoop words Q → ((i s o : List ℕ) → P i s o → Q i s o → R) → R
words_both [] P Q R p q f = absurd p
words_both (a ∷ []) P Q R p q f = absurd p
words_both (a ∷ b ∷ []) P Q R p q f = absurd p
words_both (a ∷ b ∷ c ∷ []) P Q R p q f = absurd p
words_both (a ∷ b ∷ c ∷ d ∷ []) P Q R p q f = f b c d p.1 q.1
words_both (a ∷ b ∷ c ∷ d ∷ e ∷ words) P Q R p q f = absurd p

words_any : (words : List (List ℕ)) (P : List ℕ → List ℕ → List ℕ → Type 0) → IsLoop words P → IsLoop words (λ input script output. Unit {0})
words_any [] P p = p
words_any (a ∷ []) P p = p
words_any (a ∷ b ∷ []) P p = p
words_any (a ∷ b ∷ c ∷ []) P p = p
words_any (a ∷ b ∷ c ∷ d ∷ []) P p = (p.0, tt)
words_any (a ∷ b ∷ c ∷ d ∷ e ∷ words) P p = p

three : (before : List Past) (a b c : Past) → ((before ++ a ∷ []) ++ b ∷ []) ++ c ∷ [] ≡ before ++ (a ∷ b ∷ c ∷ [])
three before a b c = append_assoc (before ++ a ∷ []) (b ∷ []) (c ∷ []) ∙ append_assoc before (a ∷ []) (b ∷ c ∷ [])

told_end : (i s : List ℕ) (input script out : Option (List ℕ)) (end : End) → input ≡ Some i → script ≡ Some s → Ends plain end input script out → loop_end plain i s ≡ end
told_end i s input script out end p q told =
    (subst (λ (x : Option (List ℕ)). Ends plain end (Some i) x out) q (subst (λ (x : Option (List ℕ)). Ends plain end x script out) p told)).0

not_risen : (n : ℕ) → n ≡ 0 → Rose 0 n → ⊥
not_risen n e r = omega (arith, r, e)

abbrev pub news_of : List ℕ → List ℕ → List ℕ → (List ℕ → Option (List ℕ)) → Files → List Past
news_of input script output holds f =
    In input (holds input) f.input_left f.input_faults ∷ In script (holds script) f.script_left f.script_faults ∷ Out output f.held f.out_faults ∷ []

shut_news : (input script output : List ℕ) (holds : List ℕ → Option (List ℕ)) (before after : List Past) (f : Files) → Shut input script output holds before after f → after ≡ before ++ news_of input script output holds f
shut_news input script output holds before after f shut = shut ∙ three before _ _ _

told_is : (P : List ℕ → Type 0) (told : Option (List ℕ)) (i : List ℕ) → told ≡ Some i → IfSome told P → P i
told_is P told i e p = subst (λ (o : Option (List ℕ)). IfSome o P) e p

abbrev pub Finds : List ℕ → List ℕ → Status → Type 0
Finds i s st = IsStatusOf i (loop_end plain i s) st ⊎ (st ≡ status.Memory)

ended_finds : (i s : List ℕ) (input script out : Option (List ℕ)) (end : End) (st : Status) → input ≡ Some i → script ≡ Some s → Ends plain end input script out → IsStatusOf i end st → Finds i s st
ended_finds i s input script out end st p q so e = inl (subst (λ (x : End). IsStatusOf i x st) (sym (told_end i s input script out end p q so)) e)

complete_loop : (input script output : List ℕ) (holds : List ℕ → Option (List ℕ)) (before after : List Past) (faults faults' : ℕ) (i s : List ℕ) (st : Status) → holds input ≡ Some i → holds script ≡ Some s
    → IsQuiet before after faults faults' → LoopAnswers input script output holds before after faults faults' st → Finds i s st
complete_loop input script output holds before after faults faults' i s (status.Ok (Loop summary)) p q quiet a =
    ended_finds i s (holds input) (holds script) a.0.held Done (status.Ok (Loop summary)) p q a.2.0 (summary, refl)
complete_loop input script output holds before after faults faults' i s status.Usage p q quiet a = absurd a
complete_loop input script output holds before after faults faults' i s (status.BadInput name place why) p q quiet a =
    let bad = a.1.1.1 in
    ended_finds i s (holds input) (holds script) a.1.0.held (BadInput bad.0) (status.BadInput name place why) p q bad.1.0 (place, (why, (ap (λ (n : Named). status.BadInput n place why) a.0, told_is (λ (x : List ℕ). IsAt 0 x bad.0 place why) (holds input) i p bad.1.1)))
complete_loop input script output holds before after faults faults' i s (status.BadScript line) p q quiet a =
    ended_finds i s (holds input) (holds script) a.0.held (BadScript line) (status.BadScript line) p q a.2 refl
complete_loop input script output holds before after faults faults' i s status.TooLong p q quiet a =
    ended_finds i s (holds input) (holds script) a.0.held TooLong status.TooLong p q a.2 refl
complete_loop input script output holds before after faults faults' i s status.TooMany p q quiet a =
    ended_finds i s (holds input) (holds script) a.0.held TooMany status.TooMany p q a.2 refl
complete_loop input script output holds before after faults faults' i s (status.ReadFault name) p q quiet a =
    let f = a.0 in
    let still = quiet.files_quiet (news_of input script output holds f) (shut_news input script output holds before after f a.1) in
    absurd (read_risen name f still a.2)
  where
    read_risen : (name : Named) (f : Files) → AllByRecursion (λ past. faults_of past ≡ 0) (news_of input script output holds f)
        → ((name ≡ Word 1) × Rose 0 f.input_faults × Of input script output holds before after f (UpToNextOrNot plain f.input_left)) ⊎ ((name ≡ Word 2) × Rose 0 f.script_faults × IsNothing f.held) → ⊥
    read_risen name f still (inl x) = not_risen f.input_faults still.0 x.1
    read_risen name f still (inr x) = not_risen f.script_faults still.1.0 x.1
complete_loop input script output holds before after faults faults' i s (status.WriteFault name) p q quiet a =
    let f = a.0 in
    let still = quiet.files_quiet (news_of input script output holds f) (shut_news input script output holds before after f a.1) in
    absurd (not_risen f.out_faults still.1.1.0 a.3)
complete_loop input script output holds before after faults faults' i s (status.OpenFault name) p q quiet a = absurd (quiet.shelf_quiet a.0)
complete_loop input script output holds before after faults faults' i s status.Memory p q quiet a = inr refl

served : (words : List (List ℕ)) (holds : List ℕ → Option (List ℕ)) (before after : List Past) (faults faults' : ℕ) (i s : List ℕ) (st : Status) → Answers words holds before after faults faults' st
    → IsLoop words (λ input script output. (holds input ≡ Some i) × (holds script ≡ Some s)) → IsQuiet before after faults faults' → Finds i s st
served words holds before after faults faults' i s st (inl a) said quiet =
    words_both words (λ input script output. LoopAnswers input script output holds before after faults faults' st) (λ input script output. (holds input ≡ Some i) × (holds script ≡ Some s)) (Finds i s st) a said
    (λ input script output answer known. complete_loop input script output holds before after faults faults' i s st known.0 known.1 quiet answer)
served words holds before after faults faults' i s st (inr a) said quiet = absurd (a.0 (words_any words _ said))

-- ---- printing

-- the text was printed, or a front of it
pub put_printed : (words : List (List ℕ)) (s answer : Status) (done : Put) (old new : Option (List ℕ)) (faults faults' : ℕ) → answer ≡ after_printing done s → PutGives old new done (text_of words s) → HasCause put.Failed faults faults' done → Printed words s old new faults faults' answer
put_printed words s answer put.Done old new faults faults' e gives cause = inl (e, gives)
put_printed words s answer put.Failed old new faults faults' e gives cause = inr (e, cause.rose refl, gives)

pub complete : (words : List (List ℕ)) (holds : List ℕ → Option (List ℕ)) (before after : List Past) (faults faults' : ℕ) (old new : Option (List ℕ)) (screen screen' : ℕ) (s answer : Status) → Answers words holds before after faults faults' s → Printed words s old new screen screen' answer → IsComplete words holds before after faults faults' screen screen' answer
complete words holds before after faults faults' old new screen screen' s answer a (inl whole) i o said quiet still = subst (λ (x : Status). Finds i o x) (sym whole.0) (served words holds before after faults faults' i o s a said quiet)
complete words holds before after faults faults' old new screen screen' s answer a (inr cut) i o said quiet still = absurd (still cut.1)

-- ---- the promises of both ends

header_session : (i body : List ℕ) (head : Head) → header_at i ≡ Some (head, body) → IsSession (session_of head)
header_session i body head header =
    let read = subst (λ (found : Option (Head × List ℕ)). IfSome found (λ (x : Head × List ℕ). IsRead x.0)) header (header_is_read i) in
    session_is head read.legal read.pictures read.seconds

pub promised : (words : List (List ℕ)) (holds : List ℕ → Option (List ℕ)) → ((head : Head) (lines : List Numbered) (bytes : List ℕ) → IsSession (session_of head) → KeepsPromises plain head lines bytes) → Promises words holds
promised words holds law i s said head lines body header read =
    let keeps = law head lines body (header_session i body head header) in
    (keeps, leaves_nothing plain head lines body keeps)
