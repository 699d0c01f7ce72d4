-- Answers frame by frame.
use Rattle.std.proofs.Common.{◌≡◌, ◌∙◌, ℕ, ◌+◌, ◌<◌, ◌≤◌, List, ◌∷◌, ◌++◌, Option, Some, None, Result, Ok, Err, is_some, true≢false, sym, ap, drop, length, get_or, take, append_assoc, drop-cons, add-one}
use Rattle.std.proofs.lemmas.List.{append-nil, drop_all}
use Rattle.sal_base.specs.declared.coding.Fault.{Fault}
use Rattle.sal_base.specs.declared.coding.Decoded.{Decoded}
use Rattle.sal_state.specs.States.{StateData}
use Rattle.sal_decode.specs.Decode.{decode_of}
use Rattle.sal_decode_ffi.specs.Answers.{answer_to, state_to, answered, answers_from}

some_is : {X : Type 0} → Option X → X → X
some_is None x = x
some_is (Some y) x = y

-- a frame that is decoded: its answer is added, and its state goes on
on : (r : Result (Decoded StateData) Fault) (text text' all : List ℕ) (next : StateData) (more : StateData → List ℕ)
    → text' ≡ text ++ answer_to r → Some next ≡ state_to r → text ++ answered r (λ d. more d.state) ≡ all → text' ++ more next ≡ all
unfolding some_is
on (Ok d) text text' all next more put is before =
    ap (λ t. t ++ more next) put ∙ (append_assoc text (answer_to (Ok d)) (more next) ∙ (ap (λ o. text ++ (answer_to (Ok d) ++ more (some_is o next))) is ∙ before))
on (Err f) text text' all next more put is before = absurd (true≢false (ap is_some is))

-- and one that isn't: the rest has no answers
end : (r : Result (Decoded StateData) Fault) (text text' all : List ℕ) (more : StateData → List ℕ)
    → text' ≡ text ++ answer_to r → None ≡ state_to r → text ++ answered r (λ d. more d.state) ≡ all → text' ≡ all
end (Ok d) text text' all more put is before = absurd (true≢false (ap is_some (sym is)))
end (Err f) text text' all more put is before = put ∙ before

-- the answers so far, with those to the frames that are left, are all
abbrev pub AllSo : List ℕ → StateData → List ℕ → List ℕ → List ℕ → Type 0
AllSo all s lengths bytes text = text ++ answers_from s lengths bytes ≡ all

-- the next frame of those that are left
next_of : (s : StateData) (lengths : List ℕ) (i : ℕ) (bytes frame rest text all : List ℕ) → i < length lengths → frame ≡ take (get_or lengths i 0) bytes → rest ≡ drop (get_or lengths i 0) bytes
    → AllSo all s (drop i lengths) bytes text → text ++ answered (decode_of s frame) (λ d. answers_from d.state (drop (i + 1) lengths) rest) ≡ all
unfolding answers_from
next_of s lengths i bytes frame rest text all lt frame_is rest_is before =
    let n = get_or lengths i 0 in
    let here : drop i lengths ≡ n ∷ drop (i + 1) lengths = rw add-one (drop-cons lengths i 0 lt) in
    ap (λ (f : List ℕ). text ++ answered (decode_of s f) (λ d. answers_from d.state (drop (i + 1) lengths) rest)) frame_is
    ∙ (ap (λ (r : List ℕ). text ++ answered (decode_of s (take n bytes)) (λ d. answers_from d.state (drop (i + 1) lengths) r)) rest_is
    ∙ (ap (λ (ns : List ℕ). text ++ answers_from s ns bytes) (sym here) ∙ before))

pub one_more : (s next : StateData) (lengths : List ℕ) (i : ℕ) (bytes frame rest text text' all : List ℕ) → i < length lengths → frame ≡ take (get_or lengths i 0) bytes → rest ≡ drop (get_or lengths i 0) bytes
    → text' ≡ text ++ answer_to (decode_of s frame) → Some next ≡ state_to (decode_of s frame) → AllSo all s (drop i lengths) bytes text → AllSo all next (drop (i + 1) lengths) rest text'
one_more s next lengths i bytes frame rest text text' all lt frame_is rest_is put is before =
    on (decode_of s frame) text text' all next (λ x. answers_from x (drop (i + 1) lengths) rest) put is (next_of s lengths i bytes frame rest text all lt frame_is rest_is before)

pub stopped : (s : StateData) (lengths : List ℕ) (i : ℕ) (bytes frame rest text text' all : List ℕ) → i < length lengths → frame ≡ take (get_or lengths i 0) bytes → rest ≡ drop (get_or lengths i 0) bytes
    → text' ≡ text ++ answer_to (decode_of s frame) → None ≡ state_to (decode_of s frame) → AllSo all s (drop i lengths) bytes text → text' ≡ all
stopped s lengths i bytes frame rest text text' all lt frame_is rest_is put is before =
    end (decode_of s frame) text text' all (λ x. answers_from x (drop (i + 1) lengths) rest) put is (next_of s lengths i bytes frame rest text all lt frame_is rest_is before)

-- no frame is left
pub all_answered : (s : StateData) (lengths : List ℕ) (i : ℕ) (bytes text all : List ℕ) → length lengths ≤ i → AllSo all s (drop i lengths) bytes text → text ≡ all
unfolding answers_from
all_answered s lengths i bytes text all le before = sym (append-nil text) ∙ (ap (λ (ns : List ℕ). text ++ answers_from s ns bytes) (sym (drop_all i lengths le)) ∙ before)
