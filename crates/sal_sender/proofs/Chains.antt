-- The links stand for the choices from the floor on.
use Rattle.std.proofs.Common.{◌≡◌, ℕ, ◌+◌, ◌-◌, ◌<◌, ◌≤◌, Bool, true, false, ◌&&◌, List, [], ◌∷◌, length, map, refl, ap, sym, ◌∙◌, arith, eqb, leb, ltb, inl, inr}
use Rattle.std.proofs.lemmas.Bool.{eqb-true, leb-false, lt-leb, ne_eqb}
use Rattle.std.specs.List.{list_any, find, filter}
use Rattle.std.specs.Option.{unwrap_or}
use Rattle.sal_base.specs.Lists.{Has}
use Rattle.sal_sender.specs.declared.choice.Choice.{Choice}
use Rattle.sal_sender.specs.Chain.{sources_from}
use Rattle.sal_sender.specs.Acks.{last_serial}
use Rattle.sal_sender.specs.SentFrames.{sent_frame_of, choices_from, safe_in, lost_in}
use Rattle.sal_sender.specs.Sound.{AreChained}
use Rattle.sal_sender.proofs.Sound.{sources_low}
use Rattle.sal_sender.proofs.Thread.{has_filter}

if_true : {X : Type 0} (b : Bool) (x y : X) → b ≡ true → (elim b as (λ c. X) [ true ↦ x | false ↦ y ]) ≡ x
if_true true x y h = refl
if_true false x y h = absurd (cc)

if_false : {X : Type 0} (b : Bool) (x y : X) → b ≡ false → (elim b as (λ c. X) [ true ↦ x | false ↦ y ]) ≡ y
if_false true x y h = absurd (cc)
if_false false x y h = refl

from_here : (c : Choice) (older : List Choice) (n : ℕ) → eqb n c.number ≡ true → sources_from (c ∷ older) n ≡ n ∷ sources_from older c.source
unfolding sources_from
from_here c older n e = if_true (eqb n c.number) _ _ e

from_later : (c : Choice) (older : List Choice) (n : ℕ) → eqb n c.number ≡ false → sources_from (c ∷ older) n ≡ sources_from older n
unfolding sources_from
from_later c older n e = if_false (eqb n c.number) _ _ e

nothing_from : (n : ℕ) → sources_from [] n ≡ []
unfolding sources_from
nothing_from n = refl

-- numbers stand below a floor where the newest does
none_from : (f : ℕ) (chosen : List Choice) → AreChained chosen → length chosen < f → choices_from f chosen ≡ []
none_from f [] chained low = refl
none_from f (c ∷ older) chained low =
    let d : leb f c.number ≡ false = lt-leb f c.number (omega (arith, chained.0.number)) in
    rw d (none_from f older chained.1 (omega arith))

chain_step : (f : ℕ) (c : Choice) (older : List Choice) (n : ℕ) (b d : Bool) → eqb n c.number ≡ b → leb f c.number ≡ d → AreChained (c ∷ older) → filter (λ m. leb f m) (sources_from older c.source) ≡ sources_from (choices_from f older) c.source → filter (λ m. leb f m) (sources_from older n) ≡ sources_from (choices_from f older) n → filter (λ m. leb f m) (sources_from (c ∷ older) n) ≡ sources_from (choices_from f (c ∷ older)) n
chain_step f c older n true true e d chained own rest =
    let p : leb f n ≡ true = ap (λ x. leb f x) (eqb-true _ _ e) ∙ d in
    rw (from_here c older n e, d, p, from_here c (choices_from f older) n e) (ap (λ xs. n ∷ xs) own)
chain_step f c older n true false e d chained own rest =
    let p : leb f n ≡ false = ap (λ x. leb f x) (eqb-true _ _ e) ∙ d in
    let none : choices_from f older ≡ [] = none_from f older chained.1 (let low : c.number < f = leb-false _ _ d in omega (arith, chained.0.number)) in
    let a : sources_from (choices_from f older) c.source ≡ [] = ap (λ cs. sources_from cs c.source) none ∙ nothing_from c.source in
    let b : sources_from (choices_from f older) n ≡ [] = ap (λ cs. sources_from cs n) none ∙ nothing_from n in
    rw (from_here c older n e, d, p) (own ∙ (a ∙ sym b))
chain_step f c older n false true e d chained own rest = rw (from_later c older n e, d, from_later c (choices_from f older) n e) rest
chain_step f c older n false false e d chained own rest = rw (from_later c older n e, d) rest

-- the chain down to a floor goes by the choices from the floor on
pub kept_chain : (f : ℕ) (chosen : List Choice) (n : ℕ) → AreChained chosen → filter (λ m. leb f m) (sources_from chosen n) ≡ sources_from (choices_from f chosen) n
unfolding sources_from
kept_chain f [] n chained = refl
kept_chain f (c ∷ older) n chained = chain_step f c older n (eqb n c.number) (leb f c.number) refl refl chained (kept_chain f older c.source chained.1) (kept_chain f older n chained.1)

abbrev newest_of : List ℕ → List ℕ → ℕ
newest_of acked numbers = unwrap_or (find (λ m. list_any (λ k. eqb k m) acked) numbers) 0

safe_step : (acked : List ℕ) (c : Choice) (older : List Choice) (n : ℕ) (b d : Bool) → eqb n c.number ≡ b → list_any (λ k. eqb k c.number) acked ≡ d → newest_of acked (sources_from older c.source) ≡ safe_in (map (sent_frame_of acked) older) c.source → newest_of acked (sources_from older n) ≡ safe_in (map (sent_frame_of acked) older) n → newest_of acked (sources_from (c ∷ older) n) ≡ safe_in (map (sent_frame_of acked) (c ∷ older)) n
unfolding safe_in
safe_step acked c older n true true e d own rest =
    let p : list_any (λ k. eqb k n) acked ≡ true = ap (λ x. list_any (λ k. eqb k x) acked) (eqb-true _ _ e) ∙ d in
    rw (from_here c older n e, p) (sym (if_true (eqb n c.number) _ _ e ∙ if_true (list_any (λ k. eqb k c.number) acked) _ _ d))
safe_step acked c older n true false e d own rest =
    let p : list_any (λ k. eqb k n) acked ≡ false = ap (λ x. list_any (λ k. eqb k x) acked) (eqb-true _ _ e) ∙ d in
    rw (from_here c older n e, p) (own ∙ sym (if_true (eqb n c.number) _ _ e ∙ if_false (list_any (λ k. eqb k c.number) acked) _ _ d))
safe_step acked c older n false d e f own rest = rw (from_later c older n e) (rest ∙ sym (if_false (eqb n c.number) _ _ e))

-- the safe number by the links
pub safe_links : (acked : List ℕ) (chosen : List Choice) (n : ℕ) → newest_of acked (sources_from chosen n) ≡ safe_in (map (sent_frame_of acked) chosen) n
unfolding sources_from safe_in
safe_links acked [] n = refl
safe_links acked (c ∷ older) n = safe_step acked c older n (eqb n c.number) (list_any (λ k. eqb k c.number) acked) refl refl (safe_links acked older c.source) (safe_links acked older n)

-- tests that agree on the members
any_same : (p q : ℕ → Bool) (xs : List ℕ) → ((x : ℕ) → Has xs x → p x ≡ q x) → list_any p xs ≡ list_any q xs
any_same p q [] h = refl
any_same p q (x ∷ xs) h = rw (h x (inl refl), any_same p q xs (λ y (m : Has xs y). h y (inr m))) refl

last_here : (c : Choice) (older : List Choice) (n : ℕ) → eqb n c.number ≡ true → last_serial (c ∷ older) n ≡ (c.first_serial + c.count) - 1
unfolding last_serial
last_here c older n e = rw e refl

last_later : (c : Choice) (older : List Choice) (n : ℕ) → eqb n c.number ≡ false → last_serial (c ∷ older) n ≡ last_serial older n
unfolding last_serial
last_later c older n e = rw e refl

abbrev is_over : ℕ → ℕ → List Choice → ℕ → Bool
is_over safe heard chosen n = ltb safe n && leb (last_serial chosen n + 3) heard

-- an older number's last serial is found behind the newest
over_older : (safe heard : ℕ) (c : Choice) (older : List Choice) (f n x : ℕ) → AreChained (c ∷ older) → Has (filter (λ m. leb f m) (sources_from older n)) x → is_over safe heard (c ∷ older) x ≡ is_over safe heard older x
over_older safe heard c older f n x chained has =
    let low : x ≤ length older = sources_low older n x chained.1 (has_filter (λ m. leb f m) (sources_from older n) x has) in
    let e : eqb x c.number ≡ false = ne_eqb x c.number (λ (q : x ≡ c.number). omega (arith, chained.0.number)) in
    ap (λ s. ltb safe x && leb (s + 3) heard) (last_later c older x e)

abbrev lost_there : ℕ → ℕ → ℕ → List Choice → ℕ → Bool
lost_there f safe heard chosen n = list_any (is_over safe heard chosen) (filter (λ m. leb f m) (sources_from chosen n))

behind : (f safe heard : ℕ) (c : Choice) (older : List Choice) (n : ℕ) → AreChained (c ∷ older) → list_any (is_over safe heard (c ∷ older)) (filter (λ m. leb f m) (sources_from older n)) ≡ lost_there f safe heard older n
behind f safe heard c older n chained = any_same (is_over safe heard (c ∷ older)) (is_over safe heard older) (filter (λ m. leb f m) (sources_from older n)) (λ x has. over_older safe heard c older f n x chained has)

lost_step : (f safe heard : ℕ) (acked : List ℕ) (c : Choice) (older : List Choice) (n : ℕ) (b d : Bool) → eqb n c.number ≡ b → leb f c.number ≡ d → AreChained (c ∷ older) → lost_there f safe heard older c.source ≡ lost_in safe heard (map (sent_frame_of acked) (choices_from f older)) c.source → lost_there f safe heard older n ≡ lost_in safe heard (map (sent_frame_of acked) (choices_from f older)) n → lost_there f safe heard (c ∷ older) n ≡ lost_in safe heard (map (sent_frame_of acked) (choices_from f (c ∷ older))) n
unfolding lost_in
lost_step f safe heard acked c older n true true e d chained own rest =
    let p : leb f n ≡ true = ap (λ x. leb f x) (eqb-true _ _ e) ∙ d in
    rw (from_here c older n e, d, p, last_here c older n e, behind f safe heard c older c.source chained, own) (sym (if_true (eqb n c.number) _ _ e))
lost_step f safe heard acked c older n true false e d chained own rest =
    let p : leb f n ≡ false = ap (λ x. leb f x) (eqb-true _ _ e) ∙ d in
    let none : choices_from f older ≡ [] = none_from f older chained.1 (let low : c.number < f = leb-false _ _ d in omega (arith, chained.0.number)) in
    let a : lost_in safe heard (map (sent_frame_of acked) (choices_from f older)) c.source ≡ false = ap (λ cs. lost_in safe heard (map (sent_frame_of acked) cs) c.source) none in
    let b : lost_in safe heard (map (sent_frame_of acked) (choices_from f older)) n ≡ false = ap (λ cs. lost_in safe heard (map (sent_frame_of acked) cs) n) none in
    rw (from_here c older n e, d, p) (behind f safe heard c older c.source chained ∙ (own ∙ (a ∙ sym b)))
lost_step f safe heard acked c older n false true e d chained own rest =
    rw (from_later c older n e, d) (behind f safe heard c older n chained ∙ (rest ∙ sym (if_false (eqb n c.number) _ _ e)))
lost_step f safe heard acked c older n false false e d chained own rest =
    rw (from_later c older n e, d) (behind f safe heard c older n chained ∙ rest)

-- what was lost by the links
pub lost_links : (f safe heard : ℕ) (acked : List ℕ) (chosen : List Choice) (n : ℕ) → AreChained chosen → lost_there f safe heard chosen n ≡ lost_in safe heard (map (sent_frame_of acked) (choices_from f chosen)) n
unfolding sources_from lost_in
lost_links f safe heard acked [] n chained = refl
lost_links f safe heard acked (c ∷ older) n chained = lost_step f safe heard acked c older n (eqb n c.number) (leb f c.number) refl refl chained (lost_links f safe heard acked older c.source chained.1) (lost_links f safe heard acked older n chained.1)
