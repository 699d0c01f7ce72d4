-- The forms of a word, as `clap` sees them and as the grammar does.
use Rattle.std.proofs.Common.{◌≡◌, ℕ, ◌==◌, Bool, true, false, cond, refl, ap₂, subst, eqb-true, List, [], ◌∷◌, ◌++◌, Option, Some, None, is_some}
use Rattle.std.proofs.Math.Logic.{∥∥₁_elim}
use Rattle.std.proofs.Math.Bool.{Bool-set}
use Rattle.std.specs.Prelude.{slice_get, option_and_then}
use Rattle.std.specs.Str.{bytes_eq, chars, IsUtf8, encode_utf8_all}
use Rattle.std.specs.Char.{encode_utf8}
use Rattle.std.proofs.lemmas.Str.{encodes-chars, IsUtf8-past_char}
use Rattle.clap.specs.Lexer.{long_of, short_of, short_of_rest}
use Rattle.sal_words.specs.Words.{Text, name_and_value, dashes, is_dashed, option_of}

-- the word after whose hyphen this stands begins with a character
abbrev pub Begins : Text → Type 0
Begins flags = is_some (slice_get (chars flags) 0) ≡ true

pub data Form (word : Text) : Type 0 where
  ending : bytes_eq word dashes ≡ true → is_dashed word ≡ true → Form word
  long : (o : Text × Option Text) → bytes_eq word dashes ≡ false → long_of word ≡ Some o → option_of word ≡ Some o → is_dashed word ≡ true → Form word
  short : (flag : ℕ) (flags : Text) → bytes_eq word dashes ≡ false → long_of word ≡ None → short_of word ≡ Some (flag ∷ flags) → option_of word ≡ None → is_dashed word ≡ true → Form word
  plain : bytes_eq word dashes ≡ false → long_of word ≡ None → short_of word ≡ None → is_dashed word ≡ false → Form word

pub form_of : (word : Text) → Form word
form_of [] = plain refl refl refl refl
form_of (a ∷ []) = go (a == 45) refl
  where
    go : (t : Bool) → (a == 45) ≡ t → Form (a ∷ [])
    go true e = plain (rw e refl) (rw e refl) (rw e refl) refl
    go false e = plain (rw e refl) (rw e refl) (rw e refl) refl
form_of (a ∷ b ∷ []) = go (a == 45) (b == 45) refl refl
  where
    go : (t u : Bool) → (a == 45) ≡ t → (b == 45) ≡ u → Form (a ∷ b ∷ [])
    go false u e f = plain (rw e refl) (rw e refl) (rw e refl) (rw e refl)
    go true true e f = ending (rw (e, f) refl) (rw e refl)
    go true false e f = short b [] (rw (e, f) refl) (rw (e, f) refl) (rw (e, f) refl) refl (rw e refl)
form_of (a ∷ b ∷ d ∷ rest) = go (a == 45) (b == 45) refl refl
  where
    go : (t u : Bool) → (a == 45) ≡ t → (b == 45) ≡ u → Form (a ∷ b ∷ d ∷ rest)
    go false u e f = plain (rw e refl) (rw e refl) (rw e refl) (rw e refl)
    go true true e f = long (name_and_value (d ∷ rest)) (rw (e, f) refl) (rw (e, f) refl) (rw (e, f) refl) (rw e refl)
    go true false e f = short b (d ∷ rest) (rw (e, f) refl) (rw (e, f) refl) (rw (e, f) refl) (rw (e, f) refl) (rw e refl)

hyphen : (flags : Text) → 45 ∷ flags ≡ encode_utf8 45 ++ flags
unfolding encode_utf8
hyphen flags = refl

-- text after a hyphen begins with a character
pub begins : (flag : ℕ) (flags : Text) → IsUtf8 (45 ∷ flag ∷ flags) → Begins (flag ∷ flags)
begins flag flags u = go (chars (flag ∷ flags)) (encodes-chars (flag ∷ flags) (IsUtf8-past_char (45 ∷ flag ∷ flags) (flag ∷ flags) 45 u (hyphen (flag ∷ flags))))
  where
    go : (cs : List ℕ) → encode_utf8_all cs ≡ flag ∷ flags → is_some (slice_get cs 0) ≡ true
    go [] e = absurd (cc)
    go (c ∷ cs) e = refl

-- what stands after the hyphen
after_hyphen : (word : Text) (flag : ℕ) (flags : Text) → short_of word ≡ Some (flag ∷ flags) → word ≡ 45 ∷ flag ∷ flags
after_hyphen [] flag flags e = absurd (cc)
after_hyphen (a ∷ []) flag flags e = go (a == 45) e
  where
    go : (t : Bool) → option_and_then short_of_rest (cond t (Some []) None) ≡ Some (flag ∷ flags) → a ∷ [] ≡ 45 ∷ flag ∷ flags
    go true h = absurd (cc)
    go false h = absurd (cc)
after_hyphen (a ∷ b ∷ rest) flag flags e = go (a == 45) refl e
  where
    last : (u : Bool) → a ≡ 45 → cond u None (Some (b ∷ rest)) ≡ Some (flag ∷ flags) → a ∷ b ∷ rest ≡ 45 ∷ flag ∷ flags
    last true head h = absurd (cc)
    last false head h =
        let tail : b ∷ rest ≡ flag ∷ flags = cc in
        ap₂ (λ (x : ℕ) (xs : Text). x ∷ xs) head tail

    go : (t : Bool) → (a == 45) ≡ t → option_and_then short_of_rest (cond t (Some (b ∷ rest)) None) ≡ Some (flag ∷ flags) → a ∷ b ∷ rest ≡ 45 ∷ flag ∷ flags
    go true same h = last (b == 45) (eqb-true a 45 same) h
    go false same h = absurd (cc)

pub text_begins : (word : Text) (flag : ℕ) (flags : Text) → ∥ IsUtf8 word ∥₁ → short_of word ≡ Some (flag ∷ flags) → Begins (flag ∷ flags)
text_begins word flag flags u e = ∥∥₁_elim u (Bool-set _ _) (λ t. begins flag flags (subst IsUtf8 (after_hyphen word flag flags e) t))
