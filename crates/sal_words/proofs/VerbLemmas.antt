-- What names and options mean for a command.
use Rattle.std.proofs.Common.{◌≡◌, ◌∙◌, ℕ, ◌<◌, ◌≤◌, refl, sym, ap, subst, arith, List, [], ◌∷◌, length, get_or, Option, Some, None, Result, Ok, Err}
use Rattle.std.specs.Borrow.{Bor}
use Rattle.clap.specs.Walk.{texts}
use Rattle.clap.specs.Matches.{found_of, first_value}
use Rattle.clap.specs.declared.parser.matches.ArgMatches.{ArgMatches}
use Rattle.sal_words.specs.declared.address.Address.{Address}
use Rattle.sal_words.specs.declared.command.Command.{Command}
use Rattle.sal_words.specs.declared.command.WordsFault.{WordsFault}
use Rattle.sal_words.specs.declared.command.WordsFault.TheVariants.{Usage, Memory}
use Rattle.sal_words.specs.declared.verb.Verb.{Verb}
use Rattle.sal_words.specs.Words.{Text, Said, ◌>>=◌, said}
use Rattle.sal_words.specs.Numbers.{address_of, number_within}
use Rattle.sal_words.specs.Form.{names_in, Reads, Says}
use Rattle.sal_words.specs.Commands.{Asked, asked_after, options_of, loop_of, send_of, receive_of, check_of, generate_of, two, three, four, threads_in, threads_option, loop_asked, send_asked, receive_asked, check_asked, generate_asked, asked_by, asks, Answers}

-- another number of names
pub not_two : (xs : List (Bor Text)) (names : List Text) (f : Text → Text → Option Asked) → texts xs ≡ names → (length xs ≡ 2 → ⊥) → two names f ≡ None
not_two [] names f e other = ap (λ ns. two ns f) (sym e)
not_two (a ∷ []) names f e other = ap (λ ns. two ns f) (sym e)
not_two (a ∷ b ∷ []) names f e other = absurd (other refl)
not_two (a ∷ b ∷ x ∷ rest) names f e other = ap (λ ns. two ns f) (sym e)

pub not_three : (xs : List (Bor Text)) (names : List Text) (f : Text → Text → Text → Option Asked) → texts xs ≡ names → (length xs ≡ 3 → ⊥) → three names f ≡ None
not_three [] names f e other = ap (λ ns. three ns f) (sym e)
not_three (a ∷ []) names f e other = ap (λ ns. three ns f) (sym e)
not_three (a ∷ b ∷ []) names f e other = ap (λ ns. three ns f) (sym e)
not_three (a ∷ b ∷ x ∷ []) names f e other = absurd (other refl)
not_three (a ∷ b ∷ x ∷ y ∷ rest) names f e other = ap (λ ns. three ns f) (sym e)

pub not_four : (xs : List (Bor Text)) (names : List Text) (f : Text → Text → Text → Text → Option Asked) → texts xs ≡ names → (length xs ≡ 4 → ⊥) → four names f ≡ None
not_four [] names f e other = ap (λ ns. four ns f) (sym e)
not_four (a ∷ []) names f e other = ap (λ ns. four ns f) (sym e)
not_four (a ∷ b ∷ []) names f e other = ap (λ ns. four ns f) (sym e)
not_four (a ∷ b ∷ x ∷ []) names f e other = ap (λ ns. four ns f) (sym e)
not_four (a ∷ b ∷ x ∷ y ∷ []) names f e other = absurd (other refl)
not_four (a ∷ b ∷ x ∷ y ∷ z ∷ rest) names f e other = ap (λ ns. four ns f) (sym e)

-- so many names
pub two_is : (xs : List (Bor Text)) (d : Bor Text) (names : List Text) (f : Text → Text → Option Asked) → texts xs ≡ names → 2 ≤ length xs → length xs < 3
    → two names f ≡ f (get_or xs 0 d).now (get_or xs 1 d).now
two_is [] d names f e lo hi = absurd (omega arith)
two_is (a ∷ []) d names f e lo hi = absurd (omega arith)
two_is (a ∷ b ∷ []) d names f e lo hi = ap (λ ns. two ns f) (sym e)
two_is (a ∷ b ∷ x ∷ rest) d names f e lo hi = absurd (omega arith)

pub three_is : (xs : List (Bor Text)) (d : Bor Text) (names : List Text) (f : Text → Text → Text → Option Asked) → texts xs ≡ names → 3 ≤ length xs → length xs < 4
    → three names f ≡ f (get_or xs 0 d).now (get_or xs 1 d).now (get_or xs 2 d).now
three_is [] d names f e lo hi = absurd (omega arith)
three_is (a ∷ []) d names f e lo hi = absurd (omega arith)
three_is (a ∷ b ∷ []) d names f e lo hi = absurd (omega arith)
three_is (a ∷ b ∷ x ∷ []) d names f e lo hi = ap (λ ns. three ns f) (sym e)
three_is (a ∷ b ∷ x ∷ y ∷ rest) d names f e lo hi = absurd (omega arith)

pub four_is : (xs : List (Bor Text)) (d : Bor Text) (names : List Text) (f : Text → Text → Text → Text → Option Asked) → texts xs ≡ names → 4 ≤ length xs → length xs < 5
    → four names f ≡ f (get_or xs 0 d).now (get_or xs 1 d).now (get_or xs 2 d).now (get_or xs 3 d).now
four_is [] d names f e lo hi = absurd (omega arith)
four_is (a ∷ []) d names f e lo hi = absurd (omega arith)
four_is (a ∷ b ∷ []) d names f e lo hi = absurd (omega arith)
four_is (a ∷ b ∷ x ∷ []) d names f e lo hi = absurd (omega arith)
four_is (a ∷ b ∷ x ∷ y ∷ []) d names f e lo hi = ap (λ ns. four ns f) (sym e)
four_is (a ∷ b ∷ x ∷ y ∷ z ∷ rest) d names f e lo hi = absurd (omega arith)

module _ (xs : List (Bor Text)) (d : Bor Text) (s : Said) (m : ArgMatches) (says : Says s m) (names : texts xs ≡ names_in m) where
  pub received : (o : Option Address) (at : Address) → 2 ≤ length xs → length xs < 3 → o ≡ address_of (get_or xs 0 d).now → o ≡ Some at
      → Some (receive_of (get_or xs 0 d).now at (get_or xs 1 d).now) ≡ receive_asked s
  received o at lo hi is was = sym (two_is xs d s.names _ (names ∙ says.names) lo hi ∙ ap (λ (q : Option Address). q >>= λ at. Some (receive_of (get_or xs 0 d).now at (get_or xs 1 d).now)) (sym is ∙ was))

  pub sent : (o : Option Address) (to : Address) → 3 ≤ length xs → length xs < 4 → o ≡ address_of (get_or xs 1 d).now → o ≡ Some to
      → Some (send_of (get_or xs 0 d).now (get_or xs 1 d).now to (get_or xs 2 d).now) ≡ send_asked s
  sent o to lo hi is was = sym (three_is xs d s.names _ (names ∙ says.names) lo hi ∙ ap (λ (q : Option Address). q >>= λ to. Some (send_of (get_or xs 0 d).now (get_or xs 1 d).now to (get_or xs 2 d).now)) (sym is ∙ was))

  pub checked : 3 ≤ length xs → length xs < 4 → Some (check_of (get_or xs 0 d).now (get_or xs 1 d).now (get_or xs 2 d).now) ≡ check_asked s
  checked lo hi = sym (three_is xs d s.names _ (names ∙ says.names) lo hi)

  pub looped : (o : Option ℕ) (threads : ℕ) → 4 ≤ length xs → length xs < 5 → o ≡ threads_in (first_value (found_of m) threads_option) → o ≡ Some threads
      → Some (loop_of (get_or xs 0 d).now (get_or xs 1 d).now (get_or xs 2 d).now (get_or xs 3 d).now threads) ≡ loop_asked s
  looped o threads lo hi is was =
      sym (four_is xs d s.names _ (names ∙ says.names) lo hi
      ∙ ap (λ (q : Option ℕ). q >>= λ threads. Some (loop_of (get_or xs 0 d).now (get_or xs 1 d).now (get_or xs 2 d).now (get_or xs 3 d).now threads)) (sym (is ∙ ap threads_in (says.values threads_option refl)) ∙ was))

  pub generated : (a b x y : Option ℕ) (start count width height : ℕ) → 4 ≤ length xs → length xs < 5
      → a ≡ number_within 0 18446744073709551615 (get_or xs 0 d).now → b ≡ number_within 1 10000 (get_or xs 1 d).now → x ≡ number_within 1 1280 (get_or xs 2 d).now → y ≡ number_within 1 720 (get_or xs 3 d).now
      → a ≡ Some start → b ≡ Some count → x ≡ Some width → y ≡ Some height → Some (generate_of start count width height) ≡ generate_asked s
  generated a b x y start count width height lo hi p q r t was_a was_b was_x was_y =
      sym (four_is xs d s.names _ (names ∙ says.names) lo hi
      ∙ (λ i. (sym p ∙ was_a) i >>= λ start. (sym q ∙ was_b) i >>= λ count. (sym r ∙ was_x) i >>= λ width. (sym t ∙ was_y) i >>= λ height. Some (generate_of start count width height)))

-- what was read gives the answer
pub answers_fault : (v : Verb) (fault : WordsFault) (o : Option Said) → Reads o (Err fault) → Answers (o >>= asked_by v) (Err fault)
answers_fault v Usage o e = ap (λ (q : Option Said). q >>= asked_by v) e
answers_fault v Memory o e = tt

pub answers_command : (v : Verb) (m : ArgMatches) (c : Command) → ((s : Said) → Says s m → Some (asks c) ≡ asked_by v s) → (o : Option Said) → Reads o (Ok m) → (o >>= asked_by v) ≡ Some (asks c)
answers_command v m c means o h = ap (λ (q : Option Said). q >>= asked_by v) h.1 ∙ sym (means h.0 h.2)

pub answers_usage : (v : Verb) (m : ArgMatches) → ((s : Said) → Says s m → None ≡ asked_by v s) → (o : Option Said) → Reads o (Ok m) → (o >>= asked_by v) ≡ None
answers_usage v m means o h = ap (λ (q : Option Said). q >>= asked_by v) h.1 ∙ sym (means h.0 h.2)

-- a word that names a command
pub named : (o : Option Verb) (v : Verb) (known words : List Text) (r : Result Command WordsFault) → Some v ≡ o → known ≡ options_of v
    → Answers (asked_after v (said known words)) r → Answers (o >>= λ v. asked_after v (said (options_of v) words)) r
named o v known words r is options h =
    subst (λ (q : Option Verb). Answers (q >>= λ v. asked_after v (said (options_of v) words)) r) is (subst (λ (ks : List Text). Answers (asked_after v (said ks words)) r) options h)
