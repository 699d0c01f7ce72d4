-- What the tests before the fields say.
use Rattle.std.proofs.Common.{◌≡◌, ℕ, ◌≤◌, true, List, [], ◌∷◌, length, None, leb, eqb, refl, ap, ◌∙◌}
use Rattle.std.specs.Prelude.{slice_index}
use Rattle.std.proofs.lemmas.Bool.{le-leb}
use Rattle.sal_base.specs.Lists.{Each}
use Rattle.sal_wire.specs.Rules.{Test, first_fault, front_tests, is_kind, head_length}
use Rattle.sal_wire.specs.Parsing.{after_tests, parsed, parsed_as}

-- where all tests are passed, none fails
pub none_fails : (tests : List Test) → Each (λ t. t.0 ≡ true) tests → first_fault tests ≡ None
none_fails [] all = refl
none_fails (t ∷ tests) all = rw all.0 (none_fails tests all.1)

pub front_passes : (bytes : List ℕ) (kind : ℕ) → slice_index bytes 0 ≡ kind → slice_index bytes 1 ≡ 1 → is_kind kind ≡ true → 2 ≤ length bytes → head_length kind ≤ length bytes → first_fault (front_tests bytes) ≡ None
front_passes bytes kind is version known long whole =
    none_fails (front_tests bytes) (
      le-leb 2 (length bytes) long,
      (
        ap (λ (k : ℕ). is_kind k) is ∙ known,
        (
          ap (λ (v : ℕ). eqb v 1) version,
          (
            ap (λ (k : ℕ). leb (head_length k) (length bytes)) is ∙ le-leb (head_length kind) (length bytes) whole,
            tt,
          ),
        ),
      ),
    )

pub came_kind : (bytes : List ℕ) (kind : ℕ) → slice_index bytes 0 ≡ kind → first_fault (front_tests bytes) ≡ None → parsed bytes ≡ parsed_as kind bytes
unfolding parsed
came_kind bytes kind is none = ap (λ x. after_tests x (parsed_as (slice_index bytes 0) bytes)) none ∙ ap (λ (k : ℕ). parsed_as k bytes) is
