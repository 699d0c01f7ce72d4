-- What a book knows of its text.
use Rattle.std.specs.Prelude.{◌≡◌, ℕ, ◌≤◌, List, length, Option, IfSome}
use Rattle.sal_world.specs.LineText.{most_journal}

-- so many bytes are held, where that is told, which are no more than a journal may have
pub record IsCounted (held : Option (List ℕ)) (written : ℕ) : Type 0 where
  pub count : IfSome held (λ text. length text ≡ written)
  pub inside : written ≤ most_journal
