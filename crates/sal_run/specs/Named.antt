-- Which numbers events named.
use Rattle.std.specs.Prelude.{◌≡◌, ℕ, ◌≤◌, Bool, true, ◌||◌, List, ◌==◌}
use Rattle.std.specs.List.{list_any}
use Rattle.sal_world.specs.World.{WorldEvent}
use Rattle.sal_run.specs.Marks.{Marks, is_marked}

-- the marks are those of the numbers that these events named
pub record AreNamed (names : WorldEvent → ℕ → Bool) (events : List WorldEvent) (m : Marks) : Type 0 where
  pub marked : (k : ℕ) → is_marked m k ≡ list_any (λ e. names e k) events
  pub known : (k : ℕ) → 1 ≤ k → k ≤ m.known → is_marked m k ≡ true

-- one number more is marked
pub record IsMarked (number : ℕ) (old new : Marks) : Type 0 where
  pub marked : (k : ℕ) → is_marked new k ≡ (number == k || is_marked old k)
  pub known : new.known ≡ old.known
