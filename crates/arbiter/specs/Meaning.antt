-- What an arbiter means.
use Rattle.std.specs.Prelude.{◌≡◌, ℕ, ◌<◌, Bool, true, false, ◌≢◌, List, Some, Option}

-- Of an arbiter's state: how many sources it has, which of them wait, which was picked last, and the bound for a source, its own accesses and the counts.
-- `posted a s b` and `picked a s b` say that an accepted post of s, and a pick that answers s, may lead from a to b.
pub record Model (S : Type 0) : Type 1 where
  pub width : S → ℕ
  pub waiting : S → ℕ → Bool
  pub last : S → Option ℕ
  pub bound : S → ℕ → ℕ → List ℕ → ℕ
  pub posted : S → ℕ → S → Type 0
  pub picked : S → ℕ → S → Type 0

-- From a to b the source s, which did not wait, begins to wait, and nothing else changes.
pub record Post {S : Type 0} (m : Model S) (a : S) (s : ℕ) (b : S) : Type 0 where
  pub known : s < m.width a
  pub free : m.waiting a s ≡ false
  pub now : m.waiting b s ≡ true
  pub others : (o : ℕ) → o ≢ s → m.waiting b o ≡ m.waiting a o
  pub same : m.last b ≡ m.last a

-- From a to b the source s, which waited, waits no longer and is the last picked; the others wait as before.
pub record Pick {S : Type 0} (m : Model S) (a : S) (s : ℕ) (b : S) : Type 0 where
  pub waited : m.waiting a s ≡ true
  pub gone : m.waiting b s ≡ false
  pub others : (o : ℕ) → o ≢ s → m.waiting b o ≡ m.waiting a o
  pub now : m.last b ≡ Some s

-- The width and all bounds of b are those of a.
pub record Keeps {S : Type 0} (m : Model S) (a b : S) : Type 0 where
  pub width : m.width b ≡ m.width a
  pub bound : (s own : ℕ) (xs : List ℕ) → m.bound b s own xs ≡ m.bound a s own xs
