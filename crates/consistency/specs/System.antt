-- What dates depend on, and nothing else of a plan and its arbiters.
use Rattle.std.specs.Prelude.{◌≡◌, ℕ, ◌<◌, ◌≤◌, Bool, true}

-- Tasks are the rows below the number of tasks.
pub record System : Type 0 where
  -- How many tasks there are.
  pub tasks : ℕ
  -- The earliest date of task i.
  pub earliest : ℕ → ℕ
  -- Does task i wait for task k? It is only ever asked of rows k before i.
  pub waits : ℕ → ℕ → Bool
  -- Are tasks i and k at different places?
  pub apart : ℕ → ℕ → Bool
  -- What task i takes at worst if the marked tasks meet it.
  pub work : ℕ → (ℕ → Bool) → ℕ
  -- The first date from a date on at which a task may start: that date itself where tasks may start at any.
  pub start : ℕ → ℕ

-- What is asked of a system.
pub record Lawful (y : System) : Type 0 where
  -- No task takes less because more tasks meet it.
  pub work_grows : (i : ℕ) → i < y.tasks → (few more : ℕ → Bool) → ((k : ℕ) → k < y.tasks → few k ≡ true → more k ≡ true) → y.work i few ≤ y.work i more
  -- Each task takes at least one cycle.
  pub work_positive : (i : ℕ) → i < y.tasks → (met : ℕ → Bool) → 1 ≤ y.work i met
  -- A start from a date on is not before it.
  pub start_after : (t : ℕ) → t ≤ y.start t
  -- From a start on, the first start is that start itself.
  pub start_steady : (t : ℕ) → y.start (y.start t) ≡ y.start t
  -- Starts come in the order of the dates that they are from.
  pub start_ordered : (s t : ℕ) → s ≤ t → y.start s ≤ y.start t
