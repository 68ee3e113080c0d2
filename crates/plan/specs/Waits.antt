-- What a task waits for.
use Rattle.std.specs.Prelude.{◌≡◌, ◌≢◌, ◌<◌, ℕ, zero, suc, Bool, false, cond, ◌||◌, List, length, Some, None, Option, MatchOption, ◌==◌, slice_index_or}
use Rattle.plan.specs.declared.rows.Task.{Task}
use Rattle.plan.specs.Rows.{Row, row}
use Rattle.plan.specs.Rules.{member}

-- Task i of a list is the last at a place.
pub record IsLastAt (tasks : List Task) (place i : ℕ) : Type 0 where
  pub within : i < length tasks
  pub here : (t : Task) → (slice_index_or tasks i t).place ≡ place
  pub after : (k : ℕ) (t : Task) → i < k → k < length tasks → (slice_index_or tasks k t).place ≢ place

-- The last task of a list at a place, if one is there.
abbrev pub LastAt : List Task → ℕ → Option ℕ → Type 0
LastAt tasks place o = MatchOption o ((k : ℕ) (t : Task) → k < length tasks → (slice_index_or tasks k t).place ≢ place) (IsLastAt tasks place)

-- The latest row below i at a place, if there is one.
abbrev pub latest_at : List Row → ℕ → ℕ → Option ℕ
latest_at rows place zero = None
latest_at rows place (suc i) = cond ((row rows i).place == place) (Some i) (latest_at rows place i)

-- The task before row i at its place.
abbrev pub previous_of : List Row → ℕ → Option ℕ
previous_of rows i = latest_at rows (row rows i).place i

abbrev pub holds : Option ℕ → ℕ → Bool
holds None k = false
holds (Some x) k = x == k

-- A task waits for the tasks that it names and for the task before it at its place.
abbrev pub waits_for : List Row → ℕ → ℕ → Bool
waits_for rows i k = member k (row rows i).after || holds (previous_of rows i) k
