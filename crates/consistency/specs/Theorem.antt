-- What is proved of consistent dates and of the rounds, for every lawful system.
use Rattle.std.specs.Prelude.{◌≡◌, ℕ, ◌-◌, ◌*◌, ◌≤◌}
use Rattle.consistency.specs.System.{System, Lawful}
use Rattle.consistency.specs.Dates.{Table, Same, AtMost, Covered, SmallestResponses, Consistent, Rounds}

-- Releases determine the smallest responses, and the system determines the consistent dates.
pub record Determined (y : System) : Type 0 where
  -- Given releases have a table of smallest responses,
  pub responses_exist : (rel : Table) → (res : Table) × SmallestResponses y rel res
  -- only one,
  pub responses_unique : (rel res other : Table) → SmallestResponses y rel res → SmallestResponses y rel other → Same y res other
  -- and it is the least: no table of responses that cover what their tasks take at worst is below it anywhere.
  pub responses_least : (rel res other : Table) → SmallestResponses y rel res → Covered y rel other → AtMost y res other
  -- There is a table of consistent dates,
  pub dates_exist : (rel : Table) × (res : Table) × Consistent y rel res
  -- and only one.
  pub dates_unique : (rel res rel' res' : Table) → Consistent y rel res → Consistent y rel' res' → Same y rel rel' × Same y res res'

-- The rounds end at the consistent dates.
pub record Ending (y : System) : Type 0 where
  -- Some round is the last,
  pub last_exists : (count : ℕ) × (rel : Table) × (res : Table) × Rounds y count rel res
  -- and its dates are consistent.
  pub last_consistent : (count : ℕ) (rel res : Table) → Rounds y count rel res → Consistent y rel res
  -- The number of rounds is one number,
  pub count_unique : (count count' : ℕ) (rel res rel' res' : Table) → Rounds y count rel res → Rounds y count' rel' res' → count ≡ count'
  -- at most 2n − 1 for n tasks, if there are any.
  pub count_limit : (count : ℕ) (rel res : Table) → 1 ≤ y.tasks → Rounds y count rel res → count ≤ 2 * y.tasks - 1

abbrev pub DatesAreDetermined : Type 0
DatesAreDetermined = (y : System) → Lawful y → Determined y

abbrev pub RoundsEnd : Type 0
RoundsEnd = (y : System) → Lawful y → Ending y
