-- What the analysis answers, and what it leaves in the table.
use Rattle.std.specs.Prelude.{◌≡◌, ℕ, ◌-◌, ◌*◌, ◌<◌, ◌≤◌, true, false, List, length, Ok, Err, Result}
use Rattle.plan.specs.Rows.{Plan}
use Rattle.plan.specs.Rules.{period_of}
use Rattle.arbiter.specs.Meaning.{Model}
use Rattle.date_check.specs.declared.dates.Dates.{Dates}
use Rattle.date_check.specs.Sound.{Fits, dated}
use Rattle.date_check.specs.Verdict.{arbiters_fit}
use Rattle.consistency.specs.Dates.{Table, Consistent, Rounds, finish}
use Rattle.analysis.specs.declared.refusal.Refusal.{Refusal}
use Rattle.analysis.specs.declared.refusal.Refusal.TheVariants as refused
use Rattle.analysis.specs.Plans.{ConsistentDates, releases, responses, system}

-- The number of a refusal.
abbrev pub number_of : Refusal → ℕ
number_of refused.NoTask = 9
number_of refused.Arbiters = 10
number_of refused.Table = 11
number_of (refused.Late i f) = 12

-- Dates are granted: the tasks' rows of the table now hold the consistent dates, which were found in so many rounds and end within the period.
pub record Granted {S : Type 0} (m : Model S) (p : Plan) (arbiters : List S) (old new : List Dates) (rounds : ℕ) : Type 0 where
  pub consistent : ConsistentDates m p arbiters new
  pub in_period : (i : ℕ) → i < length p.rows → finish (releases new) (responses new) i ≤ period_of p.head
  -- The last round, which changes no release, is counted.
  pub counted : Rounds (system m p arbiters) rounds (releases new) (responses new)
  pub few : rounds ≤ 2 * length p.rows - 1
  -- No other row is written.
  pub same_length : length new ≡ length old
  pub others : (i : ℕ) → length p.rows ≤ i → dated new i ≡ dated old i

-- Row i is the lowest whose consistent dates end after the period, and f is its finish.
pub record LateRow {S : Type 0} (m : Model S) (p : Plan) (arbiters : List S) (i f : ℕ) : Type 0 where
  pub rel : Table
  pub res : Table
  pub consistent : Consistent (system m p arbiters) rel res
  pub task : i < length p.rows
  pub ends : f ≡ finish rel res i
  pub late : period_of p.head < f
  pub lowest : (k : ℕ) → k < i → finish rel res k ≤ period_of p.head

-- What each answer says of a plan, its arbiters and a table, old before the call and new after it: the first question with a no gives the refusal, which leaves the table as it was.
abbrev pub Answer : {S : Type 0} → Model S → Plan → List S → List Dates → List Dates → Result ℕ Refusal → Type 0
Answer m p arbiters old new (Ok rounds) = Fits m p arbiters old × Granted m p arbiters old new rounds
Answer m p arbiters old new (Err refused.NoTask) = (length p.rows ≡ 0) × (new ≡ old)
Answer m p arbiters old new (Err refused.Arbiters) = (1 ≤ length p.rows) × (arbiters_fit m p arbiters ≡ false) × (new ≡ old)
Answer m p arbiters old new (Err refused.Table) = (1 ≤ length p.rows) × (arbiters_fit m p arbiters ≡ true) × (length old < length p.rows) × (new ≡ old)
Answer m p arbiters old new (Err (refused.Late i f)) = Fits m p arbiters old × LateRow m p arbiters i f × (new ≡ old)
