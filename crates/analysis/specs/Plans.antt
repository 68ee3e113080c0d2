-- Plans and their arbiters as systems of tasks, and what is proved of their dates.
use Rattle.std.specs.Prelude.{ℕ, ◌<◌, ◌≤◌, not, List, length, ◌==◌}
use Rattle.std.specs.List.{AllByRecursion}
use Rattle.plan.specs.Rows.{Plan, row}
use Rattle.plan.specs.Rules.{Kept, places_of, period_of}
use Rattle.plan.specs.Waits.{waits_for}
use Rattle.arbiter.specs.Meaning.{Model}
use Rattle.date_check.specs.declared.dates.Dates.{Dates}
use Rattle.date_check.specs.Sound.{Sound, dated, finish, work}
use Rattle.consistency.specs.System.{System}
use Rattle.consistency.specs.Dates.{Consistent}
use Rattle.consistency.specs.Theorem.{Determined, Ending}

-- What the dates of a plan depend on: its rows, what each task takes if certain tasks meet it, and that tasks may start at any date.
abbrev pub system : {S : Type 0} → Model S → Plan → List S → System
system m p arbiters = record {
  tasks = length p.rows;
  earliest = λ i. (row p.rows i).earliest;
  waits = λ i k. waits_for p.rows i k;
  apart = λ i k. not ((row p.rows i).place == (row p.rows k).place);
  work = λ i met. work m p arbiters i met;
  start = λ t. t;
}

-- The columns of a table.
abbrev pub releases : List Dates → ℕ → ℕ
releases table i = (dated table i).release

abbrev pub responses : List Dates → ℕ → ℕ
responses table i = (dated table i).response

-- A table holds consistent dates of a plan.
abbrev pub ConsistentDates : {S : Type 0} → Model S → Plan → List S → List Dates → Type 0
ConsistentDates m p arbiters table = Consistent (system m p arbiters) (releases table) (responses table)

pub record Dated {S : Type 0} (m : Model S) (p : Plan) (arbiters : List S) : Type 0 where
  -- There is exactly one table of consistent dates,
  pub determined : Determined (system m p arbiters)
  -- the rounds find it, after at most 2n − 1 of them,
  pub ending : Ending (system m p arbiters)
  -- and where its finishes lie within the period, it is sound.
  pub sound : (table : List Dates) → ConsistentDates m p arbiters table → ((i : ℕ) → i < length p.rows → finish (dated table i) ≤ period_of p.head) → Sound m p arbiters table

-- This holds of every plan that keeps its rules, with arbiters none of which is narrower than its places.
abbrev pub PlansAreDated : {S : Type 0} → Model S → Type 0
PlansAreDated {S} m = (p : Plan) (arbiters : List S) → Kept p → AllByRecursion (λ a. places_of p.head ≤ m.width a) arbiters → Dated m p arbiters
