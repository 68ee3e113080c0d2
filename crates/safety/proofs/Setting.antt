-- What stays in a run, and the facts that set-up asked for.
use Rattle.std.proofs.Common.{◌≡◌, ℕ, ◌-◌, ◌<◌, ◌≤◌, Bool, false, List, length, get_or, Some, None, Option}
use Rattle.plan.specs.Rows.{Plan, accesses, row}
use Rattle.plan.specs.Rules.{Kept, banks_of, places_of, latency_of, period_of}
use Rattle.arbiter.specs.Laws.{Lawful}
use Rattle.arbiter.specs.Meaning.{Model}
use Rattle.date_check.specs.declared.dates.Dates.{Dates}
use Rattle.date_check.specs.Sound.{dated, finish, meets}
use Rattle.cluster.specs.declared.service.Service.{Service}

pub record Setting (A : Type 0) : Type 1 where
  pub model : Model A
  pub laws : Lawful model
  pub plan : Plan
  pub kept : Kept plan
  pub table : List Dates
  pub arbiters : List A
  -- any arbiter, for reading lists of them
  pub some : A
  pub one_per_bank : length arbiters ≡ banks_of plan.head
  pub wide : (b : ℕ) → b < banks_of plan.head → places_of plan.head ≤ model.width (get_or arbiters b some)
  pub quiet : (b o : ℕ) → b < banks_of plan.head → model.waiting (get_or arbiters b some) o ≡ false
  pub takes_time : (i : ℕ) → i < length plan.rows → 1 ≤ (dated table i).response
  pub in_period : (i : ℕ) → i < length plan.rows → finish (dated table i) ≤ period_of plan.head

module _ {A : Type 0} (c : Setting A) where
  abbrev pub rows : ℕ
  rows = length c.plan.rows

  abbrev pub banks : ℕ
  banks = banks_of c.plan.head

  abbrev pub latency : ℕ
  latency = latency_of c.plan.head

  -- The place of task t, its cycles, and its accesses to bank b.
  abbrev pub home : ℕ → ℕ
  home t = (row c.plan.rows t).place

  abbrev pub cycles : ℕ → ℕ
  cycles t = (row c.plan.rows t).cycles

  abbrev pub demand : ℕ → ℕ → ℕ
  demand t b = accesses (row c.plan.rows t) b

  abbrev pub release : ℕ → ℕ
  release t = (dated c.table t).release

  abbrev pub due : ℕ → ℕ
  due t = finish (dated c.table t)

  -- Whom task t meets.
  abbrev pub met_by : ℕ → ℕ → Bool
  met_by t = meets c.plan.rows c.table t

  -- The arbiter of bank b at set-up.
  abbrev pub first : ℕ → A
  first b = get_or c.arbiters b c.some

  -- The cycles that a service has had.
  abbrev pub gone : Option Service → ℕ
  gone None = 0
  gone (Some x) = latency - x.left
