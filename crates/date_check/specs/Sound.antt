-- When a table of dates is sound for a plan and its arbiters, one arbiter per bank.
use Rattle.std.specs.Prelude.{◌≡◌, ℕ, ◌+◌, ◌*◌, ◌<◌, ◌≤◌, Bool, true, cond, not, ◌&&◌, List, [], ◌∷◌, map, length, ◌==◌, nat_lt, slice_index_or}
use Rattle.std.specs.List.{range_with_len, AllByRecursion}
use Rattle.plan.specs.Rows.{Plan, Row, accesses, row}
use Rattle.plan.specs.Rules.{banks_of, latency_of, period_of, places_of}
use Rattle.plan.specs.Waits.{waits_for}
use Rattle.arbiter.specs.Counts.{sum_below}
use Rattle.arbiter.specs.Meaning.{Model}
use Rattle.date_check.specs.declared.dates.Dates.{Dates}

-- The finish is the release and the response together.
abbrev pub finish : Dates → ℕ
finish d = d.release + d.response

-- Row i of a table; only rows below its length mean anything.
abbrev pub dated : List Dates → ℕ → Dates
dated table i = slice_index_or table i (record { release = 0; response = 0 })

-- Each is released before the other's finish; windows that only touch do not overlap.
abbrev pub overlap : Dates → Dates → Bool
overlap d e = nat_lt d.release (finish e) && nat_lt e.release (finish d)

-- Tasks i and k meet if they are at different places and their windows overlap.
abbrev pub meets : List Row → List Dates → ℕ → ℕ → Bool
meets rows table i k = not ((row rows i).place == (row rows k).place) && overlap (dated table i) (dated table k)

-- What task k adds to the load of place o on a bank: its accesses there, if it is at o and among those that are met.
abbrev pub share : List Row → (ℕ → Bool) → ℕ → ℕ → ℕ → ℕ
share rows met bank o k = cond ((row rows k).place == o && met k) (accesses (row rows k) bank) 0

-- The load of place o on a bank: the accesses of all tasks at o that are met.
abbrev pub load : List Row → (ℕ → Bool) → ℕ → ℕ → ℕ
load rows met bank o = sum_below (length rows) (share rows met bank o)

-- The loads of all 32 sources.
unfoldable pub loads : List Row → (ℕ → Bool) → ℕ → List ℕ
loads rows met bank = map (load rows met bank) (range_with_len 0 32)

-- The bounds for task i, added up over the banks from this one on, each with its arbiter.
abbrev pub services : {S : Type 0} → Model S → List Row → (ℕ → Bool) → ℕ → ℕ → List S → ℕ
services m rows met i bank [] = 0
services m rows met i bank (a ∷ rest) = m.bound a (row rows i).place (accesses (row rows i) bank) (loads rows met bank) + services m rows met i (bank + 1) rest

-- What task i takes at most if these tasks are met: its cycles, and the latency of each service that its banks' bounds allow for.
abbrev pub work : {S : Type 0} → Model S → Plan → List S → ℕ → (ℕ → Bool) → ℕ
work m p arbiters i met = (row p.rows i).cycles + latency_of p.head * services m p.rows met i 0 arbiters

-- What task i takes at worst under these dates.
abbrev pub worst : {S : Type 0} → Model S → Plan → List S → List Dates → ℕ → ℕ
worst m p arbiters table i = work m p arbiters i (meets p.rows table i)

-- What dates are judged for: a plan with a task, one arbiter per bank, none narrower than the places, and a row per task.
pub record Fits {S : Type 0} (m : Model S) (p : Plan) (arbiters : List S) (table : List Dates) : Type 0 where
  pub some : 1 ≤ length p.rows
  pub one_per_bank : length arbiters ≡ banks_of p.head
  pub wide : AllByRecursion (λ a. places_of p.head ≤ m.width a) arbiters
  pub row_per_task : length p.rows ≤ length table

-- Sound dates.
pub record Sound {S : Type 0} (m : Model S) (p : Plan) (arbiters : List S) (table : List Dates) : Type 0 where
  -- No task is released before its earliest date,
  pub not_early : (i : ℕ) → i < length p.rows → (row p.rows i).earliest ≤ (dated table i).release
  -- nor before the finish of a task that it waits for.
  pub in_order : (i k : ℕ) → i < length p.rows → waits_for p.rows i k ≡ true → finish (dated table k) ≤ (dated table i).release
  -- Each response covers what its task takes at worst.
  pub covered : (i : ℕ) → i < length p.rows → worst m p arbiters table i ≤ (dated table i).response
  -- Each finish lies within the period.
  pub in_period : (i : ℕ) → i < length p.rows → finish (dated table i) ≤ period_of p.head
