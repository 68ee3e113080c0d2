-- The plans of the program as values, what a closed one tells, and where a row more needs memory.
use Rattle.std.specs.Prelude.{◌≡◌, ℕ, ◌-◌, ◌<◌, ◌≤◌, Bool, cond, ◌&&◌, length, Ok, Err, vec_items, vec_len, vec_capacity, Option, Result, nat_lt, slice_index_or}
use Rattle.std.specs.Borrow.{Bor}
use Rattle.plan.specs.declared.rows.Refusal.{Refusal}
use Rattle.plan.specs.declared.rows.Refusal.TheVariants.{Unknown}
use Rattle.plan.specs.declared.rows.Task.{Task}
use Rattle.plan.specs.declared.open.OpenPlan.{OpenPlan}
use Rattle.plan.specs.declared.closed.ClosedPlan.{ClosedPlan}
use Rattle.plan.specs.Rows.{Plan, accesses, plan_of, row, row_of}
use Rattle.plan.specs.Rules.{banks_of}
use Rattle.plan.specs.Waits.{previous_of, waits_for}

abbrev pub opened : OpenPlan → Plan
opened p = plan_of p.head (vec_items p.tasks)

abbrev pub closed : ClosedPlan → Plan
closed p = plan_of p.head (vec_items p.tasks)

-- Memory is found wanting only where the table of tasks, or the newest task's list of named rows, has no room left.
abbrev pub TasksFull : OpenPlan → Type 0
TasksFull p = vec_capacity p.tasks ≤ vec_len p.tasks

abbrev pub NamesFull : OpenPlan → Type 0
NamesFull p = (t : Task) → t ≡ slice_index_or (vec_items p.tasks) (vec_len p.tasks - 1) t → vec_capacity t.after ≤ vec_len t.after

-- An answer where what was asked for is known, else the refusal of the unknown.
abbrev pub told : {X : Type 0} → Bool → X → Result X Refusal
told known x = cond known (Ok x) (Err Unknown)

abbrev pub TaskTold : Plan → ℕ → Result (Bor Task) Refusal → Type 0
TaskTold p i (Ok t) = (i < length p.rows) × (row_of t.now ≡ row p.rows i)
TaskTold p i (Err e) = (length p.rows ≤ i) × (e ≡ Unknown)

abbrev pub demand_told : Plan → ℕ → ℕ → Result ℕ Refusal
demand_told p i bank = told (nat_lt i (length p.rows) && nat_lt bank (banks_of p.head)) (accesses (row p.rows i) bank)

abbrev pub previous_told : Plan → ℕ → Result (Option ℕ) Refusal
previous_told p i = told (nat_lt i (length p.rows)) (previous_of p.rows i)

abbrev pub waits_told : Plan → ℕ → ℕ → Result Bool Refusal
waits_told p i k = told (nat_lt i (length p.rows) && nat_lt k (length p.rows)) (waits_for p.rows i k)
