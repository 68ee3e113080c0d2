-- What set-up asks, and what a run rests on.
use Rattle.std.specs.Prelude.{◌≡◌, ◌≤◌, List, length, Option}
use Rattle.plan.specs.Rows.{Plan}
use Rattle.plan.specs.Rules.{banks_of}
use Rattle.date_check.specs.declared.dates.Dates.{Dates}
use Rattle.cluster.specs.declared.refusal.SetUpRefusal.{SetUpRefusal}
use Rattle.cluster.specs.declared.refusal.SetUpRefusal.TheVariants.{Range}
use Rattle.cluster.specs.Calls.{all_in_range, asked, is_late, late_refusal}
use Rattle.cluster.specs.Cycles.{lowest}

-- What is asked of the dates of a table with a row per task.
abbrev pub dates_refusal : Plan → List Dates → Option SetUpRefusal
dates_refusal p table = asked (all_in_range table (length p.rows)) Range (late_refusal (lowest (length p.rows) (is_late p table)))

-- A plan with a task, a row for each task, and an arbiter for each bank.
pub record Rests {A : Type 0} (p : Plan) (table : List Dates) (arbiters : List A) : Type 0 where
  pub some : 1 ≤ length p.rows
  pub row_per_task : length p.rows ≤ length table
  pub one_per_bank : length arbiters ≡ banks_of p.head
