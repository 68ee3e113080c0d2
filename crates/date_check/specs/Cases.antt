-- A case that is judged, as the check holds it.
use Rattle.std.specs.Prelude.{ℕ, ◌<◌, length}
use Rattle.plan.specs.Plans.{closed}
use Rattle.plan.specs.Rows.{Plan}
use Rattle.arbiter.specs.declared.Arbiter.{Ghosts}
use Rattle.date_check.specs.declared.case.Case.{Case}

abbrev pub plan_of : {S : Type 0} {d : Ghosts S} → Case S d → Plan
plan_of c = closed c.plan.now

-- Row i is one of the plan's.
abbrev pub HasRow : {S : Type 0} {d : Ghosts S} → Case S d → ℕ → Type 0
HasRow c i = i < length (plan_of c).rows
