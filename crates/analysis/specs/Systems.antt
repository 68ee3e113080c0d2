-- A plan and arbiters that fit it, as the analysis holds them.
use Rattle.plan.specs.Plans.{closed}
use Rattle.plan.specs.Rows.{Plan}
use Rattle.arbiter.specs.declared.Arbiter.{Ghosts}
use Rattle.arbiter.specs.Given.{model}
use Rattle.consistency.specs.System as systems
use Rattle.analysis.specs.declared.system.System.{System}
use Rattle.analysis.specs.Plans.{system}

abbrev pub plan_in : {S : Type 0} {d : Ghosts S} → System S d → Plan
plan_in s = closed s.plan.now

-- What the dates depend on.
abbrev pub system_of : {S : Type 0} {d : Ghosts S} → System S d → systems.System
system_of {d = d} s = system (model d) (closed s.plan.now) s.arbiters.now
