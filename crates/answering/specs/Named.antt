-- What a plan with the names of its tasks stands for.
use Rattle.std.specs.Prelude.{ℕ, List, map}
use Rattle.plan.specs.Plans.{closed}
use Rattle.plan.specs.Rows.{Plan}
use Rattle.answering.specs.declared.named.Named.{Named}

abbrev pub plan_of : Named → Plan
plan_of n = closed n.plan.now

abbrev pub names_of : Named → List (List ℕ)
names_of n = map (λ name. name.now) n.names.now
