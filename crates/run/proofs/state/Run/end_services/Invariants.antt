use Rattle.cluster.specs.Cycles.{end_service}
use Rattle.cluster.specs.States.{each}
use Rattle.run.specs.Views.{Goes}
use Rattle.run.proofs.state.Run.end_services.Given as goal

abbrev pub invariant-loop-b : goal.invariant-loop-b
invariant-loop-b g l = Goes (each l.b end_service) l.initial.self l.self
