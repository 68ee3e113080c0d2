use Rattle.cluster.specs.Cycles.{retire}
use Rattle.cluster.specs.States.{each}
use Rattle.run.specs.Views.{Goes}
use Rattle.run.proofs.state.Run.retire_all.Given as goal

abbrev pub invariant-loop-place : goal.invariant-loop-place
invariant-loop-place g l = Goes (each l.place retire) l.initial.self l.self
