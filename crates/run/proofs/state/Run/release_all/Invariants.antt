use Rattle.cluster.specs.Cycles.{releases}
use Rattle.run.specs.Views.{Goes, planned, table}
use Rattle.run.proofs.state.Run.release_all.Given as goal

abbrev pub invariant-loop-row : goal.invariant-loop-row
invariant-loop-row g l = Goes (releases (planned l.initial.self) (table l.initial.self) l.row) l.initial.self l.self
