use Rattle.analysis.specs.Workings.{FirstOpenOf, column}
use Rattle.analysis.proofs.order.first_open.Given as goal

abbrev pub invariant-loop-k : goal.invariant-loop-k
invariant-loop-k l = FirstOpenOf l.marks (column l.releases) l.k-counter l.first
