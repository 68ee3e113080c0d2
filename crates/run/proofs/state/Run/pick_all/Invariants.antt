use Rattle.plan.specs.Rules.{latency_of}
use Rattle.arbiter.specs.Given.{model}
use Rattle.cluster.specs.Cycles.{Turns}
use Rattle.run.specs.Views.{Moves, planned}
use Rattle.run.proofs.state.Run.pick_all.Given as goal

abbrev pub invariant-loop-b : goal.invariant-loop-b
invariant-loop-b g l = Moves (Turns (model g.A.Arbiter) (latency_of (planned l.initial.self).head) l.b) l.initial.self l.self
