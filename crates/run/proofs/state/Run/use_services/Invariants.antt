use Rattle.std.proofs.Common.{◌≡◌, ◌++◌, map, take, drop}
use Rattle.cluster.specs.Cycles.{service_used}
use Rattle.run.proofs.state.Run.use_services.Given as goal

abbrev pub invariant-loop-service : goal.invariant-loop-service
invariant-loop-service g l = l.service-items ≡ map service_used (take l.service-index l.initial.service-items) ++ drop l.service-index l.initial.service-items
