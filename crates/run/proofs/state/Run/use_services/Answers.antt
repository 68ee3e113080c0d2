use Rattle.std.proofs.Common.{◌≡◌, ◌+◌, None, set, sym, subst, arith}
use Rattle.cluster.specs.Cycles.{service_used}
use Rattle.run.proofs.Steps.{mapped, mapped_more}
use Rattle.run.proofs.state.Run.use_services.Goals as goal

pub loop-service-preserved : goal.loop-service-preserved
loop-service-preserved g c =
    let run = c.args.self.now in
    let k = c.loop-service.service-index in
    subst (λ x. set c.loop-service.service-items k x ≡ mapped service_used (k + 1) run.services) (sym c.one_used.ensures) (mapped_more service_used run.services c.loop-service.service-items k None (omega (arith, run.served, c.loop-service-test.true)) c.loop-service.invariant)
