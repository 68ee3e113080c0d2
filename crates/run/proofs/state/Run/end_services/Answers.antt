use Rattle.cluster.specs.Cycles.{end_service}
use Rattle.run.proofs.Steps.{goes_more}
use Rattle.run.proofs.state.Run.end_services.Goals as goal

pub loop-b-preserved : goal.loop-b-preserved
loop-b-preserved g c = goes_more end_service c.loop-b.b c.args.self.now c.loop-b.self c.end_service.new.self c.loop-b.invariant c.end_service.ensures
