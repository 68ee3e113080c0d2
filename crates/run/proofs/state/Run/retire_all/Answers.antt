use Rattle.cluster.specs.Cycles.{retire}
use Rattle.run.proofs.Steps.{goes_more}
use Rattle.run.proofs.state.Run.retire_all.Goals as goal

pub loop-place-preserved : goal.loop-place-preserved
loop-place-preserved g c = goes_more retire c.loop-place.place c.args.self.now c.loop-place.self c.retire.new.self c.loop-place.invariant c.retire.ensures
