use Rattle.arbiter.specs.Given.{model}
use Rattle.run.proofs.Order.{cycled, still_unbroken}
use Rattle.run.proofs.state.Run.advance.Goals as goal

pub close-requires : goal.close-requires
close-requires g c = still_unbroken (model g.A.Arbiter) c.args.self.now c.pick_all.new.self c.use_cycles.new.self c.end_services.new.self c.retire_all.new.self c.pick_all.ensures c.use_cycles.ensures c.end_services.ensures c.retire_all.ensures c.requires

pub returns : goal.returns
returns g c = cycled (model g.A.Arbiter) c.args.self.now c.pick_all.new.self c.use_cycles.new.self c.end_services.new.self c.retire_all.new.self c.pick_all.ensures c.use_cycles.ensures c.end_services.ensures c.retire_all.ensures c.close.new.self c.close.ensures
