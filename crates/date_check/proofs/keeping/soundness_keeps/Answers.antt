use Rattle.arbiter.specs.Given.{model}
use Rattle.date_check.proofs.Independence.{soundness_keeps}
use Rattle.date_check.proofs.keeping.soundness_keeps.Goals as goal

pub returns-clause-keeps : goal.returns-clause-keeps
returns-clause-keeps g c = soundness_keeps (model g.A.Arbiter)
