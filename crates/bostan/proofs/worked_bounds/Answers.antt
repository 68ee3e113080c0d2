use Rattle.bostan.proofs.LevelBounds.{worked}
use Rattle.bostan.proofs.worked_bounds.Goals as goal

pub returns-clause-worked : goal.returns-clause-worked
returns-clause-worked c = worked
