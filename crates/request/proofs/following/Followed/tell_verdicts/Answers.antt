use Rattle.std.proofs.Common.{rules}
use Rattle.request.proofs.Restored.{restored}
use Rattle.request.proofs.following.Followed.tell_verdicts.Goals as goal

pub returns : goal.returns
returns g c = record { kept = restored c.args.dates.now c.args.self.now.row _ _ _ (search rules) }
