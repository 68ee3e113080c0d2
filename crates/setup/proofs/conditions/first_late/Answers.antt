use Rattle.std.proofs.Common.{length, rules}
use Rattle.plan.specs.Plans.{closed}
use Rattle.cluster.specs.Calls.{is_late}
use Rattle.setup.proofs.Lowest.{lowest_is}
use Rattle.setup.proofs.conditions.first_late.Goals as goal

pub returns : goal.returns
returns c =
    let dates = c.args.dates.now in
    lowest_is (is_late (closed c.args.plan.now) dates) (length dates) c.position.result (search rules) (search rules)
