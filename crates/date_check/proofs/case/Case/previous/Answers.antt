use Rattle.std.proofs.Common.{rules}
use Rattle.plan.specs.Plans.{closed}
use Rattle.plan.specs.Rows.{row}
use Rattle.date_check.proofs.Finishing.{latest_earlier}
use Rattle.date_check.proofs.case.Case.previous.Goals as goal

pub returns-clause-earlier : goal.returns-clause-earlier
returns-clause-earlier g c =
    let rows = (closed c.args.self.now.plan.now).rows in
    search (rules, latest_earlier rows (row rows c.args.i).place c.args.i)
