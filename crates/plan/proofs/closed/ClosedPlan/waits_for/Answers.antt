use Rattle.std.proofs.Common.{◌≡◌, rules, sym, ◌∙◌}
use Rattle.plan.specs.Plans.{closed}
use Rattle.plan.specs.Waits.{waits_for}
use Rattle.plan.proofs.Keeping.{known}
use Rattle.plan.proofs.Waiting.{waits_below}
use Rattle.plan.proofs.closed.ClosedPlan.waits_for.Goals as goal

pub returns-then-contains-clause-earlier : goal.returns-then-contains-clause-earlier
returns-then-contains-clause-earlier c waits =
    let p = closed c.args.self.now in
    let e : c.contains.result ≡ waits_for p.rows c.args.row c.args.other = search rules in
    waits_below p c.args.row c.args.other (known p c.args.self.now.kept) c.requires (sym e ∙ waits)

pub returns-else-contains-clause-earlier : goal.returns-else-contains-clause-earlier
returns-else-contains-clause-earlier c waits =
    let p = closed c.args.self.now in
    let e : c.eq.result ≡ waits_for p.rows c.args.row c.args.other = search rules in
    waits_below p c.args.row c.args.other (known p c.args.self.now.kept) c.requires (sym e ∙ waits)
