use Rattle.std.proofs.Common.{take, ap, ◌∙◌, arith, rules}
use Rattle.plan.specs.Plans.{closed}
use Rattle.arbiter.specs.Given.{model}
use Rattle.setup.specs.Questions.{dates_refusal}
use Rattle.setup.proofs.Taken.{dates_decide}
use Rattle.setup.proofs.conditions.ask.Goals as goal

pub returns-clause-refusal : goal.returns-clause-refusal
returns-clause-refusal g c =
    let plan = closed c.args.plan.now in
    let dates = c.args.dates.now in
    c.ask_dates.ensures
    ∙ ap (λ n. dates_refusal plan (take n dates)) c.len-rows.ensures
    ∙ dates_decide (model g.A.Arbiter) plan dates c.args.arbiters.now (search rules) (search rules) (omega arith) (search rules)
