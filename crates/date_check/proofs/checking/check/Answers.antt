use Rattle.std.proofs.Common.{◌≡◌}
use Rattle.std.proofs.lemmas.Result.{err_from_is_err_and}
use Rattle.plan.specs.Plans.{closed}
use Rattle.arbiter.specs.Given.{model}
use Rattle.date_check.specs.Verdict.{verdict}
use Rattle.date_check.proofs.Passing.{questions_let_pass, questions_refused, verdict_exact}
use Rattle.date_check.proofs.Reading.{kept_of}
use Rattle.date_check.proofs.checking.check.Goals as goal

pub returns-in_err-ask : goal.returns-in_err-ask
returns-in_err-ask g c =
    let m = model g.A.Arbiter in
    let plan = closed c.args.plan.now in
    let arbiters = c.args.arbiters.now in
    let dates = c.args.dates.now in
    let r = err_from_is_err_and c.from_residual.result c.from_residual.ensures.1 in
    let e : c.from_residual.result ≡ verdict m plan arbiters dates = rw (r.1, r.2) (questions_refused m plan arbiters dates c.in_err-ask.field-0.0 c.in_err-ask.ensures.answer) in
    record { answer = e; exact = verdict_exact m plan arbiters dates (kept_of c.args.plan.now) c.from_residual.result e }

pub returns : goal.returns
returns g c =
    let m = model g.A.Arbiter in
    let plan = closed c.args.plan.now in
    let arbiters = c.args.arbiters.now in
    let dates = c.args.dates.now in
    let e = questions_let_pass m plan arbiters dates c.judge.result c.in_ok-ask.ensures.answer c.judge.ensures in
    record { answer = e; exact = verdict_exact m plan arbiters dates (kept_of c.args.plan.now) c.judge.result e }
