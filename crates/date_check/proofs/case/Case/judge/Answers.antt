use Rattle.std.proofs.Common.{length, arith}
use Rattle.std.proofs.lemmas.Result.{err_from_is_err_and}
use Rattle.plan.specs.Plans.{closed}
use Rattle.arbiter.specs.Given.{model}
use Rattle.date_check.proofs.Passing.{rows_more, rows_refused}
use Rattle.date_check.proofs.case.Case.judge.Goals as goal

pub returns-in_err-judge_row : goal.returns-in_err-judge_row
returns-in_err-judge_row g c =
    let plan = closed c.args.self.now.plan.now in
    let e = err_from_is_err_and c.from_residual.result c.from_residual.ensures.1 in
    rw (e.1, e.2) (rows_refused (model g.A.Arbiter) plan c.args.self.now.arbiters.now c.args.self.now.dates.now (length plan.rows) c.loop-i.i c.in_err-judge_row.field-0.0 (omega arith) c.loop-i.invariant c.in_err-judge_row.ensures)

pub loop-i-preserved : goal.loop-i-preserved
loop-i-preserved g c = rows_more (model g.A.Arbiter) (closed c.args.self.now.plan.now) c.args.self.now.arbiters.now c.args.self.now.dates.now c.loop-i.i c.loop-i.invariant c.in_ok-judge_row.ensures
