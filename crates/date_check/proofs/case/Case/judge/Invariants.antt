use Rattle.std.proofs.Common.{◌≡◌, Ok}
use Rattle.plan.specs.Plans.{closed}
use Rattle.arbiter.specs.Given.{model}
use Rattle.date_check.specs.Verdict.{rows_verdict}
use Rattle.date_check.proofs.case.Case.judge.Given as goal

abbrev pub invariant-loop-i : goal.invariant-loop-i
invariant-loop-i g l = rows_verdict (model g.A.Arbiter) (closed l.self.plan.now) l.self.arbiters.now l.self.dates.now l.i ≡ Ok tt
