use Rattle.plan.specs.Plans.{closed}
use Rattle.date_check.proofs.Reading.{kept_of}
use Rattle.run.proofs.Limits.{head_limits}
use Rattle.run.proofs.state.Run.begin.Goals as goal

pub invariant_of-run-clause-timed : goal.invariant_of-run-clause-timed
invariant_of-run-clause-timed g c =
    let plan = c.args.plan.now in
    λ _. (head_limits (closed plan) (kept_of plan) c.requires.some).2
