use Rattle.std.proofs.Common.{subst}
use Rattle.plan.specs.Plans.{closed}
use Rattle.cluster.specs.Cycles.{release}
use Rattle.run.specs.Views.{Goes, planned, table}
use Rattle.run.proofs.Steps.{goes_more}
use Rattle.run.proofs.state.Run.release_all.Goals as goal

pub loop-row-preserved : goal.loop-row-preserved
loop-row-preserved g c =
    let first = c.args.self.now in
    let run = c.loop-row.self in
    let next = c.release.new.self in
    let row = c.loop-row.row in
    let kept = c.loop-row.invariant.stays in
    let same = subst (λ d. Goes (release (planned run) d.now row) run next) kept.1 c.release.ensures in
    goes_more (release (planned first) (table first)) row first run next c.loop-row.invariant (subst (λ p. Goes (release (closed p.now) (table first) row) run next) kept.0 same)
