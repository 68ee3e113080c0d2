use Rattle.std.proofs.Common.{◌≡◌, ◌+◌, ◌*◌, ◌≤◌, drop}
use Rattle.arbiter.specs.Counts.{limit}
use Rattle.arbiter.specs.Given.{model}
use Rattle.date_check.specs.Sound.{services}
use Rattle.analysis.specs.Systems.{plan_in}
use Rattle.analysis.specs.Workings.{marked}
use Rattle.analysis.proofs.system.System.work_time.Given as goal

-- What was counted and what the banks still ahead add make the whole.
abbrev pub invariant-loop-bank : goal.invariant-loop-bank
invariant-loop-bank g l =
    (l.services + services (model g.A.Arbiter) (plan_in l.self).rows (marked l.meetings.met) l.i l.bank (drop l.bank l.self.arbiters.now) ≡ services (model g.A.Arbiter) (plan_in l.self).rows (marked l.meetings.met) l.i 0 l.self.arbiters.now)
    × (l.services ≤ l.bank * limit)
