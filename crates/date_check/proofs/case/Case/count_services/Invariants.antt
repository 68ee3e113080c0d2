use Rattle.std.proofs.Common.{◌≡◌, ◌+◌, ◌*◌, ◌≤◌, drop}
use Rattle.plan.specs.Plans.{closed}
use Rattle.arbiter.specs.Counts.{limit}
use Rattle.arbiter.specs.Given.{model}
use Rattle.date_check.specs.Sound.{meets, services}
use Rattle.date_check.proofs.case.Case.count_services.Given as goal

-- What was counted and what the banks still ahead add make the whole.
abbrev pub invariant-loop-bank : goal.invariant-loop-bank
invariant-loop-bank g l = (l.count + services (model g.A.Arbiter) (closed l.self.plan.now).rows (meets (closed l.self.plan.now).rows l.self.dates.now l.i) l.i l.bank (drop l.bank l.self.arbiters.now) ≡ services (model g.A.Arbiter) (closed l.self.plan.now).rows (meets (closed l.self.plan.now).rows l.self.dates.now l.i) l.i 0 l.self.arbiters.now) × (l.count ≤ l.bank * limit)
