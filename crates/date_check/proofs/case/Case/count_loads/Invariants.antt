use Rattle.plan.specs.Plans.{closed}
use Rattle.date_check.specs.Sound.{meets}
use Rattle.date_check.proofs.Counting.{Counted}
use Rattle.date_check.proofs.case.Case.count_loads.Given as goal

abbrev pub invariant-loop-k : goal.invariant-loop-k
invariant-loop-k g l = Counted (closed l.self.plan.now).rows (meets (closed l.self.plan.now).rows l.self.dates.now l.i) l.bank l.k l.counts
