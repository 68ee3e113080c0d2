use Rattle.std.proofs.Common.{◌-◌, ◌*◌, length}
use Rattle.consistency.specs.Dates.{Reached}
use Rattle.analysis.specs.Systems.{plan_in, system_of}
use Rattle.analysis.specs.Workings.{column}
use Rattle.analysis.proofs.system.System.find_dates.Given as goal

-- Each round so far changed a release.
abbrev pub invariant-loop-alone : goal.invariant-loop-alone
invariant-loop-alone g l = Reached (system_of l.self) l.changing (column l.releases)

-- At most 2(n − 1) rounds do.
abbrev pub decreases-loop-alone : goal.decreases-loop-alone
decreases-loop-alone g l = 2 * length (plan_in l.self).rows - l.changing
