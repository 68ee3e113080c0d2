use Rattle.std.proofs.Common.{◌≡◌, length}
use Rattle.analysis.specs.Systems.{plan_in, system_of}
use Rattle.analysis.specs.Workings.{column, response_in}
use Rattle.analysis.proofs.Raising.{InOrder, unmarked}
use Rattle.analysis.proofs.system.System.smallest_responses.Given as goal

abbrev pub invariant-loop-i : goal.invariant-loop-i
invariant-loop-i g l =
    InOrder (system_of l.self) (column l.releases) (response_in l.windows) l.settled
    × (l.windows.releases ≡ l.releases)
    × (length l.settled ≡ 256)

-- Each turn settles one task more.
abbrev pub decreases-loop-i : goal.decreases-loop-i
decreases-loop-i g l = unmarked l.settled (length (plan_in l.self).rows)
