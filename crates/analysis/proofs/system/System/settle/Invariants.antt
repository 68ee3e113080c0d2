use Rattle.std.proofs.Common.{◌≡◌, ℕ, ◌-◌, ◌^◌, ◌≢◌}
use Rattle.analysis.specs.Systems.{plan_in, system_of}
use Rattle.analysis.specs.Workings.{MetInPart, Rising, release_in, response_in}
use Rattle.analysis.proofs.system.System.settle.Given as goal

-- The response rises, and the tasks that are marked are met still.
abbrev pub invariant-loop-windows : goal.invariant-loop-windows
invariant-loop-windows g l =
    Rising (system_of l.self) (release_in l.windows) (response_in l.windows)
    × ((k : ℕ) → k ≢ l.i → response_in l.windows k ≡ response_in l.initial.windows k)
    × MetInPart (plan_in l.self).rows (release_in l.windows) (response_in l.windows) l.i l.meetings
    × (l.windows.releases ≡ l.initial.windows.releases)

-- A response stays below 2^35.
abbrev pub decreases-loop-windows : goal.decreases-loop-windows
decreases-loop-windows g l = 2 ^ 35 - response_in l.windows l.i
