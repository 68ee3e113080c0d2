use Rattle.std.proofs.Common.{◌≡◌, ℕ, ◌^◌, ◌<◌, get_or}
use Rattle.consistency.specs.Dates.{alone}
use Rattle.analysis.specs.Systems.{system_of}
use Rattle.analysis.proofs.system.System.times_alone.Given as goal

abbrev pub invariant-loop-i : goal.invariant-loop-i
invariant-loop-i g l =
    ((k : ℕ) → k < l.i → get_or l.time-items k 0 ≡ alone (system_of l.self) k)
    × ((k : ℕ) → get_or l.time-items k 0 < 2 ^ 35)
