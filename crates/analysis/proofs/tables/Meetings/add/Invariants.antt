use Rattle.std.proofs.Common.{◌≡◌, ℕ, ◌<◌, ◌≤◌, true, [], get_or, set}
use Rattle.plan.specs.Plans.{closed}
use Rattle.date_check.specs.Sound.{loads}
use Rattle.analysis.specs.Workings.{marked}
use Rattle.analysis.proofs.tables.Meetings.add.Given as goal

-- The banks so far have the accesses of task k, too.
abbrev pub invariant-loop-bank : goal.invariant-loop-bank
invariant-loop-bank l =
    (l.self.met ≡ l.initial.self.met)
    × ((b : ℕ) → b < l.bank → get_or l.self.loads b [] ≡ loads (closed l.plan).rows (marked (set l.self.met l.k true)) b)
    × ((b : ℕ) → l.bank ≤ b → b < 16 → get_or l.self.loads b [] ≡ loads (closed l.plan).rows (marked l.self.met) b)
