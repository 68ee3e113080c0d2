use Rattle.std.proofs.Common.{◌≡◌, ℕ, ◌<◌}
use Rattle.plan.specs.Plans.{closed}
use Rattle.analysis.specs.Workings.{MetInPart, marked, meet, release_in, response_in}
use Rattle.analysis.proofs.tables.Meetings.meet_all.Given as goal

-- Of the rows so far, all that are met are marked.
abbrev pub invariant-loop-k : goal.invariant-loop-k
invariant-loop-k l =
    MetInPart (closed l.plan).rows (release_in l.windows) (response_in l.windows) l.i l.self
    × ((k : ℕ) → k < l.k → marked l.self.met k ≡ meet (closed l.plan).rows (release_in l.windows) (response_in l.windows) l.i (response_in l.windows l.i) k)
