use Rattle.std.proofs.Common.{◌≡◌, ℕ, ◌^◌, ◌<◌, length, get_or}
use Rattle.plan.specs.Plans.{closed}
use Rattle.analysis.specs.Workings.{column}
use Rattle.analysis.proofs.Renewing.{Renewed}
use Rattle.analysis.proofs.releases.renew.Given as goal

abbrev pub invariant-loop-i : goal.invariant-loop-i
invariant-loop-i l = Renewed (closed l.plan).rows (column l.responses) l.i (λ k. get_or l.rows k 0) (λ k. get_or l.finishes k 0) l.ends × (length l.rows ≡ 256) × (length l.finishes ≡ 256) × ((k : ℕ) → get_or l.rows k 0 < 2 ^ 44)
