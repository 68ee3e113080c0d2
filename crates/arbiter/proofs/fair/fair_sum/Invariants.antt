use Rattle.std.proofs.Common.{◌≡◌, ◌+◌, ◌*◌, ◌≤◌, min}
use Rattle.arbiter.specs.Counts.{limit, counted, sum_below}
use Rattle.arbiter.proofs.fair.fair_sum.Given as goal

abbrev pub invariant-loop-o : goal.invariant-loop-o
invariant-loop-o l = (l.sum ≡ l.own + sum_below l.o (λ o. min (counted l.s l.counts o) l.own)) × (l.sum ≤ limit * (l.o + 1))
