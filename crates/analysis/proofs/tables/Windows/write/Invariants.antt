use Rattle.std.proofs.Common.{◌≡◌, ℕ, ◌<◌}
use Rattle.date_check.specs.Sound.{dated}
use Rattle.analysis.specs.Workings.{release_in, response_in}
use Rattle.analysis.proofs.tables.Windows.write.Given as goal

-- The rows so far hold their dates.
abbrev pub invariant-loop-i : goal.invariant-loop-i
invariant-loop-i l = (k : ℕ) → k < l.i → dated l.dates k ≡ record { release = release_in l.self k; response = response_in l.self k }
