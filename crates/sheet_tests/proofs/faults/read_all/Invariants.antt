use Rattle.std.proofs.Common.{length}
use Rattle.sheet.specs.Place.{left}
use Rattle.sheet_tests.proofs.faults.read_all.Given as goal

abbrev pub invariant-loop : goal.invariant-loop
invariant-loop l = Unit {0}

abbrev pub decreases-loop : goal.decreases-loop
decreases-loop l = length (left l.sheet)
