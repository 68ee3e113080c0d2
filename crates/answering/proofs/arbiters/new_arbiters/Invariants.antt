use Rattle.std.proofs.Common.{◌≡◌, length, vec_items}
use Rattle.std.specs.List.{AllByRecursion}
use Rattle.answering.proofs.arbiters.new_arbiters.Given as goal

abbrev pub invariant-loop : goal.invariant-loop
invariant-loop g l = (length (vec_items l.arbiters) ≡ l.counter) × AllByRecursion (goal.F-post g l.make) (vec_items l.arbiters)
