-- The size so far and the parts that are left come to the whole.
use Rattle.std.proofs.Common.{◌≡◌, ◌+◌, ◌^◌, ◌<◌, length, drop}
use Rattle.listing.specs.Parts.{text_of_all}
use Rattle.listing.proofs.parts.add_sizes.Given as goal

abbrev pub invariant-loop-part : goal.invariant-loop-part
invariant-loop-part l =
    (l.sum < 2 ^ 64) × (l.sum + length (text_of_all (drop l.part-index l.parts)) ≡ l.size + length (text_of_all l.parts))
