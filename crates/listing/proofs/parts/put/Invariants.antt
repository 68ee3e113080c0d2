-- The parts so far stand at the front.
use Rattle.std.proofs.Common.{take}
use Rattle.listing.specs.Memory.{AtFront}
use Rattle.listing.specs.Parts.{text_of_all}
use Rattle.listing.proofs.parts.put.Given as goal

abbrev pub invariant-loop-part : goal.invariant-loop-part
invariant-loop-part l = AtFront (text_of_all (take l.part-index l.parts)) l.initial.out l.end l.out
