-- Each turn writes one part more.
use Rattle.std.proofs.Common.{[], take, arith}
use Rattle.std.proofs.lemmas.List.{flat_map_more, take_more}
use Rattle.std.proofs.lemmas.List.Folds.{length-flat_map-take}
use Rattle.listing.specs.Parts.{text_of}
use Rattle.listing.specs.declared.parts.Part.{Part}
use Rattle.listing.specs.declared.parts.Part.TheVariants.{Byte}
use Rattle.listing.proofs.Writes.{behind, room}
use Rattle.listing.proofs.parts.put.Goals as goal

-- what a read past the last part would give
abbrev blank : Part
blank = Byte 0

pub put-end-requires : goal.put-end-requires
put-end-requires c =
    let fits = length-flat_map-take text_of c.args.parts.now c.loop-part.part-index blank c.loop-part-test.true in
    omega (arith, room (omega arith) c.loop-part.invariant)

pub loop-part-preserved : goal.loop-part-preserved
loop-part-preserved c =
    let parts = c.args.parts.now in
    let i = c.loop-part.part-index in
    let fits = length-flat_map-take text_of parts i blank c.loop-part-test.true in
    rw (take_more parts i blank c.loop-part-test.true, ← flat_map_more text_of [] (take i parts))
    (behind (omega arith) c.loop-part.invariant c.put-end.ensures)
