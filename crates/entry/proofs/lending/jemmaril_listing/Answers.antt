-- The text that was made is the one that is put into the memory.
use Rattle.std.proofs.Common.{vec_items, subst}
use Rattle.entry.specs.Listings.{Put, put}
use Rattle.entry.proofs.lending.jemmaril_listing.Goals as goal

pub returns-in-Ok : goal.returns-in-Ok
returns-in-Ok c =
    put (vec_items c.in-Ok.text) c.in-Ok.ensures
    (subst (λ text. Put text c.args.out.now c.put.result c.put.new.out) c.as_slice.ensures.value c.put.ensures)
