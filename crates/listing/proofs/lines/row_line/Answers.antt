-- The dates are those of the row.
use Rattle.std.proofs.Common.{append_assoc}
use Rattle.listing.proofs.lines.row_line.Goals as goal

pub returns : goal.returns
returns c = simp (c.from-release.ensures, c.from-response.ensures, append_assoc)
