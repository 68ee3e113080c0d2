-- The rows stand behind the line of the rounds.
use Rattle.std.proofs.Common.{arith, length-append}
use Rattle.listing.specs.Listing.{row_lines, rounds_line}
use Rattle.listing.proofs.Writes.{behind}
use Rattle.listing.proofs.writing.put_granted.Goals as goal

pub returns : goal.returns
returns c =
    let line = rw c.rounds_line.ensures at c.put-end.ensures in
    behind (omega (arith, line.size, length-append (rounds_line c.args.rounds) (row_lines 0 c.args.rows.now))) line c.put_rows.ensures
