-- The size so far and the lines that are left come to the whole.
use Rattle.std.proofs.Common.{◌≡◌, ◌+◌, ◌^◌, ◌<◌, length, drop}
use Rattle.listing.specs.Listing.{row_lines}
use Rattle.listing.proofs.sizes.add_rows.Given as goal

abbrev pub invariant-loop-row : goal.invariant-loop-row
invariant-loop-row l =
    (l.size < 2 ^ 64) × (l.size + length (row_lines l.row (drop l.row l.rows)) ≡ l.first + length (row_lines 0 l.rows))
