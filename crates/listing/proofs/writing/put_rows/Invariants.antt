-- The lines so far stand at the front, and with those that are left they are all.
use Rattle.std.proofs.Common.{◌≡◌, ℕ, List, ◌++◌, drop}
use Rattle.listing.specs.Listing.{row_lines}
use Rattle.listing.specs.Memory.{AtFront}
use Rattle.listing.proofs.writing.put_rows.Given as goal

abbrev pub invariant-loop-row : goal.invariant-loop-row
invariant-loop-row l =
    (text : List ℕ) × AtFront text l.initial.out l.end l.out × (text ++ row_lines l.row (drop l.row l.rows) ≡ row_lines 0 l.rows)
