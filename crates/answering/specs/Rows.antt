-- The rows of a listing, from dates and names.
use Rattle.std.specs.Prelude.{ℕ, List}
use Rattle.std.specs.Borrow.{Bor}
use Rattle.date_check.specs.declared.dates.Dates.{Dates}
use Rattle.listing.specs.declared.answer.Row.{Row}

abbrev pub named_row : Dates × Bor (List ℕ) → Row
named_row p = record { release = p.0.release; response = p.0.response; name = p.1 }
