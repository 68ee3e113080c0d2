-- The sample sheet and its listing, byte for byte.
use Rattle.std.specs.Prelude.{◌≡◌, ℕ, List, [], ◌∷◌, ◌++◌, Some, None, Ok, codes}
use Rattle.std.specs.Borrow.{Bor}
use Rattle.plan.specs.Rows.{Plan}
use Rattle.date_check.specs.declared.dates.Dates.{Dates}
use Rattle.sheet.specs.Reading.{whole_reading}
use Rattle.sheet.specs.declared.lines.Make.TheVariants.{Ring}
use Rattle.loader.specs.Rows.{all_taken, make_in, names_in}
use Rattle.listing.specs.Listing.{granted}
use Rattle.listing.specs.declared.answer.Row.{Row}
use Rattle.worked.specs.Plans.{dates, sample}

abbrev pub sheet : List ℕ
sheet =
    codes "C         1         2         1         1        20\n"
    ++ codes "T         0         5         0         scan\n"
    ++ codes "M         0         3\n"
    ++ codes "T         1         4         0        steam\n"
    ++ codes "M         0         2\n"
    ++ codes "T         0         2         0       filter\n"
    ++ codes "M         0         1\n"

abbrev pub listing : List ℕ
listing =
    codes "G         2\n"
    ++ codes "R         0         0        10        10         scan\n"
    ++ codes "R         1         0         8         8        steam\n"
    ++ codes "R         2        10         3        13       filter\n"

-- A plan before its first row.
abbrev pub empty : Plan
empty = record { head = None; rows = [] }

-- A row of a listing: a task's dates and its name.
abbrev pub listed : Dates → Bor (List ℕ) → Row
listed d name = record { release = d.release; response = d.response; name = name }

-- The sheet is read without a fault; its rows make the sample plan, on a ring, and name its tasks.
pub record SheetWorked : Type 0 where
  pub good : (whole_reading sheet).fault ≡ None
  pub plan : all_taken empty (whole_reading sheet).rows ≡ Ok sample
  pub make : make_in (whole_reading sheet).rows ≡ Some Ring
  pub names : names_in (whole_reading sheet).rows ≡ codes "scan" ∷ codes "steam" ∷ codes "filter" ∷ []
  -- Two rounds and these dates, with the three names, are listed so.
  pub lists : (scan steam filter : Bor (List ℕ)) → scan.now ≡ codes "scan" → steam.now ≡ codes "steam" → filter.now ≡ codes "filter" → granted 2 (listed (dates 0 10) scan ∷ listed (dates 0 8) steam ∷ listed (dates 10 3) filter ∷ []) ≡ listing
