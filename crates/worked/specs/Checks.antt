-- What the check answers for scan and steam on a ring of two places, with period 20 and steam's earliest date 8.
use Rattle.std.specs.Prelude.{◌≡◌, List, [], ◌∷◌, Ok, Err, Result}
use Rattle.rings.specs.declared.ring.Ring.{Ring}
use Rattle.rings.specs.Rings.{ring}
use Rattle.date_check.specs.declared.dates.Dates.{Dates}
use Rattle.date_check.specs.declared.refusal.Refusal.{Refusal}
use Rattle.date_check.specs.declared.refusal.Refusal.TheVariants.{Early, Short}
use Rattle.date_check.specs.Verdict.{verdict}
use Rattle.worked.specs.Plans.{dates, scan_and_steam}

abbrev pub checked : Ring → List Dates → Result (Unit {0}) Refusal
checked a table = verdict ring (scan_and_steam 20 8) (a ∷ []) table

pub record ChecksWorked (a : Ring) : Type 0 where
  pub passes : checked a (dates 0 10 ∷ dates 8 8 ∷ []) ≡ Ok tt
  pub short : checked a (dates 0 10 ∷ dates 8 6 ∷ []) ≡ Err (Short 1)
  pub early : checked a (dates 0 10 ∷ dates 7 8 ∷ []) ≡ Err (Early 1)
