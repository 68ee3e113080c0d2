-- The sample sheet and its listing compute from the definitions.
-- Assumes nothing.
use Rattle.std.proofs.Common.{refl}
use Rattle.std.specs.Fmt.{digits}
use Rattle.worked.specs.Sheets.{SheetWorked}

pub sheet_worked : SheetWorked
unfolding digits
sheet_worked = record { good = refl; plan = refl; make = refl; names = refl; lists = λ scan steam filter p q r. rw (p, q, r) }
