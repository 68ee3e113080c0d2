-- That plan, arbiters and table fit is a fact: it has one proof at most.
use Rattle.std.specs.Prelude.{List}
use Rattle.std.specs.Coded.{Coded-set, coded_ℕ, le_prop}
use Rattle.std.specs.List.{AllByRecursion-prop}
use Rattle.plan.specs.Rows.{Plan}
use Rattle.arbiter.specs.Meaning.{Model}
use Rattle.date_check.specs.declared.dates.Dates.{Dates}
use Rattle.date_check.specs.Sound.{Fits}

pub Fits-prop : {S : Type 0} (m : Model S) (p : Plan) (arbiters : List S) (table : List Dates) → IsProp (Fits m p arbiters table)
Fits-prop m p arbiters table f g = λ j. record {
  some = le_prop f.some g.some j;
  one_per_bank = Coded-set coded_ℕ _ _ f.one_per_bank g.one_per_bank j;
  wide = AllByRecursion-prop _ (λ a. le_prop) arbiters f.wide g.wide j;
  row_per_task = le_prop f.row_per_task g.row_per_task j;
}
