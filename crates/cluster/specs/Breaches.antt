-- The kind and the row of a breach.
use Rattle.std.specs.Prelude.{ℕ}
use Rattle.cluster.specs.declared.breach.Breach.{Breach}
use Rattle.cluster.specs.declared.breach.Breach.TheVariants.{Overdue, Unready}

abbrev pub kind_of : Breach → ℕ
kind_of (Overdue i) = 1
kind_of (Unready i) = 2

abbrev pub row_of : Breach → ℕ
row_of (Overdue i) = i
row_of (Unready i) = i
