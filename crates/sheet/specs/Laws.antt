-- Reading and writing are inverse to each other.
use Rattle.std.specs.Prelude.{◌≡◌, ℕ, List, ◌++◌, Some, None, Ok, Option, Result}
use Rattle.std.specs.List.{flat_map, AllByRecursion}
use Rattle.sheet.specs.declared.faults.Fault.{Fault}
use Rattle.sheet.specs.Lines.{parsed}
use Rattle.sheet.specs.Reading.{whole_reading}
use Rattle.sheet.specs.Rows.{Row, written, Writable}

-- each implies the other
abbrev pub Iff : Type 0 → Type 0 → Type 0
Iff P Q = (P → Q) × (Q → P)

-- the bytes begin with the line of a row
abbrev pub Begins : List ℕ → Row → Type 0
Begins bs x = (rest : List ℕ) × (bs ≡ written x ++ rest)

-- an answer hands out a row exactly if the row can be written and the bytes begin with its line
abbrev pub Exact : List ℕ → Result (Option Row) Fault → Type 0
Exact bs a = (x : Row) → Iff (a ≡ Ok (Some x)) (Writable x × Begins bs x)

-- what is accepted is what can be written, and each line or sheet says one thing
pub record Inverse : Type 0 where
  -- a line is accepted as a row exactly if the row can be written and the line is the way to write it
  pub line : (l : List ℕ) (x : Row) → Iff (parsed l ≡ Ok x) (Writable x × (l ≡ written x))
  -- rows that are written alike are the same row
  pub distinct : (x y : Row) → Writable x → Writable y → written x ≡ written y → x ≡ y
  -- a sheet is read as these rows, without a fault, exactly if they can be written and the sheet is their lines one after another
  pub sheet : (bs : List ℕ) (xs : List Row) → Iff (whole_reading bs ≡ record { rows = xs; fault = None }) (AllByRecursion Writable xs × (bs ≡ flat_map written xs))
