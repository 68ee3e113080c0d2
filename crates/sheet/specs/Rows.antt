-- What a line of a sheet says, and the one way to write it.
use Rattle.std.specs.Prelude.{◌≡◌, ◌≢◌, ℕ, ◌^◌, ◌<◌, true, List, [], ◌∷◌, ◌++◌, Ok, Err, Result}
use Rattle.sheet.specs.declared.faults.Cause.{Cause}
use Rattle.sheet.specs.declared.faults.Cause.TheVariants.{UnknownMake}
use Rattle.sheet.specs.declared.lines.Line.{Line}
use Rattle.sheet.specs.declared.lines.Line.TheVariants as lines
use Rattle.sheet.specs.declared.lines.Make.{Make}
use Rattle.sheet.specs.declared.lines.Make.TheVariants.{Ring, Bostan}
use Rattle.sheet.specs.Columns.{justified, column}
use Rattle.sheet.specs.Fields.{named}

-- a line by its values
pub data Row : Type 0 where
  head : (make : Make) (places banks latency period : ℕ) → Row
  task : (place cycles earliest : ℕ) (name : List ℕ) → Row
  demand : (bank count : ℕ) → Row
  dependency : (row : ℕ) → Row

-- the row that a line holds
abbrev pub row_of : Line → Row
row_of (lines.Head make places banks latency period) = head make places banks latency period
row_of (lines.Task place cycles earliest name) = task place cycles earliest name.now
row_of (lines.Demand bank count) = demand bank count
row_of (lines.Dependency row) = dependency row

-- the number of a make
abbrev pub make_number : Make → ℕ
make_number Ring = 1
make_number Bostan = 2

-- the make that has a number; a number that none has is refused
abbrev pub GivesMake : ℕ → Result Make Cause → Type 0
GivesMake n (Ok make) = n ≡ make_number make
GivesMake n (Err cause) = (cause ≡ UnknownMake) × ((make : Make) → n ≢ make_number make)

-- a line: its letter (C is 67, T 84, M 77, D 68), its fields and a line feed (10); a space (32) stands before a name
abbrev pub written : Row → List ℕ
written (head make places banks latency period) = 67 ∷ (column 10 (make_number make) ++ (column 10 places ++ (column 10 banks ++ (column 10 latency ++ (column 10 period ++ (10 ∷ []))))))
written (task place cycles earliest name) = 84 ∷ (column 10 place ++ (column 10 cycles ++ (column 10 earliest ++ ((32 ∷ justified 12 name) ++ (10 ∷ [])))))
written (demand bank count) = 77 ∷ (column 10 bank ++ (column 10 count ++ (10 ∷ [])))
written (dependency row) = 68 ∷ (column 10 row ++ (10 ∷ []))

-- every number has at most ten digits, and a name has 1 to 12 bytes from 33 to 126
abbrev pub Writable : Row → Type 0
Writable (head make places banks latency period) = (places < 10 ^ 10) × (banks < 10 ^ 10) × (latency < 10 ^ 10) × (period < 10 ^ 10)
Writable (task place cycles earliest name) = (place < 10 ^ 10) × (cycles < 10 ^ 10) × (earliest < 10 ^ 10) × (named name ≡ true)
Writable (demand bank count) = (bank < 10 ^ 10) × (count < 10 ^ 10)
Writable (dependency row) = row < 10 ^ 10
