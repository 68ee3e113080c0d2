-- How far a sheet has been read, and what its next line changes.
use Rattle.std.specs.Prelude.{◌≡◌, ℕ, ◌+◌, ◌<◌, List, [], ◌++◌, length, drop, Some, None, Ok, Err, Option, Result}
use Rattle.sheet.specs.declared.faults.Fault.{Fault}
use Rattle.sheet.specs.declared.lines.Line.{Line}
use Rattle.sheet.specs.declared.reader.Sheet.{Sheet}
use Rattle.sheet.specs.Reading.{Reading, lines, next_row, reading}
use Rattle.sheet.specs.Rows.{Row, row_of, written}

-- the bytes of the sheet
abbrev pub text : Sheet → List ℕ
text s = s.bytes.now

-- the bytes that are left to read
abbrev pub left : Sheet → List ℕ
left s = drop s.at (text s)

-- the number of lines read
abbrev pub count : Sheet → ℕ
count s = s.lines

-- the answer to the next line
abbrev pub upcoming : Sheet → Result (Option Row) Fault
upcoming s = next_row (count s) (lines (left s))

-- the reading of what is left
abbrev pub remaining : Sheet → Reading
remaining s = reading (count s) (lines (left s))

-- a line that is handed out has then been read, and fewer bytes are left; at the end and at a fault nothing changes
abbrev pub Moved : Sheet → Result (Option Line) Fault → Sheet → Type 0
Moved before (Ok (Some l)) after = (left before ≡ written (row_of l) ++ left after) × (count after ≡ count before + 1) × (length (left after) < length (left before))
Moved before (Ok None) after = (left before ≡ []) × (after ≡ before)
Moved before (Err e) after = after ≡ before
