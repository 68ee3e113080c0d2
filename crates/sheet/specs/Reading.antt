-- Reading a sheet line by line.
use Rattle.std.specs.Prelude.{ℕ, ◌+◌, cond, List, [], ◌∷◌, Some, None, Ok, Err, Option, Result, ◌==◌}
use Rattle.sheet.specs.declared.faults.Fault.{Fault}
use Rattle.sheet.specs.declared.faults.Flaw.{Flaw}
use Rattle.sheet.specs.declared.lines.Line.{Line}
use Rattle.sheet.specs.Lines.{parsed}
use Rattle.sheet.specs.Rows.{Row, row_of}

-- a byte in front of the first line
abbrev pub grown : ℕ → List (List ℕ) → List (List ℕ)
grown b [] = (b ∷ []) ∷ []
grown b (l ∷ ls) = (b ∷ l) ∷ ls

-- the lines of a sheet, each with its line feed, which the last may lack
abbrev pub lines : List ℕ → List (List ℕ)
lines [] = []
lines (b ∷ bs) = cond (b == 10) ((b ∷ []) ∷ lines bs) (grown b (lines bs))

-- what is wrong with a line, after n lines
abbrev pub fault_after : ℕ → Flaw → Fault
fault_after n f = record { cause = f.cause; line = n + 1; column = f.column }

-- the answer to a line, after n lines
abbrev pub answer_after : ℕ → Result Row Flaw → Result (Option Row) Fault
answer_after n (Ok x) = Ok (Some x)
answer_after n (Err f) = Err (fault_after n f)

-- the answer to the next of some lines, after n lines: its row, none at the end, or its fault
abbrev pub next_row : ℕ → List (List ℕ) → Result (Option Row) Fault
next_row n [] = Ok None
next_row n (l ∷ ls) = answer_after n (parsed l)

-- the rows before the first fault, and the fault, if any
pub record Reading : Type 0 where
  pub rows : List Row
  pub fault : Option Fault

-- an answer, and then the reading of what follows it
abbrev pub continued : Result (Option Row) Fault → Reading → Reading
continued (Ok None) rest = record { rows = []; fault = None }
continued (Ok (Some x)) rest = record { rows = x ∷ rest.rows; fault = rest.fault }
continued (Err e) rest = record { rows = []; fault = Some e }

-- the reading of some lines, after n lines
abbrev pub reading : ℕ → List (List ℕ) → Reading
reading n [] = record { rows = []; fault = None }
reading n (l ∷ ls) = continued (answer_after n (parsed l)) (reading (n + 1) ls)

-- the reading of a whole sheet
abbrev pub whole_reading : List ℕ → Reading
whole_reading bs = reading 0 (lines bs)

-- an answer of the code, with the row in place of the line
abbrev pub next_view : Result (Option Line) Fault → Result (Option Row) Fault
next_view (Ok None) = Ok None
next_view (Ok (Some l)) = Ok (Some (row_of l))
next_view (Err e) = Err e
