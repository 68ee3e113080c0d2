-- What a listing holds, byte for byte.
use Rattle.std.specs.Prelude.{ℕ, ◌+◌, List, [], ◌∷◌, ◌++◌, codes}
use Rattle.sheet.specs.Columns.{column, justified}
use Rattle.listing.specs.declared.answer.Answer.{Answer}
use Rattle.listing.specs.declared.answer.Answer.TheVariants.{Granted, Late, Fault}
use Rattle.listing.specs.declared.answer.Row.{Row}

-- the line of one task: its row, release, response, finish and name
abbrev pub row_line : ℕ → Row → List ℕ
row_line row r =
    codes "R" ++ column 10 row ++ column 10 r.release ++ column 10 r.response ++ column 10 (r.release + r.response)
    ++ codes " " ++ justified 12 r.name.now ++ codes "\n"

-- the lines of tasks whose first has this row
abbrev pub row_lines : ℕ → List Row → List ℕ
row_lines row [] = []
row_lines row (r ∷ rs) = row_line row r ++ row_lines (row + 1) rs

-- the line of the rounds
abbrev pub rounds_line : ℕ → List ℕ
rounds_line rounds = codes "G" ++ column 10 rounds ++ codes "\n"

-- granted dates: the line of the rounds, and then a line for each task
abbrev pub granted : ℕ → List Row → List ℕ
granted rounds rows = rounds_line rounds ++ row_lines 0 rows

-- a late plan: the late row and its finish
abbrev pub late : ℕ → ℕ → List ℕ
late row finish = codes "L" ++ column 10 row ++ column 16 finish ++ codes "\n"

-- a fault: its number, and the line and the column where it stands
abbrev pub fault : ℕ → ℕ → ℕ → List ℕ
fault number line col = codes "F" ++ column 10 number ++ column 10 line ++ column 10 col ++ codes "\n"

-- the listing of an answer
abbrev pub listing : Answer → List ℕ
listing (Granted rounds rows) = granted rounds rows.now
listing (Late row finish) = late row finish
listing (Fault number line col) = fault number line col
