-- Reading one line: its row, or what is wrong with it.
use Rattle.std.specs.Prelude.{ℕ, ◌+◌, ◌-◌, ◌*◌, cond, ◌&&◌, List, length, take, drop, Ok, Err, Result, ◌==◌, slice_index}
use Rattle.std.specs.Borrow.{Bor}
use Rattle.std.specs.Option.{ok_or}
use Rattle.sheet.specs.declared.faults.Cause.{Cause}
use Rattle.sheet.specs.declared.faults.Cause.TheVariants.{UnknownLetter, WrongLength, IllFormedField, UnknownMake}
use Rattle.sheet.specs.declared.faults.Flaw.{Flaw}
use Rattle.sheet.specs.declared.lines.Line.{Line}
use Rattle.sheet.specs.declared.lines.Make.{Make}
use Rattle.sheet.specs.declared.lines.Make.TheVariants.{Ring, Bostan}
use Rattle.sheet.specs.Fields.{number, name}
use Rattle.sheet.specs.Rows.{Row, head, task, demand, dependency, row_of}

-- a question's answer goes on to the next question; the first 'no' stands
abbrev pub then : {A B E : Type 0} → Result A E → (A → Result B E) → Result B E
then (Ok x) k = k x
then (Err e) k = Err e

-- what is wrong, and in which column
abbrev pub flaw : Cause → ℕ → Flaw
flaw c n = record { cause = c; column = n }

-- the k-th number of a line, counted from 0
abbrev pub number_at : List ℕ → ℕ → Result ℕ Flaw
number_at l k = ok_or (number (take 10 (drop (10 * k + 1) l))) (flaw IllFormedField (10 * k + 2))

-- the name of a task line, in the 13 columns from 32 on: the first is a space, since a name has at most 12 bytes
abbrev pub name_at : List ℕ → Result (List ℕ) Flaw
name_at l = ok_or (name (take 13 (drop 31 l))) (flaw IllFormedField 32)

-- the make of a number
abbrev pub make_of : ℕ → Result Make Flaw
make_of n = cond (n == 1) (Ok Ring) (cond (n == 2) (Ok Bostan) (Err (flaw UnknownMake 1)))

-- the fields of a head, and then its make
abbrev pub head_line : List ℕ → Result Row Flaw
head_line l =
    then (number_at l 0) (λ make. then (number_at l 1) (λ places. then (number_at l 2) (λ banks.
    then (number_at l 3) (λ latency. then (number_at l 4) (λ period. then (make_of make) (λ m. Ok (head m places banks latency period)))))))

-- the fields of a task
abbrev pub task_line : List ℕ → Result Row Flaw
task_line l =
    then (number_at l 0) (λ place. then (number_at l 1) (λ cycles. then (number_at l 2) (λ earliest.
    then (name_at l) (λ name. Ok (task place cycles earliest name)))))

-- the fields of a demand
abbrev pub demand_line : List ℕ → Result Row Flaw
demand_line l = then (number_at l 0) (λ bank. then (number_at l 1) (λ count. Ok (demand bank count)))

-- the field of a dependency
abbrev pub dependency_line : List ℕ → Result Row Flaw
dependency_line l = then (number_at l 0) (λ row. Ok (dependency row))

-- the line, if it has n bytes and the last is a line feed (10)
abbrev pub sized : ℕ → List ℕ → Result (List ℕ) Flaw
sized n l = cond (length l == n && slice_index l (n - 1) == 10) (Ok l) (Err (flaw WrongLength 1))

-- a line by its letter: C (67), T (84), M (77) or D (68)
abbrev pub parsed : List ℕ → Result Row Flaw
parsed l =
    cond (slice_index l 0 == 67) (then (sized 52 l) head_line)
    (cond (slice_index l 0 == 84) (then (sized 45 l) task_line)
    (cond (slice_index l 0 == 77) (then (sized 22 l) demand_line)
    (cond (slice_index l 0 == 68) (then (sized 12 l) dependency_line)
    (Err (flaw UnknownLetter 1)))))

-- an answer of the code, with the row in place of the line
abbrev pub line_view : Result Line Flaw → Result Row Flaw
line_view (Ok l) = Ok (row_of l)
line_view (Err e) = Err e

-- an answer of the code, with the bytes that it refers to
abbrev pub bytes_view : Result (Bor (List ℕ)) Flaw → Result (List ℕ) Flaw
bytes_view (Ok r) = Ok r.now
bytes_view (Err e) = Err e
