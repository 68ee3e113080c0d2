-- What the check answers: its questions, in their order.
use Rattle.std.specs.Prelude.{◌≡◌, ℕ, zero, suc, Bool, true, cond, not, ◌&&◌, ◌||◌, List, [], ◌∷◌, ◌++◌, length, Some, None, Ok, Err, Option, Result, codes, ◌==◌, nat_le, nat_lt}
use Rattle.std.specs.Fmt.{decimal}
use Rattle.std.specs.Result.{result_and}
use Rattle.plan.specs.Rows.{Plan, Row, row}
use Rattle.plan.specs.Rules.{banks_of, places_of, period_of}
use Rattle.plan.specs.Waits.{waits_for}
use Rattle.arbiter.specs.Meaning.{Model}
use Rattle.date_check.specs.declared.dates.Dates.{Dates}
use Rattle.date_check.specs.declared.refusal.Refusal.{Refusal}
use Rattle.date_check.specs.declared.refusal.Refusal.TheVariants.{NoTask, Arbiters, Table, Range, Early, Short, Late}
use Rattle.date_check.specs.Sound.{Fits, Sound, dated, finish, worst}

-- The number of a refusal.
abbrev pub number_of : Refusal → ℕ
number_of NoTask = 9
number_of Arbiters = 10
number_of Table = 11
number_of Range = 5
number_of (Early i) = 13
number_of (Short i) = 14
number_of (Late i) = 12

-- The row that it names.
abbrev pub row_of : Refusal → Option ℕ
row_of NoTask = None
row_of Arbiters = None
row_of Table = None
row_of Range = None
row_of (Early i) = Some i
row_of (Short i) = Some i
row_of (Late i) = Some i

-- How it is printed: its number, and the row where it names one.
abbrev pub at_row : Option ℕ → List ℕ
at_row None = []
at_row (Some i) = codes " at row " ++ decimal i

abbrev pub refusal_text : Refusal → List ℕ
refusal_text f = decimal (number_of f) ++ at_row (row_of f)

-- A question: without a yes it is refused, else the rest decides.
abbrev pub asked : Bool → Refusal → Result (Unit {0}) Refusal → Result (Unit {0}) Refusal
asked answer refusal rest = cond answer rest (Err refusal)

-- Is none of these arbiters narrower than that?
abbrev pub all_wide : {S : Type 0} → Model S → ℕ → List S → Bool
all_wide m places [] = true
all_wide m places (a ∷ rest) = nat_le places (m.width a) && all_wide m places rest

-- Is there one arbiter per bank, and none narrower than the places?
abbrev pub arbiters_fit : {S : Type 0} → Model S → Plan → List S → Bool
arbiters_fit m p arbiters = length arbiters == banks_of p.head && all_wide m (places_of p.head) arbiters

-- Are the dates of one row at most 1,000,000,000?
abbrev pub in_range : Dates → Bool
in_range d = nat_le d.release 1000000000 && nat_le d.response 1000000000

-- Are those of the rows below n?
abbrev pub all_in_range : List Dates → ℕ → Bool
all_in_range table zero = true
all_in_range table (suc n) = in_range (dated table n) && all_in_range table n

-- Before any row: is there a task, do the arbiters fit, is there a row per task, are the tasks' dates in range?
abbrev pub questions : {S : Type 0} → Model S → Plan → List S → List Dates → Result (Unit {0}) Refusal
questions m p arbiters table =
    asked (nat_lt 0 (length p.rows)) NoTask
    (asked (arbiters_fit m p arbiters) Arbiters
    (asked (nat_le (length p.rows) (length table)) Table
    (asked (all_in_range table (length p.rows)) Range (Ok tt))))

-- Have those of the rows below n that task i waits for finished when it is released?
abbrev pub all_finished : List Row → List Dates → ℕ → ℕ → Bool
all_finished rows table i zero = true
all_finished rows table i (suc k) = (not (waits_for rows i k) || nat_le (finish (dated table k)) (dated table i).release) && all_finished rows table i k

-- Is task i released no earlier than its earliest date and the finishes that it waits for?
abbrev pub on_time : List Row → List Dates → ℕ → Bool
on_time rows table i = nat_le (row rows i).earliest (dated table i).release && all_finished rows table i (length rows)

-- The conditions of row i: released on time, with a response that covers the worst, finished within the period.
abbrev pub row_verdict : {S : Type 0} → Model S → Plan → List S → List Dates → ℕ → Result (Unit {0}) Refusal
row_verdict m p arbiters table i =
    asked (on_time p.rows table i) (Early i)
    (asked (nat_le (worst m p arbiters table i) (dated table i).response) (Short i)
    (asked (nat_le (finish (dated table i)) (period_of p.head)) (Late i) (Ok tt)))

-- The first refusal among the rows below n.
abbrev pub rows_verdict : {S : Type 0} → Model S → Plan → List S → List Dates → ℕ → Result (Unit {0}) Refusal
rows_verdict m p arbiters table zero = Ok tt
rows_verdict m p arbiters table (suc i) = result_and (rows_verdict m p arbiters table i) (row_verdict m p arbiters table i)

-- The questions, then the rows one by one.
abbrev pub verdict : {S : Type 0} → Model S → Plan → List S → List Dates → Result (Unit {0}) Refusal
verdict m p arbiters table = result_and (questions m p arbiters table) (rows_verdict m p arbiters table (length p.rows))

-- An answer that is yes exactly for sound dates: it passes only dates that fit and are sound, and passes all of them.
pub record Exact {S : Type 0} (m : Model S) (p : Plan) (arbiters : List S) (table : List Dates) (r : Result (Unit {0}) Refusal) : Type 0 where
  pub only_sound : r ≡ Ok tt → Fits m p arbiters table × Sound m p arbiters table
  pub all_sound : Fits m p arbiters table → Sound m p arbiters table → r ≡ Ok tt
