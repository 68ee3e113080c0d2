-- The plans that are worked by hand: two places, one bank and latency 1.
use Rattle.std.specs.Prelude.{ℕ, List, [], ◌∷◌, Some}
use Rattle.plan.specs.Rows.{Plan, Row, new_row}
use Rattle.plan.specs.Rules.{with_accesses}
use Rattle.date_check.specs.declared.dates.Dates.{Dates}

-- A task with so many accesses on bank 0.
abbrev pub task : ℕ → ℕ → ℕ → ℕ → Row
task place cycles earliest count = with_accesses (new_row place cycles earliest) 0 count

-- Scan has 5 cycles and 3 accesses, at place 0.
abbrev pub scan : Row
scan = task 0 5 0 3

-- Steam has 4 cycles and 2 accesses, at place 1.
abbrev pub steam : ℕ → Row
steam earliest = task 1 4 earliest 2

-- Filter has 2 cycles and 1 access, at place 0.
abbrev pub filter : Row
filter = task 0 2 0 1

-- The plan of these rows.
abbrev pub plan_of : ℕ → List Row → Plan
plan_of period rows = record { head = Some (record { places = 2; banks = 1; latency = 1; period = period }); rows = rows }

-- The sample sheet's plan.
abbrev pub sample : Plan
sample = plan_of 20 (scan ∷ steam 0 ∷ filter ∷ [])

-- Scan and steam alone, by the period and steam's earliest date.
abbrev pub scan_and_steam : ℕ → ℕ → Plan
scan_and_steam period earliest = plan_of period (scan ∷ steam earliest ∷ [])

-- A release and a response.
abbrev pub dates : ℕ → ℕ → Dates
dates release response = record { release = release; response = response }
