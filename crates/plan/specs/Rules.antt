-- The rules of a plan's rows: when a row is refused, what it adds, and what every plan keeps.
use Rattle.std.specs.Prelude.{◌≡◌, ℕ, ◌-◌, ◌<◌, ◌≤◌, Bool, true, cond, not, ◌&&◌, List, [], ◌∷◌, ◌++◌, length, Some, None, Ok, Err, sum_by, Option, Result, ◌==◌, nat_le, nat_lt, is_none, is_some, slice_set}
use Rattle.std.specs.List.{list_any}
use Rattle.plan.specs.declared.rows.Head.{Head}
use Rattle.plan.specs.declared.rows.Refusal.{Refusal}
use Rattle.plan.specs.declared.rows.Refusal.TheVariants.{Order, Range, Full, Unknown, Twice, Memory}
use Rattle.plan.specs.Rows.{Row, Plan, row, new_row, accesses}

-- Is n from low to high?
abbrev pub between : ℕ → ℕ → ℕ → Bool
between low high n = nat_le low n && nat_le n high

-- Is k in the list?
abbrev pub member : ℕ → List ℕ → Bool
member k xs = list_any (λ x. x == k) xs

-- Is nothing in the list twice?
abbrev pub distinct : List ℕ → Bool
distinct [] = true
distinct (x ∷ xs) = not (member x xs) && distinct xs

-- A plan without a head has no places, no banks, no latency and no period.
abbrev pub places_of : Option Head → ℕ
places_of None = 0
places_of (Some h) = h.places

abbrev pub banks_of : Option Head → ℕ
banks_of None = 0
banks_of (Some h) = h.banks

abbrev pub latency_of : Option Head → ℕ
latency_of None = 0
latency_of (Some h) = h.latency

abbrev pub period_of : Option Head → ℕ
period_of None = 0
period_of (Some h) = h.period

-- How many rows the tasks of a plan name in all.
abbrev pub named : List Row → ℕ
named rows = sum_by (λ r. length r.after) rows

abbrev pub newest : Plan → Row
newest p = row p.rows (length p.rows - 1)

-- A question: without a yes the refusal is this one, else the rest decides.
abbrev pub asked : Bool → Refusal → Option Refusal → Option Refusal
asked answer refusal rest = cond answer rest (Some refusal)

-- The head's limits.
abbrev pub legal_head : Head → Bool
legal_head h = between 1 32 h.places && (between 1 16 h.banks && (between 1 64 h.latency && between 1 1000000000 h.period))

abbrev pub head_refusal : Plan → Head → Option Refusal
head_refusal p h = asked (is_none p.head) Order (asked (legal_head h) Range None)

abbrev pub task_refusal : Plan → ℕ → ℕ → ℕ → Option Refusal
task_refusal p place cycles earliest =
    asked (is_some p.head) Order
    (asked (nat_lt place (places_of p.head)) Unknown
    (asked (between 1 1000000 cycles && nat_le earliest 1000000000) Range
    (asked (nat_lt (length p.rows) 256) Full None)))

abbrev pub demand_refusal : Plan → ℕ → ℕ → Option Refusal
demand_refusal p bank count =
    asked (nat_lt 0 (length p.rows)) Order
    (asked (nat_lt bank (banks_of p.head)) Unknown
    (asked (between 1 65535 count) Range
    (asked (accesses (newest p) bank == 0) Twice None)))

abbrev pub after_refusal : Plan → ℕ → Option Refusal
after_refusal p k =
    asked (nat_lt 0 (length p.rows)) Order
    (asked (nat_lt k (length p.rows - 1)) Unknown
    (asked (not (member k (newest p).after)) Twice
    (asked (nat_lt (named p.rows) 2048) Full None)))

-- The plan with a head, with one task more, with one demand or one named row more of the newest task.
abbrev pub with_head : Plan → Head → Plan
with_head p h = record { head = Some h; rows = p.rows }

abbrev pub with_task : Plan → ℕ → ℕ → ℕ → Plan
with_task p place cycles earliest = record { head = p.head; rows = p.rows ++ new_row place cycles earliest ∷ [] }

abbrev pub with_newest : Plan → Row → Plan
with_newest p r = record { head = p.head; rows = slice_set p.rows (length p.rows - 1) r }

abbrev pub with_accesses : Row → ℕ → ℕ → Row
with_accesses r bank count = record { place = r.place; cycles = r.cycles; earliest = r.earliest; demands = slice_set r.demands bank count; after = r.after }

abbrev pub with_named : Row → ℕ → Row
with_named r k = record { place = r.place; cycles = r.cycles; earliest = r.earliest; demands = r.demands; after = r.after ++ k ∷ [] }

abbrev pub with_demand : Plan → ℕ → ℕ → Plan
with_demand p bank count = with_newest p (with_accesses (newest p) bank count)

abbrev pub with_after : Plan → ℕ → Plan
with_after p k = with_newest p (with_named (newest p) k)

-- What the questions of a call answer.
abbrev pub judged : Option Refusal → Result (Unit {0}) Refusal
judged None = Ok tt
judged (Some f) = Err f

-- A call that needs no memory: refused as the rules say, with the plan as it was, or done, with this answer.
abbrev pub Answered : {X : Type 0} → Option Refusal → Result X Refusal → X → Plan → Plan → Plan → Type 0
Answered (Some f) r x old new done = (r ≡ Err f) × (new ≡ old)
Answered None r x old new done = (r ≡ Ok x) × (new ≡ done)

-- A row that needs memory is taken, or finds none and leaves the plan as it was.
abbrev pub Tried : Result (Unit {0}) Refusal → Plan → Plan → Plan → Type 0
Tried (Ok x) old new done = new ≡ done
Tried (Err e) old new done = (e ≡ Memory) × (new ≡ old)

-- A call that needs memory: refused as the rules say, done, or left undone for want of memory.
abbrev pub Attempted : {X : Type 0} → Option Refusal → Result X Refusal → X → Plan → Plan → Plan → Type 0
Attempted (Some f) r x old new done = (r ≡ Err f) × (new ≡ old)
Attempted None (Ok y) x old new done = (y ≡ x) × (new ≡ done)
Attempted None (Err e) x old new done = (e ≡ Memory) × (new ≡ old)

abbrev pub legal_heading : Option Head → Bool
legal_heading None = true
legal_heading (Some h) = legal_head h

-- The limits of a head, or of one that a plan lacks.
pub record Bounded (h : Head) : Type 0 where
  pub places : h.places ≤ 32
  pub banks : h.banks ≤ 16
  pub latency : h.latency ≤ 64
  pub period : h.period ≤ 1000000000

-- What row i of every plan keeps: its limits, each bank and each named row once, and earlier rows only.
pub record Legal (head : Option Head) (i : ℕ) (r : Row) : Type 0 where
  pub placed : r.place < places_of head
  pub some : 1 ≤ r.cycles
  pub short : r.cycles ≤ 1000000
  pub soon : r.earliest ≤ 1000000000
  pub banked : length r.demands ≡ 16
  pub light : (bank : ℕ) → accesses r bank ≤ 65535
  pub inside : (bank : ℕ) → banks_of head ≤ bank → accesses r bank ≡ 0
  pub earlier : (k : ℕ) → member k r.after ≡ true → k < i
  pub once : distinct r.after ≡ true

-- What every plan keeps; without a head it has no row, since no place is below 0.
pub record Kept (p : Plan) : Type 0 where
  pub headed : legal_heading p.head ≡ true
  pub few : length p.rows ≤ 256
  pub sparse : named p.rows ≤ 2048
  pub legal : (i : ℕ) → i < length p.rows → Legal p.head i (row p.rows i)
