-- What the rows of a sheet do to a plan, and what else they say.
use Rattle.std.specs.Prelude.{ℕ, List, [], ◌∷◌, Some, None, Ok, Err, fold, Option, Result}
use Rattle.std.specs.List.{flat_map}
use Rattle.plan.specs.Rows.{Plan}
use Rattle.plan.specs.Rules.{after_refusal, demand_refusal, head_refusal, task_refusal, with_after, with_demand, with_head, with_task}
use Rattle.plan.specs.declared.rows.Head.{Head}
use Rattle.plan.specs.declared.rows.Refusal.{Refusal}
use Rattle.sheet.specs.Lines.{then}
use Rattle.sheet.specs.Rows.{Row, head, task, demand, dependency}
use Rattle.sheet.specs.declared.lines.Make.{Make}

-- A row that no question refuses gives the plan with it.
abbrev pub granted : Option Refusal → Plan → Result Plan Refusal
granted None with_it = Ok with_it
granted (Some refusal) with_it = Err refusal

abbrev pub head_of : ℕ → ℕ → ℕ → ℕ → Head
head_of places banks latency period = record { places = places; banks = banks; latency = latency; period = period }

-- A row of a sheet taken into a plan, by the plan's own rules.
abbrev pub taken : Plan → Row → Result Plan Refusal
taken p (head make places banks latency period) = granted (head_refusal p (head_of places banks latency period)) (with_head p (head_of places banks latency period))
taken p (task place cycles earliest name) = granted (task_refusal p place cycles earliest) (with_task p place cycles earliest)
taken p (demand bank count) = granted (demand_refusal p bank count) (with_demand p bank count)
taken p (dependency row) = granted (after_refusal p row) (with_after p row)

-- Only a task and a named row make a plan larger, so only they can find no memory.
abbrev pub Grows : Row → Type 0
Grows (head make places banks latency period) = ⊥
Grows (task place cycles earliest name) = Unit {0}
Grows (demand bank count) = ⊥
Grows (dependency row) = Unit {0}

-- Rows taken one after the other, up to the first that is refused.
abbrev pub all_taken : Plan → List Row → Result Plan Refusal
all_taken p [] = Ok p
all_taken p (x ∷ xs) = then (taken p x) (λ q. all_taken q xs)

-- The names of the tasks, in their order.
abbrev pub name_in : Row → List (List ℕ)
name_in (head make places banks latency period) = []
name_in (task place cycles earliest name) = name ∷ []
name_in (demand bank count) = []
name_in (dependency row) = []

abbrev pub names_in : List Row → List (List ℕ)
names_in xs = flat_map name_in xs

-- The make of the latest head.
abbrev pub make_after : Option Make → Row → Option Make
make_after m (head make places banks latency period) = Some make
make_after m (task place cycles earliest name) = m
make_after m (demand bank count) = m
make_after m (dependency row) = m

abbrev pub make_in : List Row → Option Make
make_in xs = fold make_after None xs
