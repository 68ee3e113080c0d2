-- A plan as a value: a head and a list of task rows.
use Rattle.std.specs.Prelude.{ℕ, List, [], map, replicate, vec_items, Option, slice_index, slice_index_or}
use Rattle.plan.specs.declared.rows.Head.{Head}
use Rattle.plan.specs.declared.rows.Task.{Task}

-- A task row: its place, its cycles alone, its earliest date, its accesses bank by bank, and the rows that it names.
pub record Row : Type 0 where
  pub place : ℕ
  pub cycles : ℕ
  pub earliest : ℕ
  pub demands : List ℕ
  pub after : List ℕ

-- A plan: its head, if it has one, and its task rows, from row 0 on.
pub record Plan : Type 0 where
  pub head : Option Head
  pub rows : List Row

-- A task as it is added: no access and no named row yet.
abbrev pub new_row : ℕ → ℕ → ℕ → Row
new_row place cycles earliest = record { place = place; cycles = cycles; earliest = earliest; demands = replicate 16 0; after = [] }

-- Row i; only rows below the number of rows mean anything.
abbrev pub row : List Row → ℕ → Row
row rows i = slice_index_or rows i (new_row 0 0 0)

-- A row's accesses to a bank; a bank without demand counts 0.
abbrev pub accesses : Row → ℕ → ℕ
accesses r bank = slice_index r.demands bank

-- What a task of the program stands for.
abbrev pub row_of : Task → Row
row_of t = record { place = t.place; cycles = t.cycles; earliest = t.earliest; demands = t.demands; after = vec_items t.after }

abbrev pub plan_of : Option Head → List Task → Plan
plan_of head tasks = record { head = head; rows = map row_of tasks }
