-- What loading a sheet does.
use Rattle.std.specs.Prelude.{◌≡◌, ℕ, ◌+◌, ◌<◌, ◌⊎◌, List, ◌++◌, map, length, take, Some, None, Ok, Err, vec_items, Result, slice_index_or}
use Rattle.plan.specs.Rows.{Plan}
use Rattle.plan.specs.declared.rows.Refusal.{Refusal}
use Rattle.plan.specs.declared.rows.Refusal.TheVariants.{Memory}
use Rattle.sheet.specs.Reading.{Reading}
use Rattle.sheet.specs.Rows.{Row, dependency}
use Rattle.sheet.specs.declared.faults.Fault.{Fault}
use Rattle.loader.specs.declared.faults.LoadFault.{LoadFault}
use Rattle.loader.specs.declared.noting.Loaded.{Loaded}
use Rattle.loader.specs.Faults.{read_fault, row_fault}
use Rattle.loader.specs.Rows.{Grows, all_taken, make_after, make_in, name_in, names_in, taken}

-- Row k of a list of rows; only rows below their number mean anything.
abbrev pub row_at : List Row → ℕ → Row
row_at xs k = slice_index_or xs k (dependency 0)

-- A row was taken; or the plan stays as it was, since the row is refused or finds no memory.
abbrev pub Entered : Plan → Row → Result (Unit {0}) Refusal → Plan → Type 0
Entered old x (Ok u) new = taken old x ≡ Ok new
Entered old x (Err refusal) new = (new ≡ old) × ((taken old x ≡ Err refusal) ⊎ ((refusal ≡ Memory) × Grows x))

-- The make of the head and the names of the tasks among these rows.
pub record Noted (l : Loaded) (xs : List Row) : Type 0 where
  pub make : l.make ≡ make_in xs
  pub names : map (λ n. n.now) (vec_items l.names) ≡ names_in xs

-- A row is noted beside what was noted before.
pub record Notes (old : Loaded) (x : Row) (new : Loaded) : Type 0 where
  pub make : new.make ≡ make_after old.make x
  pub names : map (λ n. n.now) (vec_items new.names) ≡ map (λ n. n.now) (vec_items old.names) ++ name_in x

-- Why the line after k good ones stops the loading: it cannot be read, its row is refused by the plan as it then is, or it is a row that makes the plan larger and finds no memory.
pub data Stops (sheet : Reading) (k : ℕ) (p : Plan) : LoadFault → Type 0 where
  unread : (f : Fault) → sheet.fault ≡ Some f → k ≡ length sheet.rows → f.line ≡ k + 1 → Stops sheet k p (read_fault f)
  refused : (refusal : Refusal) → k < length sheet.rows → taken p (row_at sheet.rows k) ≡ Err refusal → Stops sheet k p (row_fault (k + 1) refusal)
  starved : k < length sheet.rows → Grows (row_at sheet.rows k) → Stops sheet k p (row_fault (k + 1) Memory)

-- Loading stopped behind k good lines, whose rows are all in the plan.
pub record Stopped (old : Plan) (sheet : Reading) (fault : LoadFault) (new : Plan) : Type 0 where
  pub good : ℕ
  pub rows : all_taken old (take good sheet.rows) ≡ Ok new
  pub why : Stops sheet good new fault

-- With no fault all rows of the sheet are in the plan; with one, exactly the rows of the lines before it, and it is the first there is.
abbrev pub Loads : Plan → Reading → Result Loaded LoadFault → Plan → Type 0
Loads old sheet (Ok l) new = (sheet.fault ≡ None) × (all_taken old sheet.rows ≡ Ok new) × Noted l sheet.rows
Loads old sheet (Err fault) new = Stopped old sheet fault new
