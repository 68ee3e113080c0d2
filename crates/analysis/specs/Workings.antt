-- What the working tables of the analysis hold, step by step.
use Rattle.std.specs.Prelude.{◌≡◌, ℕ, ◌+◌, ◌<◌, ◌≤◌, Bool, true, false, not, ◌&&◌, ◌≢◌, List, [], length, Ok, Err, Option, Result, MatchOption, ◌==◌, nat_lt, slice_index, slice_index_or}
use Rattle.plan.specs.Rows.{Row, row}
use Rattle.plan.specs.Waits.{waits_for}
use Rattle.date_check.specs.declared.dates.Dates.{Dates}
use Rattle.date_check.specs.Sound.{dated, loads}
use Rattle.consistency.specs.Dates.{BelowSmallest, Rounds, Table, finish, latest, worst}
use Rattle.consistency.specs.System.{System}
use Rattle.analysis.specs.declared.refusal.Refusal.{Refusal}
use Rattle.analysis.specs.declared.refusal.Refusal.TheVariants as refused
use Rattle.analysis.specs.declared.tables.Column.{Column}
use Rattle.analysis.specs.declared.tables.Found.{Found}
use Rattle.analysis.specs.declared.tables.Meetings.{Meetings}
use Rattle.analysis.specs.declared.tables.Windows.{Windows}

-- A column as a table; only the rows of tasks mean anything.
abbrev pub column : {bits : ℕ} → Column bits → Table
column c i = slice_index c.rows i

-- Windows as tables.
abbrev pub release_in : Windows → Table
release_in w = column w.releases

abbrev pub response_in : Windows → Table
response_in w = column w.responses

abbrev pub finish_in : Windows → Table
finish_in w = finish (column w.releases) (column w.responses)

-- Which tasks are marked.
abbrev pub marked : List Bool → ℕ → Bool
marked marks k = slice_index_or marks k false

-- The latest of a first date and of the dates of some rows.
pub record LatestOf (first : ℕ) (P : ℕ → Type 0) (dates : ℕ → ℕ) (r : ℕ) : Type 0 where
  pub not_before : first ≤ r
  pub after_each : (k : ℕ) → P k → dates k ≤ r
  pub least : (u : ℕ) → first ≤ u → ((k : ℕ) → P k → dates k ≤ u) → r ≤ u

-- The release rule of these rows.
abbrev pub ReleasedRows : List Row → Table → Table → Type 0
ReleasedRows rows rel res = (i : ℕ) → i < length rows → rel i ≡ latest (row rows i).earliest (waits_for rows i) (finish rel res) i

-- Do tasks i and k of these rows meet, if the response of i is r?
abbrev pub meet : List Row → Table → Table → ℕ → ℕ → ℕ → Bool
meet rows rel res i r k = not ((row rows i).place == (row rows k).place) && (nat_lt (rel i) (finish rel res k) && nat_lt (rel k) (rel i + r))

-- The loads are those of the tasks that are marked as met.
abbrev pub Loaded : List Row → Meetings → Type 0
Loaded rows t = (b : ℕ) → b < 16 → slice_index_or t.loads b [] ≡ loads rows (marked t.met) b

-- Only tasks that task i meets are marked, and the loads are theirs.
pub record MetInPart (rows : List Row) (rel res : Table) (i : ℕ) (t : Meetings) : Type 0 where
  pub loaded : Loaded rows t
  pub right : (k : ℕ) → k < length rows → marked t.met k ≡ true → meet rows rel res i (res i) k ≡ true

-- All of them are.
pub record MetAll (rows : List Row) (rel res : Table) (i : ℕ) (t : Meetings) : Type 0 where
  pub loaded : Loaded rows t
  pub exact : (k : ℕ) → k < length rows → marked t.met k ≡ meet rows rel res i (res i) k

-- An unmarked task that is released first among the unmarked ones below n; none if all are marked.
pub record FirstOpen (marks : List Bool) (rel : Table) (n i : ℕ) : Type 0 where
  pub task : i < n
  pub unmarked : marked marks i ≡ false
  pub earliest : (k : ℕ) → k < n → marked marks k ≡ false → rel i ≤ rel k

abbrev pub FirstOpenOf : List Bool → Table → ℕ → Option ℕ → Type 0
FirstOpenOf marks rel n o = MatchOption o ((k : ℕ) → k < n → marked marks k ≡ true) (FirstOpen marks rel n)

-- Responses on their way up: nowhere above the smallest, and at least 1.
pub record Rising (y : System) (rel res : Table) : Type 0 where
  pub below : BelowSmallest y rel res
  pub positive : (k : ℕ) → k < y.tasks → 1 ≤ res k

-- The response of task i was raised until it covers what the task takes at worst; no other was.
pub record Settled (y : System) (rel old new : Table) (i : ℕ) : Type 0 where
  pub rising : Rising y rel new
  pub covered : worst y rel new i (new i) ≤ new i
  pub others : (k : ℕ) → k ≢ i → new k ≡ old k

-- These windows are what the rounds end with, after so many of them.
abbrev pub FoundBy : System → Found → Type 0
FoundBy y f = Rounds y f.rounds (release_in f.windows) (response_in f.windows)

-- Row i is the lowest of the first n that ends after the period.
pub record LowestLate (n period : ℕ) (ends : Table) (i : ℕ) : Type 0 where
  pub task : i < n
  pub late : period < ends i
  pub lowest : (k : ℕ) → k < i → ends k ≤ period

-- A table holds these dates.
abbrev pub Filled : Windows → List Dates → Type 0
Filled w table = (i : ℕ) → i < length table → dated table i ≡ record { release = release_in w i; response = response_in w i }

-- What is decided of the dates that were found, for a table with one row for each task.
abbrev pub Decided : ℕ → Found → List Dates → List Dates → Result ℕ Refusal → Type 0
Decided period f old new (Ok rounds) = (rounds ≡ f.rounds) × ((i : ℕ) → i < length old → finish_in f.windows i ≤ period) × Filled f.windows new
Decided period f old new (Err (refused.Late i e)) = LowestLate (length old) period (finish_in f.windows) i × (e ≡ finish_in f.windows i) × (new ≡ old)
Decided period f old new (Err refused.NoTask) = ⊥
Decided period f old new (Err refused.Arbiters) = ⊥
Decided period f old new (Err refused.Table) = ⊥
