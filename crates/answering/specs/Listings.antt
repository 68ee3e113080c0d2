-- The listing that answers a sheet.
use Rattle.std.specs.Prelude.{◌≡◌, ℕ, ◌<◌, ◌≤◌, List, [], map, length, Some, None, Ok, Err, Option, Result}
use Rattle.std.specs.List.{AllByRecursion}
use Rattle.plan.specs.Rows.{Plan}
use Rattle.plan.specs.Rules.{banks_of, places_of}
use Rattle.sheet.specs.Reading.{whole_reading}
use Rattle.sheet.specs.declared.lines.Make.{Make}
use Rattle.sheet.specs.declared.lines.Make.TheVariants as make
use Rattle.loader.specs.Faults.{number_of}
use Rattle.loader.specs.Loading.{Stopped}
use Rattle.loader.specs.Rows.{all_taken, make_in, names_in}
use Rattle.loader.specs.declared.faults.LoadFault.{LoadFault}
use Rattle.arbiter.specs.Meaning.{Model}
use Rattle.rings.specs.Rings.{NewRing, ring}
use Rattle.bostan.specs.Piles.{IsUnpicked, NewPile, Pile, bostan}
use Rattle.date_check.specs.declared.dates.Dates.{Dates}
use Rattle.analysis.specs.Answers as analysis
use Rattle.analysis.specs.declared.refusal.Refusal.{Refusal}
use Rattle.analysis.specs.declared.refusal.Refusal.TheVariants.{NoTask, Arbiters, Table, Late}
use Rattle.listing.specs.Listing.{fault, granted, late}
use Rattle.listing.specs.declared.answer.Row.{Row}

-- The rows of a listing hold these dates and these names, one by one.
pub record RowsOf (dates : List Dates) (names : List (List ℕ)) (rows : List Row) : Type 0 where
  pub releases : map (λ r. r.release) rows ≡ map (λ d. d.release) dates
  pub responses : map (λ r. r.response) rows ≡ map (λ d. d.response) dates
  pub named : map (λ r. r.name.now) rows ≡ names

-- What is listed of granted dates: the rounds, and each task's dates and name.
pub record ListsGranted (rounds : ℕ) (dates : List Dates) (names : List (List ℕ)) (text : List ℕ) : Type 0 where
  pub rows : List Row
  pub told : RowsOf dates names rows
  pub lines : text ≡ granted rounds rows

-- What is listed of a refusal: a late row with its finish, or a fault outside the sheet.
abbrev pub listed_refusal : Refusal → List ℕ
listed_refusal NoTask = fault 9 0 0
listed_refusal Arbiters = fault 10 0 0
listed_refusal Table = fault 11 0 0
listed_refusal (Late i f) = late i f

-- What is listed of the analysis's answer.
abbrev pub ListsAnswer : Result ℕ Refusal → List Dates → List (List ℕ) → List ℕ → Type 0
ListsAnswer (Ok rounds) dates names text = ListsGranted rounds dates names text
ListsAnswer (Err refusal) dates names text = text ≡ listed_refusal refusal

-- The listing of a plan whose banks have these arbiters and whose tasks have these names: that of the analysis's answer, for a table with one row per task.
pub record ListsPlan {S : Type 0} (m : Model S) (p : Plan) (arbiters : List S) (names : List (List ℕ)) (text : List ℕ) : Type 0 where
  pub result : Result ℕ Refusal
  pub old : List Dates
  pub dates : List Dates
  pub row_per_task : length old ≡ length p.rows
  pub answer : analysis.Answer m p arbiters old dates result
  pub listed : ListsAnswer result dates names text

-- One new arbiter per bank.
pub record OnePerBank {S : Type 0} (New : S → Type 0) (p : Plan) (arbiters : List S) : Type 0 where
  pub count : length arbiters ≡ banks_of p.head
  pub new : AllByRecursion New arbiters

-- The listing of a plan whose banks each have a new arbiter of some make.
pub record ListsMade {S : Type 0} (m : Model S) (New : S → Type 0) (p : Plan) (names : List (List ℕ)) (text : List ℕ) : Type 0 where
  pub arbiters : List S
  pub new : OnePerBank New p arbiters
  pub listed : ListsPlan m p arbiters names text

-- A new pile in layers that have not picked from a side yet.
abbrev pub FreshPile : Pile → Type 0
FreshPile a = NewPile a × IsUnpicked a

-- By the make: rings over all places, or Bostan piles. Without a head there is no make, and there is no task.
abbrev pub ListsByMake : Option Make → Plan → List (List ℕ) → List ℕ → Type 0
ListsByMake None p names text = (length p.rows ≡ 0) × (text ≡ fault 9 0 0)
ListsByMake (Some make.Ring) p names text = ListsMade ring (NewRing (places_of p.head)) p names text
ListsByMake (Some make.Bostan) p names text = ListsMade bostan FreshPile p names text

-- Every line of the sheet can be read and every row is taken: together they make this plan.
pub record Makes (sheet : List ℕ) (p : Plan) : Type 0 where
  pub read : (whole_reading sheet).fault ≡ None
  pub taken : all_taken (record { head = None; rows = [] }) (whole_reading sheet).rows ≡ Ok p

-- The listing of a sheet's lines: that of its first fault, or of the plan that its rows make, with the make and the names that they give.
-- (Want of memory, whose number is 0, is no fault of the sheet.)
pub data ListsLines (sheet : List ℕ) (text : List ℕ) : Type 0 where
  faulty : (f : LoadFault) (p : Plan) → Stopped (record { head = None; rows = [] }) (whole_reading sheet) f p → 1 ≤ number_of f.cause → text ≡ fault (number_of f.cause) f.line f.column → ListsLines sheet text
  planned : (p : Plan) → Makes sheet p → ListsByMake (make_in (whole_reading sheet).rows) p (names_in (whole_reading sheet).rows) text → ListsLines sheet text

-- The listing that answers a sheet. Its length is asked before any line is read.
pub record Answers (sheet : List ℕ) (text : List ℕ) : Type 0 where
  pub too_long : 65536 < length sheet → text ≡ fault 11 0 0
  pub short : length sheet ≤ 65536 → ListsLines sheet text

-- A sheet has one listing: any two that answer it are the same.
abbrev pub OneListing : Type 0
OneListing = (sheet text other : List ℕ) → Answers sheet text → Answers sheet other → text ≡ other
