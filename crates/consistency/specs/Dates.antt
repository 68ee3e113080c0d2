-- Consistent dates, and the rounds that find them.
use Rattle.std.specs.Prelude.{◌≡◌, ℕ, zero, suc, ◌+◌, ◌<◌, ◌≤◌, max, Bool, false, cond, ◌&&◌, ◌≢◌, nat_lt}
use Rattle.consistency.specs.System.{System}

-- A number for each row, such as its release or its response; only the rows of tasks mean anything.
abbrev pub Table : Type 0
Table = ℕ → ℕ

-- Two tables are equal in the rows of tasks.
abbrev pub Same : System → Table → Table → Type 0
Same y a b = (i : ℕ) → i < y.tasks → a i ≡ b i

-- One table is nowhere above another in the rows of tasks.
abbrev pub AtMost : System → Table → Table → Type 0
AtMost y a b = (i : ℕ) → i < y.tasks → a i ≤ b i

-- The finish of task k is its release and its response together.
abbrev pub finish : Table → Table → ℕ → ℕ
finish rel res k = rel k + res k

-- Do tasks i and k meet, if the response of i is r? They do if they are at different places and each is released before the other's finish.
-- Windows that only touch do not meet.
abbrev pub meets : System → Table → Table → ℕ → ℕ → ℕ → Bool
meets y rel res i r k = y.apart i k && (nat_lt (rel i) (finish rel res k) && nat_lt (rel k) (rel i + r))

-- What task i takes at worst, if its response is r and all else is fixed.
abbrev pub worst : System → Table → Table → ℕ → ℕ → ℕ
worst y rel res i r = y.work i (meets y rel res i r)

-- What task i takes at worst if it meets nobody.
abbrev pub alone : System → ℕ → ℕ
alone y i = y.work i (λ k. false)

-- No response is below what its task takes at worst.
abbrev pub Covered : System → Table → Table → Type 0
Covered y rel res = (i : ℕ) → i < y.tasks → worst y rel res i (res i) ≤ res i

-- The smallest number with a property.
pub record Smallest (P : ℕ → Type 0) (r : ℕ) : Type 0 where
  pub holds : P r
  pub least : (x : ℕ) → P x → r ≤ x

-- For these releases, each response is the smallest number that equals what its task takes at worst, all else fixed.
abbrev pub SmallestResponses : System → Table → Table → Type 0
SmallestResponses y rel res = (i : ℕ) → i < y.tasks → Smallest (λ r. worst y rel res i r ≡ r) (res i)

-- Responses that are nowhere above smallest ones for the same releases: what raising them from below keeps.
abbrev pub BelowSmallest : System → Table → Table → Type 0
BelowSmallest y rel res = (best : Table) → SmallestResponses y rel best → AtMost y res best

-- The latest of a first date and of the dates of the marked rows before row m.
abbrev pub latest : ℕ → (ℕ → Bool) → (ℕ → ℕ) → ℕ → ℕ
latest first marked dates zero = first
latest first marked dates (suc m) = max (latest first marked dates m) (cond (marked m) (dates m) 0)

-- Task i is ready at the latest of its earliest date and of the finishes that it waits for.
abbrev pub ready : System → Table → Table → ℕ → ℕ
ready y rel res i = latest (y.earliest i) (y.waits i) (finish rel res) i

-- The release rule: a task is released when it may first start once it is ready.
abbrev pub release_date : System → Table → Table → ℕ → ℕ
release_date y rel res i = y.start (ready y rel res i)

-- Each task is released by the rule, which reads only the rows before its own.
abbrev pub Released : System → Table → Table → Type 0
Released y rel res = (i : ℕ) → i < y.tasks → rel i ≡ release_date y rel res i

-- Dates are consistent if each release follows the rule and each response is the smallest.
pub record Consistent (y : System) (rel res : Table) : Type 0 where
  pub released : Released y rel res
  pub responses : SmallestResponses y rel res

-- A round: the smallest responses for its releases, then the releases renewed by rows from these responses and the new earlier releases.
pub record Round (y : System) (rel res new : Table) : Type 0 where
  pub responses : SmallestResponses y rel res
  pub released : Released y new res

-- Some release differs.
pub record Changed (y : System) (old new : Table) : Type 0 where
  pub row : ℕ
  pub task : row < y.tasks
  pub moved : old row ≢ new row

-- The first dates: the release rule by rows, with responses without meetings.
abbrev pub FirstDates : System → Table → Type 0
FirstDates y rel = Released y rel (alone y)

-- The releases after so many rounds from the first dates on, each of which changed a release.
pub data Reached (y : System) : ℕ → Table → Type 0 where
  first : {rel : Table} → FirstDates y rel → Reached y zero rel
  then_round : {j : ℕ} {rel res new : Table} → Reached y j rel → Round y rel res new → Changed y rel new → Reached y (suc j) new

-- The rounds up to the first that changes no release: it is the last, it is counted, and these are its dates.
pub record Rounds (y : System) (count : ℕ) (rel res : Table) : Type 0 where
  -- How many rounds came before.
  pub before : ℕ
  pub counted : count ≡ suc before
  pub reached : Reached y before rel
  pub last : Round y rel res rel
