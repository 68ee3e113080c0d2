-- Runs, their moments, and what is promised of them.
use Rattle.std.specs.Prelude.{◌≡◌, ℕ, ◌<◌, ◌≤◌, true, List, length, None, Result}
use Rattle.plan.specs.Rows.{Plan, row}
use Rattle.plan.specs.Rules.{Kept, banks_of, places_of, latency_of}
use Rattle.plan.specs.Waits.{waits_for}
use Rattle.arbiter.specs.Meaning.{Model}
use Rattle.date_check.specs.declared.dates.Dates.{Dates}
use Rattle.date_check.specs.Sound.{Sound, dated, finish}
use Rattle.cluster.specs.declared.place.Place.TheVariants.{Idle}
use Rattle.cluster.specs.declared.refusal.CallRefusal.{CallRefusal}
use Rattle.cluster.specs.declared.stage.Stage.TheVariants.{AtWork, Done}
use Rattle.cluster.specs.Calls.{Ask, Cycle, TurnedAway, ask_refusal, set_up, set_up_refusal}
use Rattle.cluster.specs.Cycles.{Turns, all_ended, end_service, overdue, releases, retire, used, worked, wrapped}
use Rattle.cluster.specs.States.{State, each, fresh, place_of, stage_of}

module _ {A : Type 0} (m : Model A) (p : Plan) (table : List Dates) (arbiters : List A) where
  -- The states that a run comes to: from its set-up through any list of asks, cycles and questions, taken or refused.
  pub data Comes : State A → Type 0 where
    sets_up : Comes (set_up p table arbiters)
    asks : {s t : State A} (q b : ℕ) (r : Result (Unit {0}) CallRefusal) → Comes s → Ask m p s q b r t → Comes t
    cycles : {s t : State A} (r : Result (Unit {0}) CallRefusal) → Comes s → Cycle m p table s r t → Comes t
    questions : {s : State A} → Comes s → Comes s

  -- A cycle that begins, with the picks of the banks below n behind it.
  pub record Begun (n : ℕ) (t : State A) : Type 0 where
    pub from : State A
    pub comes : Comes from
    pub unbroken : from.breach ≡ None
    pub turns : Turns m (latency_of p.head) n from t

  -- The states in which the release date of row i is looked at, in set-up or in a cycle: the rows before it have been.
  pub data BeforeRelease (i : ℕ) : State A → Type 0 where
    in_set_up : BeforeRelease i (releases p table i (fresh arbiters))
    in_cycle : {t : State A} → Begun (banks_of p.head) t → overdue p table (worked p t) ≡ None → BeforeRelease i (releases p table i (wrapped p (worked p t)))

  -- All moments of a run.
  pub data Moment : State A → Type 0 where
    -- Between two calls;
    between : {s : State A} → Comes s → Moment s
    -- in a cycle, while the banks pick,
    picks : {n : ℕ} {t : State A} → n ≤ banks_of p.head → Begun n t → Moment t
    -- when cycles have been used and while services end,
    ends : {n : ℕ} {t : State A} → n ≤ banks_of p.head → Begun (banks_of p.head) t → Moment (each n end_service (used t))
    -- while tasks are done,
    retires : {n : ℕ} {t : State A} → n ≤ places_of p.head → Begun (banks_of p.head) t → Moment (each n retire (all_ended p (used t)))
    -- when time has grown and finish dates are looked at,
    looks : {t : State A} → Begun (banks_of p.head) t → Moment (worked p t)
    -- and while rows are released, in set-up too.
    frees : {i : ℕ} {s : State A} → i ≤ length p.rows → BeforeRelease i s → Moment s

  -- No breach stands, and whoever is at work has not come to its finish date.
  pub record Safe (s : State A) : Type 0 where
    pub unbroken : s.breach ≡ None
    pub in_time : (i : ℕ) → i < length p.rows → stage_of s i ≡ AtWork → s.time < finish (dated table i)

  -- The place of task i is idle, and all that it waits for are done.
  pub record Ready (i : ℕ) (s : State A) : Type 0 where
    pub idle : place_of s (row p.rows i).place ≡ Idle
    pub done : (k : ℕ) → waits_for p.rows i k ≡ true → stage_of s k ≡ Done

  -- A run that keeps its dates: it is safe at every moment, and no release date comes before its task is ready.
  pub record Unbreached : Type 0 where
    pub safe : (s : State A) → Moment s → Safe s
    pub ready : (i : ℕ) (s : State A) → i < length p.rows → BeforeRelease i s → (dated table i).release ≡ s.time → Ready i s

-- No run that was set up with sound dates breaches them.
abbrev pub SoundUnbreached : {A : Type 0} → Model A → Type 0
SoundUnbreached {A} m = (p : Plan) (table : List Dates) (arbiters : List A) → Kept p → set_up_refusal m p table arbiters ≡ None → Sound m p arbiters table → Unbreached m p table arbiters

-- In no run, whatever its dates, does an arbiter turn away an ask that the rules take.
abbrev pub NeverTurnedAway : {A : Type 0} → Model A → Type 0
NeverTurnedAway {A} m = (p : Plan) (table : List Dates) (arbiters : List A) → Kept p → set_up_refusal m p table arbiters ≡ None → (s : State A) → Comes m p table arbiters s → (q b : ℕ) → ask_refusal p s q b ≡ None → TurnedAway m s q b → ⊥
