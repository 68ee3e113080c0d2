-- What set-up, asks and cycles answer, and what they leave.
use Rattle.std.specs.Prelude.{◌≡◌, ℕ, zero, suc, Bool, true, cond, not, ◌&&◌, List, [], ◌∷◌, length, Some, None, Ok, Err, Option, Result, is_some, nat_le, nat_lt, slice_set}
use Rattle.std.specs.List.{slice_get}
use Rattle.plan.specs.Rows.{Plan}
use Rattle.plan.specs.Rules.{banks_of, between, places_of, latency_of, period_of}
use Rattle.arbiter.specs.Answers.{post_answer, someone}
use Rattle.arbiter.specs.Meaning.{Model}
use Rattle.arbiter.specs.declared.refusal.Refusal as arbiters
use Rattle.date_check.specs.declared.dates.Dates.{Dates}
use Rattle.date_check.specs.Sound.{dated, finish}
use Rattle.date_check.specs.Verdict.{arbiters_fit}
use Rattle.cluster.specs.declared.breach.Breach.{Breach}
use Rattle.cluster.specs.declared.place.Place.{Place}
use Rattle.cluster.specs.declared.place.Place.TheVariants as places
use Rattle.cluster.specs.declared.place.Event.TheVariants.{Asked}
use Rattle.cluster.specs.declared.refusal.CallRefusal.{CallRefusal}
use Rattle.cluster.specs.declared.refusal.CallRefusal.TheVariants.{Breached, Unknown, Idle, Busy, Spent}
use Rattle.cluster.specs.declared.refusal.SetUpRefusal.{SetUpRefusal}
use Rattle.cluster.specs.declared.refusal.SetUpRefusal.TheVariants.{NoTask, Arbiters, Table, Waiting, Range, Late}
use Rattle.cluster.specs.Cycles.{Turns, close, lowest, releases, worked}
use Rattle.cluster.specs.Places.{left_at}
use Rattle.cluster.specs.States.{State, fresh, happen, place_of, with_arbiters}

-- A question: without a yes the refusal is this one, else the rest decides.
abbrev pub asked : {F : Type 0} → Bool → F → Option F → Option F
asked answer refusal rest = cond answer rest (Some refusal)

-- Set-up.

-- Does nobody wait at any of these arbiters?
abbrev pub all_quiet : {A : Type 0} → Model A → List A → Bool
all_quiet m [] = true
all_quiet m (a ∷ rest) = not (someone (m.width a) (m.waiting a)) && all_quiet m rest

-- Is the release of one row at most 1,000,000,000, and its response from 1 to that?
abbrev pub runs_in_range : Dates → Bool
runs_in_range d = nat_le d.release 1000000000 && between 1 1000000000 d.response

-- Are those of the rows below n?
abbrev pub all_in_range : List Dates → ℕ → Bool
all_in_range table zero = true
all_in_range table (suc n) = runs_in_range (dated table n) && all_in_range table n

-- Does a row finish after the period?
abbrev pub is_late : Plan → List Dates → ℕ → Bool
is_late p table i = nat_lt (period_of p.head) (finish (dated table i))

abbrev pub late_refusal : Option ℕ → Option SetUpRefusal
late_refusal None = None
late_refusal (Some i) = Some (Late i)

abbrev pub set_up_refusal : {A : Type 0} → Model A → Plan → List Dates → List A → Option SetUpRefusal
set_up_refusal m p table arbiters =
    asked (nat_lt 0 (length p.rows)) NoTask
    (asked (arbiters_fit m p arbiters) Arbiters
    (asked (nat_le (length p.rows) (length table)) Table
    (asked (all_quiet m arbiters) Waiting
    (asked (all_in_range table (length p.rows)) Range
    (late_refusal (lowest (length p.rows) (is_late p table)))))))

-- Set-up ends with the releases of time 0.
abbrev pub set_up : {A : Type 0} → Plan → List Dates → List A → State A
set_up p table arbiters = releases p table (length p.rows) (fresh arbiters)

-- Asks.

-- Is a task at work there? Is its place working? Has it an access to that bank left?
abbrev pub place_refusal : Place → ℕ → Option CallRefusal
place_refusal places.Idle b = Some Idle
place_refusal (places.Working j) b = asked (nat_lt 0 (left_at j b)) Spent None
place_refusal (places.Waiting j bank) b = Some Busy
place_refusal (places.Served j bank) b = Some Busy

abbrev pub ask_refusal : {A : Type 0} → Plan → State A → ℕ → ℕ → Option CallRefusal
ask_refusal p s q b =
    asked (not (is_some s.breach)) Breached
    (asked (nat_lt q (places_of p.head) && nat_lt b (banks_of p.head)) Unknown
    (place_refusal (place_of s q) b))

module _ {A : Type 0} (m : Model A) where
  -- The access is used up; place q posts at the arbiter of bank b, and waits.
  pub record Posting (s : State A) (q b : ℕ) (t : State A) : Type 0 where
    pub before : A
    pub after : A
    pub stood : slice_get s.arbiters b ≡ Some before
    pub posts : m.posted before q after
    pub leaves : t ≡ happen (with_arbiters s (slice_set s.arbiters b after)) q (Asked b)

  -- The arbiter of bank b does not take a post of q. No run comes to that.
  pub record TurnedAway (s : State A) (q b : ℕ) : Type 0 where
    pub arbiter : A
    pub refusal : arbiters.Refusal
    pub stood : slice_get s.arbiters b ≡ Some arbiter
    pub refuses : post_answer (m.width arbiter) (m.waiting arbiter) q ≡ Err refusal

  -- A refused ask changes nothing.
  abbrev pub Asking : Option CallRefusal → State A → ℕ → ℕ → Result (Unit {0}) CallRefusal → State A → Type 0
  Asking (Some f) s q b r t = (r ≡ Err f) × (t ≡ s)
  Asking None s q b (Ok u) t = Posting s q b t
  Asking None s q b (Err f) t = (f ≡ Busy) × (t ≡ s) × TurnedAway s q b

  abbrev pub Ask : Plan → State A → ℕ → ℕ → Result (Unit {0}) CallRefusal → State A → Type 0
  Ask p s q b r t = Asking (ask_refusal p s q b) s q b r t

  -- Cycles.

  -- First the banks pick, then the rest follows.
  pub record Cycling (p : Plan) (table : List Dates) (s t : State A) : Type 0 where
    pub picked : State A
    pub turns : Turns m (latency_of p.head) (banks_of p.head) s picked
    pub leaves : t ≡ close p table (worked p picked)

  -- A refused cycle changes nothing.
  abbrev pub CycleOf : Option Breach → Plan → List Dates → State A → Result (Unit {0}) CallRefusal → State A → Type 0
  CycleOf (Some x) p table s r t = (r ≡ Err Breached) × (t ≡ s)
  CycleOf None p table s r t = (r ≡ Ok tt) × Cycling p table s t

  abbrev pub Cycle : Plan → List Dates → State A → Result (Unit {0}) CallRefusal → State A → Type 0
  Cycle p table s r t = CycleOf s.breach p table s r t
