-- The runs of the program as values, and what their calls answer.
use Rattle.std.specs.Prelude.{◌≡◌, ℕ, ◌<◌, Bool, cond, List, length, Some, None, Ok, Err, vec_items, Option, Result, nat_lt}
use Rattle.plan.specs.declared.closed.ClosedPlan.{ClosedPlan}
use Rattle.plan.specs.Plans.{closed}
use Rattle.plan.specs.Rows.{Plan}
use Rattle.plan.specs.Rules.{banks_of, places_of}
use Rattle.date_check.specs.declared.dates.Dates.{Dates}
use Rattle.cluster.specs.declared.place.Place.{Place}
use Rattle.cluster.specs.declared.refusal.CallRefusal.{CallRefusal}
use Rattle.cluster.specs.declared.refusal.CallRefusal.TheVariants.{Unknown}
use Rattle.cluster.specs.declared.refusal.SetUpRefusal.{SetUpRefusal}
use Rattle.cluster.specs.declared.stage.Stage.{Stage}
use Rattle.cluster.specs.Calls.{set_up}
use Rattle.cluster.specs.States.{State, place_of, stage_of}
use Rattle.run.specs.declared.state.Refused.{Refused}
use Rattle.run.specs.declared.state.Run.{Run}

module _ {A : Type 0} where
  -- What a run stands for: its plan and its dates, which stay, and its state.
  abbrev pub planned : Run A → Plan
  planned r = closed r.plan.now

  abbrev pub table : Run A → List Dates
  table r = r.dates.now

  abbrev pub state : Run A → State A
  state r = record { time = r.time; stages = r.stages; places = r.places; services = r.services; arbiters = vec_items r.arbiters; breach = r.breach }

  -- A row and a bank of the run's plan.
  abbrev pub HasRow : Run A → ℕ → Type 0
  HasRow r i = i < length (planned r).rows

  abbrev pub HasBank : Run A → ℕ → Type 0
  HasBank r b = b < banks_of (planned r).head

  -- Between r and q the plan and the dates stay.
  abbrev pub Stays : Run A → Run A → Type 0
  Stays r q = (q.plan ≡ r.plan) × (q.dates ≡ r.dates)

  -- From r to q the state changes as the rule says, and all else stays.
  pub record Moves (rule : State A → State A → Type 0) (r q : Run A) : Type 0 where
    pub moves : rule (state r) (state q)
    pub stays : Stays r q

  -- The same by a step, which says exactly what it leaves.
  pub record Goes (step : State A → State A) (r q : Run A) : Type 0 where
    pub leaves : state q ≡ step (state r)
    pub stays : Stays r q

  -- A refused set-up hands its arbiters back; else there is a run with this plan and these dates, in the state that set-up leaves.
  abbrev pub SetsUp : Option SetUpRefusal → ClosedPlan → List Dates → List A → Result (Run A) (Refused A) → Type 0
  SetsUp (Some f) plan dates arbiters (Ok r) = ⊥
  SetsUp (Some f) plan dates arbiters (Err e) = (e.refusal ≡ f) × (vec_items e.arbiters ≡ arbiters)
  SetsUp None plan dates arbiters (Ok r) = (r.plan.now ≡ plan) × (r.dates.now ≡ dates) × (state r ≡ set_up (closed plan) dates arbiters)
  SetsUp None plan dates arbiters (Err e) = ⊥

-- An answer where what was asked for is known, else the refusal of the unknown.
abbrev pub told : {X : Type 0} → Bool → X → Result X CallRefusal
told known x = cond known (Ok x) (Err Unknown)

module _ {A : Type 0} where
  abbrev pub task_told : Run A → ℕ → Result Stage CallRefusal
  task_told r i = told (nat_lt i (length (planned r).rows)) (stage_of (state r) i)

  abbrev pub place_told : Run A → ℕ → Result Place CallRefusal
  place_told r q = told (nat_lt q (places_of (planned r).head)) (place_of (state r) q)
