-- The state of a run.
use Rattle.std.specs.Prelude.{ℕ, zero, suc, List, replicate, Some, None, Option, slice_index_or, slice_set}
use Rattle.cluster.specs.declared.breach.Breach.{Breach}
use Rattle.cluster.specs.declared.place.Place.{Place}
use Rattle.cluster.specs.declared.place.Place.TheVariants.{Idle}
use Rattle.cluster.specs.declared.place.Event.{Event}
use Rattle.cluster.specs.declared.service.Service.{Service}
use Rattle.cluster.specs.declared.stage.Stage.{Stage}
use Rattle.cluster.specs.declared.stage.Stage.TheVariants.{Ahead}
use Rattle.cluster.specs.Places.{after}

-- The time, how far each row's task is, each place, each bank's service and arbiter, and the breach that stands.
-- Plan and dates are no part of it: they stay.
pub record State (A : Type 0) : Type 0 where
  pub time : ℕ
  pub stages : List Stage
  pub places : List Place
  pub services : List (Option Service)
  pub arbiters : List A
  pub breach : Option Breach

module _ {A : Type 0} where
  -- What row i, place p and bank b have; only rows, places and banks of the plan mean anything.
  abbrev pub stage_of : State A → ℕ → Stage
  stage_of s i = slice_index_or s.stages i Ahead

  abbrev pub place_of : State A → ℕ → Place
  place_of s p = slice_index_or s.places p Idle

  abbrev pub service_of : State A → ℕ → Option Service
  service_of s b = slice_index_or s.services b None

  -- The state with another part.
  abbrev pub with_time : State A → ℕ → State A
  with_time s t = record { time = t; stages = s.stages; places = s.places; services = s.services; arbiters = s.arbiters; breach = s.breach }

  abbrev pub with_stages : State A → List Stage → State A
  with_stages s xs = record { time = s.time; stages = xs; places = s.places; services = s.services; arbiters = s.arbiters; breach = s.breach }

  abbrev pub with_places : State A → List Place → State A
  with_places s xs = record { time = s.time; stages = s.stages; places = xs; services = s.services; arbiters = s.arbiters; breach = s.breach }

  abbrev pub with_services : State A → List (Option Service) → State A
  with_services s xs = record { time = s.time; stages = s.stages; places = s.places; services = xs; arbiters = s.arbiters; breach = s.breach }

  abbrev pub with_arbiters : State A → List A → State A
  with_arbiters s xs = record { time = s.time; stages = s.stages; places = s.places; services = s.services; arbiters = xs; breach = s.breach }

  abbrev pub with_breach : State A → Breach → State A
  with_breach s x = record { time = s.time; stages = s.stages; places = s.places; services = s.services; arbiters = s.arbiters; breach = Some x }

  abbrev pub with_stage : State A → ℕ → Stage → State A
  with_stage s i x = with_stages s (slice_set s.stages i x)

  abbrev pub with_place : State A → ℕ → Place → State A
  with_place s p x = with_places s (slice_set s.places p x)

  abbrev pub with_service : State A → ℕ → Option Service → State A
  with_service s b x = with_services s (slice_set s.services b x)

  -- An event at place p.
  abbrev pub happen : State A → ℕ → Event → State A
  happen s p e = with_place s p (after (place_of s p) e)

  -- At first all places are idle, all tasks ahead, the time is 0 and no bank serves. There is room for the largest plan.
  abbrev pub fresh : List A → State A
  fresh arbiters = record { time = 0; stages = replicate 256 Ahead; places = replicate 32 Idle; services = replicate 16 None; arbiters = arbiters; breach = None }

-- Steps taken one after the other, for 0 up to below n.
abbrev pub each : {X : Type 0} → ℕ → (ℕ → X → X) → X → X
each zero f x = x
each (suc n) f x = f n (each n f x)
