-- What releases and cycles do.
use Rattle.std.specs.Prelude.{◌≡◌, ℕ, zero, suc, ◌+◌, ◌-◌, Bool, true, false, cond, not, ◌&&◌, ◌||◌, List, map, length, replicate, Some, None, Option, is_some, ◌==◌, slice_set}
use Rattle.std.specs.List.{slice_get}
use Rattle.plan.specs.Rows.{Plan, row}
use Rattle.plan.specs.Rules.{banks_of, places_of, period_of}
use Rattle.plan.specs.Waits.{waits_for}
use Rattle.arbiter.specs.Answers.{AfterPick}
use Rattle.arbiter.specs.Meaning.{Model}
use Rattle.date_check.specs.declared.dates.Dates.{Dates}
use Rattle.date_check.specs.Sound.{dated, finish}
use Rattle.cluster.specs.declared.breach.Breach.TheVariants.{Overdue, Unready}
use Rattle.cluster.specs.declared.place.Job.{Job}
use Rattle.cluster.specs.declared.place.Place.{Place}
use Rattle.cluster.specs.declared.place.Place.TheVariants.{Idle, Working, Waiting, Served}
use Rattle.cluster.specs.declared.place.Event.TheVariants.{Picked, CycleUsed, ServiceEnded}
use Rattle.cluster.specs.declared.service.Service.{Service}
use Rattle.cluster.specs.declared.stage.Stage.{Stage}
use Rattle.cluster.specs.declared.stage.Stage.TheVariants.{Ahead, AtWork, Done}
use Rattle.cluster.specs.Places.{after}
use Rattle.cluster.specs.States.{State, stage_of, place_of, service_of, with_time, with_stages, with_places, with_services, with_arbiters, with_breach, with_stage, with_place, with_service, happen, each}

abbrev pub is_idle : Place → Bool
is_idle Idle = true
is_idle (Working j) = false
is_idle (Waiting j bank) = false
is_idle (Served j bank) = false

abbrev pub is_at_work : Stage → Bool
is_at_work Ahead = false
is_at_work AtWork = true
is_at_work Done = false

abbrev pub is_done : Stage → Bool
is_done Ahead = false
is_done AtWork = false
is_done Done = true

-- The lowest row below n that passes a test, if one does.
abbrev pub or_else : Option ℕ → Option ℕ → Option ℕ
or_else None y = y
or_else (Some i) y = Some i

abbrev pub lowest : ℕ → (ℕ → Bool) → Option ℕ
lowest zero f = None
lowest (suc n) f = or_else (lowest n f) (cond (f n) (Some n) None)

-- Releases.
module _ {A : Type 0} (p : Plan) where
  -- Are those of the rows below n that task i waits for done?
  abbrev pub all_done : State A → ℕ → ℕ → Bool
  all_done s i zero = true
  all_done s i (suc k) = (not (waits_for p.rows i k) || is_done (stage_of s k)) && all_done s i k

  -- Is the place of task i idle, and are all done that it waits for?
  abbrev pub ready : State A → ℕ → Bool
  ready s i = is_idle (place_of s (row p.rows i).place) && all_done s i (length p.rows)

-- A started task has its full cycles and accesses,
abbrev pub new_job : Plan → ℕ → Job
new_job p i = record { task = i; cycles = (row p.rows i).cycles; accesses = (row p.rows i).demands }

module _ {A : Type 0} (p : Plan) (table : List Dates) where
  -- it is at work, and its place works.
  abbrev pub start : ℕ → State A → State A
  start i s = with_stage (with_place s (row p.rows i).place (Working (new_job p i))) i AtWork

  -- A task whose date is the time starts if it is ready, else there is a breach. After a breach there are no releases.
  abbrev pub release : ℕ → State A → State A
  release i s =
      cond (is_some s.breach) s
      (cond ((dated table i).release == s.time) (cond (ready p s i) (start i s) (with_breach s (Unready i))) s)

  -- The releases of the rows below n, by rows.
  abbrev pub releases : ℕ → State A → State A
  releases n s = each n release s

-- Steps 2 to 4 of a cycle.
abbrev pub service_used : Option Service → Option Service
service_used None = None
service_used (Some v) = Some (record { place = v.place; left = v.left - 1 })

module _ {A : Type 0} where
  -- Each service and each working place uses one cycle.
  abbrev pub used : State A → State A
  used s = with_services (with_places s (map (λ x. after x CycleUsed) s.places)) (map service_used s.services)

  -- The service of bank b ends if it has no cycle left, and its place works.
  abbrev pub ended : ℕ → Option Service → State A → State A
  ended b None s = s
  ended b (Some v) s = cond (v.left == 0) (happen (with_service s b None) v.place ServiceEnded) s

  abbrev pub end_service : ℕ → State A → State A
  end_service b s = ended b (service_of s b) s

  -- A working place with no task cycles left is idle, and its task done.
  abbrev pub retired : ℕ → Place → State A → State A
  retired q Idle s = s
  retired q (Working j) s = cond (j.cycles == 0) (with_stage (with_place s q Idle) j.task Done) s
  retired q (Waiting j bank) s = s
  retired q (Served j bank) s = s

  abbrev pub retire : ℕ → State A → State A
  retire q s = retired q (place_of s q) s

  abbrev pub all_ended : Plan → State A → State A
  all_ended p s = each (banks_of p.head) end_service s

  abbrev pub all_retired : Plan → State A → State A
  all_retired p s = each (places_of p.head) retire s

  -- Step 5: time grows by one. This is the state in which finish dates are looked at.
  abbrev pub worked : Plan → State A → State A
  worked p s = let t = all_retired p (all_ended p (used s)) in with_time t (t.time + 1)

  -- Is task i at work at its finish date?
  abbrev pub is_overdue : List Dates → State A → ℕ → Bool
  is_overdue table s i = is_at_work (stage_of s i) && finish (dated table i) == s.time

  -- The lowest such row.
  abbrev pub overdue : Plan → List Dates → State A → Option ℕ
  overdue p table s = lowest (length p.rows) (is_overdue table s)

  -- At the period, time becomes 0 and all tasks are ahead.
  abbrev pub wrapped : Plan → State A → State A
  wrapped p s = cond (s.time == period_of p.head) (with_stages (with_time s 0) (replicate 256 Ahead)) s

  -- With a task at work at its finish date the cycle ends in a breach, else releases follow.
  abbrev pub closing : Plan → List Dates → Option ℕ → State A → State A
  closing p table (Some i) s = with_breach s (Overdue i)
  closing p table None s = releases p table (length p.rows) (wrapped p s)

  abbrev pub close : Plan → List Dates → State A → State A
  close p table s = closing p table (overdue p table s) s

-- Step 1.
module _ {A : Type 0} (m : Model A) (latency : ℕ) where
  -- After a pick of bank b: the place picked is served for the latency.
  abbrev pub picked : ℕ → Option ℕ → State A → State A
  picked b None s = s
  picked b (Some o) s = with_service (happen s o Picked) b (Some (record { place = o; left = latency }))

  -- The arbiter of bank b picks.
  pub record Picking (b : ℕ) (s t : State A) : Type 0 where
    pub before : A
    pub after : A
    pub answer : Option ℕ
    pub stood : slice_get s.arbiters b ≡ Some before
    pub picks : AfterPick m before after answer
    pub leaves : t ≡ picked b answer (with_arbiters s (slice_set s.arbiters b after))

  -- A bank with a service does not pick.
  abbrev pub TurnOf : Option Service → ℕ → State A → State A → Type 0
  TurnOf None b s t = Picking b s t
  TurnOf (Some v) b s t = t ≡ s

  abbrev pub Turn : ℕ → State A → State A → Type 0
  Turn b s t = TurnOf (service_of s b) b s t

  -- The banks below n in turn.
  pub data Turns : ℕ → State A → State A → Type 0 where
    no_turn : {s : State A} → Turns zero s s
    next_turn : {n : ℕ} {s t u : State A} → Turns n s t → Turn n t u → Turns (suc n) s u
