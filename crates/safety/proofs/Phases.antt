-- The first four steps of a cycle, bank by bank and place by place.
use Rattle.std.proofs.Common.{◌≡◌, ℕ, zero, suc, ◌<◌, ◌≤◌, true, Some, None, Option, sym, refl, ap, ◌∙◌, subst, inl, inr, arith}
use Rattle.std.specs.Prelude.{is_some}
use Rattle.std.proofs.lemmas.List.{length-map}
use Rattle.std.proofs.lemmas.Bool.{cases_eq}
use Rattle.std.proofs.lemmas.Bool.Decides.{nat_tests}
use Rattle.plan.specs.declared.rows.Head.{Head}
use Rattle.plan.specs.Rules.{banks_of, legal_heading, latency_of}
use Rattle.cluster.specs.declared.service.Service.{Service}
use Rattle.cluster.specs.Cycles as cycles
use Rattle.cluster.specs.Cycles.{Turns, end_service, next_turn, no_turn, retire}
use Rattle.cluster.specs.States.{State, each, place_of, service_of}
use Rattle.safety.proofs.Agreement.{Linked, Timely, stands_held}
use Rattle.safety.proofs.Moves.{PaidUp, Stages, moved_holder, moved_linked, moved_paid, moved_stages, moved_timely, stages_on, stages_same}
use Rattle.safety.proofs.Setting.{Setting, banks, latency}
use Rattle.safety.proofs.Standing.{cycles_of, holder, stands_at}
use Rattle.safety.proofs.Steps.{Step, end_step, retire_step, turn_step}
use Rattle.safety.proofs.Uses.{Busy, Lively, Stocked, used_linked, used_timely}
use Rattle.safety.proofs.Views.{Sized, view, view_used}

some_latency : (o : Option Head) → legal_heading o ≡ true → 0 < banks_of o → 1 ≤ latency_of o
some_latency None l h = absurd (omega arith)
some_latency (Some h) l b = grind (arith, nat_tests)

module _ {A : Type 0} (c : Setting A) where
  -- A state in which all agree, and tasks at work are in their windows.
  pub record Sane (s : State A) : Type 0 where
    pub sized : Sized c s
    pub linked : Linked c (view c s)
    pub timely : Timely c s.time (view c s)

  -- What the first four steps leave as it is.
  pub record Frame (s t : State A) : Type 0 where
    pub time : t.time ≡ s.time
    pub breach : t.breach ≡ s.breach
    pub stages : Stages c (view c s) (view c t)

  pub record Advance (s t : State A) : Type 0 where
    pub sane : Sane t
    pub frame : Frame s t
    pub paid : (n : ℕ) → PaidUp c n (view c s) → PaidUp c n (view c t)

  advance_none : (s : State A) → Sane s → Advance s s
  advance_none s h = record { sane = h; frame = record { time = refl; breach = refl; stages = stages_same c (view c s) }; paid = λ n x. x }

  frame_on : {s t u : State A} → Frame s t → Frame t u → Frame s u
  frame_on x y = record { time = y.time ∙ x.time; breach = y.breach ∙ x.breach; stages = stages_on c x.stages y.stages }

  advance_on : {s t u : State A} → Advance s t → Advance t u → Advance s u
  advance_on x y = record { sane = y.sane; frame = frame_on x.frame y.frame; paid = λ n h. y.paid n (x.paid n h) }

  pub step_advance : (s t : State A) → Sane s → Step c s t → Advance s t
  step_advance s t h x = record {
    sane = record { sized = x.sized; linked = moved_linked c x.moved h.linked; timely = subst (λ n. Timely c n (view c t)) (sym x.time) (moved_timely c s.time x.moved h.linked h.timely) };
    frame = record { time = x.time; breach = x.breach; stages = moved_stages c x.moved h.linked };
    paid = λ n p. moved_paid c n s.time x.moved h.linked h.timely p;
  }

  -- The banks below n have picked.
  pub record PickedBelow (n : ℕ) (s t : State A) : Type 0 where
    pub advance : Advance s t
    pub lively : Lively c (view c s) → Lively c (view c t)
    pub busy : (d : ℕ) → d < n → Busy c (view c t) d

  pick_one : (n : ℕ) (s t u : State A) → n < banks c → PickedBelow n s t → cycles.Turn c.model (latency c) n t u → PickedBelow (suc n) s u
  pick_one n s t u bank h turn =
      let sane = h.advance.sane in
      let x = turn_step c t sane.sized sane.linked n u bank turn in
      record {
        advance = advance_on h.advance (step_advance t u sane x.step);
        lively = λ l. let lv = h.lively l in
            record {
              task = λ q k e. let old = moved_holder c q k x.step.moved e in omega (arith, old.1, lv.task q k old.0);
              service = λ d y i e. elim (cases_eq d n) [
                | inl same ↦ elim (x.begun y (ap (service_of u) (sym same) ∙ e)) [
                  | inl old ↦ lv.service n y bank old
                  | inr full ↦ omega (arith, full, some_latency c.plan.head c.kept.headed (omega arith))
                ]
                | inr apart ↦ lv.service d y i (sym (x.elsewhere d apart).0 ∙ e)
              ];
              low = λ d y i e. elim (cases_eq d n) [
                | inl same ↦ elim (x.begun y (ap (service_of u) (sym same) ∙ e)) [ inl old ↦ lv.low n y bank old | inr full ↦ omega (arith, full) ]
                | inr apart ↦ lv.low d y i (sym (x.elsewhere d apart).0 ∙ e)
              ];
            };
        busy = λ d l. elim (cases_eq d n) [
          | inl same ↦ subst (Busy c (view c u)) (sym same) x.busy
          | inr apart ↦ λ o w. ap is_some (x.elsewhere d apart).0 ∙ h.busy d (omega arith) o (ap (λ z. c.model.waiting z o) (sym (x.elsewhere d apart).1) ∙ w)
        ];
      }

  pub picks : {n : ℕ} {s t : State A} → Turns c.model (latency c) n s t → n ≤ banks c → Sane s → PickedBelow n s t
  picks (no_turn {s}) l h = record { advance = advance_none s h; lively = λ lv. lv; busy = λ d i. absurd (omega arith) }
  picks (next_turn {n} {s} {t} {u} r turn) l h = pick_one n s t u (omega arith) (picks r (omega arith) h) turn

  -- All banks have picked.
  abbrev pub TurnedAll : State A → State A → Type 0
  TurnedAll s t = Turns c.model (latency c) (banks c) s t

  -- All places and services use a cycle.
  pub used_sane : (s : State A) → Sane s → Sane (cycles.used s)
  used_sane s h = record {
    sized = record { stages = h.sized.stages; places = length-map s.places _ ∙ h.sized.places; services = length-map s.services _ ∙ h.sized.services; arbiters = h.sized.arbiters };
    linked = subst (Linked c) (sym (view_used c s)) (used_linked c (view c s) h.linked);
    timely = subst (Timely c s.time) (sym (view_used c s)) (used_timely c s.time (view c s) h.timely);
  }

  pub used_frame : (s : State A) → Frame s (cycles.used s)
  used_frame s = record { time = refl; breach = refl; stages = record { worked = λ k e. e; ahead = λ k e. e; begun = λ k e. e } }

  -- The services of the banks below n have ended, if they were over.
  pub record EndedBelow (n : ℕ) (s t : State A) : Type 0 where
    pub advance : Advance s t
    pub stocked : Stocked c (view c s) → Stocked c (view c t)
    pub on : (d : ℕ) (y : Service) → d < n → service_of t d ≡ Some y → 1 ≤ y.left

  -- A place that stands at a bank keeps its cycles.
  still_stocked : (s t : State A) → Step c s t → (q d : ℕ) → stands_at (place_of t q) d ≡ true → 1 ≤ cycles_of (place_of s q) → 1 ≤ cycles_of (place_of t q)
  still_stocked s t x q d e h = let k = stands_held (place_of t q) d e in omega (arith, (moved_holder c q k.0 x.moved k.1).1)

  end_one : (n : ℕ) (s t : State A) → n < banks c → EndedBelow n s t → EndedBelow (suc n) s (end_service n t)
  end_one n s t bank h =
      let sane = h.advance.sane in
      let x = end_step c t sane.sized sane.linked n bank in
      record {
        advance = advance_on h.advance (step_advance t (end_service n t) sane x.step);
        stocked = λ st. let old = h.stocked st in
            record {
              task = λ q d e. still_stocked t (end_service n t) x.step q d e (old.task q d (x.stood q d e));
              low = λ d y i e. elim (cases_eq d n) [
                | inl same ↦ old.low n y bank (x.on y (ap (service_of (end_service n t)) (sym same) ∙ e)).0
                | inr apart ↦ old.low d y i (sym (x.elsewhere d apart) ∙ e)
              ];
            };
        on = λ d y l e. elim (cases_eq d n) [
          | inl same ↦ (x.on y (ap (service_of (end_service n t)) (sym same) ∙ e)).1
          | inr apart ↦ h.on d y (omega arith) (sym (x.elsewhere d apart) ∙ e)
        ];
      }

  pub ends : (n : ℕ) (s : State A) → n ≤ banks c → Sane s → EndedBelow n s (each n end_service s)
  ends zero s l h = record { advance = advance_none s h; stocked = λ st. st; on = λ d y i e. absurd (omega arith) }
  ends (suc n) s l h = end_one n s (each n end_service s) (omega arith) (ends n s (omega arith) h)

  -- The tasks at the places below n are done, if they have no cycle left.
  pub record RetiredBelow (n : ℕ) (s t : State A) : Type 0 where
    pub advance : Advance s t
    pub stocked : Stocked c (view c s) → Stocked c (view c t)
    pub services : (d : ℕ) → service_of t d ≡ service_of s d
    pub lively : Stocked c (view c s) → (q k : ℕ) → q < n → holder (place_of t q) ≡ Some k → 1 ≤ cycles_of (place_of t q)

  retire_one : (n : ℕ) (s t : State A) → RetiredBelow n s t → RetiredBelow (suc n) s (retire n t)
  retire_one n s t h =
      let sane = h.advance.sane in
      let x = retire_step c t sane.sized sane.linked n in
      record {
        advance = advance_on h.advance (step_advance t (retire n t) sane x.step);
        stocked = λ st. let old = h.stocked st in
            record {
              task = λ q d e. still_stocked t (retire n t) x.step q d e (old.task q d (x.stood q d e));
              low = λ d y i e. old.low d y i (sym (x.services d) ∙ e);
            };
        services = λ d. x.services d ∙ h.services d;
        lively = λ st q k l e. elim (cases_eq q n) [
          | inl same ↦ subst (λ o. 1 ≤ cycles_of (place_of (retire n t) o)) (sym same) (x.lively (h.stocked st) k (ap (λ o. holder (place_of (retire n t) o)) (sym same) ∙ e))
          | inr apart ↦ (let old = moved_holder c q k x.step.moved e in omega (arith, old.1, h.lively st q k (omega arith) old.0))
        ];
      }

  pub retires : (n : ℕ) (s : State A) → Sane s → RetiredBelow n s (each n retire s)
  retires zero s h = record { advance = advance_none s h; stocked = λ st. st; services = λ d. refl; lively = λ st q k l e. absurd (omega arith) }
  retires (suc n) s h = retire_one n s (each n retire s) (retires n s h)
