-- Releases keep all in agreement, whatever the dates; with sound dates each task is ready when its date comes.
use Rattle.std.proofs.Common.{◌≡◌, ℕ, zero, suc, ◌<◌, ◌≤◌, true, cond, eqb, ◌≢◌, Some, None, sym, refl, ap, ◌∙◌, subst, inl, inr, arith}
use Rattle.std.specs.Prelude.{is_some}
use Rattle.std.proofs.lemmas.List.{length-set}
use Rattle.std.proofs.lemmas.Bool.{and_from, and_parts, cases_eq, cases_order, cond_both, eq-eqb, eqb-true, false≢true, ne_eqb}
use Rattle.plan.proofs.Waiting.{waits_below}
use Rattle.date_check.specs.Sound.{Sound}
use Rattle.cluster.specs.declared.breach.Breach.{Breach}
use Rattle.cluster.specs.declared.breach.Breach.TheVariants.{Unready}
use Rattle.cluster.specs.declared.place.Place.{Place}
use Rattle.cluster.specs.declared.place.Place.TheVariants.{Idle, Working, Waiting, Served}
use Rattle.cluster.specs.declared.stage.Stage.{Stage}
use Rattle.cluster.specs.declared.stage.Stage.TheVariants.{Ahead, AtWork, Done}
use Rattle.cluster.specs.Cycles as cycles
use Rattle.cluster.specs.Cycles.{all_done, is_idle, new_job, ready, releases, start}
use Rattle.cluster.specs.Runs.{Ready}
use Rattle.cluster.specs.States.{State, place_of, stage_of, with_breach}
use Rattle.safety.proofs.Accounts.{Paid}
use Rattle.safety.proofs.Agreement.{Linked, Timely, home_below, idle_or_held}
use Rattle.safety.proofs.Lowest.{all_are_done}
use Rattle.safety.proofs.Moves.{PaidUp, at_work_ahead}
use Rattle.safety.proofs.Order.{in_turn}
use Rattle.safety.proofs.Phases.{Sane}
use Rattle.safety.proofs.Setting.{Setting, home, release, rows}
use Rattle.safety.proofs.Standing.{cycles_of, holder}
use Rattle.safety.proofs.Starts.{start_linked, start_paid, start_past, start_timely, started_by}
use Rattle.safety.proofs.Updates.{upd_both}
use Rattle.safety.proofs.Uses.{Lively}
use Rattle.safety.proofs.Views.{View, view, view_hand}

is_idle_place : (x : Place) → is_idle x ≡ true → x ≡ Idle
is_idle_place Idle e = refl
is_idle_place (Working j) e = absurd (false≢true e)
is_idle_place (Waiting j bank) e = absurd (false≢true e)
is_idle_place (Served j bank) e = absurd (false≢true e)

-- Neither ahead nor at work.
is_done_stage : (x : Stage) → x ≢ Ahead → x ≢ AtWork → x ≡ Done
is_done_stage Ahead h k = absurd (h refl)
is_done_stage AtWork h k = absurd (k refl)
is_done_stage Done h k = refl

module _ {A : Type 0} (c : Setting A) where
  module _ (i : ℕ) (s : State A) (l : i < rows c) (h : Sane c s) where
    view_start : view c (start c.plan c.table i s) ≡ started_by c (view c s) i
    view_start = view_hand c s h.sized (home c i) i (Working (new_job c.plan i)) AtWork (home_below c i l) (omega (arith, c.kept.few))

    -- A task that starts in an idle place, at its date.
    start_sane : place_of s (home c i) ≡ Idle → release c i ≡ s.time → Sane c (start c.plan c.table i s)
    start_sane idle now = record {
      sized = record { stages = length-set s.stages i _ ∙ h.sized.stages; places = length-set s.places (home c i) _ ∙ h.sized.places; services = h.sized.services; arbiters = h.sized.arbiters };
      linked = subst (Linked c) (sym view_start) (start_linked c (view c s) i l h.linked idle);
      timely = subst (Timely c s.time) (sym view_start) (start_timely c (view c s) i l h.linked idle s.time now h.timely);
    }

    breach_sane : (x : Breach) → Sane c (with_breach s x)
    breach_sane x = record { sized = record { stages = h.sized.stages; places = h.sized.places; services = h.sized.services; arbiters = h.sized.arbiters }; linked = h.linked; timely = h.timely }

    release_sane : Sane c (cycles.release c.plan c.table i s)
    release_sane =
        cond_both (is_some s.breach) s (cond (eqb (release c i) s.time) (cond (ready c.plan s i) (start c.plan c.table i s) (with_breach s (Unready i))) s) (Sane c)
        (λ e. h)
        (λ e. cond_both (eqb (release c i) s.time) (cond (ready c.plan s i) (start c.plan c.table i s) (with_breach s (Unready i))) s (Sane c)
        (λ now. cond_both (ready c.plan s i) (start c.plan c.table i s) (with_breach s (Unready i)) (Sane c)
        (λ is. start_sane (is_idle_place (place_of s (home c i)) (and_parts (is_idle (place_of s (home c i))) (all_done c.plan s i (rows c)) is).0) (eqb-true (release c i) s.time now))
        (λ not. breach_sane (Unready i)))
        (λ later. h))

  pub releases_sane : (n : ℕ) (s : State A) → n ≤ rows c → Sane c s → Sane c (releases c.plan c.table n s)
  releases_sane zero s l h = h
  releases_sane (suc n) s l h = release_sane n (releases c.plan c.table n s) (omega arith) (releases_sane n s (omega arith) h)

  -- At time n the rows below j have had their releases.
  pub record Reached (j n : ℕ) (v : View A) : Type 0 where
    pub past : (k : ℕ) → k < rows c → release c k < n → v.stage k ≢ Ahead
    pub now : (k : ℕ) → k < rows c → release c k ≡ n → k < j → v.stage k ≢ Ahead
    pub next : (k : ℕ) → k < rows c → release c k ≡ n → j ≤ k → v.stage k ≡ Ahead
    pub to_come : (k : ℕ) → k < rows c → n < release c k → v.stage k ≡ Ahead

  -- A state of a run with sound dates, with the releases of the rows below j behind it.
  pub record Well (j : ℕ) (s : State A) : Type 0 where
    pub sane : Sane c s
    pub unbroken : s.breach ≡ None
    pub lively : Lively c (view c s)
    pub paid : PaidUp c s.time (view c s)
    pub reached : Reached j s.time (view c s)

  module _ (sound : Sound c.model c.plan c.arbiters c.table) where
    module _ (i : ℕ) (s : State A) (l : i < rows c) (h : Well i s) (now : release c i ≡ s.time) where
      new : stage_of s i ≡ Ahead
      new = h.reached.next i l now (omega arith)

      place_idle : place_of s (home c i) ≡ Idle
      place_idle =
          elim (idle_or_held (place_of s (home c i))) [
            | inl e ↦ e
            | inr k ↦ (let w = h.sane.linked.holds (home c i) k.0 k.1 in
                let begun = h.sane.timely.begun k.0 w.known w.stage in
                let unfinished = h.sane.timely.unfinished k.0 w.known w.stage in
                elim (cases_order k.0 i) [
                  | inl same ↦ absurd (at_work_ahead (sym w.stage ∙ ap (stage_of s) same ∙ new))
                  | inr o ↦ elim o [
                    | inl lt ↦ absurd (omega (arith, in_turn c sound i k.0 lt l w.here, unfinished, now))
                    | inr gt ↦ absurd (omega (arith, in_turn c sound k.0 i gt w.known (sym w.here), begun, now, c.takes_time i l))
                  ]
                ])
          ]

      pub is_ready : Ready c.model c.plan c.table c.arbiters i s
      is_ready = record {
        idle = place_idle;
        done = λ k e. let below : k < rows c = omega (arith, waits_below c.plan i k c.kept l e) in
            let over = sound.in_order i k l e in
            is_done_stage (stage_of s k) (h.reached.past k below (omega (arith, over, now, c.takes_time k below))) (λ w. omega (arith, over, now, h.sane.timely.unfinished k below w));
      }

      ready_yes : ready c.plan s i ≡ true
      ready_yes = and_from _ _ (ap is_idle place_idle) (all_are_done c.plan s i (rows c) is_ready.done)

      starts : Well (suc i) (start c.plan c.table i s)
      starts =
          let same = view_start i s l h.sane in
          record {
            sane = start_sane i s l h.sane place_idle now;
            unbroken = h.unbroken;
            lively = subst (Lively c) (sym same) (record {
              task = λ q k. upd_both (place_of s) (home c i) q (Working (new_job c.plan i)) (λ x. holder x ≡ Some k → 1 ≤ cycles_of x) (λ f e. (c.kept.legal i l).some) (λ f e. h.lively.task q k e);
              service = h.lively.service;
              low = h.lively.low;
            });
            paid = (
              start_past c (view c s) i l h.sane.linked place_idle s.time now h.sane.timely new h.paid.0 h.paid.1,
              subst (λ v. Paid c s.time v (start_past c (view c s) i l h.sane.linked place_idle s.time now h.sane.timely new h.paid.0 h.paid.1)) (sym same)
                  (start_paid c (view c s) i l h.sane.linked place_idle s.time now h.sane.timely new h.paid.0 h.paid.1),
            );
            reached = subst (Reached (suc i) s.time) (sym same) (record {
              past = λ k j e. upd_both (stage_of s) i k AtWork (λ x. x ≢ Ahead) (λ f. at_work_ahead) (λ f. h.reached.past k j e);
              now = λ k j e d. upd_both (stage_of s) i k AtWork (λ x. x ≢ Ahead) (λ f. at_work_ahead) (λ f. h.reached.now k j e (omega arith));
              next = λ k j e d. upd_both (stage_of s) i k AtWork (λ x. x ≡ Ahead) (λ f. absurd (omega arith)) (λ f. h.reached.next k j e (omega arith));
              to_come = λ k j e. upd_both (stage_of s) i k AtWork (λ x. x ≡ Ahead) (λ f. absurd (omega (arith, ap (release c) f, now))) (λ f. h.reached.to_come k j e);
            });
          }

    release_starts : (i : ℕ) (s : State A) → s.breach ≡ None → release c i ≡ s.time → ready c.plan s i ≡ true → cycles.release c.plan c.table i s ≡ start c.plan c.table i s
    release_starts i s e now is = rw (ap is_some e, eq-eqb (release c i) s.time now, is)

    release_waits : (i : ℕ) (s : State A) → s.breach ≡ None → release c i ≢ s.time → cycles.release c.plan c.table i s ≡ s
    release_waits i s e later = rw (ap is_some e, ne_eqb (release c i) s.time later)

    release_well : (i : ℕ) (s : State A) → i < rows c → Well i s → Well (suc i) (cycles.release c.plan c.table i s)
    release_well i s l h =
        elim (cases_eq (release c i) s.time) [
          | inl now ↦ subst (Well (suc i)) (sym (release_starts i s h.unbroken now (ready_yes i s l h now))) (starts i s l h now)
          | inr later ↦ subst (Well (suc i)) (sym (release_waits i s h.unbroken later)) (record {
            sane = h.sane;
            unbroken = h.unbroken;
            lively = h.lively;
            paid = h.paid;
            reached = record {
              past = h.reached.past;
              now = λ k j e f. elim (cases_eq k i) [ inl same ↦ absurd (later (ap (release c) (sym same) ∙ e)) | inr apart ↦ h.reached.now k j e (omega arith) ];
              next = λ k j e f. h.reached.next k j e (omega arith);
              to_come = h.reached.to_come;
            };
          })
        ]

    pub releases_well : (n : ℕ) (s : State A) → n ≤ rows c → Well 0 s → Well n (releases c.plan c.table n s)
    releases_well zero s l h = h
    releases_well (suc n) s l h = release_well n (releases c.plan c.table n s) (omega arith) (releases_well n s (omega arith) h)
