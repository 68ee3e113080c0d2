-- A cycle up to the look at the finish dates, and the period's end.
use Rattle.std.proofs.Common.{◌≡◌, ℕ, ◌+◌, ◌<◌, ◌≤◌, Bool, true, false, ◌&&◌, eqb, replicate, None, sym, refl, ap, ◌∙◌, subst, inl, inr, arith}
use Rattle.std.proofs.lemmas.List.{length-replicate}
use Rattle.std.proofs.lemmas.Bool.{cases_eq, cond_both, eq-eqb, eqb-true, false≢true, ne_eqb, true≢false}
use Rattle.plan.specs.Rules.{places_of, period_of}
use Rattle.date_check.specs.Sound.{Sound}
use Rattle.cluster.specs.declared.stage.Stage.{Stage}
use Rattle.cluster.specs.declared.stage.Stage.TheVariants.{Ahead, AtWork, Done}
use Rattle.cluster.specs.Cycles as cycles
use Rattle.cluster.specs.Cycles.{all_ended, all_retired, end_service, is_at_work, is_overdue, overdue, retire, worked, wrapped}
use Rattle.cluster.specs.States.{State, each, stage_of, with_stages, with_time}
use Rattle.safety.proofs.Accounts.{Paid}
use Rattle.safety.proofs.Agreement.{Linked, Timely, held_below}
use Rattle.safety.proofs.Deadlines.{before_finish}
use Rattle.safety.proofs.Hands.{ahead_idle}
use Rattle.safety.proofs.Lowest.{none_lowest, none_passes}
use Rattle.safety.proofs.Moves.{PaidUp, Stages, stages_on}
use Rattle.safety.proofs.Phases.{EndedBelow, PickedBelow, RetiredBelow, Sane, TurnedAll, ends, picks, retires, used_frame, used_sane}
use Rattle.safety.proofs.Releases.{Reached, Well}
use Rattle.safety.proofs.Setting.{Setting, banks, due, home, release, rows}
use Rattle.safety.proofs.Uses.{Lively, Stocked, used_paid, used_stocked}
use Rattle.safety.proofs.Views.{Sized, view, view_renewed, view_used}

not_both : (x y : Bool) → (x ≡ true → y ≡ false) → (x && y) ≡ false
not_both true y h = h refl
not_both false y h = refl

at_work_is : (x : Stage) → is_at_work x ≡ true → x ≡ AtWork
at_work_is Ahead e = absurd (false≢true e)
at_work_is AtWork e = refl
at_work_is Done e = absurd (false≢true e)

module _ {A : Type 0} (c : Setting A) where
  -- From the state before a cycle to that in which finish dates are looked at.
  pub record Looked (s w : State A) : Type 0 where
    pub sized : Sized c w
    pub linked : Linked c (view c w)
    pub time : w.time ≡ s.time + 1
    pub breach : w.breach ≡ s.breach
    pub stages : Stages c (view c s) (view c w)
    pub before : Timely c s.time (view c w)
    pub lively : Lively c (view c s) → Lively c (view c w)
    pub paid : (n : ℕ) → Lively c (view c s) → PaidUp c n (view c s) → PaidUp c (n + 1) (view c w)

  module _ (s t : State A) (h : Sane c s) (r : TurnedAll c s t) where
    pub picked : PickedBelow c (banks c) s t
    picked = picks c r (omega arith) h

    pub ended : (n : ℕ) → n ≤ banks c → EndedBelow c n (cycles.used t) (each n end_service (cycles.used t))
    ended n l = ends c n (cycles.used t) l (used_sane c t picked.advance.sane)

    pub retired : (n : ℕ) → RetiredBelow c n (all_ended c.plan (cycles.used t)) (each n retire (all_ended c.plan (cycles.used t)))
    retired n = retires c n (all_ended c.plan (cycles.used t)) (ended (banks c) (omega arith)).advance.sane

    stocked : Lively c (view c s) → Stocked c (view c (cycles.used t))
    stocked lv = subst (Stocked c) (sym (view_used c t)) (used_stocked c (view c t) picked.advance.sane.linked (picked.lively lv))

    spent : (n : ℕ) → Lively c (view c s) → PaidUp c n (view c s) → PaidUp c (n + 1) (view c (cycles.used t))
    spent n lv p = let q = picked.advance.paid n p in (q.0, subst (λ v. Paid c (n + 1) v q.0) (sym (view_used c t)) (used_paid c (view c t) picked.advance.sane.linked (picked.lively lv) n q.0 q.1 picked.busy))

    pub looked : Looked s (worked c.plan t)
    looked =
        let e = ended (banks c) (omega arith) in
        let x = retired (places_of c.plan.head) in
        record {
          sized = let z = x.advance.sane.sized in record { stages = z.stages; places = z.places; services = z.services; arbiters = z.arbiters };
          linked = x.advance.sane.linked;
          time = ap (λ n. n + 1) (x.advance.frame.time ∙ e.advance.frame.time ∙ picked.advance.frame.time);
          breach = x.advance.frame.breach ∙ e.advance.frame.breach ∙ picked.advance.frame.breach;
          stages = stages_on c picked.advance.frame.stages (stages_on c (used_frame c t).stages (stages_on c e.advance.frame.stages x.advance.frame.stages));
          before = subst (λ n. Timely c n (view c (all_retired c.plan (all_ended c.plan (cycles.used t))))) (x.advance.frame.time ∙ e.advance.frame.time ∙ picked.advance.frame.time) x.advance.sane.timely;
          lively = λ lv. let st = e.stocked (stocked lv) in
              record {
                task = λ q k f. x.lively st q k (held_below c _ x.advance.sane.linked q k f).0 f;
                service = λ b y l f. e.on b y l (sym (x.services b) ∙ f);
                low = λ b y l f. (x.stocked st).low b y l f;
              };
          paid = λ n lv p. x.advance.paid (n + 1) (e.advance.paid (n + 1) (spent n lv p));
        }

  -- Where no finish date has come, tasks at work are still in their windows.
  pub look_sane : (s w : State A) → Looked s w → overdue c.plan c.table w ≡ None → Sane c w
  look_sane s w h none = record {
    sized = h.sized;
    linked = h.linked;
    timely = record {
      begun = λ k l e. omega (arith, h.before.begun k l e, h.time);
      unfinished = λ k l e. elim (cases_eq (due c k) w.time) [
        | inl now ↦ absurd (true≢false (sym (rw (ap is_at_work e, eq-eqb (due c k) w.time now)) ∙ none_passes (rows c) (is_overdue c.table w) none k l))
        | inr not ↦ omega (arith, h.before.unfinished k l e, h.time)
      ];
    };
  }

  -- With sound dates none has come.
  pub none_overdue : Sound c.model c.plan c.arbiters c.table → (s w : State A) → Looked s w → Lively c (view c s) → PaidUp c s.time (view c s) → overdue c.plan c.table w ≡ None
  none_overdue sound s w h lv p =
      none_lowest (rows c) (is_overdue c.table w)
      (λ k l. not_both (is_at_work (stage_of w k)) (eqb (due c k) w.time) (λ e. ne_eqb (due c k) w.time (λ now.
      let q = h.paid s.time lv p in
      let at = at_work_is (stage_of w k) e in
      let some = (h.lively lv).task (home c k) k (h.linked.held k l at) in
      omega (arith, now, h.time, before_finish c sound (s.time + 1) (view c w) q.0 k h.linked q.1 l at some))))

  module _ (w : State A) (h : Sane c w) where
    -- At the period nobody is at work.
    none_left : w.time ≡ period_of c.plan.head → (k : ℕ) → k < rows c → stage_of w k ≡ AtWork → ⊥
    none_left e k l at = omega (arith, e, h.timely.unfinished k l at, c.in_period k l)

    renewed_sane : w.time ≡ period_of c.plan.head → Sane c (with_stages (with_time w 0) (replicate 256 Ahead))
    renewed_sane e = record {
      sized = record { stages = length-replicate 256 Ahead; places = h.sized.places; services = h.sized.services; arbiters = h.sized.arbiters };
      linked = subst (Linked c) (sym (view_renewed c (with_time w 0))) (record {
        keeps = h.linked.keeps;
        waiting = h.linked.waiting;
        serving = h.linked.serving;
        last = h.linked.last;
        inside = h.linked.inside;
        holds = λ q k f. let x = h.linked.holds q k f in absurd (none_left e k x.known x.stage);
        held = λ k l at. absurd (ahead_idle at);
      });
      timely = subst (Timely c 0) (sym (view_renewed c (with_time w 0))) (record { begun = λ k l at. absurd (ahead_idle at); unfinished = λ k l at. absurd (ahead_idle at) });
    }

    pub wrap_sane : Sane c (wrapped c.plan w)
    wrap_sane =
        cond_both (eqb w.time (period_of c.plan.head)) (with_stages (with_time w 0) (replicate 256 Ahead)) w (Sane c)
        (λ e. renewed_sane (eqb-true w.time (period_of c.plan.head) e))
        (λ e. h)

  -- A new period begins as set-up does, but for the arbiters' states.
  pub wrap_well : (w : State A) → Well c 0 w → Well c 0 (wrapped c.plan w)
  wrap_well w h =
      cond_both (eqb w.time (period_of c.plan.head)) (with_stages (with_time w 0) (replicate 256 Ahead)) w (Well c 0)
      (λ e. record {
        sane = renewed_sane w h.sane (eqb-true w.time (period_of c.plan.head) e);
        unbroken = h.unbroken;
        lively = record { task = h.lively.task; service = h.lively.service; low = h.lively.low };
        paid = (h.paid.0, subst (λ v. Paid c 0 v h.paid.0) (sym (view_renewed c (with_time w 0))) (record { watched = λ k b l at i. absurd (ahead_idle at); account = λ k l at. absurd (ahead_idle at) }));
        reached = subst (Reached c 0 0) (sym (view_renewed c (with_time w 0))) (record { past = λ k l f. absurd (omega arith); now = λ k l f g. absurd (omega arith); next = λ k l f g. refl; to_come = λ k l f. refl });
      })
      (λ e. h)

  -- The next time, with sound dates.
  pub look_well : (s w : State A) → Well c (rows c) s → Looked s w → overdue c.plan c.table w ≡ None → Well c 0 w
  look_well s w h x none = record {
    sane = look_sane s w x none;
    unbroken = x.breach ∙ h.unbroken;
    lively = x.lively h.lively;
    paid = let p = x.paid s.time h.lively h.paid in (p.0, subst (λ n. Paid c n (view c w) p.0) (sym x.time) p.1);
    reached = record {
      past = λ k l e. x.stages.begun k (elim (cases_eq (release c k) s.time) [ inl now ↦ h.reached.now k l now l | inr not ↦ h.reached.past k l (omega (arith, x.time)) ]);
      now = λ k l e f. absurd (omega arith);
      next = λ k l e f. x.stages.ahead k (h.reached.to_come k l (omega (arith, x.time)));
      to_come = λ k l e. x.stages.ahead k (h.reached.to_come k l (omega (arith, x.time)));
    };
  }
