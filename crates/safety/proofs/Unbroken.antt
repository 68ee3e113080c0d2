-- With sound dates no run comes to a breach at any moment.
use Rattle.std.proofs.Common.{◌≡◌, ℕ, ◌≤◌, [], None, sym, refl, ap, ◌∙◌, subst, arith}
use Rattle.date_check.specs.Sound.{Sound}
use Rattle.cluster.specs.Calls.{Cycling, Posting}
use Rattle.cluster.specs.Cycles.{closing, overdue, worked, wrapped}
use Rattle.cluster.specs.Runs.{BeforeRelease, Comes, Moment, Safe, Unbreached, asks, between, cycles, ends, frees, in_cycle, in_set_up, looks, picks, questions, retires, sets_up}
use Rattle.cluster.specs.States.{State, fresh, service_of}
use Rattle.safety.proofs.Accounts.{Paid, Past}
use Rattle.safety.proofs.Comings.{Takes, ask_keeps, cycle_keeps, fresh_sane, posting_step}
use Rattle.safety.proofs.Hands.{ahead_idle}
use Rattle.safety.proofs.Looks.{ended, look_well, looked, none_overdue, picked, retired, wrap_well}
use Rattle.safety.proofs.Moves.{moved_holder}
use Rattle.safety.proofs.Options.{none_some}
use Rattle.safety.proofs.Phases as phases
use Rattle.safety.proofs.Phases.{Sane, step_advance}
use Rattle.safety.proofs.Releases.{Reached, Well, is_ready, releases_well}
use Rattle.safety.proofs.Setting.{Setting, banks, rows}
use Rattle.safety.proofs.Uses.{Lively}
use Rattle.safety.proofs.Views.{view, view_fresh}

module _ {A : Type 0} (c : Setting A) where
  -- At first no task has a past.
  abbrev no_past : ℕ → ℕ → Past A
  no_past t b = record { from = c.some; amid = None; seen = [] }

  fresh_well : Well c 0 (fresh c.arbiters)
  fresh_well = record {
    sane = fresh_sane c;
    unbroken = refl;
    lively = subst (Lively c) (sym (view_fresh c)) (record { task = λ q t e. absurd (none_some t e); service = λ b y l e. absurd (none_some y e); low = λ b y l e. absurd (none_some y e) });
    paid = (no_past, subst (λ v. Paid c 0 v no_past) (sym (view_fresh c)) (record { watched = λ t b l e i. absurd (ahead_idle e); account = λ t l e. absurd (ahead_idle e) }));
    reached = subst (Reached c 0 0) (sym (view_fresh c)) (record { past = λ k l f. absurd (omega arith); now = λ k l f g. absurd (omega arith); next = λ k l f g. refl; to_come = λ k l f. refl });
  }

  -- An ask keeps all.
  ask_well : (s t : State A) (q b : ℕ) → Well c (rows c) s → Takes c s q b → Posting c.model s q b t → Well c (rows c) t
  ask_well s t q b h k p =
      let x = posting_step c s t q b h.sane k p in
      let y = step_advance c s t h.sane x in
      let services : (d : ℕ) → service_of t d ≡ service_of s d = λ d. ap (λ z. service_of z d) p.leaves in
      let paid = y.paid s.time h.paid in
      record {
        sane = y.sane;
        unbroken = x.breach ∙ h.unbroken;
        lively = record {
          task = λ o u e. let old = moved_holder c o u x.moved e in omega (arith, old.1, h.lively.task o u old.0);
          service = λ d z l e. h.lively.service d z l (sym (services d) ∙ e);
          low = λ d z l e. h.lively.low d z l (sym (services d) ∙ e);
        };
        paid = (paid.0, subst (λ n. Paid c n (view c t) paid.0) (sym x.time) paid.1);
        reached = subst (λ n. Reached c (rows c) n (view c t)) (sym x.time) (record {
          past = λ u l e. y.frame.stages.begun u (h.reached.past u l e);
          now = λ u l e f. y.frame.stages.begun u (h.reached.now u l e f);
          next = λ u l e f. y.frame.stages.ahead u (h.reached.next u l e f);
          to_come = λ u l e. y.frame.stages.ahead u (h.reached.to_come u l e);
        });
      }

  module _ (sound : Sound c.model c.plan c.arbiters c.table) where
    abbrev Reaches : State A → Type 0
    Reaches s = Comes c.model c.plan c.table c.arbiters s

    -- At the look at the finish dates, and when releases begin.
    module _ (s t : State A) (h : Well c (rows c) s) (r : phases.TurnedAll c s t) where
      on_time : overdue c.plan c.table (worked c.plan t) ≡ None
      on_time = none_overdue c sound s (worked c.plan t) (looked c s t h.sane r) h.lively h.paid

      look : Well c 0 (worked c.plan t)
      look = look_well c s (worked c.plan t) h (looked c s t h.sane r) on_time

      begin : Well c 0 (wrapped c.plan (worked c.plan t))
      begin = wrap_well c (worked c.plan t) look

    cycle_well : (s t : State A) → Well c (rows c) s → Cycling c.model c.plan c.table s t → Well c (rows c) t
    cycle_well s t h x =
        subst (Well c (rows c)) (sym (x.leaves ∙ ap (λ o. closing c.plan c.table o (worked c.plan x.picked)) (on_time s x.picked h x.turns)))
        (releases_well c sound (rows c) (wrapped c.plan (worked c.plan x.picked)) (omega arith) (begin s x.picked h x.turns))

    -- Every state of a run.
    comes_well : {s : State A} → Reaches s → Well c (rows c) s
    comes_well sets_up = releases_well c sound (rows c) (fresh c.arbiters) (omega arith) fresh_well
    comes_well (asks {s} {t} q b r h x) = ask_keeps c (Well c (rows c)) s t q b r (comes_well h) (λ k p. ask_well s t q b (comes_well h) k p) x
    comes_well (cycles {s} {t} r h x) = cycle_keeps c (Well c (rows c)) s t r (comes_well h) (λ e y. cycle_well s t (comes_well h) y) x
    comes_well (questions h) = comes_well h

    -- When row i is looked at, the rows before it have had their releases.
    before_release : (i : ℕ) (s : State A) → i ≤ rows c → BeforeRelease c.model c.plan c.table c.arbiters i s → Well c i s
    before_release i s l in_set_up = releases_well c sound i (fresh c.arbiters) l fresh_well
    before_release i s l (in_cycle {t} x none) = releases_well c sound i (wrapped c.plan (worked c.plan t)) l (begin x.from t (comes_well x.comes) x.turns)

    safe_of : (s : State A) → Sane c s → s.breach ≡ None → Safe c.model c.plan c.table c.arbiters s
    safe_of s h e = record { unbroken = e; in_time = h.timely.unfinished }

    safe_well : (j : ℕ) (s : State A) → Well c j s → Safe c.model c.plan c.table c.arbiters s
    safe_well j s h = safe_of s h.sane h.unbroken

    safe : (s : State A) → Moment c.model c.plan c.table c.arbiters s → Safe c.model c.plan c.table c.arbiters s
    safe s (between h) = safe_well (rows c) s (comes_well h)
    safe s (picks l x) =
        let h = comes_well x.comes in
        let y = (phases.picks c x.turns l h.sane).advance in
        safe_of s y.sane (y.frame.breach ∙ h.unbroken)
    safe s (ends {n} {t} l x) =
        let h = comes_well x.comes in
        let y = (ended c x.from t h.sane x.turns n l).advance in
        safe_of s y.sane (y.frame.breach ∙ (picked c x.from t h.sane x.turns).advance.frame.breach ∙ h.unbroken)
    safe s (retires {n} {t} l x) =
        let h = comes_well x.comes in
        let y = (retired c x.from t h.sane x.turns n).advance in
        safe_of s y.sane (y.frame.breach ∙ (ended c x.from t h.sane x.turns (banks c) (omega arith)).advance.frame.breach ∙ (picked c x.from t h.sane x.turns).advance.frame.breach ∙ h.unbroken)
    safe s (looks {t} x) = safe_well 0 s (look x.from t (comes_well x.comes) x.turns)
    safe s (frees {i} l x) = safe_well i s (before_release i s l x)

    pub unbreached : Unbreached c.model c.plan c.table c.arbiters
    unbreached = record { safe = safe; ready = λ i s l x now. is_ready c sound i s l (before_release i s (omega arith) x) now }
