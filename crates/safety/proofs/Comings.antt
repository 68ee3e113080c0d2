-- The states that a run comes to.
use Rattle.std.proofs.Common.{◌≡◌, ℕ, ◌<◌, ◌≤◌, true, false, not, ◌&&◌, ltb, Some, None, Ok, Err, Option, Result, sym, refl, ap, ◌∙◌, subst, arith}
use Rattle.std.specs.Prelude.{is_some}
use Rattle.std.proofs.lemmas.Option.{get_or_from_slice_get}
use Rattle.std.proofs.lemmas.Bool.{and_parts, false≢true, lt-ltb, ltb-true}
use Rattle.plan.specs.Rules.{places_of}
use Rattle.arbiter.specs.Answers.{post_answer}
use Rattle.arbiter.specs.declared.refusal.Refusal as arbiters
use Rattle.cluster.specs.declared.breach.Breach.{Breach}
use Rattle.cluster.specs.declared.place.Job.{Job}
use Rattle.cluster.specs.declared.place.Place.{Place}
use Rattle.cluster.specs.declared.place.Place.TheVariants.{Idle, Working, Waiting, Served}
use Rattle.cluster.specs.declared.refusal.CallRefusal.{CallRefusal}
use Rattle.cluster.specs.declared.refusal.CallRefusal.TheVariants.{Breached, Unknown, Spent}
use Rattle.cluster.specs.Calls.{Asking, CycleOf, Cycling, Posting, TurnedAway, ask_refusal, place_refusal}
use Rattle.cluster.specs.Cycles.{closing, overdue, worked}
use Rattle.cluster.specs.Places.{left_at}
use Rattle.cluster.specs.Runs.{Comes, asks, cycles, questions, sets_up}
use Rattle.cluster.specs.States.{State, fresh, place_of}
use Rattle.safety.proofs.Agreement.{Linked, Timely}
use Rattle.safety.proofs.Exchanges.{keeps_same}
use Rattle.safety.proofs.Hands.{ahead_idle}
use Rattle.safety.proofs.Looks.{look_sane, looked, wrap_sane}
use Rattle.safety.proofs.Options.{none_some, passed}
use Rattle.safety.proofs.Phases.{Sane, step_advance}
use Rattle.safety.proofs.Releases.{releases_sane}
use Rattle.safety.proofs.Setting.{Setting, banks, first, rows}
use Rattle.safety.proofs.Standing.{waits_at}
use Rattle.safety.proofs.Steps.{Step, ask_step}
use Rattle.safety.proofs.Views.{view, view_fresh}

-- A place that is not refused works, and its task has an access left.
works_there : (x : Place) (b : ℕ) → place_refusal x b ≡ None → (j : Job) × (x ≡ Working j) × (1 ≤ left_at j b)
works_there Idle b e = cc
works_there (Working j) b e = (j, refl, ltb-true 0 (left_at j b) (passed (ltb 0 (left_at j b)) Spent None e).0)
works_there (Waiting j bank) b e = cc
works_there (Served j bank) b e = cc

no_breach : (x : Option Breach) → not (is_some x) ≡ true → x ≡ None
no_breach None e = refl
no_breach (Some x) e = cc

ok_err : (f : arbiters.Refusal) → ◌≡◌ {A = Result (Unit {0}) arbiters.Refusal} (Ok tt) (Err f) → ⊥
ok_err f e = cc

module _ {A : Type 0} (c : Setting A) where
  -- What is known where the rules take an ask.
  pub record Takes (s : State A) (q b : ℕ) : Type 0 where
    pub unbroken : s.breach ≡ None
    pub place : q < places_of c.plan.head
    pub bank : b < banks c
    pub job : Job
    pub here : place_of s q ≡ Working job
    pub some : 1 ≤ left_at job b

  takes : (s : State A) (q b : ℕ) → ask_refusal c.plan s q b ≡ None → Takes s q b
  takes s q b e =
      let x = passed (not (is_some s.breach)) Breached _ e in
      let y = passed (ltb q (places_of c.plan.head) && ltb b (banks c)) Unknown _ x.1 in
      let z = and_parts (ltb q (places_of c.plan.head)) (ltb b (banks c)) y.0 in
      let w = works_there (place_of s q) b y.1 in
      record { unbroken = no_breach s.breach x.0; place = ltb-true q (places_of c.plan.head) z.0; bank = ltb-true b (banks c) z.1; job = w.0; here = w.1; some = w.2 }

  -- Set-up.
  pub fresh_sane : Sane c (fresh c.arbiters)
  fresh_sane = record {
    sized = record { stages = refl; places = refl; services = refl; arbiters = c.one_per_bank };
    linked = subst (Linked c) (sym (view_fresh c)) (record {
      keeps = λ b l. keeps_same c.model (first c b);
      waiting = λ b q l. c.quiet b q l;
      serving = λ b q l. refl;
      last = λ b o l e. absurd (none_some o e);
      inside = λ q b e. absurd (false≢true e);
      holds = λ q t e. absurd (none_some t e);
      held = λ t l e. absurd (ahead_idle e);
    });
    timely = subst (Timely c 0) (sym (view_fresh c)) (record { begun = λ t l e. absurd (ahead_idle e); unfinished = λ t l e. absurd (ahead_idle e) });
  }

  -- A state that an ask or a cycle leaves as it is, or leads to, without a breach.
  module _ (P : State A → Type 0) (s t : State A) where
    pub ask_keeps : (q b : ℕ) (r : Result (Unit {0}) CallRefusal) → P s → (Takes s q b → Posting c.model s q b t → P t) → Asking c.model (ask_refusal c.plan s q b) s q b r t → P t
    ask_keeps q b r h posts = by (ask_refusal c.plan s q b) refl r
      where
        by : (o : Option CallRefusal) → ask_refusal c.plan s q b ≡ o → (r : Result (Unit {0}) CallRefusal) → Asking c.model o s q b r t → P t
        by (Some f) e r x = subst P (sym x.1) h
        by None e (Ok u) x = posts (takes s q b e) x
        by None e (Err f) x = subst P (sym x.1) h

    pub cycle_keeps : (r : Result (Unit {0}) CallRefusal) → P s → (s.breach ≡ None → Cycling c.model c.plan c.table s t → P t) → CycleOf c.model s.breach c.plan c.table s r t → P t
    cycle_keeps r h goes = by s.breach refl
      where
        by : (o : Option Breach) → s.breach ≡ o → CycleOf c.model o c.plan c.table s r t → P t
        by (Some x) e y = subst P (sym y.1) h
        by None e y = goes e y.1

  pub posting_step : (s t : State A) (q b : ℕ) → Sane c s → Takes s q b → Posting c.model s q b t → Step c s t
  posting_step s t q b h x p = ask_step c s h.sized h.linked q b x.job t x.bank x.here x.some p

  -- Where no breach stands all agree, whatever the dates.
  abbrev Agreed : State A → Type 0
  Agreed s = s.breach ≡ None → Sane c s

  closed_sane : (s t : State A) → Agreed s → Cycling c.model c.plan c.table s t → s.breach ≡ None → Agreed t
  closed_sane s t h x e =
      subst Agreed (sym x.leaves) (by (overdue c.plan c.table (worked c.plan x.picked)) refl)
    where
      by : (o : Option ℕ) → overdue c.plan c.table (worked c.plan x.picked) ≡ o → Agreed (closing c.plan c.table o (worked c.plan x.picked))
      by (Some i) f g = absurd (none_some _ (sym g))
      by None f g = releases_sane c (rows c) _ (omega arith) (wrap_sane c _ (look_sane c s _ (looked c s x.picked (h e) x.turns) f))

  -- So it is in every state of a run.
  comes_sane : {s : State A} → Comes c.model c.plan c.table c.arbiters s → Agreed s
  comes_sane sets_up = λ e. releases_sane c (rows c) (fresh c.arbiters) (omega arith) fresh_sane
  comes_sane (asks {s} {t} q b r h x) = ask_keeps Agreed s t q b r (comes_sane h) (λ k p e. (step_advance c s t (comes_sane h k.unbroken) (posting_step s t q b (comes_sane h k.unbroken) k p)).sane) x
  comes_sane (cycles {s} {t} r h x) = cycle_keeps Agreed s t r (comes_sane h) (λ e y. closed_sane s t (comes_sane h) y e) x
  comes_sane (questions h) = comes_sane h

  -- No arbiter turns away an ask that the rules take.
  pub not_turned_away : (s : State A) → Comes c.model c.plan c.table c.arbiters s → (q b : ℕ) → ask_refusal c.plan s q b ≡ None → TurnedAway c.model s q b → ⊥
  not_turned_away s h q b e x =
      let k = takes s q b e in
      let lk = (comes_sane h k.unbroken).linked in
      let at : (view c s).arbiter b ≡ x.arbiter = get_or_from_slice_get s.arbiters b x.arbiter c.some x.stood in
      let idle : c.model.waiting x.arbiter q ≡ false = ap (λ a. c.model.waiting a q) (sym at) ∙ lk.waiting b q k.bank ∙ ap (λ y. waits_at y b) k.here in
      let known : q < c.model.width x.arbiter = omega (arith, k.place, c.wide b k.bank, (lk.keeps b k.bank).width, ap c.model.width at) in
      let taken : post_answer (c.model.width x.arbiter) (c.model.waiting x.arbiter) q ≡ Ok tt = rw (lt-ltb q (c.model.width x.arbiter) known, idle) in
      ok_err x.refusal (sym taken ∙ x.refuses)
