-- The steps of a run as moves: asks, picks, ends of services, tasks that are done.
use Rattle.std.proofs.Common.{◌≡◌, ℕ, ◌<◌, ◌≤◌, true, false, eqb, ◌≢◌, ◌⊎◌, get_or, set, Some, None, Option, sym, refl, ap, ◌∙◌, subst, inl, inr, arith}
use Rattle.std.specs.Prelude.{is_some}
use Rattle.std.proofs.lemmas.Option.{get_or_from_slice_get}
use Rattle.std.proofs.lemmas.List.{length-set}
use Rattle.std.proofs.lemmas.Bool.{both_ways, cond_both, eq-eqb, eqb-false, eqb-true, false≢true, or_left}
use Rattle.arbiter.specs.Answers.{AfterPick}
use Rattle.arbiter.specs.Events.{serves}
use Rattle.cluster.specs.declared.place.Job.{Job}
use Rattle.cluster.specs.declared.place.Place.{Place}
use Rattle.cluster.specs.declared.place.Place.TheVariants.{Idle, Working, Waiting, Served}
use Rattle.cluster.specs.declared.place.Event.TheVariants.{Asked, Picked, ServiceEnded}
use Rattle.cluster.specs.declared.service.Service.{Service}
use Rattle.cluster.specs.declared.stage.Stage.TheVariants.{Done}
use Rattle.cluster.specs.Calls.{Posting}
use Rattle.cluster.specs.Cycles.{Turn, TurnOf, end_service, ended, picked, retire, retired}
use Rattle.cluster.specs.Places.{after, left_at}
use Rattle.cluster.specs.States.{State, happen, place_of, service_of, with_arbiters, with_place, with_service, with_stage}
use Rattle.safety.proofs.Agreement.{Linked, bank_below, held_below}
use Rattle.safety.proofs.Asks.{ask_exchange, asked_is}
use Rattle.safety.proofs.Ends.{end_exchange, served_is}
use Rattle.safety.proofs.Moves.{Moved, leaves, stays, swaps}
use Rattle.safety.proofs.Options.{none_some}
use Rattle.safety.proofs.Picks.{pick_exchange, waits_is}
use Rattle.safety.proofs.Setting.{Setting, banks, latency}
use Rattle.safety.proofs.Standing.{cycles_of, holder, served, served_at, stands_at, waits_at}
use Rattle.safety.proofs.Updates.{upd_both, upd_other, upd_same}
use Rattle.safety.proofs.Uses.{Busy, Stocked}
use Rattle.safety.proofs.Views.{Sized, view, view_ask, view_end, view_hand, view_idle, view_pick}

-- The cycles that a service has left, if there is one.
abbrev left_in : Option Service → ℕ
left_in None = 0
left_in (Some y) = y.left

module _ {A : Type 0} (c : Setting A) where
  pub record Step (s t : State A) : Type 0 where
    pub sized : Sized c t
    pub time : t.time ≡ s.time
    pub breach : t.breach ≡ s.breach
    pub moved : Moved c (view c s) (view c t)

  no_step : (s : State A) → Sized c s → Step s s
  no_step s z = record { sized = z; time = refl; breach = refl; moved = stays }

  module _ (s : State A) (sized : Sized c s) (lk : Linked c (view c s)) where
    -- An ask that is taken.
    pub ask_step : (q b : ℕ) (j : Job) (t : State A) → b < banks c → place_of s q ≡ Working j → 1 ≤ left_at j b → Posting c.model s q b t → Step s t
    ask_step q b j t bank here some p =
        let low = (held_below c (view c s) lk q j.task (ap holder here)).1 in
        let at = get_or_from_slice_get s.arbiters b p.before c.some p.stood in
        let h = ask_exchange c (view c s) q b j p.after lk here bank some (subst (λ x. c.model.posted x q p.after) (sym at) p.posts) (after (place_of s q) (Asked b)) (asked_is (place_of s q) j b here (bank_below c b bank)) in
        subst (Step s) (sym p.leaves) (record {
          sized = record { stages = sized.stages; places = length-set s.places q _ ∙ sized.places; services = sized.services; arbiters = length-set s.arbiters b _ ∙ sized.arbiters };
          time = refl;
          breach = refl;
          moved = subst (Moved c (view c s)) (sym (view_ask c s sized q b (after (place_of s q) (Asked b)) p.after low bank)) (swaps h);
        })

    -- The turn of bank b: what it does, and that nobody waits at a free bank then.
    pub record Turned (b : ℕ) (t : State A) : Type 0 where
      pub step : Step s t
      pub elsewhere : (d : ℕ) → d ≢ b → (service_of t d ≡ service_of s d) × ((view c t).arbiter d ≡ (view c s).arbiter d)
      pub busy : Busy c (view c t) b
      pub begun : (y : Service) → service_of t b ≡ Some y → (service_of s b ≡ Some y) ⊎ (y.left ≡ latency c)

    picked_turn : (b : ℕ) (before a : A) (answer : Option ℕ) → b < banks c → service_of s b ≡ None → get_or s.arbiters b c.some ≡ before → AfterPick c.model before a answer → Turned b (picked c.model (latency c) b answer (with_arbiters s (set s.arbiters b a)))
    picked_turn b before a None bank free at p =
        let same = view_idle c s sized b a bank (at ∙ sym p.0) in
        record {
          step = record {
            sized = record { stages = sized.stages; places = sized.places; services = sized.services; arbiters = length-set s.arbiters b _ ∙ sized.arbiters };
            time = refl;
            breach = refl;
            moved = subst (Moved c (view c s)) (sym same) stays;
          };
          elsewhere = λ d f. (refl, ap (λ v. v.arbiter d) same);
          busy = λ o w. absurd (both_ways (c.model.waiting before o) (p.1 o) (ap (λ x. c.model.waiting x o) (sym (ap (λ v. v.arbiter b) same ∙ at)) ∙ w));
          begun = λ y e. inl e;
        }
    picked_turn b before a (Some o) bank free at p =
        let picks : c.model.picked ((view c s).arbiter b) o a = subst (λ x. c.model.picked x o a) (sym at) p in
        let waits : waits_at (place_of s o) b ≡ true = sym (lk.waiting b o bank) ∙ (c.laws.steps.pick_shows ((view c s).arbiter b) a o picks).waited in
        let j = waits_is (place_of s o) b waits in
        let low = (held_below c (view c s) lk o j.0.task (ap holder j.1)).1 in
        let h = pick_exchange c (view c s) o b j.0 a lk j.1 bank free picks (after (place_of s o) Picked) (ap (λ x. after x Picked) j.1) in
        let same = view_pick c s sized o b (after (place_of s o) Picked) a (Some (record { place = o; left = latency c })) low bank (bank_below c b bank) in
        let on : service_of (picked c.model (latency c) b (Some o) (with_arbiters s (set s.arbiters b a))) b ≡ Some (record { place = o; left = latency c }) = ap (λ v. v.service b) same ∙ upd_same (service_of s) b b _ refl in
        record {
          step = record {
            sized = record { stages = sized.stages; places = length-set s.places o _ ∙ sized.places; services = length-set s.services b _ ∙ sized.services; arbiters = length-set s.arbiters b _ ∙ sized.arbiters };
            time = refl;
            breach = refl;
            moved = subst (Moved c (view c s)) (sym same) (swaps h);
          };
          elsewhere = λ d f. (ap (λ v. v.service d) same ∙ upd_other (service_of s) b d _ f, ap (λ v. v.arbiter d) same ∙ upd_other (view c s).arbiter b d a f);
          busy = λ i w. ap is_some on;
          begun = λ y e. inr (ap left_in (sym e ∙ on));
        }

    pub turn_step : (b : ℕ) (t : State A) → b < banks c → Turn c.model (latency c) b s t → Turned b t
    turn_step b t bank h = by (service_of s b) refl h
      where
        by : (u : Option Service) → service_of s b ≡ u → TurnOf c.model (latency c) u b s t → Turned b t
        by (Some y) e same = subst (Turned b) (sym same) (record { step = no_step s sized; elsewhere = λ d f. (refl, refl); busy = λ o w. ap is_some e; begun = λ z f. inl f })
        by None e p = subst (Turned b) (sym p.leaves) (picked_turn b p.before p.after p.answer bank e (get_or_from_slice_get s.arbiters b p.before c.some p.stood) p.picks)

    -- The service of bank b ends if it is over.
    pub record Ended (b : ℕ) (t : State A) : Type 0 where
      pub step : Step s t
      pub elsewhere : (d : ℕ) → d ≢ b → service_of t d ≡ service_of s d
      pub on : (y : Service) → service_of t b ≡ Some y → (service_of s b ≡ Some y) × (1 ≤ y.left)
      pub stood : (o d : ℕ) → stands_at (place_of t o) d ≡ true → stands_at (place_of s o) d ≡ true

    not_over : (b : ℕ) → ((y : Service) → service_of s b ≡ Some y → 1 ≤ y.left) → Ended b s
    not_over b h = record { step = no_step s sized; elsewhere = λ d f. refl; on = λ y e. (e, h y e); stood = λ o d e. e }

    over : (b : ℕ) (y : Service) → b < banks c → service_of s b ≡ Some y → y.left ≡ 0 → Ended b (happen (with_service s b None) y.place ServiceEnded)
    over b y bank e last =
        let serves_it : served_at (place_of s y.place) b ≡ true = sym (lk.serving b y.place bank) ∙ ap (λ u. serves (served u) y.place) e ∙ eq-eqb y.place y.place refl in
        let j = served_is (place_of s y.place) b serves_it in
        let low = (held_below c (view c s) lk y.place j.0.task (ap holder j.1)).1 in
        let works : after (place_of s y.place) ServiceEnded ≡ Working j.0 = ap (λ x. after x ServiceEnded) j.1 in
        let h = end_exchange c (view c s) b y j.0 lk bank e last j.1 (after (place_of s y.place) ServiceEnded) works in
        let same = view_end c s sized y.place b (after (place_of s y.place) ServiceEnded) None low (bank_below c b bank) in
        record {
          step = record {
            sized = record { stages = sized.stages; places = length-set s.places y.place _ ∙ sized.places; services = length-set s.services b _ ∙ sized.services; arbiters = sized.arbiters };
            time = refl;
            breach = refl;
            moved = subst (Moved c (view c s)) (sym same) (swaps h);
          };
          elsewhere = λ d f. ap (λ v. v.service d) same ∙ upd_other (service_of s) b d None f;
          on = λ z f. absurd (none_some z (sym (ap (λ v. v.service b) same ∙ upd_same (service_of s) b b None refl) ∙ f));
          stood = λ o d f. upd_both (place_of s) y.place o (after (place_of s y.place) ServiceEnded) (λ x. stands_at x d ≡ true → stands_at (place_of s o) d ≡ true)
              (λ g i. absurd (both_ways (stands_at (after (place_of s y.place) ServiceEnded) d) (ap (λ x. stands_at x d) works) i))
              (λ g i. i)
              (sym (ap (λ v. stands_at (v.place o) d) same) ∙ f);
        }

    pub end_step : (b : ℕ) → b < banks c → Ended b (end_service b s)
    end_step b bank = by (service_of s b) refl
      where
        by : (u : Option Service) → service_of s b ≡ u → Ended b (ended b u s)
        by None e = not_over b (λ y f. absurd (none_some y (sym e ∙ f)))
        by (Some y) e =
            cond_both (eqb y.left 0) (happen (with_service s b None) y.place ServiceEnded) s (Ended b)
            (λ f. over b y bank e (eqb-true y.left 0 f))
            (λ f. not_over b (λ z g. omega (arith, eqb-false y.left 0 f, ap left_in (sym e ∙ g))))

    -- The task at place q is done if it has no cycle left.
    pub record Retired (q : ℕ) (t : State A) : Type 0 where
      pub step : Step s t
      pub services : (d : ℕ) → service_of t d ≡ service_of s d
      pub elsewhere : (o : ℕ) → o ≢ q → place_of t o ≡ place_of s o
      pub stood : (o d : ℕ) → stands_at (place_of t o) d ≡ true → stands_at (place_of s o) d ≡ true
      pub lively : Stocked c (view c s) → (k : ℕ) → holder (place_of t q) ≡ Some k → 1 ≤ cycles_of (place_of t q)

    goes_on : (q : ℕ) → (Stocked c (view c s) → (k : ℕ) → holder (place_of s q) ≡ Some k → 1 ≤ cycles_of (place_of s q)) → Retired q s
    goes_on q h = record { step = no_step s sized; services = λ d. refl; elsewhere = λ o f. refl; stood = λ o d e. e; lively = h }

    is_done : (q : ℕ) (j : Job) → place_of s q ≡ Working j → Retired q (with_stage (with_place s q Idle) j.task Done)
    is_done q j here =
        let w = lk.holds q j.task (ap holder here) in
        let low = (held_below c (view c s) lk q j.task (ap holder here)).1 in
        let same = view_hand c s sized q j.task Idle Done low (omega (arith, w.known, c.kept.few)) in
        record {
          step = record {
            sized = record { stages = length-set s.stages j.task _ ∙ sized.stages; places = length-set s.places q _ ∙ sized.places; services = sized.services; arbiters = sized.arbiters };
            time = refl;
            breach = refl;
            moved = subst (Moved c (view c s)) (sym same) (leaves here);
          };
          services = λ d. refl;
          elsewhere = λ o f. ap (λ v. v.place o) same ∙ upd_other (place_of s) q o Idle f;
          stood = λ o d f. upd_both (place_of s) q o Idle (λ x. stands_at x d ≡ true → stands_at (place_of s o) d ≡ true)
              (λ g i. absurd (false≢true i))
              (λ g i. i)
              (sym (ap (λ v. stands_at (v.place o) d) same) ∙ f);
          lively = λ st k f. absurd (none_some k (sym (ap holder (ap (λ v. v.place q) same ∙ upd_same (place_of s) q q Idle refl)) ∙ f));
        }

    pub retire_step : (q : ℕ) → Retired q (retire q s)
    retire_step q = by (place_of s q) refl
      where
        by : (x : Place) → place_of s q ≡ x → Retired q (retired q x s)
        by Idle e = goes_on q (λ st k f. absurd (none_some k (sym (ap holder e) ∙ f)))
        by (Working j) e =
            cond_both (eqb j.cycles 0) (with_stage (with_place s q Idle) j.task Done) s (Retired q)
            (λ f. is_done q j e)
            (λ f. goes_on q (λ st k g. omega (arith, eqb-false j.cycles 0 f, ap cycles_of e)))
        by (Waiting j bank) e = goes_on q (λ st k f. st.task q bank (ap (λ x. stands_at x bank) e ∙ or_left (eqb bank bank) false (eq-eqb bank bank refl)))
        by (Served j bank) e = goes_on q (λ st k f. st.task q bank (ap (λ x. stands_at x bank) e ∙ eq-eqb bank bank refl))
