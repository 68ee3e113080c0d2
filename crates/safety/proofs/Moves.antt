-- What the steps of a cycle do to places, banks and tasks, one at a time.
use Rattle.std.proofs.Common.{◌≡◌, ℕ, ◌≢◌, List, Some, Option, sym, refl, ap, ◌∙◌, subst}
use Rattle.arbiter.specs.Events.{Event}
use Rattle.cluster.specs.declared.place.Job.{Job}
use Rattle.cluster.specs.declared.place.Place.{Place}
use Rattle.cluster.specs.declared.place.Place.TheVariants.{Idle, Working}
use Rattle.cluster.specs.declared.service.Service.{Service}
use Rattle.cluster.specs.declared.stage.Stage.{Stage}
use Rattle.cluster.specs.declared.stage.Stage.TheVariants.{Ahead, AtWork, Done}
use Rattle.safety.proofs.Accounts.{Paid, Past}
use Rattle.safety.proofs.Agreement.{Linked, Timely}
use Rattle.safety.proofs.Exchanges.{Exchange, cycles_same, exchange_linked, exchange_timely, holder_same}
use Rattle.safety.proofs.Options.{none_some}
use Rattle.safety.proofs.Payments.{exchange_paid, grown}
use Rattle.safety.proofs.Retires.{retire_linked, retire_paid, retire_timely}
use Rattle.safety.proofs.Setting.{Setting}
use Rattle.safety.proofs.Standing.{cycles_of, holder}
use Rattle.safety.proofs.Updates.{upd_both}
use Rattle.safety.proofs.Views.{View, exchanged, handed}

abbrev AheadType : Stage → Type 0
AheadType Ahead = Unit {0}
AheadType AtWork = ⊥
AheadType Done = ⊥

pub at_work_ahead : AtWork ≡ Ahead → ⊥
at_work_ahead e = subst AheadType (sym e) tt

done_ahead : Done ≡ Ahead → ⊥
done_ahead e = subst AheadType (sym e) tt

module _ {A : Type 0} (c : Setting A) where
  -- Nothing happens; a place asks, is picked or has been served; a task is done.
  pub data Moved (v : View A) : View A → Type 0 where
    stays : Moved v v
    swaps : {q b : ℕ} {x : Place} {a : A} {u : Option Service} {es : List Event} → Exchange c v q b x a u es → Moved v (exchanged v q b x a u)
    leaves : {q : ℕ} {j : Job} → v.place q ≡ Working j → Moved v (handed v q Idle j.task Done)

  pub moved_linked : {v w : View A} → Moved v w → Linked c v → Linked c w
  moved_linked stays lk = lk
  moved_linked {v = v} (swaps {q} {b} {x} {a} {u} e) lk = exchange_linked c v q b x a u e lk
  moved_linked {v = v} (leaves {q} {j} here) lk = retire_linked c v q j lk here

  pub moved_timely : {v w : View A} (n : ℕ) → Moved v w → Linked c v → Timely c n v → Timely c n w
  moved_timely n stays lk h = h
  moved_timely {v = v} n (swaps {q} {b} {x} {a} {u} e) lk h = exchange_timely c v q b x a u e n h
  moved_timely {v = v} n (leaves {q} {j} here) lk h = retire_timely c v q j lk here n h

  -- The accounts of some past.
  abbrev pub PaidUp : ℕ → View A → Type 0
  PaidUp n v = (past : ℕ → ℕ → Past A) × Paid c n v past

  pub moved_paid : {v w : View A} (n m : ℕ) → Moved v w → Linked c v → Timely c m v → PaidUp n v → PaidUp n w
  moved_paid n m stays lk ti pd = pd
  moved_paid {v = v} n m (swaps {q} {b} {x} {a} {u} {es} e) lk ti pd = (grown c v q b x a u es e lk pd.0, exchange_paid c v q b x a u es e lk n m pd.0 ti pd.1)
  moved_paid {v = v} n m (leaves {q} {j} here) lk ti pd = (pd.0, retire_paid c v q j lk here n pd.0 pd.1)

  -- Whoever holds a place held it before, with the same cycles left.
  pub moved_holder : {v w : View A} (o t : ℕ) → Moved v w → holder (w.place o) ≡ Some t → (holder (v.place o) ≡ Some t) × (cycles_of (w.place o) ≡ cycles_of (v.place o))
  moved_holder o t stays e = (e, refl)
  moved_holder {v = v} o t (swaps {q} {b} {x} {a} {u} h) e = (sym (holder_same c v q b x a u h o) ∙ e, cycles_same c v q b x a u h o)
  moved_holder {v = v} o t (leaves {q} {j} here) e =
      upd_both v.place q o Idle (λ z. holder z ≡ Some t → (holder (v.place o) ≡ Some t) × (cycles_of z ≡ cycles_of (v.place o)))
      (λ f h. absurd (none_some t h))
      (λ f h. (h, refl))
      e

  -- Tasks only go from being at work to being done.
  pub record Stages (v w : View A) : Type 0 where
    pub worked : (k : ℕ) → w.stage k ≡ AtWork → v.stage k ≡ AtWork
    pub ahead : (k : ℕ) → v.stage k ≡ Ahead → w.stage k ≡ Ahead
    pub begun : (k : ℕ) → v.stage k ≢ Ahead → w.stage k ≢ Ahead

  pub stages_same : (v : View A) → Stages v v
  stages_same v = record { worked = λ k e. e; ahead = λ k e. e; begun = λ k e. e }

  pub stages_on : {v w z : View A} → Stages v w → Stages w z → Stages v z
  stages_on h i = record { worked = λ k e. h.worked k (i.worked k e); ahead = λ k e. i.ahead k (h.ahead k e); begun = λ k e. i.begun k (h.begun k e) }

  pub moved_stages : {v w : View A} → Moved v w → Linked c v → Stages v w
  moved_stages {v = v} stays lk = stages_same v
  moved_stages {v = v} (swaps e) lk = record { worked = λ k e. e; ahead = λ k e. e; begun = λ k e. e }
  moved_stages {v = v} (leaves {q} {j} here) lk =
      let working : v.stage j.task ≡ AtWork = (lk.holds q j.task (ap holder here)).stage in
      record {
        worked = λ k. upd_both v.stage j.task k Done (λ y. y ≡ AtWork → v.stage k ≡ AtWork) (λ f e. ap v.stage f ∙ working) (λ f e. e);
        ahead = λ k e. upd_both v.stage j.task k Done (λ y. y ≡ Ahead) (λ f. absurd (at_work_ahead (sym working ∙ ap v.stage (sym f) ∙ e))) (λ f. e);
        begun = λ k e. upd_both v.stage j.task k Done (λ y. y ≢ Ahead) (λ f. done_ahead) (λ f. e);
      }
