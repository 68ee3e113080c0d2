-- The steps of a cycle up to the last leave the breach as it is.
-- Assumes nothing.
use Rattle.std.proofs.Common.{◌≡◌, ℕ, zero, suc, Bool, true, false, cond, eqb, Some, None, Option, refl, ap, ◌∙◌}
use Rattle.plan.specs.Rows.{Plan}
use Rattle.plan.specs.Rules.{banks_of, places_of}
use Rattle.arbiter.specs.Meaning.{Model}
use Rattle.cluster.specs.declared.place.Place.{Place}
use Rattle.cluster.specs.declared.place.Place.TheVariants.{Idle, Working, Waiting, Served}
use Rattle.cluster.specs.declared.service.Service.{Service}
use Rattle.cluster.specs.Cycles.{TurnOf, Turns, all_ended, all_retired, end_service, ended, next_turn, no_turn, picked, retire, retired}
use Rattle.cluster.specs.States.{State, each, place_of, service_of}

module _ {A : Type 0} where
  cond_keeps : (b : Bool) (s t : State A) → t.breach ≡ s.breach → (cond b t s).breach ≡ s.breach
  cond_keeps true s t e = e
  cond_keeps false s t e = refl

  ended_keeps : (b : ℕ) (v : Option Service) (s : State A) → (ended b v s).breach ≡ s.breach
  ended_keeps b None s = refl
  ended_keeps b (Some v) s = cond_keeps (eqb v.left 0) s _ refl

  retired_keeps : (q : ℕ) (x : Place) (s : State A) → (retired q x s).breach ≡ s.breach
  retired_keeps q Idle s = refl
  retired_keeps q (Working j) s = cond_keeps (eqb j.cycles 0) s _ refl
  retired_keeps q (Waiting j bank) s = refl
  retired_keeps q (Served j bank) s = refl

  each_keeps : (n : ℕ) (f : ℕ → State A → State A) (s : State A) → ((k : ℕ) (t : State A) → (f k t).breach ≡ t.breach) → (each n f s).breach ≡ s.breach
  each_keeps zero f s keeps = refl
  each_keeps (suc n) f s keeps = keeps n (each n f s) ∙ each_keeps n f s keeps

  pub all_ended_keeps : (p : Plan) (s : State A) → (all_ended p s).breach ≡ s.breach
  all_ended_keeps p s = each_keeps (banks_of p.head) end_service s (λ k t. ended_keeps k (service_of t k) t)

  pub all_retired_keeps : (p : Plan) (s : State A) → (all_retired p s).breach ≡ s.breach
  all_retired_keeps p s = each_keeps (places_of p.head) retire s (λ k t. retired_keeps k (place_of t k) t)

  module _ (m : Model A) (latency : ℕ) where
    picked_keeps : (b : ℕ) (answer : Option ℕ) (s : State A) → (picked m latency b answer s).breach ≡ s.breach
    picked_keeps b None s = refl
    picked_keeps b (Some o) s = refl

    turn_keeps : (b : ℕ) (v : Option Service) (s t : State A) → TurnOf m latency v b s t → t.breach ≡ s.breach
    turn_keeps b None s t turn = ap (λ u. u.breach) turn.leaves ∙ picked_keeps b turn.answer _
    turn_keeps b (Some v) s t turn = ap (λ u. u.breach) turn

    pub turns_keep : (n : ℕ) (s t : State A) → Turns m latency n s t → t.breach ≡ s.breach
    turns_keep n s t no_turn = refl
    turns_keep (suc n) s t (next_turn {t = u} turns turn) = turn_keeps n (service_of u n) u t turn ∙ turns_keep n s u turns
