-- A place that goes from idle to working or back, and the stage of its task with it.
use Rattle.std.proofs.Common.{◌≡◌, ℕ, ◌<◌, ◌≤◌, false, cond, ◌||◌, Some, sym, refl, ap, ◌∙◌, subst, arith}
use Rattle.cluster.specs.declared.place.Place.{Place}
use Rattle.cluster.specs.declared.stage.Stage.{Stage}
use Rattle.cluster.specs.declared.stage.Stage.TheVariants.{Ahead, AtWork, Done}
use Rattle.safety.proofs.Accounts.{Past, spent_at}
use Rattle.safety.proofs.Agreement.{IsAtWork, Linked}
use Rattle.safety.proofs.Setting.{Setting, gone, home, rows}
use Rattle.safety.proofs.Standing.{holder, served_at, stands_at, waits_at}
use Rattle.safety.proofs.Updates.{upd, upd_both}
use Rattle.safety.proofs.Views.{View, handed}

-- A place that stands at no bank.
pub record Plain (x : Place) : Type 0 where
  pub waits : (d : ℕ) → waits_at x d ≡ false
  pub serves : (d : ℕ) → served_at x d ≡ false

abbrev AtWorkType : Stage → Type 0
AtWorkType Ahead = ⊥
AtWorkType AtWork = Unit {0}
AtWorkType Done = ⊥

pub ahead_idle : Ahead ≡ AtWork → ⊥
ahead_idle e = subst AtWorkType (sym e) tt

pub done_idle : Done ≡ AtWork → ⊥
done_idle e = subst AtWorkType (sym e) tt

module _ {A : Type 0} (c : Setting A) (v : View A) (q t : ℕ) (x : Place) (y : Stage) (old : Plain (v.place q)) (new : Plain x) where
  same_waits : (o d : ℕ) → waits_at (upd v.place q x o) d ≡ waits_at (v.place o) d
  same_waits o d = upd_both v.place q o x (λ z. waits_at z d ≡ waits_at (v.place o) d) (λ f. new.waits d ∙ sym (ap (λ k. waits_at (v.place k) d) f ∙ old.waits d)) (λ f. refl)

  same_served : (o d : ℕ) → served_at (upd v.place q x o) d ≡ served_at (v.place o) d
  same_served o d = upd_both v.place q o x (λ z. served_at z d ≡ served_at (v.place o) d) (λ f. new.serves d ∙ sym (ap (λ k. served_at (v.place k) d) f ∙ old.serves d)) (λ f. refl)

  pub same_stands : (o d : ℕ) → stands_at (upd v.place q x o) d ≡ stands_at (v.place o) d
  same_stands o d = ap (λ z. z || served_at (upd v.place q x o) d) (same_waits o d) ∙ ap (λ z. waits_at (v.place o) d || z) (same_served o d)

  -- What banks and arbiters say stays right.
  pub hand_linked : Linked c v → ((o k : ℕ) → holder (upd v.place q x o) ≡ Some k → IsAtWork c (handed v q x t y) k o) → ((k : ℕ) → k < rows c → upd v.stage t y k ≡ AtWork → holder (upd v.place q x (home c k)) ≡ Some k) → Linked c (handed v q x t y)
  hand_linked lk holds held = record {
    keeps = lk.keeps;
    waiting = λ b o l. lk.waiting b o l ∙ sym (same_waits o b);
    serving = λ b o l. lk.serving b o l ∙ sym (same_served o b);
    last = lk.last;
    inside = λ o b i. lk.inside o b (sym (same_stands o b) ∙ i);
    holds = holds;
    held = held;
  }

  -- What was spent stays spent.
  pub hand_spent : (past : ℕ → Past A) (k b : ℕ) → spent_at c v past k b ≤ spent_at c (handed v q x t y) past k b
  hand_spent past k b = omega (arith, ap (λ z. cond z (gone c (v.service b)) 0) (same_stands (home c k) b))
