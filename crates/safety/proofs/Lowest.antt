-- The lowest row that passes a test, and tests of all rows.
use Rattle.std.proofs.Common.{◌≡◌, ℕ, zero, suc, ◌<◌, Bool, true, false, cond, not, ◌||◌, Some, None, Option, refl, ap, ◌∙◌, inl, inr, arith}
use Rattle.std.proofs.lemmas.Bool.{and_from, cases_eq}
use Rattle.plan.specs.Rows.{Plan}
use Rattle.plan.specs.Waits.{waits_for}
use Rattle.cluster.specs.declared.stage.Stage.TheVariants.{Done}
use Rattle.cluster.specs.Cycles.{all_done, is_done, lowest, or_else}
use Rattle.cluster.specs.States.{State, stage_of}

neither : (o : Option ℕ) (x : Bool) (n : ℕ) → or_else o (cond x (Some n) None) ≡ None → (o ≡ None) × (x ≡ false)
neither (Some i) x n e = cc
neither None true n e = cc
neither None false n e = (refl, refl)

pub none_passes : (n : ℕ) (f : ℕ → Bool) → lowest n f ≡ None → (k : ℕ) → k < n → f k ≡ false
none_passes zero f e k l = absurd (omega arith)
none_passes (suc n) f e k l =
    let both = neither (lowest n f) (f n) n e in
    elim (cases_eq k n) [ inl same ↦ ap f same ∙ both.1 | inr apart ↦ none_passes n f both.0 k (omega arith) ]

pub none_lowest : (n : ℕ) (f : ℕ → Bool) → ((k : ℕ) → k < n → f k ≡ false) → lowest n f ≡ None
none_lowest zero f h = refl
none_lowest (suc n) f h = ap (λ o. or_else o (cond (f n) (Some n) None)) (none_lowest n f (λ k l. h k (omega arith))) ∙ ap (λ x. cond x (Some n) None) (h n (omega arith))

implied : (x y : Bool) → (x ≡ true → y ≡ true) → (not x || y) ≡ true
implied true y h = h refl
implied false y h = refl

pub all_are_done : {A : Type 0} (p : Plan) (s : State A) (i n : ℕ) → ((k : ℕ) → waits_for p.rows i k ≡ true → stage_of s k ≡ Done) → all_done p s i n ≡ true
all_are_done p s i zero h = refl
all_are_done p s i (suc n) h = and_from _ _ (implied (waits_for p.rows i n) (is_done (stage_of s n)) (λ e. ap is_done (h n e))) (all_are_done p s i n h)
