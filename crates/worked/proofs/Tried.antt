-- Dates are consistent where a test of their rows, and of all smaller responses, says so.
-- Assumes nothing.
use Rattle.std.proofs.Common.{◌≡◌, ℕ, zero, suc, ◌<◌, Bool, true, not, ◌&&◌, eqb, sym, subst, inl, inr, arith}
use Rattle.std.proofs.lemmas.Bool.{and_parts, cases_eq, cases_lt, eqb-false, eqb-true, not-true}
use Rattle.consistency.specs.Dates.{Released, Smallest, SmallestResponses, Table, release_date, worst}
use Rattle.consistency.specs.System.{System}

-- Do all numbers below n pass?
abbrev pub all_below : ℕ → (ℕ → Bool) → Bool
all_below zero f = true
all_below (suc n) f = f n && all_below n f

pub below_all : (n : ℕ) (f : ℕ → Bool) → all_below n f ≡ true → (x : ℕ) → x < n → f x ≡ true
below_all zero f h x l = absurd (omega arith)
below_all (suc n) f h x l =
    let parts = and_parts (f n) (all_below n f) h in
    elim (cases_eq x n) [
      | inl e ↦ subst (λ y. f y ≡ true) (sym e) parts.0
      | inr ne ↦ below_all n f parts.1 x (omega arith)
    ]

-- Does f leave r as it is, and no number below?
abbrev pub is_smallest : (ℕ → ℕ) → ℕ → Bool
is_smallest f r = eqb (f r) r && all_below r (λ x. not (eqb (f x) x))

pub smallest : (f : ℕ → ℕ) (r : ℕ) → is_smallest f r ≡ true → Smallest (λ x. f x ≡ x) r
smallest f r h =
    let parts = and_parts (eqb (f r) r) (all_below r (λ x. not (eqb (f x) x))) h in
    record {
      holds = eqb-true (f r) r parts.0;
      least = λ x e. elim (cases_lt x r) [
        | inl l ↦ absurd (eqb-false (f x) x (not-true (eqb (f x) x) (below_all r (λ y. not (eqb (f y) y)) parts.1 x l)) e)
        | inr l ↦ l
      ];
    }

module _ (y : System) (rel res : Table) where
  pub released_by : all_below y.tasks (λ i. eqb (rel i) (release_date y rel res i)) ≡ true → Released y rel res
  released_by h i l = eqb-true (rel i) (release_date y rel res i) (below_all y.tasks (λ k. eqb (rel k) (release_date y rel res k)) h i l)

  pub responses_by : all_below y.tasks (λ i. is_smallest (worst y rel res i) (res i)) ≡ true → SmallestResponses y rel res
  responses_by h i l = smallest (worst y rel res i) (res i) (below_all y.tasks (λ k. is_smallest (worst y rel res k) (res k)) h i l)
