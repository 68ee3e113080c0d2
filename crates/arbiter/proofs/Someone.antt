-- Whether anybody waits.
use Rattle.std.proofs.Common.{◌≡◌, ℕ, zero, suc, ◌<◌, Bool, true, false, sym, refl, ap, ◌∙◌, inl, inr, arith}
use Rattle.std.proofs.lemmas.Bool.{cases_eq, or_from, or_left, or_right, or_cases, or_parts, false≢true}
use Rattle.arbiter.specs.Answers.{someone}

pub someone_at : (n : ℕ) (f : ℕ → Bool) (i : ℕ) → i < n → f i ≡ true → someone n f ≡ true
someone_at zero f i h e = absurd (omega arith)
someone_at (suc n) f i h e = elim (cases_eq i n) [ inl same ↦ or_left (f n) (someone n f) (ap f (sym same) ∙ e) | inr ne ↦ or_right (f n) (someone n f) (someone_at n f i (omega arith) e) ]

pub no_one : (n : ℕ) (f : ℕ → Bool) → ((o : ℕ) → o < n → f o ≡ false) → someone n f ≡ false
no_one zero f h = refl
no_one (suc n) f h = or_from (f n) (someone n f) (h n (omega arith)) (no_one n f (λ o k. h o (omega arith)))

pub the_one : (n : ℕ) (f : ℕ → Bool) → someone n f ≡ true → (o : ℕ) × (o < n) × (f o ≡ true)
the_one zero f h = absurd (false≢true h)
the_one (suc n) f h = elim (or_cases (f n) (someone n f) h) [ inl e ↦ (n, omega arith, e) | inr e ↦ (let p = the_one n f e in (p.0, omega (arith, p.1), p.2)) ]

pub nobody_at : (n : ℕ) (f : ℕ → Bool) (o : ℕ) → someone n f ≡ false → o < n → f o ≡ false
nobody_at zero f o h i = absurd (omega arith)
nobody_at (suc n) f o h i = let p = or_parts (f n) (someone n f) h in elim (cases_eq o n) [ inl e ↦ ap f e ∙ p.0 | inr ne ↦ nobody_at n f o p.1 (omega arith) ]
