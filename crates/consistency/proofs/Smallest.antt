-- The smallest number that passes a test, and the smallest fixed point of a function that never falls.
use Rattle.std.proofs.Common.{◌≡◌, ℕ, zero, suc, ◌<◌, ◌≤◌, Bool, true, false, leb, ◌⊎◌, sym, ◌∙◌, inl, inr, arith, below_more}
use Rattle.std.proofs.lemmas.Bool.{cases_Bool, cases_lt, both_ways, leb-true, le-leb}
use Rattle.consistency.specs.Dates.{Smallest}

abbrev pub Monotone : (ℕ → ℕ) → Type 0
Monotone f = (x z : ℕ) → x ≤ z → f x ≤ f z

-- No number below b passes the test, or one of them is the smallest that does.
pub smallest_below : (p : ℕ → Bool) (b : ℕ) → ((x : ℕ) → x < b → p x ≡ false) ⊎ ((x : ℕ) × (x < b) × Smallest (λ z. p z ≡ true) x)
smallest_below p zero = inl (λ x h. absurd (omega arith))
smallest_below p (suc b) =
    elim (smallest_below p b) [
      | inr (x, h, s) ↦ inr (x, omega arith, s)
      | inl none ↦ elim (cases_Bool (p b)) [
        | inl passes ↦ inr (b, omega arith, record { holds = passes; least = λ x h. elim (cases_lt x b) [ inl j ↦ absurd (both_ways (p x) (none x j) h) | inr j ↦ j ] })
        | inr fails ↦ inl (λ x h. below_more (λ k. p k ≡ false) b none fails x (omega arith))
      ]
    ]

-- The smallest number that f does not exceed is a fixed point: f of it is not exceeded either, so it is no smaller.
pub smallest_fixed : (f : ℕ → ℕ) → Monotone f → (b : ℕ) → f b ≤ b → (x : ℕ) × Smallest (λ r. f r ≡ r) x × ((z : ℕ) → f z ≤ z → x ≤ z)
smallest_fixed f up b h =
    elim (smallest_below (λ x. leb (f x) x) (suc b)) [
      | inl none ↦ absurd (both_ways (leb (f b) b) (none b (omega arith)) (le-leb (f b) b h))
      | inr (x, _, s) ↦
          let under : f x ≤ x = leb-true (f x) x s.holds in
          let over : x ≤ f x = s.least (f x) (le-leb (f (f x)) (f x) (up (f x) x under)) in
          let low : (z : ℕ) → f z ≤ z → x ≤ z = λ z j. s.least z (le-leb (f z) z j) in
          (x, record { holds = omega arith; least = λ z e. low z (omega arith) }, low)
    ]

-- So a smallest fixed point lies below every number that f does not exceed.
pub smallest_fixed_least : (f : ℕ → ℕ) → Monotone f → (x : ℕ) → Smallest (λ r. f r ≡ r) x → (z : ℕ) → f z ≤ z → x ≤ z
smallest_fixed_least f up x s z h = let (w, g, low) = smallest_fixed f up z h in omega (arith, s.least w g.holds, low z h)

-- Functions that are equal everywhere have the same smallest fixed point.
pub smallest_fixed_same : (f g : ℕ → ℕ) → ((r : ℕ) → f r ≡ g r) → (x : ℕ) → Smallest (λ r. f r ≡ r) x → Smallest (λ r. g r ≡ r) x
smallest_fixed_same f g same x s = record { holds = sym (same x) ∙ s.holds; least = λ z e. s.least z (same z ∙ e) }
