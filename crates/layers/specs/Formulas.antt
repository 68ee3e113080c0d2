-- The formulas of the layers.
use Rattle.std.proofs.Common.{◌≡◌, ℕ, ◌+◌, ◌<◌, ◌≤◌, Bool, true, false, cond, eqb, ◌⊎◌, sym, refl, ◌∙◌, inl, inr, arith}
use Rattle.std.proofs.lemmas.Bool.{cases_eq, eq-eqb, ne_eqb}
use Rattle.layers.specs.Layers.{Formula}
use Rattle.layers.specs.Alternations.{alternating}
use Rattle.layers.specs.Precedences.{preceding}

-- What the laws of the bound itself, and a layer that is its first side alone, ask of a formula.
pub record FormulaLaws (formula : Formula) : Type 0 where
  pub none : (f : Bool) (t : ℕ) → formula f 0 0 t ≡ 0
  pub least : (f : Bool) (own b t : ℕ) → own ≤ b → own ≤ formula f own b t
  pub most : (f : Bool) (own b t : ℕ) → formula f own b t ≤ b + t
  pub grows : (f : Bool) (own b t own' b' t' : ℕ) → own ≤ own' → b ≤ b' → t ≤ t' → formula f own b t ≤ formula f own' b' t'
  pub alone : (own b : ℕ) → (own ≡ 0 → b ≡ 0) → formula true own b 0 ≡ b

pub alternating_laws : FormulaLaws alternating
alternating_laws = record {
  none = λ f t. omega arith;
  least = λ f own b t h. omega arith;
  most = λ f own b t. omega arith;
  grows = λ f own b t own' b' t' h i j. omega arith;
  alone = λ own b h. omega arith;
}

pub low_cases : (own x : ℕ) → ((own ≡ 0) × (cond (eqb own 0) 0 x ≡ 0)) ⊎ ((0 < own) × (cond (eqb own 0) 0 x ≡ x))
low_cases own x = elim (cases_eq own 0) [ inl e ↦ inl (e, rw (eq-eqb own 0 e)) | inr ne ↦ inr (omega arith, rw (ne_eqb own 0 ne)) ]

preceding_none : (f : Bool) (t : ℕ) → preceding f 0 0 t ≡ 0
preceding_none true t = refl
preceding_none false t = omega arith

preceding_least : (f : Bool) (own b t : ℕ) → own ≤ b → own ≤ preceding f own b t
preceding_least true own b t h = omega (arith, low_cases own (b + t))
preceding_least false own b t h = omega arith

preceding_most : (f : Bool) (own b t : ℕ) → preceding f own b t ≤ b + t
preceding_most true own b t = omega (arith, low_cases own (b + t))
preceding_most false own b t = omega arith

preceding_grows : (f : Bool) (own b t own' b' t' : ℕ) → own ≤ own' → b ≤ b' → t ≤ t' → preceding f own b t ≤ preceding f own' b' t'
preceding_grows true own b t own' b' t' h i j = omega (arith, low_cases own (b + t), low_cases own' (b' + t'))
preceding_grows false own b t own' b' t' h i j = omega arith

preceding_alone : (own b : ℕ) → (own ≡ 0 → b ≡ 0) → preceding true own b 0 ≡ b
preceding_alone own b h = elim (low_cases own (b + 0)) [ inl p ↦ p.1 ∙ sym (h p.0) | inr p ↦ omega (arith, p.1) ]

pub preceding_laws : FormulaLaws preceding
preceding_laws = record { none = preceding_none; least = preceding_least; most = preceding_most; grows = preceding_grows; alone = preceding_alone }
