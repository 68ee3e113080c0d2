-- Functions of a number with one value changed, and lists read as functions.
use Rattle.std.proofs.Common.{◌≡◌, ℕ, ◌<◌, cond, eqb, ◌≢◌, List, map, length, get_or, set, sym, refl, ap, ◌∙◌, subst, inl, inr}
use Rattle.std.proofs.lemmas.List.{get_or-set_other, get_or-set_same}
use Rattle.std.proofs.Math.ListN.{get_or-map}
use Rattle.std.proofs.lemmas.Bool.{cases_eq, eq-eqb, ne_eqb}

abbrev pub upd : {X : Type 0} → (ℕ → X) → ℕ → X → ℕ → X
upd f i x j = cond (eqb j i) x (f j)

module _ {X : Type 0} (f : ℕ → X) (i j : ℕ) (x : X) where
  pub upd_same : j ≡ i → upd f i x j ≡ x
  upd_same e = rw (eq-eqb j i e)

  pub upd_other : j ≢ i → upd f i x j ≡ f j
  upd_other e = rw (ne_eqb j i e)

  -- What holds of the new value at i, and of the old values elsewhere.
  pub upd_both : (P : X → Type 0) → (j ≡ i → P x) → (j ≢ i → P (f j)) → P (upd f i x j)
  upd_both P here away = elim (cases_eq j i) [ inl e ↦ subst P (sym (upd_same e)) (here e) | inr e ↦ subst P (sym (upd_other e)) (away e) ]

  -- The old value put back.
  pub upd_old : x ≡ f i → f j ≡ upd f i x j
  upd_old e = upd_both (λ y. f j ≡ y) (λ same. ap f same ∙ sym e) (λ apart. refl)

pub set_at : {X : Type 0} (xs : List X) (i j : ℕ) (x d : X) → i < length xs → get_or (set xs i x) j d ≡ upd (λ k. get_or xs k d) i x j
set_at xs i j x d l =
    elim (cases_eq j i) [
      | inl same ↦ ap (λ k. get_or (set xs i x) k d) same ∙ get_or-set_same xs i x d l ∙ sym (upd_same (λ k. get_or xs k d) i j x same)
      | inr apart ↦ get_or-set_other xs i j x d apart ∙ sym (upd_other (λ k. get_or xs k d) i j x apart)
    ]

pub map_at : {X : Type 0} (f : X → X) (xs : List X) (j : ℕ) (d : X) → f d ≡ d → get_or (map f xs) j d ≡ f (get_or xs j d)
map_at f xs j d e = ap (get_or (map f xs) j) (sym e) ∙ get_or-map f xs j d
