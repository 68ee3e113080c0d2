-- The counts as the second side numbers them.
use Rattle.std.proofs.Common.{◌≡◌, ℕ, zero, suc, ◌+◌, ◌-◌, ◌<◌, ◌≤◌, cond, ltb, List, [], ◌∷◌, ◌++◌, length, get_or, drop, set, replicate, sym, refl, ap, ◌∙◌, inl, inr, arith, length-append, length-drop, get_or-drop, get_or-set_other, get_or-set_same}
use Rattle.std.proofs.lemmas.List.{length-replicate}
use Rattle.std.proofs.lemmas.List.{get_or_past, ext_get_or}
use Rattle.std.proofs.lemmas.Bool.{cases_eq, cases_lt, lt-ltb, le-ltb}
use Rattle.arbiter.proofs.Lists.{getD_replicate_same}
use Rattle.layers.specs.Bounds.{shifted}

-- Entry q of the shifted counts is entry n + q of the counts.
pub shifted_at : (n : ℕ) (xs : List ℕ) (q : ℕ) → get_or (shifted n xs) q 0 ≡ get_or xs (n + q) 0
shifted_at n xs q = padded (drop n xs) q ∙ get_or-drop n xs q 0
  where
    padded : (ys : List ℕ) (q : ℕ) → get_or (ys ++ replicate n 0) q 0 ≡ get_or ys q 0
    padded [] q = getD_replicate_same n q 0
    padded (y ∷ ys) zero = refl
    padded (y ∷ ys) (suc q) = padded ys q

pub shifted_length : (n : ℕ) (xs : List ℕ) → n ≤ length xs → length (shifted n xs) ≡ length xs
shifted_length n xs h = simp (length-append, length-drop, length-replicate) (omega arith)

-- Shifted count by count: those of the sources from n to below o have their new places.
abbrev pub Moved : ℕ → ℕ → List ℕ → List ℕ → Type 0
Moved n o xs ms = (q : ℕ) → get_or ms q 0 ≡ cond (ltb (n + q) o) (get_or xs (n + q) 0) 0

pub moved_start : (n k : ℕ) (xs : List ℕ) → Moved n n xs (replicate k 0)
moved_start n k xs q = getD_replicate_same k q 0 ∙ sym (ap (λ b. cond b (get_or xs (n + q) 0) 0) (le-ltb (n + q) n (omega arith)))

pub moved_next : (n o : ℕ) (xs ms : List ℕ) → n ≤ o → o - n < length ms → Moved n o xs ms → Moved n (o + 1) xs (set ms (o - n) (get_or xs o 0))
moved_next n o xs ms h i m q =
    elim (cases_eq q (o - n)) [
      | inl e ↦ (let s : n + q ≡ o = omega arith in ap (λ x. get_or (set ms (o - n) (get_or xs o 0)) x 0) e ∙ get_or-set_same ms (o - n) (get_or xs o 0) 0 i ∙ ap (λ x. get_or xs x 0) (sym s) ∙ sym (ap (λ b. cond b (get_or xs (n + q) 0) 0) (lt-ltb (n + q) (o + 1) (omega arith))))
      | inr ne ↦ (let x : get_or (set ms (o - n) (get_or xs o 0)) q 0 ≡ get_or ms q 0 = rw get_or-set_other refl in x ∙ m q ∙ ap (λ b. cond b (get_or xs (n + q) 0) 0) (same ne))
    ]
  where
    same : (q ≡ o - n → ⊥) → ltb (n + q) o ≡ ltb (n + q) (o + 1)
    same ne = elim (cases_lt (n + q) o) [ inl k ↦ lt-ltb (n + q) o k ∙ sym (lt-ltb (n + q) (o + 1) (omega arith)) | inr k ↦ le-ltb (n + q) o k ∙ sym (le-ltb (n + q) (o + 1) (omega arith)) ]

pub moved_end : (n : ℕ) (xs ms : List ℕ) → n ≤ 32 → length xs ≡ 32 → length ms ≡ 32 → Moved n 32 xs ms → ms ≡ shifted n xs
moved_end n xs ms h e f m =
    ext_get_or 0 ms (shifted n xs) (omega (arith, shifted_length n xs (omega arith))) (λ q i. each q)
  where
    each : (q : ℕ) → get_or ms q 0 ≡ get_or (shifted n xs) q 0
    each q = m q ∙ elim (cases_lt (n + q) 32) [
      | inl k ↦ ap (λ b. cond b (get_or xs (n + q) 0) 0) (lt-ltb (n + q) 32 k) ∙ sym (shifted_at n xs q)
      | inr k ↦ ap (λ b. cond b (get_or xs (n + q) 0) 0) (le-ltb (n + q) 32 k) ∙ sym (get_or_past xs (n + q) 0 (omega arith)) ∙ sym (shifted_at n xs q)
    ]
