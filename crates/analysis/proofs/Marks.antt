-- The loads of the tasks that are marked as met, one task more at a time.
-- Assumes nothing.
use Rattle.std.proofs.Common.{◌≡◌, ℕ, zero, suc, ◌+◌, ◌<◌, ◌≤◌, Bool, true, false, cond, ◌&&◌, eqb, ◌≢◌, List, [], length, get_or, set, replicate, sym, refl, ap, ◌∙◌, inl, inr, arith}
use Rattle.std.proofs.lemmas.List.{get_or-replicate, get_or-set_other, get_or-set_same, length-set}
use Rattle.std.proofs.lemmas.Bool.{cases_eq, eq-eqb, ne_eqb}
use Rattle.plan.specs.Rows.{Plan, Row, accesses, row}
use Rattle.plan.specs.Rules.{Kept}
use Rattle.arbiter.specs.Counts.{limit, sum_below}
use Rattle.arbiter.proofs.Sums.{sum_below_le, sum_below_zero}
use Rattle.date_check.specs.Sound.{load, loads, share}
use Rattle.date_check.proofs.Counting.{counted_all, loads_at, loads_length, loads_most}
use Rattle.date_check.proofs.Limits.{load_within}
use Rattle.analysis.specs.Workings.{marked}

-- Nobody is met, and nothing is loaded.
pub loads_none : (rows : List Row) (met : ℕ → Bool) → ((k : ℕ) → met k ≡ false) → (b : ℕ) → replicate 32 0 ≡ loads rows met b
loads_none rows met nobody b =
    counted_all rows met b (replicate 32 0)
    (refl, λ o l. get_or-replicate 32 o 0 0 l ∙ sym (sum_below_zero (length rows) (share rows met b o) (λ k j. nothing (eqb (row rows k).place o) (met k) (accesses (row rows k) b) (nobody k))))
  where
    nothing : (here b : Bool) (d : ℕ) → b ≡ false → cond (here && b) d 0 ≡ 0
    nothing true b d e = rw e
    nothing false b d e = refl

-- Two sums that differ in one number.
sum_below_one : (n k d : ℕ) (f g : ℕ → ℕ) → k < n → g k ≡ d + f k → ((j : ℕ) → j ≢ k → g j ≡ f j) → sum_below n g ≡ d + sum_below n f
sum_below_one zero k d f g l here others = absurd (omega arith)
sum_below_one (suc n) k d f g l here others =
    elim (cases_eq k n) [
      | inl same ↦ omega (arith, ap f same, ap g same, sum_below_le n f g (λ j h. omega (arith, others j (λ e. omega arith))), sum_below_le n g f (λ j h. omega (arith, others j (λ e. omega arith))))
      | inr apart ↦ omega (arith, others n (λ e. apart (sym e)), sum_below_one n k d f g (omega arith) here others)
    ]

-- Task k, which was not marked, is marked.
module _ (rows : List Row) (marks : List Bool) (k : ℕ) (task : k < length rows) (inside : k < length marks) (free : marked marks k ≡ false) where
  load_added : (b o : ℕ) → load rows (marked (set marks k true)) b o ≡ cond (eqb (row rows k).place o) (accesses (row rows k) b) 0 + load rows (marked marks) b o
  load_added b o =
      sum_below_one (length rows) k (cond (eqb (row rows k).place o) (accesses (row rows k) b) 0) (share rows (marked marks) b o) (share rows (marked (set marks k true)) b o) task
      (adds (eqb (row rows k).place o) (marked (set marks k true) k) (marked marks k) (accesses (row rows k) b) (get_or-set_same marks k true false inside) free)
      (λ j d. ap (λ x. cond (eqb (row rows j).place o && x) (accesses (row rows j) b) 0) (get_or-set_other marks k j true false d))
    where
      adds : (here new old : Bool) (d : ℕ) → new ≡ true → old ≡ false → cond (here && new) d 0 ≡ cond here d 0 + cond (here && old) d 0
      adds true new old d p q = rw (p, q) (omega arith)
      adds false new old d p q = refl

  module _ (b : ℕ) (r : Row) (at : r ≡ row rows k) (low : r.place < 32) (xs : List ℕ) (was : xs ≡ loads rows (marked marks) b) where
    -- Its accesses are added at its place.
    pub loads_added : set xs r.place (get_or xs r.place 0 + accesses r b) ≡ loads rows (marked (set marks k true)) b
    loads_added = counted_all rows (marked (set marks k true)) b (set xs r.place (get_or xs r.place 0 + accesses r b)) (length-set xs r.place (get_or xs r.place 0 + accesses r b) ∙ full, each)
      where
        full : length xs ≡ 32
        full = ap length was ∙ loads_length rows (marked marks) b

        each : (o : ℕ) → o < 32 → get_or (set xs r.place (get_or xs r.place 0 + accesses r b)) o 0 ≡ load rows (marked (set marks k true)) b o
        each o l =
            let before : get_or xs o 0 ≡ load rows (marked marks) b o = ap (λ zs. get_or zs o 0) was ∙ loads_at rows (marked marks) b o l in
            elim (cases_eq o r.place) [
              | inl same ↦ (let added : cond (eqb (row rows k).place o) (accesses (row rows k) b) 0 ≡ accesses r b = ap (λ q. cond (eqb q.place o) (accesses q b) 0) (sym at) ∙ ap (λ t. cond t (accesses r b) 0) (eq-eqb r.place o (sym same)) in
                  omega (arith, load_added b o, get_or-set_same xs r.place (get_or xs r.place 0 + accesses r b) 0 (omega (arith, full)), ap (λ x. get_or (set xs r.place (get_or xs r.place 0 + accesses r b)) x 0) same, ap (λ x. get_or xs x 0) same))
              | inr apart ↦ (let away : cond (eqb (row rows k).place o) (accesses (row rows k) b) 0 ≡ 0 = ap (λ q. cond (eqb q.place o) (accesses q b) 0) (sym at) ∙ ap (λ t. cond t (accesses r b) 0) (ne_eqb r.place o (λ e. apart (sym e))) in
                  omega (arith, load_added b o, get_or-set_other xs r.place o (get_or xs r.place 0 + accesses r b) 0 apart))
            ]

    -- The sum stays within the limit.
    pub sum_within : (p : Plan) → Kept p → rows ≡ p.rows → get_or xs r.place 0 + accesses r b ≤ limit
    sum_within p kept e =
        let here = get_or-set_same xs r.place (get_or xs r.place 0 + accesses r b) 0 (omega (arith, ap length was, loads_length rows (marked marks) b)) in
        omega (
          arith,
          ap (λ zs. get_or zs r.place 0) loads_added,
          loads_most rows (marked (set marks k true)) b r.place,
          ap (λ x. load x (marked (set marks k true)) b r.place) e,
          load_within p kept (marked (set marks k true)) b r.place,
        )

  -- The banks below b have the new loads, the others still the old ones.
  abbrev pub Adding : ℕ → List (List ℕ) → Type 0
  Adding b table = ((c : ℕ) → c < b → get_or table c [] ≡ loads rows (marked (set marks k true)) c) × ((c : ℕ) → b ≤ c → c < 16 → get_or table c [] ≡ loads rows (marked marks) c)

  pub adding_more : (b : ℕ) (table : List (List ℕ)) (ys : List ℕ) → b < length table → ys ≡ loads rows (marked (set marks k true)) b → Adding b table → Adding (b + 1) (set table b ys)
  adding_more b table ys l e (new, old) = (
    λ c h. elim (cases_eq c b) [
      | inl same ↦ ap (λ x. get_or (set table b ys) x []) same ∙ get_or-set_same table b ys [] l ∙ e ∙ ap (loads rows (marked (set marks k true))) (sym same)
      | inr apart ↦ get_or-set_other table b c ys [] apart ∙ new c (omega arith)
    ],
    λ c h j. get_or-set_other table b c ys [] (λ e. omega arith) ∙ old c (omega arith) j,
  )
