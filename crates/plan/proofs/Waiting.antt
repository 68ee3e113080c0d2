-- A task waits for earlier rows only.
-- Assumes nothing.
use Rattle.std.proofs.Common.{◌≡◌, ◌≢◌, ℕ, zero, suc, ◌<◌, ◌≤◌, true, cond, eqb, List, [], ◌∷◌, map, length, get_or, take, Some, None, Option, sym, refl, ap, subst, ◌∙◌, ⊎_elim, arith, length-take}
use Rattle.std.proofs.lemmas.Bool.{cases_eq, cases_Bool, eqb-true, or_cases}
use Rattle.std.proofs.lemmas.Bool.Decides.{nat_tests}
use Rattle.std.proofs.lemmas.List.{get_or-map, get_or-take}
use Rattle.plan.specs.declared.rows.Task.{Task}
use Rattle.plan.specs.Rows.{Plan, Row, new_row, row, row_of}
use Rattle.plan.specs.Rules.{Kept, member}
use Rattle.plan.specs.Waits.{LastAt, holds, latest_at, previous_of, waits_for}

latest_below : (rows : List Row) (place i k : ℕ) → holds (latest_at rows place i) k ≡ true → k < i
latest_below rows place zero k h = let z : ◌≡◌ {A = ℕ} 0 1 = cc in absurd (omega arith)
latest_below rows place (suc i) k h =
    ⊎_elim
    (λ here. let same : i ≡ k = eqb-true i k (ap (λ b. holds (cond b (Some i) (latest_at rows place i)) k) (sym here) ∙ h) in omega arith)
    (λ away. let below = latest_below rows place i k (ap (λ b. holds (cond b (Some i) (latest_at rows place i)) k) (sym away) ∙ h) in omega arith)
    (cases_Bool (eqb (row rows i).place place))

pub waits_below : (p : Plan) (i k : ℕ) → Kept p → i < length p.rows → waits_for p.rows i k ≡ true → k < i
waits_below p i k kept l w =
    ⊎_elim
    (λ named. (kept.legal i l).earlier k named)
    (λ before. latest_below p.rows (row p.rows i).place i k before)
    (or_cases (member k (row p.rows i).after) (holds (previous_of p.rows i) k) w)

latest_none : (rows : List Row) (place n : ℕ) → ((k : ℕ) → k < n → (row rows k).place ≢ place) → None ≡ latest_at rows place n
latest_none rows place zero away = refl
latest_none rows place (suc n) away =
    let below = latest_none rows place n (λ k l. away k (omega arith)) in
    let here = away n (omega arith) in
    grind (arith, nat_tests)

latest_some : (rows : List Row) (place n i : ℕ) → i < n → (row rows i).place ≡ place → ((k : ℕ) → i < k → k < n → (row rows k).place ≢ place) → Some i ≡ latest_at rows place n
latest_some rows place zero i l here away = absurd (omega arith)
latest_some rows place (suc n) i l here away =
    ⊎_elim
    (λ same.
    let at : (row rows n).place ≡ place = subst (λ j. (row rows j).place ≡ place) same here in
    grind (arith, nat_tests))
    (λ other.
    let below = latest_some rows place n i (omega arith) here (λ k a b. away k a (omega arith)) in
    let above = away n (omega arith) (omega arith) in
    grind (arith, nat_tests))
    (cases_eq i n)

-- A task as it stands in the first n of a list, and as a row.
front_place : (ts : List Task) (n i : ℕ) (t : Task) → i < n → n ≤ length ts → (get_or (take n ts) i t).place ≡ (row (map row_of ts) i).place
front_place ts n i t l all = ap (λ x. x.place) (get_or-take n ts i t l) ∙ ap (λ r. r.place) (sym (get_or-map row_of ts i t (new_row 0 0 0) (omega arith)))

-- The last of the first n tasks at a place is the latest row there.
pub latest_from : (ts : List Task) (place n : ℕ) (o : Option ℕ) → n ≤ length ts → LastAt (take n ts) place o → o ≡ latest_at (map row_of ts) place n
latest_from [] place n None all last = latest_none [] place n (λ k l. absurd (omega arith))
latest_from (t ∷ ts) place n None all last = latest_none (map row_of (t ∷ ts)) place n (λ k l e. last k t (omega (arith, length-take n (t ∷ ts))) (front_place (t ∷ ts) n k t l all ∙ e))
latest_from [] place n (Some i) all last = absurd (omega (arith, length-take {A = Task} n [], last.within))
latest_from (t ∷ ts) place n (Some i) all last =
    let long = length-take n (t ∷ ts) in
    let inside : i < n = omega (arith, last.within) in
    latest_some (map row_of (t ∷ ts)) place n i inside (sym (front_place (t ∷ ts) n i t inside all) ∙ last.here t) (λ k a b e. last.after k t a (omega arith) (front_place (t ∷ ts) n k t b all ∙ e))
