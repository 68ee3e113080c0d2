-- What it means that a bound is accepted.
use Rattle.std.proofs.Common.{◌≡◌, ℕ, zero, suc, ◌<◌, ◌≤◌, Bool, true, false, cond, ◌&&◌, eqb, ltb, leb, List, [], ◌∷◌, length, get_or, Ok, Err, Result, refl, arith}
use Rattle.std.proofs.lemmas.Bool.{lt-ltb, ltb-true, eq-eqb, eqb-true, le-leb, leb-true, and_from, and_parts}
use Rattle.std.proofs.lemmas.List.Recursion.{and_from_places}
use Rattle.arbiter.specs.declared.refusal.Refusal.{Refusal}
use Rattle.arbiter.specs.declared.refusal.Refusal.TheVariants.{Range, Unknown, Size}
use Rattle.arbiter.specs.Counts.{limit, all_within}
use Rattle.arbiter.specs.Answers.{Accepts}

pub within : (xs : List ℕ) → ((k : ℕ) → k < length xs → get_or xs k 0 ≤ limit) → all_within xs ≡ true
within xs h = and_from_places all_within (λ x. leb x limit) refl (λ x xs. refl) xs 0 (λ k e. le-leb (get_or xs k 0) limit (h k e))

pub within_at : (xs : List ℕ) (k : ℕ) → all_within xs ≡ true → get_or xs k 0 ≤ limit
within_at [] k h = omega arith
within_at (x ∷ xs) zero h = leb-true x limit (and_parts (leb x limit) (all_within xs) h).0
within_at (x ∷ xs) (suc k) h = within_at xs k (and_parts (leb x limit) (all_within xs) h).1

-- The questions, each with its yes.
pub record Acceptance (n s own : ℕ) (xs : List ℕ) : Type 0 where
  pub known : s < n
  pub full : length xs ≡ 32
  pub few : own ≤ limit
  pub each : (o : ℕ) → get_or xs o 0 ≤ limit

pub accepts : (n s own : ℕ) (xs : List ℕ) → Acceptance n s own xs → Accepts n s own xs
accepts n s own xs h =
    rw (lt-ltb s n h.known, eq-eqb (length xs) 32 h.full, and_from (leb own limit) (all_within xs) (le-leb own limit h.few) (within xs (λ k i. h.each k)))

-- A question that was not refused had a yes.
yes_and : (answer : Bool) (rest : Result (Unit {0}) Refusal) (refusal : Refusal) → cond answer rest (Err refusal) ≡ Ok tt → (answer ≡ true) × (rest ≡ Ok tt)
yes_and true rest refusal h = (refl, h)
yes_and false rest refusal h = let z : ◌≡◌ {A = ℕ} 0 1 = cc in absurd (omega arith)

pub acceptance : (n s own : ℕ) (xs : List ℕ) → Accepts n s own xs → Acceptance n s own xs
acceptance n s own xs h =
    let known = yes_and (ltb s n) _ Unknown h in
    let full = yes_and (eqb (length xs) 32) _ Size known.1 in
    let few = yes_and (leb own limit && all_within xs) (Ok tt) Range full.1 in
    let both = and_parts (leb own limit) (all_within xs) few.0 in
    record { known = ltb-true s n known.0; full = eqb-true (length xs) 32 full.0; few = leb-true own limit both.0; each = λ o. within_at xs o both.1 }
