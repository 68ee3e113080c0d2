-- Tasks of one place come one after the other.
use Rattle.std.proofs.Common.{◌≡◌, ℕ, zero, suc, ◌+◌, ◌<◌, ◌≤◌, true, cond, List, Some, sym, refl, ap, ◌∙◌, inl, inr, arith}
use Rattle.std.proofs.lemmas.Bool.{cases_eq, eq-eqb, ne_eqb, or_right}
use Rattle.plan.specs.Rows.{Row, row}
use Rattle.plan.specs.Rules.{member}
use Rattle.plan.specs.Waits.{holds, latest_at, previous_of, waits_for}
use Rattle.date_check.specs.Sound.{Sound}
use Rattle.safety.proofs.Setting.{Setting, due, home, release, rows}

-- The latest row below i at a place, where k is one.
pub record Latest (rows : List Row) (place i k : ℕ) : Type 0 where
  pub latest : ℕ
  pub is : latest_at rows place i ≡ Some latest
  pub there : (row rows latest).place ≡ place
  pub below : latest < i
  pub after : k ≤ latest

latest_of : (rows : List Row) (place i k : ℕ) → k < i → (row rows k).place ≡ place → Latest rows place i k
latest_of rows place zero k l e = absurd (omega arith)
latest_of rows place (suc i) k l e =
    elim (cases_eq (row rows i).place place) [
      | inl here ↦ record { latest = i; is = ap (λ b. cond b (Some i) (latest_at rows place i)) (eq-eqb (row rows i).place place here); there = here; below = omega arith; after = omega arith }
      | inr away ↦ (let k_apart : (k ≡ i → ⊥) = λ f. away (ap (λ n. (row rows n).place) (sym f) ∙ e) in
          let x = latest_of rows place i k (omega arith) e in
          record { latest = x.latest; is = ap (λ b. cond b (Some i) (latest_at rows place i)) (ne_eqb (row rows i).place place away) ∙ x.is; there = x.there; below = omega (arith, x.below); after = x.after })
    ]

module _ {A : Type 0} (c : Setting A) (sound : Sound c.model c.plan c.arbiters c.table) where
  -- d bounds how many rows lie between.
  one_by_one : (d i k : ℕ) → i ≤ k + d → k < i → i < rows c → home c k ≡ home c i → due c k ≤ release c i
  one_by_one zero i k h l j e = absurd (omega arith)
  one_by_one (suc d) i k h l j e =
      let x = latest_of c.plan.rows (home c i) i k l e in
      let waits : waits_for c.plan.rows i x.latest ≡ true = or_right (member x.latest (row c.plan.rows i).after) (holds (previous_of c.plan.rows i) x.latest) (ap (λ o. holds o x.latest) x.is ∙ eq-eqb x.latest x.latest refl) in
      let last = sound.in_order i x.latest j waits in
      elim (cases_eq k x.latest) [
        | inl same ↦ omega (arith, ap (due c) same, last)
        | inr apart ↦ omega (arith, one_by_one d x.latest k (omega (arith, x.below)) (omega (arith, x.after)) (omega (arith, x.below)) (e ∙ sym x.there), last)
      ]

  pub in_turn : (i k : ℕ) → k < i → i < rows c → home c k ≡ home c i → due c k ≤ release c i
  in_turn i k = one_by_one i i k (omega arith)
