-- Releases by the rule, row by row, with the finish of the task before at each place at hand.
-- Assumes nothing.
use Rattle.std.proofs.Common.{◌≡◌, ℕ, ◌+◌, ◌*◌, ◌^◌, ◌<◌, ◌≤◌, max, true, cond, eqb, ◌≢◌, List, [], ◌∷◌, fold, length, get_or, set, IfSome, Some, None, Option, sym, refl, ap, ◌∙◌, subst, inl, inr, ⊎_elim, add-one, arith, MatchOption}
use Rattle.std.proofs.lemmas.List.{get_or-set_other, get_or-set_same, length-set}
use Rattle.std.proofs.lemmas.Bool.{cases_eq, cond_both, eq-eqb, eqb-true, eqb-false, or_cases, or_left, or_right}
use Rattle.plan.specs.Rows.{Plan, Row, row}
use Rattle.plan.specs.Rules.{Kept, member}
use Rattle.plan.specs.Waits.{holds, latest_at, previous_of, waits_for}
use Rattle.date_check.proofs.Finishing.{latest_earlier}
use Rattle.date_check.proofs.Reading.{few_places}
use Rattle.consistency.specs.Dates.{Table, finish, latest}
use Rattle.consistency.proofs.Latest.{latest_first, latest_least, latest_marked, latest_same}
use Rattle.analysis.specs.Workings.{LatestOf}

-- The fold of the dates of the rows in a list is the latest of them.
pub latest_folded : (dates : ℕ → ℕ) (xs : List ℕ) (first : ℕ) → LatestOf first (λ k. member k xs ≡ true) dates (fold (λ latest k. max latest (dates k)) first xs)
latest_folded dates [] first = record { not_before = omega arith; after_each = λ k m. let z : ◌≡◌ {A = ℕ} 0 1 = cc in absurd (omega arith); least = λ u b each. b }
latest_folded dates (x ∷ xs) first =
    let h = latest_folded dates xs (max first (dates x)) in
    record {
      not_before = omega (arith, h.not_before);
      after_each = λ k m. ⊎_elim (λ e. omega (arith, h.not_before, ap dates (eqb-true x k e))) (λ e. h.after_each k e) (or_cases (eqb x k) (member k xs) m);
      least = λ u b each. h.least u (omega (arith, each x (or_left (eqb x x) (member x xs) (eq-eqb x x refl)))) (λ k m. each k (or_right (eqb x k) (member k xs) m));
    }

-- The same of what was read.
pub latest_read : (dates : ℕ → ℕ) (xs ys : List ℕ) (first n r : ℕ) → n ≡ first → xs ≡ ys → r ≡ fold (λ latest k. max latest (dates k)) n xs → LatestOf first (λ k. member k ys ≡ true) dates r
latest_read dates xs ys first n r e f g = subst (LatestOf first (λ k. member k ys ≡ true) dates) (sym (g ∙ ap (λ m. fold (λ latest k. max latest (dates k)) m xs) e ∙ ap (fold (λ latest k. max latest (dates k)) first) f)) (latest_folded dates ys first)

-- The finish of a row, or 0 if there is none.
abbrev pub Ended : Table → Option ℕ → ℕ → Type 0
Ended fin o e = MatchOption o (e ≡ 0) (λ k. e ≡ fin k)

-- After the rows below i: their releases follow the rule, and for each place the finish of its latest task is at hand.
pub record Renewed (rows : List Row) (res : Table) (i : ℕ) (rel fin : Table) (ends : List ℕ) : Type 0 where
  pub finishes : (k : ℕ) → k < i → fin k ≡ rel k + res k
  pub ruled : (k : ℕ) → k < i → rel k ≡ latest (row rows k).earliest (waits_for rows k) (finish rel res) k
  pub low : (k : ℕ) → k < i → fin k ≤ 1000000000 + i * 2 ^ 35
  pub full : length ends ≡ 32
  pub places : (o : ℕ) → o < 32 → Ended fin (latest_at rows o i) (get_or ends o 0)

pub renewed_none : (rows : List Row) (res rel fin : Table) (ends : List ℕ) → length ends ≡ 32 → ((o : ℕ) → o < 32 → get_or ends o 0 ≡ 0) → Renewed rows res 0 rel fin ends
renewed_none rows res rel fin ends full none = record {
  finishes = λ k h. absurd (omega arith);
  ruled = λ k h. absurd (omega arith);
  low = λ k h. absurd (omega arith);
  full = full;
  places = none;
}

-- Row i, released at the latest of what it waits for.
module _ (p : Plan) (kept : Kept p) (res : Table) (i : ℕ) (task : i < length p.rows) (short : res i < 2 ^ 35) (rel fin : Table) (ends : List ℕ) (h : Renewed p.rows res i rel fin ends) (r : Row) (at : r ≡ row p.rows i) (release : ℕ) (waited : LatestOf (max r.earliest (get_or ends r.place 0)) (λ k. member k r.after ≡ true) fin release) where
  pub placed : r.place < 32
  placed = omega (arith, ap (λ q. q.place) at, (kept.legal i task).placed, few_places p.head kept.headed)

  pub named : (k : ℕ) → member k r.after ≡ true → k < i
  named k m = (kept.legal i task).earlier k (ap (λ q. member k q.after) (sym at) ∙ m)

  ended : Ended fin (previous_of p.rows i) (get_or ends r.place 0)
  ended = subst (λ o. Ended fin (latest_at p.rows o i) (get_or ends r.place 0)) (ap (λ q. q.place) at) (h.places r.place placed)

  waits_named : (k : ℕ) → member k r.after ≡ true → waits_for p.rows i k ≡ true
  waits_named k m = or_left (member k (row p.rows i).after) (holds (previous_of p.rows i) k) (ap (λ q. member k q.after) (sym at) ∙ m)

  waits_previous : (o : Option ℕ) (k : ℕ) → o ≡ previous_of p.rows i → o ≡ Some k → waits_for p.rows i k ≡ true
  waits_previous o k e s = or_right (member k (row p.rows i).after) (holds (previous_of p.rows i) k) (ap (λ x. holds x k) (sym e ∙ s) ∙ eq-eqb k k refl)

  -- A limit on the end of the task before, from one on the finishes that are waited for.
  end_by : (o : Option ℕ) (e u : ℕ) → Ended fin o e → ((k : ℕ) → o ≡ Some k → fin k ≤ u) → e ≤ u
  end_by None e u z each = omega arith
  end_by (Some k) e u z each = omega (arith, each k refl)

  previous_before : (o : Option ℕ) (k : ℕ) → IfSome o (λ k. k < i) → o ≡ Some k → k < i
  previous_before None k c e = let z : ◌≡◌ {A = ℕ} 0 1 = cc in absurd (omega arith)
  previous_before (Some j) k c e = let same : j ≡ k = cc in omega arith

  before : (k : ℕ) → previous_of p.rows i ≡ Some k → k < i
  before k e = previous_before (previous_of p.rows i) k (latest_earlier p.rows (row p.rows i).place i) e

  pub release_low : release ≤ 1000000000 + i * 2 ^ 35
  release_low =
      waited.least (1000000000 + i * 2 ^ 35)
      (omega (arith, ap (λ q. q.earliest) at, (kept.legal i task).soon, end_by (previous_of p.rows i) (get_or ends r.place 0) (1000000000 + i * 2 ^ 35) ended (λ k e. h.low k (before k e))))
      (λ k m. h.low k (named k m))

  held_end : (o : Option ℕ) (k e : ℕ) → holds o k ≡ true → Ended fin o e → e ≡ fin k
  held_end None k e w z = let z : ◌≡◌ {A = ℕ} 0 1 = cc in absurd (omega arith)
  held_end (Some j) k e w z = z ∙ ap fin (eqb-true j k w)

  -- It is released by the rule.
  pub release_ruled : release ≡ latest (row p.rows i).earliest (waits_for p.rows i) (finish rel res) i
  release_ruled = omega (arith, no_sooner, no_later)
    where
      ended_by : (k : ℕ) → k < i → waits_for p.rows i k ≡ true → fin k ≤ latest (row p.rows i).earliest (waits_for p.rows i) (finish rel res) i
      ended_by k j w = omega (arith, h.finishes k j, latest_marked (row p.rows i).earliest (waits_for p.rows i) (finish rel res) i k j w)

      no_later : release ≤ latest (row p.rows i).earliest (waits_for p.rows i) (finish rel res) i
      no_later =
          waited.least (latest (row p.rows i).earliest (waits_for p.rows i) (finish rel res) i)
          (omega (arith, ap (λ q. q.earliest) at, latest_first (row p.rows i).earliest (waits_for p.rows i) (finish rel res) i, end_by (previous_of p.rows i) (get_or ends r.place 0) (latest (row p.rows i).earliest (waits_for p.rows i) (finish rel res) i) ended (λ k e. ended_by k (before k e) (waits_previous (previous_of p.rows i) k refl e))))
          (λ k m. ended_by k (named k m) (waits_named k m))

      no_sooner : latest (row p.rows i).earliest (waits_for p.rows i) (finish rel res) i ≤ release
      no_sooner =
          latest_least (row p.rows i).earliest (waits_for p.rows i) (finish rel res) i release
          (omega (arith, ap (λ q. q.earliest) at, waited.not_before))
          (λ k j w. ⊎_elim
          (λ m. omega (arith, h.finishes k j, waited.after_each k (ap (λ q. member k q.after) at ∙ m)))
          (λ m. omega (arith, h.finishes k j, waited.not_before, held_end (previous_of p.rows i) k (get_or ends r.place 0) m ended))
          (or_cases (member k (row p.rows i).after) (holds (previous_of p.rows i) k) w))

  module _ (rel' fin' : Table) (here : rel' i ≡ release) (others : (k : ℕ) → k ≢ i → rel' k ≡ rel k) (ends_at : fin' i ≡ release + res i) (ends_others : (k : ℕ) → k ≢ i → fin' k ≡ fin k) where
    pub renewed_more : Renewed p.rows res (i + 1) rel' fin' (set ends r.place (release + res i))
    renewed_more = record {
      finishes = λ k j. elim (cases_eq k i) [
        | inl e ↦ subst (λ x. fin' x ≡ rel' x + res x) (sym e) (omega arith)
        | inr d ↦ omega (arith, ends_others k d, others k d, h.finishes k (omega arith))
      ];
      ruled = λ k j. elim (cases_eq k i) [
        | inl e ↦ subst (λ x. rel' x ≡ latest (row p.rows x).earliest (waits_for p.rows x) (finish rel' res) x) (sym e) (here ∙ release_ruled ∙ rule_same i (omega arith))
        | inr d ↦ others k d ∙ h.ruled k (omega arith) ∙ rule_same k (omega arith)
      ];
      low = λ k j. elim (cases_eq k i) [
        | inl e ↦ omega (arith, ap fin' e, release_low)
        | inr d ↦ omega (arith, ends_others k d, h.low k (omega arith))
      ];
      full = length-set ends r.place (release + res i) ∙ h.full;
      places = place_ended;
    }
      where
        rule_same : (k : ℕ) → k ≤ i → latest (row p.rows k).earliest (waits_for p.rows k) (finish rel res) k ≡ latest (row p.rows k).earliest (waits_for p.rows k) (finish rel' res) k
        rule_same k l = latest_same (row p.rows k).earliest (waits_for p.rows k) (finish rel res) (finish rel' res) k (λ j m. omega (arith, others j (λ e. omega arith)))

        kept_end : (o : Option ℕ) (e : ℕ) → IfSome o (λ k. k < i) → Ended fin o e → Ended fin' o e
        kept_end None e c z = z
        kept_end (Some k) e c z = z ∙ sym (ends_others k (λ q. omega arith))

        ended_next : (o : ℕ) → o < 32 → Ended fin' (cond (eqb (row p.rows i).place o) (Some i) (latest_at p.rows o i)) (get_or (set ends r.place (release + res i)) o 0)
        ended_next o l =
            cond_both (eqb (row p.rows i).place o) (Some i) (latest_at p.rows o i) (λ x. Ended fin' x (get_or (set ends r.place (release + res i)) o 0))
            (λ e. ap (λ x. get_or (set ends r.place (release + res i)) x 0) (sym (ap (λ q. q.place) at ∙ eqb-true (row p.rows i).place o e)) ∙ get_or-set_same ends r.place (release + res i) 0 (omega (arith, placed, h.full)) ∙ sym ends_at)
            (λ e. subst (λ x. Ended fin' (latest_at p.rows o i) x) (sym (get_or-set_other ends r.place o (release + res i) 0 (λ q. eqb-false (row p.rows i).place o e (sym (q ∙ ap (λ x. x.place) at))))) (kept_end (latest_at p.rows o i) (get_or ends o 0) (latest_earlier p.rows o i) (h.places o l)))

        place_ended : (o : ℕ) → o < 32 → Ended fin' (latest_at p.rows o (i + 1)) (get_or (set ends r.place (release + res i)) o 0)
        place_ended o l = subst (λ n. Ended fin' (latest_at p.rows o n) (get_or (set ends r.place (release + res i)) o 0)) (sym (add-one i)) (ended_next o l)
