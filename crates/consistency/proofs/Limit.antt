-- Two rounds settle one more release date, so at most 2(n − 1) rounds change a release.
use Rattle.std.proofs.Common.{ℕ, suc, ◌-◌, ◌*◌, ◌<◌, ◌≤◌, true, false, ltb, sym, refl, ◌∙◌, inl, inr, arith}
use Rattle.std.proofs.lemmas.Bool.{cases_lt, ltb-true, lt-ltb, le-ltb}
use Rattle.consistency.specs.System.{System, Lawful}
use Rattle.consistency.specs.Dates.{Table, alone, Consistent, FirstDates, Round, Changed, Reached, first, then_round}
use Rattle.consistency.proofs.Worst.{covered_positive, smallest_covered}
use Rattle.consistency.proofs.Comparison.{SameBefore}
use Rattle.consistency.proofs.Renewal.{NoLater, Agree, agree_before, agree_swap, agree_sooner, released_no_later, renewed_no_later}
use Rattle.consistency.proofs.Consistent.{unmoved, dates_exist}
use Rattle.consistency.proofs.Counting.{count, count_all, count_more, next_row}

-- Beside consistent dates, whose releases are the final ones.
module _ (y : System) (l : Lawful y) {final final_res : Table} (g : Consistent y final final_res) where
  -- If all final releases before s are in place, then after a round no task released by s is released before its final date.
  no_spurious : {rel res new : Table} → Round y rel res new → (s : ℕ) → SameBefore y s final rel → NoLater y (suc s) final new
  no_spurious r s same = renewed_no_later y l (unmoved g) r s same (λ k h u v. v)

  -- A round settles one more cycle.
  settles_cycle : {rel res new : Table} {s : ℕ} → Round y rel res new → Agree y s final rel → Agree y (suc s) final new
  settles_cycle {s = s} r a = record {
    forth = no_spurious r s (agree_before a);
    back = renewed_no_later y l r (unmoved g) s (agree_before (agree_swap a)) (λ k h u v. a.back k h u);
  }

  -- Two rounds settle the next final release date t: after the first, no task is released before t that should not be; then the second is right up to t.
  settle_date : {rel res mid res' new : Table} {s : ℕ} → Round y rel res mid → Round y mid res' new → Agree y s final rel → (t : ℕ) → ((k : ℕ) → k < y.tasks → final k < t → final k < s) → Agree y (suc t) final new
  settle_date r r' a t gap =
      let more = settles_cycle r a in
      let cleared = no_spurious r t (λ k h j. agree_before a k h (gap k h j)) in
      settles_cycle r' (record { forth = λ k h j. cleared k h (omega arith); back = λ k h j. more.back k h (omega (arith, gap k h j)) })

  -- How many tasks have their final release before s.
  abbrev final_before : ℕ → ℕ
  final_before s = count (λ k. ltb (final k) s) y.tasks

  final_more : (s i : ℕ) → i < y.tasks → s ≤ final i → final_before s < final_before (suc (final i))
  final_more s i h from =
      count_more (λ k. ltb (final k) s) (λ k. ltb (final k) (suc (final i))) y.tasks
      (λ k hk t. lt-ltb (final k) (suc (final i)) (omega (arith, ltb-true (final k) s t))) i h (le-ltb (final i) s from) (lt-ltb (final i) (suc (final i)) (omega arith))

  final_not_all : (s i : ℕ) → i < y.tasks → s ≤ final i → final_before s < y.tasks
  final_not_all s i h from = omega (arith, count_all y.tasks, count_more (λ k. ltb (final k) s) (λ k. true) y.tasks (λ k hk t. refl) i h (le-ltb (final i) s from) refl)

  -- A task that a round still moves has its final release from s on.
  moved_from : {rel res new : Table} {s : ℕ} → Round y rel res new → Agree y s final rel → (c : Changed y rel new) → s ≤ final c.row
  moved_from {s = s} r a c =
      elim (cases_lt (final c.row) s) [
        | inr from ↦ from
        | inl before ↦ absurd (c.moved (sym (agree_before a c.row c.task before) ∙ agree_before (settles_cycle r a) c.row c.task (omega arith)))
      ]

  -- After j rounds the releases before some date are final, and there are more than j / 2 of them.
  record Settled (j : ℕ) (rel : Table) : Type 0 where
    date : ℕ
    agree : Agree y date final rel
    enough : j < 2 * final_before date

  -- The first dates are right up to the first final release date, since no task runs before it.
  settled_first : 1 ≤ y.tasks → {rel : Table} → FirstDates y rel → Settled 0 rel
  settled_first some {rel} f =
      let v = next_row final y.tasks 0 0 (omega arith) (omega arith) in
      let t : ℕ = final v.row in
      let nobody : (k : ℕ) → k < y.tasks → final k < t → ⊥ = λ k hk j. omega (arith, v.first k hk (omega arith)) in
      let positive = covered_positive y l final final_res (smallest_covered y l final final_res g.responses) in
      record {
        date = suc t;
        agree = record {
          forth = λ k h j. released_no_later y l final final_res rel (alone y) g.released f (λ i hi. l.work_positive i hi (λ _. false)) t (λ k hk u w z. absurd (nobody k hk (omega arith))) k h (omega arith);
          back = λ k h j. released_no_later y l rel (alone y) final final_res f g.released positive t (λ k hk u w z. absurd (nobody k hk (omega arith))) k h (omega arith);
        };
        enough = omega (arith, final_more 0 v.row v.known v.from);
      }

  settled_next : {j : ℕ} {rel res mid res' new : Table} → Round y rel res mid → Changed y rel mid → Round y mid res' new → Settled j rel → Settled (suc (suc j)) new
  settled_next r c r' o =
      let v = next_row final y.tasks o.date c.row c.task (moved_from r o.agree c) in
      record {
        date = suc (final v.row);
        agree = settle_date r r' o.agree (final v.row) (λ k h j. elim (cases_lt (final k) o.date) [ inl before ↦ before | inr from ↦ absurd (omega (arith, v.first k h from)) ]);
        enough = omega (arith, final_more o.date v.row v.known v.from, o.enough);
      }

  settled : 1 ≤ y.tasks → {j : ℕ} {rel : Table} → Reached y j rel → Settled j rel
  settled some (first f) = settled_first some f
  settled some (then_round (first f) r c) =
      let o = settled_first some f in
      record { date = o.date; agree = agree_sooner (omega arith) (settles_cycle r o.agree); enough = omega (arith, o.enough) }
  settled some (then_round (then_round p r c) r' c') = settled_next r c r' (settled some p)

  limit_to : {j : ℕ} {rel : Table} → Reached y j rel → j ≤ 2 * (y.tasks - 1)
  limit_to (first f) = omega arith
  limit_to (then_round p r c) =
      let o = settled (omega (arith, c.task)) p in
      omega (arith, o.enough, final_not_all o.date c.row c.task (moved_from r o.agree c))

-- At most 2(n − 1) rounds change a release.
pub limit : (y : System) → Lawful y → {j : ℕ} {rel : Table} → Reached y j rel → j ≤ 2 * (y.tasks - 1)
limit y l = let (final, final_res, g) = dates_exist y l in limit_to y l g
