-- Meetings, and what a task takes at worst. Other proofs use only these lemmas of either.
use Rattle.std.proofs.Common.{◌≡◌, ℕ, ◌+◌, ◌<◌, ◌≤◌, true, false, ◌&&◌, ltb, sym, refl, inl, inr, arith}
use mathlib.Core.Bool.{and-true}
use Rattle.std.proofs.lemmas.Bool.{cases_lt, false≢true, ltb-true, lt-ltb, and_parts, and_from}
use Rattle.consistency.specs.System.{System, Lawful}
use Rattle.consistency.specs.Dates.{Table, Same, AtMost, finish, meets, worst, alone, Covered, SmallestResponses}
use Rattle.consistency.proofs.Smallest.{Monotone, smallest_fixed_least}

-- Whether two tasks meet depends only on the response of the one released first, since the other's is at least 1.
module _ (y : System) (rel res : Table) (i r k : ℕ) where
  pub meets_later : rel i ≤ rel k → 1 ≤ res k → meets y rel res i r k ≡ (y.apart i k && ltb (rel k) (rel i + r))
  meets_later h p = rw (lt-ltb (rel i) (finish rel res k) (omega arith))

  pub meets_earlier : rel k ≤ rel i → 1 ≤ r → meets y rel res i r k ≡ (y.apart i k && ltb (rel i) (finish rel res k))
  meets_earlier h p = rw (lt-ltb (rel k) (rel i + r) (omega arith), and-true)

-- What task i takes at worst if it meets all.
abbrev pub crowded : System → ℕ → ℕ
crowded y i = y.work i (λ k. true)

module _ (y : System) (l : Lawful y) where
  -- A task takes no more where it meets no more tasks.
  pub worst_le : (rel res rel' res' : Table) (i r r' : ℕ) → i < y.tasks → ((k : ℕ) → k < y.tasks → rel i < finish rel res k → rel k < rel i + r → (rel' i < finish rel' res' k) × (rel' k < rel' i + r')) → worst y rel res i r ≤ worst y rel' res' i r'
  worst_le rel res rel' res' i r r' h more =
      l.work_grows i h (meets y rel res i r) (meets y rel' res' i r') (λ k hk e.
      let p = and_parts (y.apart i k) (ltb (rel i) (finish rel res k) && ltb (rel k) (rel i + r)) e in
      let q = and_parts (ltb (rel i) (finish rel res k)) (ltb (rel k) (rel i + r)) p.1 in
      let m = more k hk (ltb-true (rel i) (finish rel res k) q.0) (ltb-true (rel k) (rel i + r) q.1) in
      and_from (y.apart i k) (ltb (rel' i) (finish rel' res' k) && ltb (rel' k) (rel' i + r')) p.0
      (and_from (ltb (rel' i) (finish rel' res' k)) (ltb (rel' k) (rel' i + r')) (lt-ltb (rel' i) (finish rel' res' k) m.0) (lt-ltb (rel' k) (rel' i + r') m.1)))

  -- It takes no less where responses are larger.
  pub worst_grows : (rel res res' : Table) → AtMost y res res' → (i r r' : ℕ) → i < y.tasks → r ≤ r' → worst y rel res i r ≤ worst y rel res' i r'
  worst_grows rel res res' below i r r' h j = worst_le rel res rel res' i r r' h (λ k hk u v. (omega (arith, below k hk), omega arith))

  pub worst_monotone : (rel res : Table) (i : ℕ) → i < y.tasks → Monotone (worst y rel res i)
  worst_monotone rel res i h r r' = worst_grows rel res res (λ k hk. omega arith) i r r' h

  -- It takes at least what it takes alone, and at most what it takes if it meets all.
  pub alone_worst : (rel res : Table) (i r : ℕ) → i < y.tasks → alone y i ≤ worst y rel res i r
  alone_worst rel res i r h = l.work_grows i h (λ k. false) (meets y rel res i r) (λ k hk e. absurd (false≢true e))

  pub worst_crowded : (rel res : Table) (i r : ℕ) → i < y.tasks → worst y rel res i r ≤ crowded y i
  worst_crowded rel res i r h = l.work_grows i h (meets y rel res i r) (λ k. true) (λ k hk e. refl)

  -- Only rows of tasks count.
  pub worst_same : (rel res rel' res' : Table) → Same y rel rel' → Same y res res' → (i r : ℕ) → i < y.tasks → worst y rel res i r ≡ worst y rel' res' i r
  worst_same rel res rel' res' p q i r h =
      omega (arith, worst_le rel res rel' res' i r r h (λ k hk u v. omega (arith, p i h, p k hk, q k hk)), worst_le rel' res' rel res i r r h (λ k hk u v. omega (arith, p i h, p k hk, q k hk)))

  -- Of the others' responses, only those of tasks released before i count. So responses can be found one after the other, in the order of release.
  earlier_le : (rel res other : Table) → ((k : ℕ) → k < y.tasks → 1 ≤ other k) → (i r : ℕ) → i < y.tasks → ((k : ℕ) → k < y.tasks → rel k < rel i → res k ≡ other k) → worst y rel res i r ≤ worst y rel other i r
  earlier_le rel res other positive i r h same =
      worst_le rel res rel other i r r h (λ k hk u v.
      (elim (cases_lt (rel k) (rel i)) [ inl j ↦ omega (arith, same k hk j) | inr j ↦ omega (arith, positive k hk) ], v))

  pub worst_earlier : (rel res other : Table) → ((k : ℕ) → k < y.tasks → (1 ≤ res k) × (1 ≤ other k)) → (i r : ℕ) → i < y.tasks → ((k : ℕ) → k < y.tasks → rel k < rel i → res k ≡ other k) → worst y rel res i r ≡ worst y rel other i r
  worst_earlier rel res other positive i r h same =
      omega (arith, earlier_le rel res other (λ k hk. (positive k hk).1) i r h same, earlier_le rel other res (λ k hk. (positive k hk).0) i r h (λ k hk j. sym (same k hk j)))

  pub worst_positive : (rel res : Table) (i r : ℕ) → i < y.tasks → 1 ≤ worst y rel res i r
  worst_positive rel res i r h = l.work_positive i h (meets y rel res i r)

  -- Responses that cover the worst are at least 1.
  pub covered_positive : (rel res : Table) → Covered y rel res → (i : ℕ) → i < y.tasks → 1 ≤ res i
  covered_positive rel res covered i h = omega (arith, covered i h, worst_positive rel res i (res i) h)

  -- Smallest responses cover the worst,
  pub smallest_covered : (rel res : Table) → SmallestResponses y rel res → Covered y rel res
  smallest_covered rel res g i h = omega (arith, (g i h).holds)

  -- and each lies below every number that does, all else fixed.
  pub smallest_least : (rel res : Table) → SmallestResponses y rel res → (i r : ℕ) → i < y.tasks → worst y rel res i r ≤ r → res i ≤ r
  smallest_least rel res g i r h = smallest_fixed_least (worst y rel res i) (worst_monotone rel res i h) (res i) (g i h) r
