-- Given releases have one table of smallest responses, it is the least that covers the worst, and it can be found from below.
use Rattle.std.proofs.Common.{◌≡◌, ℕ, zero, suc, ◌<◌, ◌≤◌, true, ◌≢◌, refl, subst, inl, inr, arith}
use Rattle.std.proofs.lemmas.Bool.{cases_lt, cases_eq}
use Rattle.consistency.specs.System.{System, Lawful}
use Rattle.consistency.specs.Dates.{Table, Same, AtMost, Smallest, finish, worst, alone, latest, Covered, SmallestResponses, BelowSmallest}
use Rattle.consistency.proofs.Smallest.{smallest_fixed, smallest_fixed_same}
use Rattle.consistency.proofs.Latest.{latest_marked}
use Rattle.consistency.proofs.Worst.{worst_same, worst_grows, worst_monotone, worst_earlier, worst_positive, crowded, worst_crowded, alone_worst, covered_positive, smallest_covered}
use Rattle.consistency.proofs.Comparison.{ends_no_later}

module _ (y : System) (l : Lawful y) where
  -- Only rows of tasks count.
  pub responses_same : (rel res rel' res' : Table) → Same y rel rel' → Same y res res' → SmallestResponses y rel res → SmallestResponses y rel' res'
  responses_same rel res rel' res' p q g i h =
      subst (Smallest (λ r. worst y rel' res' i r ≡ r)) (q i h)
      (smallest_fixed_same (worst y rel res i) (worst y rel' res' i) (λ r. worst_same y l rel res rel' res' p q i r h) (res i) (g i h))

  -- By comparison with other responses for the same releases.
  pub responses_least : (rel res other : Table) → SmallestResponses y rel res → Covered y rel other → AtMost y res other
  responses_least rel res other g covered i h =
      omega (arith, ends_no_later y l rel res rel other g covered (finish rel other i) (λ k hk j. refl) i h (omega (arith, covered_positive y l rel other covered i h)) (omega arith))

  pub responses_unique : (rel res other : Table) → SmallestResponses y rel res → SmallestResponses y rel other → Same y res other
  responses_unique rel res other g f i h =
      omega (arith, responses_least rel res other g (smallest_covered y l rel other f) i h, responses_least rel other res f (smallest_covered y l rel res g) i h)

  -- The smallest responses are found in the order of release: those of tasks released at m follow from those of tasks released before.
  module _ (rel : Table) where
    record Solved (m : ℕ) : Type 0 where
      res : Table
      positive : (i : ℕ) → i < y.tasks → 1 ≤ res i
      smallest : (i : ℕ) → i < y.tasks → rel i < m → Smallest (λ r. worst y rel res i r ≡ r) (res i)

    solve_next : (m : ℕ) → Solved m → Solved (suc m)
    solve_next m old = record { res = next; positive = λ i h. ((each i).1 h).0; smallest = right }
      where
        each : (i : ℕ) → (x : ℕ) × (i < y.tasks → (1 ≤ x) × (rel i < m → old.res i ≡ x) × (rel i < suc m → Smallest (λ r. worst y rel old.res i r ≡ r) x))
        each i =
            elim (cases_lt i y.tasks) [
              | inr none ↦ (1, λ h. absurd (omega arith))
              | inl h ↦ elim (cases_lt (rel i) m) [
                | inl before ↦ (old.res i, λ _. (old.positive i h, λ _. refl, λ _. old.smallest i h before))
                | inr from ↦
                    let (x, s, low) = smallest_fixed (worst y rel old.res i) (worst_monotone y l rel old.res i h) (crowded y i) (worst_crowded y l rel old.res i (crowded y i) h) in
                    (x, λ _. (omega (arith, s.holds, worst_positive y l rel old.res i x h), λ j. absurd (omega arith), λ _. s))
              ]
            ]

        next : Table
        next i = (each i).0

        right : (i : ℕ) → i < y.tasks → rel i < suc m → Smallest (λ r. worst y rel next i r ≡ r) (next i)
        right i h j =
            smallest_fixed_same (worst y rel old.res i) (worst y rel next i)
            (λ r. worst_earlier y l rel old.res next (λ k hk. (old.positive k hk, ((each k).1 hk).0)) i r h (λ k hk q. ((each k).1 hk).1 (omega arith)))
            (next i) (((each i).1 h).2 j)

    solve : (m : ℕ) → Solved m
    solve zero = record { res = λ k. 1; positive = λ i h. omega arith; smallest = λ i h j. absurd (omega arith) }
    solve (suc m) = solve_next m (solve m)

    pub responses_exist : (res : Table) × SmallestResponses y rel res
    responses_exist =
        let all : ℕ = latest 0 (λ k. true) rel y.tasks in
        let s = solve (suc all) in
        (s.res, λ i h. s.smallest i h (omega (arith, latest_marked 0 (λ k. true) rel y.tasks i h refl)))

  -- From below: responses without meetings are below the smallest ones,
  pub alone_below : (rel : Table) → BelowSmallest y rel (alone y)
  alone_below rel best g i h = omega (arith, alone_worst y l rel best i (best i) h, (g i h).holds)

  -- they stay so where one is raised to what its task takes at worst,
  pub raised_below : (rel res raised : Table) (i : ℕ) → i < y.tasks → BelowSmallest y rel res → raised i ≡ worst y rel res i (res i) → ((k : ℕ) → k ≢ i → raised k ≡ res k) → BelowSmallest y rel raised
  raised_below rel res raised i h below here others best g k hk =
      elim (cases_eq k i) [
        | inl e ↦ rw e (omega (arith, here, worst_grows y l rel res best (below best g) i (res i) (best i) h (below best g i h), (g i h).holds))
        | inr d ↦ omega (arith, others k d, below best g k hk)
      ]

  -- and they are the smallest once none is left to raise.
  pub smallest_from_below : (rel res : Table) → BelowSmallest y rel res → Covered y rel res → SmallestResponses y rel res
  smallest_from_below rel res below covered =
      let (best, g) = responses_exist rel in
      responses_same rel best rel res (λ k hk. refl) (λ k hk. omega (arith, below best g k hk, responses_least rel best res g covered k hk)) g
