-- The comparison of two tables of dates, on which all else rests.
use Rattle.std.proofs.Common.{◌≡◌, ℕ, ◌+◌, ◌<◌, ◌≤◌, inl, inr, arith}
use Rattle.std.proofs.lemmas.Bool.{cases_lt}
use Rattle.consistency.specs.System.{System, Lawful}
use Rattle.consistency.specs.Dates.{Table, finish, worst, Covered, SmallestResponses}
use Rattle.consistency.proofs.Induction.{by_number}
use Rattle.consistency.proofs.Worst.{worst_le, covered_positive, smallest_least}

-- What rel releases before t, rel' releases at the same dates; it may release more before t.
abbrev pub SameBefore : System → ℕ → Table → Table → Type 0
SameBefore y t rel rel' = (k : ℕ) → k < y.tasks → rel k < t → rel k ≡ rel' k

-- The comparison: then each of these tasks that ends by t under rel' ends no later under rel,
-- where res are smallest responses for rel, and res' cover the worst under rel'.
module _ (y : System) (l : Lawful y) (rel res rel' res' : Table) (g : SmallestResponses y rel res) (covered : Covered y rel' res') (t : ℕ) (same : SameBefore y t rel rel') where
  abbrev NoLaterEnd : ℕ → Type 0
  NoLaterEnd i = i < y.tasks → rel i < t → finish rel' res' i ≤ t → finish rel res i ≤ finish rel' res' i

  -- In the order of release: who meets i under rel, given its response under rel', meets it under rel' too.
  -- So that response covers the worst under rel as well, and the smallest response is no larger.
  ends_next : (i : ℕ) → ((k : ℕ) → rel k < rel i → NoLaterEnd k) → NoLaterEnd i
  ends_next i sooner h before ends = omega (arith, here, smallest_least y l rel res g i (res' i) h (omega (arith, less, covered i h)))
    where
      here : rel i ≡ rel' i
      here = same i h before

      meets_too : (k : ℕ) → k < y.tasks → rel i < finish rel res k → rel k < rel i + res' i → (rel' i < finish rel' res' k) × (rel' k < rel' i + res' i)
      meets_too k hk u v =
          let there = same k hk (omega (arith, here)) in
          let positive = covered_positive y l rel' res' covered k hk in
          elim (cases_lt (rel k) (rel i)) [
            | inr later ↦ (omega (arith, here), omega (arith, here))
            | inl earlier ↦ elim (cases_lt t (finish rel' res' k)) [
              | inl after ↦ (omega (arith, here), omega (arith, here))
              | inr by ↦ (omega (arith, here, sooner k earlier hk (omega arith) by), omega (arith, here))
            ]
          ]

      less : worst y rel res i (res' i) ≤ worst y rel' res' i (res' i)
      less = worst_le y l rel res rel' res' i (res' i) (res' i) h meets_too

  pub ends_no_later : (i : ℕ) → i < y.tasks → rel i < t → finish rel' res' i ≤ t → finish rel res i ≤ finish rel' res' i
  ends_no_later = by_number rel NoLaterEnd ends_next
