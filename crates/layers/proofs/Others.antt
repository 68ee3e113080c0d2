-- What the other side adds: a sum over its part of the counts.
use Rattle.std.proofs.Common.{◌≡◌, ℕ, zero, suc, ◌+◌, ◌-◌, ◌*◌, ◌<◌, ◌≤◌, cond, not, ltb, List, length, get_or, take, drop, sum, sym, refl, ap, ◌∙◌, inl, inr, arith, length-drop, get_or-drop}
use Rattle.std.proofs.Math.Seq.{take-suc}
use Rattle.std.proofs.lemmas.Bool.{cases_Bool, lt-ltb, le-ltb}
use Rattle.std.proofs.lemmas.Grind.{common_steps}
use Rattle.arbiter.specs.Counts.{sum_below, others_sum, limit, AreCounts}
use Rattle.arbiter.specs.Meaning.{Model}
use Rattle.arbiter.specs.Laws.{Steps}
use Rattle.arbiter.proofs.Acceptance.{within_at}
use Rattle.arbiter.proofs.Sums.{sum_below_zero}
use Rattle.layers.specs.declared.pair.Pair.{Pair}
use Rattle.layers.specs.Pairs.{pair_width}
use Rattle.layers.specs.Bounds.{same_side, other_side}
use Rattle.layers.specs.Limits.{sum_limit}
use Rattle.layers.specs.PairFacts.{first_le, pair_limits}
use Rattle.layers.specs.SideSums.{sum_below_split, first_only}

sum_of : (n : ℕ) (xs : List ℕ) → n ≤ length xs → sum_below n (λ o. get_or xs o 0) ≡ sum (take n xs)
sum_of zero xs h = refl
sum_of (suc n) xs h = grind (arith, common_steps, sum_of n xs (omega arith), take-suc xs n 0)

sum_below_same : (n : ℕ) (f g : ℕ → ℕ) → ((o : ℕ) → o < n → f o ≡ g o) → sum_below n f ≡ sum_below n g
sum_below_same zero f g h = refl
sum_below_same (suc n) f g h = omega (arith, h n (omega arith), sum_below_same n f g (λ o i. h o (omega arith)))

second_total : (n k : ℕ) (xs : List ℕ) → n + k ≤ length xs → others_sum (λ o. ltb o n) (n + k) xs ≡ sum (take k (drop n xs))
second_total n k xs h = omega (
  arith,
  sum_below_split n k (λ o. cond (ltb o n) 0 (get_or xs o 0)),
  first_only n xs,
  sum_below_same k (λ q. cond (ltb (n + q) n) 0 (get_or xs (n + q) 0)) (λ q. get_or (drop n xs) q 0) (λ q i. rw (le-ltb (n + q) n (omega arith)) (sym (get_or-drop n xs q 0))),
  sum_of k (drop n xs) (omega (arith, length-drop n xs)),
)

first_total : (n k : ℕ) (xs : List ℕ) → n ≤ length xs → others_sum (λ o. not (ltb o n)) (n + k) xs ≡ sum (take n xs)
first_total n k xs h = omega (
  arith,
  sum_below_split n k (λ o. cond (not (ltb o n)) 0 (get_or xs o 0)),
  sum_below_zero k (λ q. cond (not (ltb (n + q) n)) 0 (get_or xs (n + q) 0)) (λ q i. rw (le-ltb (n + q) n (omega arith))),
  sum_below_same n (λ o. cond (not (ltb o n)) 0 (get_or xs o 0)) (λ o. get_or xs o 0) (λ o i. rw (lt-ltb o n i)),
  sum_of n xs h,
)

module _ {L R : Type 0} (l : Model L) (r : Model R) (ll : Steps l) (a : Pair L R) (s : ℕ) (xs : List ℕ) (counts : AreCounts xs) where
  pub other_of_first : s < l.width a.first → other_side l r a s xs ≡ sum (take (pair_width l r a - l.width a.first) (drop (l.width a.first) xs))
  other_of_first i =
      let n : ℕ = l.width a.first in
      let w : ℕ = pair_width l r a in
      let all : n + (w - n) ≡ w = omega (arith, first_le l r a) in
      ap (λ b. others_sum (λ o. cond b (ltb o n) (not (ltb o n))) w xs) (lt-ltb s n i) ∙ ap (λ k. others_sum (λ o. ltb o n) k xs) (sym all) ∙ second_total n (w - n) xs (omega (arith, (pair_limits l r ll a).1, counts.full))

  pub other_of_second : l.width a.first ≤ s → other_side l r a s xs ≡ sum (take (l.width a.first) xs)
  other_of_second i =
      let n : ℕ = l.width a.first in
      let w : ℕ = pair_width l r a in
      let all : n + (w - n) ≡ w = omega (arith, first_le l r a) in
      ap (λ b. others_sum (λ o. cond b (ltb o n) (not (ltb o n))) w xs) (le-ltb s n i) ∙ ap (λ k. others_sum (λ o. not (ltb o n)) k xs) (sym all) ∙ first_total n (w - n) xs (omega (arith, (ll.width_limits a.first).1, counts.full))

  pub other_few : other_side l r a s xs ≤ 32 * limit
  other_few = omega (arith, (pair_limits l r ll a).1, sum_limit (pair_width l r a) (λ o. cond (same_side (l.width a.first) s o) 0 (get_or xs o 0)) each)
    where
      each : (o : ℕ) → cond (same_side (l.width a.first) s o) 0 (get_or xs o 0) ≤ limit
      each o = elim (cases_Bool (same_side (l.width a.first) s o)) [ inl e ↦ rw e (omega arith) | inr e ↦ rw e (within_at xs o counts.within) ]
