-- Rows counted by a test, and the row with the next date.
use Rattle.std.proofs.Common.{◌≡◌, ℕ, zero, suc, ◌+◌, ◌<◌, ◌≤◌, Bool, true, false, cond, ◌&&◌, ltb, leb, sym, refl, ap, ◌∙◌, inl, inr, arith}
use Rattle.std.proofs.lemmas.Bool.{cases_eq, cases_lt, both_ways, and_parts, and_from, ltb-true, lt-ltb, leb-true, le-leb}
use Rattle.consistency.proofs.Induction.{by_number}
use Rattle.consistency.proofs.Smallest.{smallest_below}

abbrev one : Bool → ℕ
one b = cond b 1 0

one_le : (b c : Bool) → (b ≡ true → c ≡ true) → one b ≤ one c
one_le true c h = rw (h refl) (omega arith)
one_le false c h = omega arith

-- How many rows before row m pass the test.
abbrev pub count : (ℕ → Bool) → ℕ → ℕ
count p zero = 0
count p (suc m) = count p m + one (p m)

pub count_all : (m : ℕ) → count (λ k. true) m ≡ m
count_all zero = refl
count_all (suc m) = omega (arith, count_all m)

count_le : (p q : ℕ → Bool) (m : ℕ) → ((k : ℕ) → k < m → p k ≡ true → q k ≡ true) → count p m ≤ count q m
count_le p q zero more = omega arith
count_le p q (suc m) more = omega (arith, count_le p q m (λ k j. more k (omega arith)), one_le (p m) (q m) (more m (omega arith)))

-- A test that passes whatever another passes, and one row more.
pub count_more : (p q : ℕ → Bool) (m : ℕ) → ((k : ℕ) → k < m → p k ≡ true → q k ≡ true) → (i : ℕ) → i < m → p i ≡ false → q i ≡ true → count p m < count q m
count_more p q zero more i h fails passes = omega arith
count_more p q (suc m) more i h fails passes =
    elim (cases_eq i m) [
      | inl e ↦
          let without : one (p m) ≡ 0 = ap (λ k. one (p k)) (sym e) ∙ ap one fails in
          let with_it : one (q m) ≡ 1 = ap (λ k. one (q k)) (sym e) ∙ ap one passes in
          omega (arith, count_le p q m (λ k j. more k (omega arith)))
      | inr d ↦ omega (arith, count_more p q m (λ k j. more k (omega arith)) i (omega arith) fails passes, one_le (p m) (q m) (more m (omega arith)))
    ]

-- The row below n with the first date from s on.
pub record Next (date : ℕ → ℕ) (n s : ℕ) : Type 0 where
  pub row : ℕ
  pub known : row < n
  pub from : s ≤ date row
  pub first : (k : ℕ) → k < n → s ≤ date k → date row ≤ date k

-- It exists where some row has a date from s on: look for a sooner one until there is none.
pub next_row : (date : ℕ → ℕ) (n s i : ℕ) → i < n → s ≤ date i → Next date n s
next_row date n s = by_number date (λ i. i < n → s ≤ date i → Next date n s) step
  where
    sooner : ℕ → ℕ → Bool
    sooner i k = leb s (date k) && ltb (date k) (date i)

    step : (i : ℕ) → ((k : ℕ) → date k < date i → k < n → s ≤ date k → Next date n s) → i < n → s ≤ date i → Next date n s
    step i next h from =
        elim (smallest_below (sooner i) n) [
          | inr (k, hk, found) ↦
              let (after, before) = and_parts (leb s (date k)) (ltb (date k) (date i)) found.holds in
              next k (ltb-true (date k) (date i) before) hk (leb-true s (date k) after)
          | inl none ↦ record {
            row = i;
            known = h;
            from = from;
            first = λ k hk after. elim (cases_lt (date k) (date i)) [
              | inr not_before ↦ not_before
              | inl before ↦ absurd (both_ways (sooner i k) (none k hk) (and_from (leb s (date k)) (ltb (date k) (date i)) (le-leb s (date k) after) (lt-ltb (date k) (date i) before)))
            ];
          }
        ]
