-- A field is well formed exactly if it is the one way to write its number or name. Assumes nothing.
use Rattle.std.proofs.Common.{◌≡◌, ℕ, zero, suc, ◌-◌, ◌^◌, ◌<◌, ◌≤◌, Bool, true, false, cond, not, ◌&&◌, ◌||◌, eqb, ltb, leb, List, [], ◌∷◌, ◌++◌, length, get_or, replicate, Some, None, decimal, sym, refl, ap, ◌∙◌, inl, inr, arith, length-append}
use native.Mathlib.Nat.{sub_self}
use lib.ListN.{length-replicate}
use Rattle.std.proofs.ByRecursion.{All-append}
use Rattle.std.proofs.lemmas.Fmt.{decimal_digit, decimal_nonempty, decimal-digits_value, digits_decimal, first_decimal, length-decimal-le, digits_value-decimal}
use Rattle.std.proofs.lemmas.Option.{cond_some}
use Rattle.std.proofs.lemmas.Str.Parse.{IsNumeralModel, numerals_by_value, tells_all_ascii_digits, digits_value_short}
use Rattle.std.proofs.lemmas.Bool.{and_parts, both_ways, cases_eq, cond-true, cond-false, eq-eqb, leb-true, ltb-true, ne_eqb}
use Rattle.std.proofs.lemmas.Bool.Decides.{nat_tests}
use Rattle.std.specs.Str.Parse.{digits_value}
use Rattle.std.specs.Int.{is_in_range}
use Rattle.std.specs.List.{AllByRecursion, list_all}
use Rattle.std.specs.Str.{all_ascii_digits}
use Rattle.sheet.specs.Columns.{justified, column}
use Rattle.sheet.specs.Fields.{unpadded, numeral, number, visible, named, name}

-- spaces, and then a text that does not begin with one

unpadded_spaces : (k : ℕ) (text : List ℕ) → unpadded (replicate k 32 ++ text) ≡ unpadded text
unpadded_spaces zero text = refl
unpadded_spaces (suc k) text = unpadded_spaces k text

unpadded_text : (text : List ℕ) → (get_or text 0 0 ≡ 32 → ⊥) → unpadded text ≡ text
unpadded_text [] h = refl
unpadded_text (b ∷ bs) h = grind (arith, nat_tests)

unpadded_justified : (w : ℕ) (text : List ℕ) → (get_or text 0 0 ≡ 32 → ⊥) → unpadded (justified w text) ≡ text
unpadded_justified w text h = unpadded_spaces (w - length text) text ∙ unpadded_text text h

length_unpadded : (field : List ℕ) → length (unpadded field) ≤ length field
length_unpadded [] = omega arith
length_unpadded (b ∷ bs) = let h = length_unpadded bs in grind (arith, nat_tests)

spaces : ℕ → List ℕ
spaces k = replicate k 32

spaces_more : (w n : ℕ) → n ≤ w → ◌≡◌ {A = List ℕ} (replicate (suc w - n) 32) (32 ∷ replicate (w - n) 32)
unfolding spaces
spaces_more w n h = ap spaces (let e : suc w - n ≡ suc (w - n) = omega arith in e)

justified_whole : (text : List ℕ) → justified (length text) text ≡ text
unfolding spaces
justified_whole text = ap (λ k. spaces k ++ text) (sub_self (length text))

-- a field is its text, right-justified
justified_unpadded : (field : List ℕ) → justified (length field) (unpadded field) ≡ field
justified_unpadded [] = refl
justified_unpadded (b ∷ bs) = elim (cases_eq b 32) [
  | inl e ↦
      ap (justified (suc (length bs))) (cond-true (eqb b 32) (unpadded bs) (b ∷ bs) (eq-eqb b 32 e))
      ∙ (ap (λ s. s ++ unpadded bs) (spaces_more (length bs) (length (unpadded bs)) (length_unpadded bs)) ∙ (ap (λ r. 32 ∷ r) (justified_unpadded bs) ∙ ap (λ c. c ∷ bs) (sym e)))
  | inr n ↦ ap (justified (suc (length bs))) (cond-false (eqb b 32) (unpadded bs) (b ∷ bs) (ne_eqb b 32 n)) ∙ justified_whole (b ∷ bs)
]

length_justified : (w : ℕ) (text : List ℕ) → length text ≤ w → length (justified w text) ≡ w
length_justified w text h = simp (length-append, length-replicate) (omega arith)

-- numbers

pub own : IsNumeralModel (λ ds. all_ascii_digits ds ≡ true) (digits_value 10)
own = numerals_by_value (λ ds. all_ascii_digits ds ≡ true) tells_all_ascii_digits

pub numeral_parts : (ds : List ℕ) → numeral ds ≡ true → (0 < length ds) × (all_ascii_digits ds ≡ true)
numeral_parts ds e =
    let s = and_parts (ltb 0 (length ds)) (all_ascii_digits ds && (not (eqb (get_or ds 0 0) 48) || eqb (length ds) 1)) e in
    let d = and_parts (all_ascii_digits ds) (not (eqb (get_or ds 0 0) 48) || eqb (length ds) 1) s.1 in
    (ltb-true 0 (length ds) s.0, d.0)

-- the first of some bytes that all pass a test
first_passes : (test : ℕ → Bool) (bs : List ℕ) → 0 < length bs → list_all test bs ≡ true → test (get_or bs 0 0) ≡ true
first_passes test [] h e = absurd (omega arith)
first_passes test (b ∷ bs) h e = (and_parts (test b) (list_all test bs) e).0

module _ (n : ℕ) (small : n < 10 ^ 10) where
  decimal_digits : all_ascii_digits (decimal n) ≡ true
  decimal_digits = digits_decimal own n (omega arith)

  decimal_numeral : numeral (decimal n) ≡ true
  decimal_numeral =
      let d = decimal_digits in
      let s = decimal_nonempty n (omega arith) in
      elim (cases_eq n 0) [
        | inl e ↦ let z : length (decimal n) ≡ 1 = ap length (decimal_digit n (omega arith)) in grind (arith, nat_tests)
        | inr p ↦ let f = first_decimal n (omega arith) (omega arith) in grind (arith, nat_tests)
      ]

  pub length_column : length (column 10 n) ≡ 10
  length_column = length_justified 10 (decimal n) (length-decimal-le 10 n (omega arith) small (omega arith))

  pub number_column : number (column 10 n) ≡ Some n
  number_column =
      let f = first_passes (is_in_range 48 57) (decimal n) (decimal_nonempty n (omega arith)) decimal_digits in
      let u : unpadded (column 10 n) ≡ decimal n = unpadded_justified 10 (decimal n) (λ e. grind (arith, nat_tests)) in
      ap (λ ds. cond (numeral ds) (Some (digits_value 10 ds)) None) u
      ∙ (cond-true (numeral (decimal n)) (Some (digits_value 10 (decimal n))) None decimal_numeral ∙ ap Some (digits_value-decimal own n (omega arith)))

pub column_number : (field : List ℕ) (n : ℕ) → length field ≡ 10 → number field ≡ Some n → (n < 10 ^ 10) × (field ≡ column 10 n)
column_number field n ten e =
    let u = unpadded field in
    let p = cond_some (numeral u) (digits_value 10 u) n e in
    let d = numeral_parts u p.0 in
    let short = length_unpadded field in
    let v : digits_value 10 u < 10 ^ 10 = digits_value_short own u 10 d.1 (omega arith) in
    let w : decimal (digits_value 10 u) ≡ u = decimal-digits_value own u d.1 (grind (arith, nat_tests)) (λ z. grind (arith, nat_tests)) (omega arith) in
    (omega (arith, p.1), sym (justified_unpadded field) ∙ (ap (λ k. justified k u) ten ∙ ap (justified 10) (sym w ∙ ap decimal p.1)))

-- names

named_parts : (bs : List ℕ) → named bs ≡ true → (0 < length bs) × (length bs ≤ 12) × (visible bs ≡ true)
named_parts bs e =
    let p = and_parts (ltb 0 (length bs) && leb (length bs) 12) (visible bs) e in
    let q = and_parts (ltb 0 (length bs)) (leb (length bs) 12) p.0 in
    (ltb-true 0 (length bs) q.0, leb-true (length bs) 12 q.1, p.1)

module _ (bs : List ℕ) (good : named bs ≡ true) where
  pub length_name : length (32 ∷ justified 12 bs) ≡ 13
  length_name = ap suc (length_justified 12 bs (named_parts bs good).1)

  pub name_justified : name (32 ∷ justified 12 bs) ≡ Some bs
  name_justified =
      let p = named_parts bs good in
      let f = first_passes (is_in_range 33 126) bs p.0 p.2 in
      let u : unpadded (justified 12 bs) ≡ bs = unpadded_justified 12 bs (λ e. grind (arith, nat_tests)) in
      ap (λ t. cond (named t) (Some t) None) u ∙ cond-true (named bs) (Some bs) None good

pub justified_name : (field bs : List ℕ) → length field ≡ 13 → name field ≡ Some bs → (named bs ≡ true) × (field ≡ 32 ∷ justified 12 bs)
justified_name field bs wide e =
    let u = unpadded field in
    let p = cond_some (named u) u bs e in
    let q = named_parts u p.0 in (
      ap named (sym p.1) ∙ p.0,
      sym (justified_unpadded field)
          ∙ (ap (λ k. justified k u) wide ∙ (ap (λ s. s ++ u) (spaces_more 12 (length u) q.1) ∙ ap (λ t. 32 ∷ justified 12 t) p.1)),
    )

-- no field has a line feed

abbrev pub Unbroken : List ℕ → Type 0
Unbroken = AllByRecursion (λ b. b ≡ 10 → ⊥)

unbroken_by : (test : ℕ → Bool) → test 10 ≡ false → (bs : List ℕ) → list_all test bs ≡ true → Unbroken bs
unbroken_by test none [] e = tt
unbroken_by test none (b ∷ bs) e =
    let p = and_parts (test b) (list_all test bs) e in
    (λ z. both_ways (test 10) none (ap test (sym z) ∙ p.0), unbroken_by test none bs p.1)

unbroken_spaces : (k : ℕ) → Unbroken (replicate k 32)
unbroken_spaces zero = tt
unbroken_spaces (suc k) = (λ z. omega arith, unbroken_spaces k)

unbroken_justified : (w : ℕ) (text : List ℕ) → Unbroken text → Unbroken (justified w text)
unbroken_justified w text h = All-append (λ b. b ≡ 10 → ⊥) (replicate (w - length text) 32) text (unbroken_spaces (w - length text)) h

pub unbroken_column : (n : ℕ) → n < 10 ^ 10 → Unbroken (column 10 n)
unbroken_column n small = unbroken_justified 10 (decimal n) (unbroken_by (is_in_range 48 57) refl (decimal n) (decimal_digits n small))

pub unbroken_name : (bs : List ℕ) → named bs ≡ true → Unbroken (32 ∷ justified 12 bs)
unbroken_name bs good =
    (λ z. omega arith, unbroken_justified 12 bs (unbroken_by (is_in_range 33 126) refl bs (named_parts bs good).2))
