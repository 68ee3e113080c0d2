-- New arbiters of one make are alike: dates do not depend on which of them there are.
-- Assumes nothing.
use Rattle.std.proofs.Common.{◌≡◌, ℕ, ◌+◌, ◌*◌, ◌≤◌, Bool, true, not, ◌&&◌, eqb, leb, List, [], ◌∷◌, length, sym, refl, ap, ◌∙◌, arith, eq-eqb}
use mathlib.Core.Path.{fun_ext}
use Rattle.std.proofs.lemmas.Bool.Decides.{nat_tests}
use Rattle.std.specs.List.{AllByRecursion}
use Rattle.plan.specs.Rows.{Plan, Row, accesses, row}
use Rattle.plan.specs.Rules.{banks_of, places_of, latency_of}
use Rattle.plan.specs.Waits.{waits_for}
use Rattle.arbiter.specs.Fair.{fair_bound}
use Rattle.arbiter.specs.Meaning.{Keeps, Model}
use Rattle.rings.specs.Rings.{NewRing, ring}
use Rattle.rings.specs.declared.ring.Ring.{Ring}
use Rattle.bostan.specs.Piles.{Pile, bostan}
use Rattle.answering.specs.Listings.{FreshPile}
use Rattle.date_check.specs.declared.dates.Dates.{Dates}
use Rattle.date_check.specs.Keeping.{AllKeep}
use Rattle.date_check.specs.Sound.{Fits, loads, services}
use Rattle.date_check.specs.Verdict.{all_wide, arbiters_fit}
use Rattle.analysis.specs.Plans.{system}

pub rings_keep : (n : ℕ) (a b : Ring) → NewRing n a → NewRing n b → Keeps ring a b
rings_keep n a b x y = record { width = y.width ∙ sym x.width; bound = λ s own xs. ap (λ w. fair_bound w s own xs) (y.width ∙ sym x.width) }

pub piles_keep : (a b : Pile) → FreshPile a → FreshPile b → Keeps bostan a b
piles_keep a b x y = record {
  width = y.0.width ∙ sym x.0.width;
  bound = λ s own xs. rw (x.0.new_cores.width, x.0.new_units.width, x.0.new_receive.width, y.0.new_cores.width, y.0.new_units.width, y.0.new_receive.width);
}

module _ {S : Type 0} (m : Model S) where
  pub all_keep : (New : S → Type 0) → ((a b : S) → New a → New b → Keeps m a b) → (xs ys : List S) → length xs ≡ length ys → AllByRecursion New xs → AllByRecursion New ys → AllKeep m xs ys
  all_keep New keep [] [] l h k = tt
  all_keep New keep [] (y ∷ ys) l h k = absurd (omega arith)
  all_keep New keep (x ∷ xs) [] l h k = absurd (omega arith)
  all_keep New keep (x ∷ xs) (y ∷ ys) l h k = (keep x y h.0 k.0, all_keep New keep xs ys (omega arith) h.1 k.1)

  services_keep : (rows : List Row) (met : ℕ → Bool) (i bank : ℕ) (xs ys : List S) → AllKeep m xs ys → services m rows met i bank xs ≡ services m rows met i bank ys
  services_keep rows met i bank [] [] h = refl
  services_keep rows met i bank [] (y ∷ ys) h = absurd h
  services_keep rows met i bank (x ∷ xs) [] h = absurd h
  services_keep rows met i bank (x ∷ xs) (y ∷ ys) h =
      omega (arith, h.0.bound (row rows i).place (accesses (row rows i) bank) (loads rows met bank), services_keep rows met i (bank + 1) xs ys h.1)

  pub system_same : (p : Plan) (xs ys : List S) → AllKeep m xs ys → system m p xs ≡ system m p ys
  system_same p xs ys h =
      ap (λ s. record {
        tasks = length p.rows;
        earliest = λ i. (row p.rows i).earliest;
        waits = λ i k. waits_for p.rows i k;
        apart = λ i k. not (eqb (row p.rows i).place (row p.rows k).place);
        work = λ i met. (row p.rows i).cycles + latency_of p.head * s i met;
        start = λ t. t;
      })
      (fun_ext (λ i. fun_ext (λ met. services_keep p.rows met i 0 xs ys h)))

  wide_keep : (n : ℕ) (xs ys : List S) → AllKeep m xs ys → all_wide m n xs ≡ all_wide m n ys
  wide_keep n [] [] h = refl
  wide_keep n [] (y ∷ ys) h = absurd h
  wide_keep n (x ∷ xs) [] h = absurd h
  wide_keep n (x ∷ xs) (y ∷ ys) h = ap (λ w. leb n w && all_wide m n xs) (sym h.0.width) ∙ ap (λ r. leb n (m.width y) && r) (wide_keep n xs ys h.1)

  length_keep : (xs ys : List S) → AllKeep m xs ys → length xs ≡ length ys
  length_keep [] [] h = refl
  length_keep [] (y ∷ ys) h = absurd h
  length_keep (x ∷ xs) [] h = absurd h
  length_keep (x ∷ xs) (y ∷ ys) h = omega (arith, length_keep xs ys h.1)

  pub fit_keep : (p : Plan) (xs ys : List S) → AllKeep m xs ys → arbiters_fit m p xs ≡ arbiters_fit m p ys
  fit_keep p xs ys h = ap (λ n. eqb n (banks_of p.head) && all_wide m (places_of p.head) xs) (length_keep xs ys h) ∙ ap (λ b. eqb (length ys) (banks_of p.head) && b) (wide_keep (places_of p.head) xs ys h)

  all_are_wide : (n : ℕ) (xs : List S) → AllByRecursion (λ a. n ≤ m.width a) xs → all_wide m n xs ≡ true
  all_are_wide n [] h = refl
  all_are_wide n (x ∷ xs) h = let first = h.0 in let rest = all_are_wide n xs h.1 in grind (arith, nat_tests)

  pub they_fit : (p : Plan) (xs : List S) (table : List Dates) → Fits m p xs table → arbiters_fit m p xs ≡ true
  they_fit p xs table f = ap (λ b. b && all_wide m (places_of p.head) xs) (eq-eqb (length xs) (banks_of p.head) f.one_per_bank) ∙ all_are_wide (places_of p.head) xs f.wide
