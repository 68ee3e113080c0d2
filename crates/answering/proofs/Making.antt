-- What is known of the arbiters that were made.
-- Assumes nothing.
use Rattle.std.proofs.Common.{◌≡◌, ℕ, ◌≤◌, min, max, true, length, List, [], ◌∷◌, Some, None, Option, subst, arith}
use Rattle.std.specs.List.{AllByRecursion}
use Rattle.std.proofs.ByRecursion.{All-weaker}
use Rattle.std.proofs.lemmas.Bool.Decides.{nat_tests}
use Rattle.plan.specs.Rows.{Plan}
use Rattle.plan.specs.Rules.{Kept, banks_of, legal_heading, places_of}
use Rattle.plan.specs.declared.rows.Head.{Head}
use Rattle.date_check.proofs.Reading.{few_places}
use Rattle.arbiter.specs.Meaning.{Model}
use Rattle.rings.specs.Rings.{NewRing}
use Rattle.rings.specs.declared.ring.Ring.{Ring}
use Rattle.answering.specs.Listings.{ListsMade}

-- All of them are new in another sense too; nothing is to be shown where there is no bank.
pub remade : {S : Type 0} {m : Model S} {Old New : S → Type 0} {p : Plan} {names : List (List ℕ)} {text : List ℕ}
    → ((a : S) → 1 ≤ banks_of p.head → Old a → New a) → ListsMade m Old p names text → ListsMade m New p names text
remade {S} {m} {Old} {New} {p} f l =
    let weaker : AllByRecursion New l.arbiters = elim l.arbiters as (λ xs. length xs ≡ banks_of p.head → AllByRecursion Old xs → AllByRecursion New xs) [
      | [] ↦ λ e h. tt
      | x ∷ xs ↦ λ e h. All-weaker Old New (λ a. f a (omega arith)) (x ∷ xs) h
    ] l.new.count l.new.new in
    record { arbiters = l.arbiters; new = record { count = l.new.count; new = weaker }; listed = l.listed }

some_place : (o : Option Head) → legal_heading o ≡ true → 1 ≤ banks_of o → 1 ≤ places_of o
some_place None l some = omega arith
some_place (Some h) l some = grind (arith, nat_tests)

-- A plan with a bank has 1 to 32 places, which a ring takes as they are.
pub ring_over : (p : Plan) → Kept p → (places : ℕ) → places ≡ places_of p.head → 1 ≤ banks_of p.head → (a : Ring) → NewRing (min (max places 1) 32) a → NewRing (places_of p.head) a
ring_over p kept places same some a new =
    let width : min (max places 1) 32 ≡ places_of p.head = omega (arith, some_place p.head kept.headed some, few_places p.head kept.headed) in
    subst (λ n. NewRing n a) width new
