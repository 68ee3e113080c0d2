-- A sheet has one listing.
-- Assumes nothing.
use Rattle.std.proofs.Common.{◌≡◌, ℕ, List, [], length, Some, None, Ok, Option, Result, sym, ap, ◌∙◌, subst, inl, inr}
use Rattle.std.proofs.lemmas.Bool.{cases_lt}
use Rattle.plan.specs.Rows.{Plan}
use Rattle.plan.specs.Rules.{Kept, places_of}
use Rattle.plan.specs.declared.rows.Refusal.{Refusal}
use Rattle.sheet.specs.Reading.{whole_reading}
use Rattle.sheet.specs.declared.lines.Make.{Make}
use Rattle.sheet.specs.declared.lines.Make.TheVariants as make
use Rattle.loader.specs.Faults.{number_of}
use Rattle.loader.specs.Rows.{make_in, names_in}
use Rattle.arbiter.specs.Meaning.{Keeps, Model}
use Rattle.rings.specs.Rings.{NewRing, ring}
use Rattle.bostan.specs.Piles.{bostan}
use Rattle.analysis.specs.Plans.{PlansAreDated}
use Rattle.listing.specs.Listing.{fault}
use Rattle.answering.specs.Listings.{FreshPile, ListsByMake, ListsLines, ListsMade, OneListing, faulty, planned}
use Rattle.answering.proofs.KeptPlans.{sheet_kept}
use Rattle.answering.proofs.OneAnswer.{plans_same}
use Rattle.answering.proofs.OneFault.{faults_same, not_both}
use Rattle.answering.proofs.OneSystem.{all_keep, piles_keep, rings_keep}

made_same : {S : Type 0} (m : Model S) (theory : PlansAreDated m) (New : S → Type 0) → ((a b : S) → New a → New b → Keeps m a b) → (p : Plan) → Kept p → (names : List (List ℕ)) (t u : List ℕ) → ListsMade m New p names t → ListsMade m New p names u → t ≡ u
made_same m theory New keep p kept names t u x y =
    plans_same m theory p kept names x.arbiters y.arbiters (all_keep m New keep x.arbiters y.arbiters (x.new.count ∙ sym y.new.count) x.new.new y.new.new) t u x.listed y.listed

module _ (rings : PlansAreDated ring) (piles : PlansAreDated bostan) where
  by_make_same : (o : Option Make) (p : Plan) → Kept p → (names : List (List ℕ)) (t u : List ℕ) → ListsByMake o p names t → ListsByMake o p names u → t ≡ u
  by_make_same None p kept names t u x y = x.1 ∙ sym y.1
  by_make_same (Some make.Ring) p kept names t u x y = made_same ring rings (NewRing (places_of p.head)) (rings_keep (places_of p.head)) p kept names t u x y
  by_make_same (Some make.Bostan) p kept names t u x y = made_same bostan piles FreshPile piles_keep p kept names t u x y

  lines_same : (sheet t u : List ℕ) → ListsLines sheet t → ListsLines sheet u → t ≡ u
  lines_same sheet t u (faulty f p s n e) (faulty g q r k d) =
      e ∙ ap (λ h. fault (number_of h.cause) h.line h.column) (faults_same (record { head = None; rows = [] }) (whole_reading sheet) f g p q s r n k) ∙ sym d
  lines_same sheet t u (faulty f p s n e) (planned q r y) = absurd (not_both (record { head = None; rows = [] }) (whole_reading sheet) f p q s n r.read r.taken)
  lines_same sheet t u (planned p s x) (faulty g q r k d) = absurd (not_both (record { head = None; rows = [] }) (whole_reading sheet) g q p r k s.read s.taken)
  lines_same sheet t u (planned p s x) (planned q r y) =
      let plans : ◌≡◌ {A = Result Plan Refusal} (Ok q) (Ok p) = sym r.taken ∙ s.taken in
      let same : q ≡ p = cc in
      by_make_same (make_in (whole_reading sheet).rows) p (sheet_kept (whole_reading sheet).rows p s.taken) (names_in (whole_reading sheet).rows) t u x (subst (λ plan. ListsByMake (make_in (whole_reading sheet).rows) plan (names_in (whole_reading sheet).rows) u) same y)

  pub one_listing : OneListing
  one_listing sheet t u x y =
      elim (cases_lt 65536 (length sheet)) [
        | inl long ↦ x.too_long long ∙ sym (y.too_long long)
        | inr short ↦ lines_same sheet t u (x.short short) (y.short short)
      ]
