-- A loaded sheet: what its plan holds, and its listing.
-- Assumes nothing.
use Rattle.std.proofs.Common.{◌≡◌, ℕ, ◌≤◌, List, [], map, length, None, Ok, Err, vec_items, sym, ap, ◌∙◌, subst, arith, Bor}
use Rattle.std.proofs.lemmas.List.{length-map}
use Rattle.plan.specs.Rows.{Plan}
use Rattle.plan.specs.Rules.{Kept}
use Rattle.date_check.proofs.Reading.{no_head}
use Rattle.sheet.specs.Reading.{whole_reading}
use Rattle.loader.specs.declared.faults.LoadFault.{LoadFault}
use Rattle.loader.specs.declared.noting.Loaded.{Loaded}
use Rattle.loader.specs.Faults.{number_of}
use Rattle.loader.specs.Loading.{Loads, Stopped}
use Rattle.loader.specs.Rows.{all_taken, make_in, names_in}
use Rattle.listing.specs.Listing.{fault}
use Rattle.answering.specs.Listings.{Answers, ListsByMake, faulty, planned}
use Rattle.answering.proofs.Counting.{all_headless, all_named}

abbrev empty : Plan
empty = record { head = None; rows = [] }

module _ (sheet : List ℕ) {old new : Plan} (start : old ≡ empty) where
  module _ (l : Loaded) {p : Plan} {names : List (Bor (List ℕ))} (close : p ≡ new) (same : names ≡ vec_items l.names) (loads : Loads old (whole_reading sheet) (Ok l) new) where
    rows_taken : all_taken empty (whole_reading sheet).rows ≡ Ok p
    rows_taken = ap (λ q. all_taken q (whole_reading sheet).rows) (sym start) ∙ loads.1 ∙ ap Ok (sym close)

    all_names : map (λ n. n.now) names ≡ names_in (whole_reading sheet).rows
    all_names = ap (map (λ n. n.now)) same ∙ loads.2.names

    pub name_per_row : length names ≡ length p.rows
    name_per_row = omega (arith, length-map names (λ n. n.now), ap length all_names, all_named (whole_reading sheet).rows empty p rows_taken)

    pub no_make : Kept p → l.make ≡ None → length p.rows ≡ 0
    no_make kept none =
        let bare : 1 ≤ length p.rows → ⊥ = no_head p kept (all_headless (whole_reading sheet).rows empty p rows_taken (sym loads.2.make ∙ none)) in
        omega arith

    pub listed : (text : List ℕ) → length sheet ≤ 65536 → ListsByMake l.make p (map (λ n. n.now) names) text → Answers sheet text
    listed text short by = record {
      too_long = λ long. absurd (omega arith);
      short = λ _. planned p (record { read = loads.0; taken = rows_taken })
          (subst (λ ns. ListsByMake (make_in (whole_reading sheet).rows) p ns text) all_names
          (subst (λ m. ListsByMake m p (map (λ n. n.now) names) text) loads.2.make by));
    }

  pub fault_listed : (f : LoadFault) (text : List ℕ) → length sheet ≤ 65536 → Loads old (whole_reading sheet) (Err f) new → 1 ≤ number_of f.cause → text ≡ fault (number_of f.cause) f.line f.column → Answers sheet text
  fault_listed f text short stopped some same = record {
    too_long = λ long. absurd (omega arith);
    short = λ _. faulty f new (subst (λ q. Stopped q (whole_reading sheet) f new) start stopped) some same;
  }
