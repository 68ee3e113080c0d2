-- The verdict is yes exactly for sound dates.
-- Assumes nothing.
use Rattle.std.proofs.Common.{◌≡◌, ℕ, zero, suc, ◌+◌, ◌<◌, ◌≤◌, Bool, true, false, ◌&&◌, eqb, ltb, leb, List, [], ◌∷◌, length, take, Ok, Err, Result, sym, refl, ap, ◌∙◌, inl, inr, add-one, arith}
use Rattle.std.proofs.lemmas.List.{get_or-take, length-take-le}
use Rattle.std.proofs.lemmas.Bool.{and_from, and_parts, cases_eq, eq-eqb, eqb-true, le-leb, leb-true, lt-ltb, ltb-true}
use Rattle.std.specs.Result.{result_and}
use Rattle.std.specs.List.{AllByRecursion}
use Rattle.plan.specs.Rows.{Plan, row}
use Rattle.plan.specs.Rules.{Kept, banks_of, places_of, period_of}
use Rattle.arbiter.specs.Meaning.{Model}
use Rattle.date_check.specs.declared.dates.Dates.{Dates}
use Rattle.date_check.specs.declared.refusal.Refusal.{Refusal}
use Rattle.date_check.specs.declared.refusal.Refusal.TheVariants.{NoTask, Arbiters, Table, Range, Early, Short, Late}
use Rattle.date_check.specs.Sound.{Fits, Sound, dated, finish, worst}
use Rattle.date_check.specs.Verdict.{Exact, all_finished, all_in_range, all_wide, arbiters_fit, asked, in_range, on_time, questions, row_verdict, rows_verdict, verdict}
use Rattle.date_check.proofs.Every.{below_passes}
use Rattle.date_check.proofs.Finishing.{all_finished_decides}
use Rattle.date_check.proofs.Reading.{short_period}

-- A question that was passed had a yes, and its rest passed.
passed : (answer : Bool) (refusal : Refusal) (rest : Result (Unit {0}) Refusal) → asked answer refusal rest ≡ Ok tt → (answer ≡ true) × (rest ≡ Ok tt)
passed true refusal rest e = (refl, e)
passed false refusal rest e = let z : ◌≡◌ {A = ℕ} 0 1 = cc in absurd (omega arith)

pass : (answer : Bool) (refusal : Refusal) (rest : Result (Unit {0}) Refusal) → answer ≡ true → rest ≡ Ok tt → asked answer refusal rest ≡ Ok tt
pass true refusal rest a e = e
pass false refusal rest a e = let z : ◌≡◌ {A = ℕ} 0 1 = cc in absurd (omega arith)

both_passed : (first then : Result (Unit {0}) Refusal) → result_and first then ≡ Ok tt → (first ≡ Ok tt) × (then ≡ Ok tt)
both_passed (Ok x) then e = (refl, e)
both_passed (Err f) then e = let z : ◌≡◌ {A = ℕ} 0 1 = cc in absurd (omega arith)

pub wide_all : {S : Type 0} (m : Model S) (places : ℕ) (arbiters : List S) → all_wide m places arbiters ≡ true → AllByRecursion (λ a. places ≤ m.width a) arbiters
wide_all m places [] h = tt
wide_all m places (a ∷ rest) h = let parts = and_parts (leb places (m.width a)) (all_wide m places rest) h in (leb-true places (m.width a) parts.0, wide_all m places rest parts.1)

all_wide_yes : {S : Type 0} (m : Model S) (places : ℕ) (arbiters : List S) → AllByRecursion (λ a. places ≤ m.width a) arbiters → all_wide m places arbiters ≡ true
all_wide_yes m places [] h = refl
all_wide_yes m places (a ∷ rest) h = and_from (leb places (m.width a)) (all_wide m places rest) (le-leb places (m.width a) h.0) (all_wide_yes m places rest h.1)

pub fit_facts : {S : Type 0} (m : Model S) (p : Plan) (arbiters : List S) → arbiters_fit m p arbiters ≡ true → (length arbiters ≡ banks_of p.head) × AllByRecursion (λ a. places_of p.head ≤ m.width a) arbiters
fit_facts m p arbiters h =
    let parts = and_parts (eqb (length arbiters) (banks_of p.head)) (all_wide m (places_of p.head) arbiters) h in
    (eqb-true (length arbiters) (banks_of p.head) parts.0, wide_all m (places_of p.head) arbiters parts.1)

all_in_range_yes : (table : List Dates) (n : ℕ) → ((i : ℕ) → i < n → in_range (dated table i) ≡ true) → all_in_range table n ≡ true
all_in_range_yes table n h = below_passes (all_in_range table) (λ i. in_range (dated table i)) refl (λ i. refl) n h

-- The first n rows are in range, if they are as a table of their own.
pub range_taken : (table : List Dates) (n : ℕ) → n ≤ length table → all_in_range (take n table) (length (take n table)) ≡ all_in_range table n
range_taken table n enough = ap (all_in_range (take n table)) (length-take-le n table enough) ∙ below n (omega arith)
  where
    below : (i : ℕ) → i ≤ n → all_in_range (take n table) i ≡ all_in_range table i
    below zero l = refl
    below (suc i) l =
        ap (λ d. in_range d && all_in_range (take n table) i) (get_or-take n table i _ (omega arith))
        ∙ ap (λ b. in_range (dated table i) && b) (below i (omega arith))

module _ {S : Type 0} (m : Model S) (p : Plan) (arbiters : List S) (table : List Dates) where
  -- One row more, and the first row that is refused.
  pub rows_more : (i : ℕ) → rows_verdict m p arbiters table i ≡ Ok tt → Ok tt ≡ row_verdict m p arbiters table i → rows_verdict m p arbiters table (i + 1) ≡ Ok tt
  rows_more i h e = ap (rows_verdict m p arbiters table) (add-one i) ∙ ap (λ r. result_and r (row_verdict m p arbiters table i)) h ∙ sym e

  pub rows_refused : (n i : ℕ) (f : Refusal) → i < n → rows_verdict m p arbiters table i ≡ Ok tt → Err f ≡ row_verdict m p arbiters table i → Err f ≡ rows_verdict m p arbiters table n
  rows_refused zero i f l h e = absurd (omega arith)
  rows_refused (suc n) i f l h e =
      elim (cases_eq i n) [
        | inl same ↦ e ∙ ap (λ r. result_and r (row_verdict m p arbiters table i)) (sym h) ∙ ap (λ k. result_and (rows_verdict m p arbiters table k) (row_verdict m p arbiters table k)) same
        | inr apart ↦ ap (λ r. result_and r (row_verdict m p arbiters table n)) (rows_refused n i f (omega arith) h e)
      ]

  -- The questions come first.
  pub questions_refused : (f : Refusal) → Err f ≡ questions m p arbiters table → Err f ≡ verdict m p arbiters table
  questions_refused f e = ap (λ r. result_and r (rows_verdict m p arbiters table (length p.rows))) e

  pub questions_let_pass : (r : Result (Unit {0}) Refusal) → Ok tt ≡ questions m p arbiters table → r ≡ rows_verdict m p arbiters table (length p.rows) → r ≡ verdict m p arbiters table
  questions_let_pass r e h = h ∙ ap (λ q. result_and q (rows_verdict m p arbiters table (length p.rows))) e

  rows_passed : (n : ℕ) → rows_verdict m p arbiters table n ≡ Ok tt → (i : ℕ) → i < n → row_verdict m p arbiters table i ≡ Ok tt
  rows_passed zero h i l = absurd (omega arith)
  rows_passed (suc n) h i l =
      let both = both_passed (rows_verdict m p arbiters table n) (row_verdict m p arbiters table n) h in
      elim (cases_eq i n) [
        | inl same ↦ ap (row_verdict m p arbiters table) same ∙ both.1
        | inr apart ↦ rows_passed n both.0 i (omega arith)
      ]

  rows_pass : (n : ℕ) → ((i : ℕ) → i < n → row_verdict m p arbiters table i ≡ Ok tt) → rows_verdict m p arbiters table n ≡ Ok tt
  rows_pass zero h = refl
  rows_pass (suc n) h = ap (λ r. result_and r (row_verdict m p arbiters table n)) (rows_pass n (λ i l. h i (omega arith))) ∙ h n (omega arith)

  module _ (kept : Kept p) where
    -- What a row that passed keeps.
    record RowPassed (i : ℕ) : Type 0 where
      pub on_time : on_time p.rows table i ≡ true
      pub covered : worst m p arbiters table i ≤ (dated table i).response
      pub in_period : finish (dated table i) ≤ period_of p.head

    row_passed : (i : ℕ) → row_verdict m p arbiters table i ≡ Ok tt → RowPassed i
    row_passed i h =
        let a = passed (on_time p.rows table i) (Early i) _ h in
        let b = passed (leb (worst m p arbiters table i) (dated table i).response) (Short i) _ a.1 in
        let c = passed (leb (finish (dated table i)) (period_of p.head)) (Late i) (Ok tt) b.1 in
        record { on_time = a.0; covered = leb-true (worst m p arbiters table i) (dated table i).response b.0; in_period = leb-true (finish (dated table i)) (period_of p.head) c.0 }

    row_pass : (i : ℕ) → RowPassed i → row_verdict m p arbiters table i ≡ Ok tt
    row_pass i h =
        pass (on_time p.rows table i) (Early i) _ h.on_time
        (pass (leb (worst m p arbiters table i) (dated table i).response) (Short i) _ (le-leb (worst m p arbiters table i) (dated table i).response h.covered)
        (pass (leb (finish (dated table i)) (period_of p.head)) (Late i) (Ok tt) (le-leb (finish (dated table i)) (period_of p.head) h.in_period) refl))

    -- Sound dates finish within the period, so they are in range.
    sound_in_range : Sound m p arbiters table → (i : ℕ) → i < length p.rows → in_range (dated table i) ≡ true
    sound_in_range sound i l =
        let low = short_period p.head kept.headed in
        let most = sound.in_period i l in
        and_from (leb (dated table i).release 1000000000) (leb (dated table i).response 1000000000)
        (le-leb (dated table i).release 1000000000 (omega arith))
        (le-leb (dated table i).response 1000000000 (omega arith))

    sound_row : Sound m p arbiters table → (i : ℕ) → i < length p.rows → RowPassed i
    sound_row sound i l = record {
      on_time = and_from (leb (row p.rows i).earliest (dated table i).release) (all_finished p.rows table i (length p.rows)) (le-leb (row p.rows i).earliest (dated table i).release (sound.not_early i l)) ((all_finished_decides p kept table i l).1 (λ k w. sound.in_order i k l w));
      covered = sound.covered i l;
      in_period = sound.in_period i l;
    }

    rows_sound : ((i : ℕ) → i < length p.rows → RowPassed i) → Sound m p arbiters table
    rows_sound h =
        let parts : (i : ℕ) → i < length p.rows → (leb (row p.rows i).earliest (dated table i).release ≡ true) × (all_finished p.rows table i (length p.rows) ≡ true) =
        λ i l. and_parts (leb (row p.rows i).earliest (dated table i).release) (all_finished p.rows table i (length p.rows)) (h i l).on_time in
        record {
          not_early = λ i l. leb-true (row p.rows i).earliest (dated table i).release (parts i l).0;
          in_order = λ i k l w. (all_finished_decides p kept table i l).0 (parts i l).1 k w;
          covered = λ i l. (h i l).covered;
          in_period = λ i l. (h i l).in_period;
        }

    questions_passed : questions m p arbiters table ≡ Ok tt → Fits m p arbiters table
    questions_passed h =
        let a = passed (ltb 0 (length p.rows)) NoTask _ h in
        let b = passed (arbiters_fit m p arbiters) Arbiters _ a.1 in
        let c = passed (leb (length p.rows) (length table)) Table _ b.1 in
        let facts = fit_facts m p arbiters b.0 in
        record {
          some = ltb-true 0 (length p.rows) a.0;
          one_per_bank = facts.0;
          wide = facts.1;
          row_per_task = leb-true (length p.rows) (length table) c.0;
        }

    questions_pass : Fits m p arbiters table → Sound m p arbiters table → questions m p arbiters table ≡ Ok tt
    questions_pass fits sound =
        pass (ltb 0 (length p.rows)) NoTask _ (lt-ltb 0 (length p.rows) fits.some)
        (pass (arbiters_fit m p arbiters) Arbiters _ (and_from (eqb (length arbiters) (banks_of p.head)) (all_wide m (places_of p.head) arbiters) (eq-eqb (length arbiters) (banks_of p.head) fits.one_per_bank) (all_wide_yes m (places_of p.head) arbiters fits.wide))
        (pass (leb (length p.rows) (length table)) Table _ (le-leb (length p.rows) (length table) fits.row_per_task)
        (pass (all_in_range table (length p.rows)) Range (Ok tt) (all_in_range_yes table (length p.rows) (sound_in_range sound)) refl)))

    pub verdict_exact : (r : Result (Unit {0}) Refusal) → r ≡ verdict m p arbiters table → Exact m p arbiters table r
    verdict_exact r e = record { only_sound = only; all_sound = λ fits sound. e ∙ ap (λ x. result_and x (rows_verdict m p arbiters table (length p.rows))) (questions_pass fits sound) ∙ rows_pass (length p.rows) (λ i l. row_pass i (sound_row sound i l)) }
      where
        only : r ≡ Ok tt → Fits m p arbiters table × Sound m p arbiters table
        only ok =
            let both = both_passed (questions m p arbiters table) (rows_verdict m p arbiters table (length p.rows)) (sym e ∙ ok) in
            (questions_passed both.0, rows_sound (λ i l. row_passed i (rows_passed (length p.rows) both.1 i l)))
