-- What set-up asked for, and what the check asks for.
use Rattle.std.proofs.Common.{◌≡◌, ℕ, zero, suc, ◌<◌, ◌≤◌, true, false, not, eqb, ltb, leb, List, [], ◌∷◌, length, get_or, Some, None, Option, refl, ap, ◌∙◌, inl, inr, arith}
use Rattle.std.proofs.lemmas.Bool.{and_from, and_parts, cases_Bool, cases_eq, eq-eqb, eqb-true, le-leb, le-ltb, leb-true, lt-ltb, ltb-false, ltb-true, not-true}
use Rattle.std.proofs.lemmas.Bool.Decides.{nat_tests}
use Rattle.std.specs.List.{AllByRecursion}
use Rattle.plan.specs.declared.rows.Head.{Head}
use Rattle.plan.specs.Rows.{Plan}
use Rattle.plan.specs.Rules.{Kept, banks_of, between, legal_heading, places_of, period_of}
use Rattle.arbiter.specs.Answers.{someone}
use Rattle.arbiter.specs.Laws.{Lawful}
use Rattle.arbiter.specs.Meaning.{Model}
use Rattle.arbiter.proofs.Someone.{nobody_at}
use Rattle.date_check.specs.declared.dates.Dates.{Dates}
use Rattle.date_check.specs.Sound.{Fits, Sound, dated, finish}
use Rattle.date_check.specs.Verdict.{all_wide, arbiters_fit}
use Rattle.date_check.proofs.Passing.{wide_all}
use Rattle.date_check.proofs.Reading.{short_period}
use Rattle.cluster.specs.declared.refusal.SetUpRefusal.TheVariants.{NoTask, Arbiters, Table, Waiting, Range}
use Rattle.cluster.specs.Calls.{all_in_range, all_quiet, is_late, late_refusal, runs_in_range, set_up_refusal}
use Rattle.cluster.specs.Cycles.{lowest}
use Rattle.safety.proofs.Lowest.{none_lowest, none_passes}
use Rattle.safety.proofs.Options.{pass, passed}

all_at : {A : Type 0} (P : A → Type 0) (xs : List A) (d : A) → AllByRecursion P xs → (b : ℕ) → b < length xs → P (get_or xs b d)
all_at P [] d h b l = absurd (omega arith)
all_at P (x ∷ xs) d h zero l = h.0
all_at P (x ∷ xs) d h (suc b) l = all_at P xs d h.1 b (omega arith)

quiet_at : {A : Type 0} (m : Model A) (laws : Lawful m) (xs : List A) (d : A) → all_quiet m xs ≡ true → (b o : ℕ) → b < length xs → m.waiting (get_or xs b d) o ≡ false
quiet_at m laws [] d h b o l = absurd (omega arith)
quiet_at m laws (x ∷ xs) d h zero o l =
    elim (cases_Bool (m.waiting x o)) [
      | inl e ↦ nobody_at (m.width x) (m.waiting x) o (not-true (someone (m.width x) (m.waiting x)) (and_parts (not (someone (m.width x) (m.waiting x))) (all_quiet m xs) h).0) (laws.steps.waiting_below x o e)
      | inr e ↦ e
    ]
quiet_at m laws (x ∷ xs) d h (suc b) o l = quiet_at m laws xs d (and_parts (not (someone (m.width x) (m.waiting x))) (all_quiet m xs) h).1 b o (omega arith)

range_at : (table : List Dates) (n i : ℕ) → all_in_range table n ≡ true → i < n → runs_in_range (dated table i) ≡ true
range_at table zero i h l = absurd (omega arith)
range_at table (suc n) i h l =
    let both = and_parts (runs_in_range (dated table n)) (all_in_range table n) h in
    elim (cases_eq i n) [ inl same ↦ ap (λ k. runs_in_range (dated table k)) same ∙ both.0 | inr apart ↦ range_at table n i both.1 (omega arith) ]

not_late : (o : Option ℕ) → late_refusal o ≡ None → o ≡ None
not_late None e = refl
not_late (Some i) e = cc

-- A plan with a task has a bank.
some_bank : (o : Option Head) (place : ℕ) → legal_heading o ≡ true → place < places_of o → 1 ≤ banks_of o
some_bank None place h l = absurd (omega arith)
some_bank (Some x) place h l = grind (arith, nat_tests)

range_all : (table : List Dates) (n : ℕ) → ((i : ℕ) → i < n → runs_in_range (dated table i) ≡ true) → all_in_range table n ≡ true
range_all table zero h = refl
range_all table (suc n) h = and_from (runs_in_range (dated table n)) (all_in_range table n) (h n (omega arith)) (range_all table n (λ i l. h i (omega arith)))

wide_yes : {A : Type 0} (m : Model A) (places : ℕ) (xs : List A) → AllByRecursion (λ x. places ≤ m.width x) xs → all_wide m places xs ≡ true
wide_yes m places [] h = refl
wide_yes m places (x ∷ xs) h = and_from (leb places (m.width x)) (all_wide m places xs) (le-leb places (m.width x) h.0) (wide_yes m places xs h.1)

-- What set-up takes, with a as any arbiter.
pub record Taken {A : Type 0} (m : Model A) (p : Plan) (table : List Dates) (arbiters : List A) (a : A) : Type 0 where
  pub one_per_bank : length arbiters ≡ banks_of p.head
  pub wide : (b : ℕ) → b < banks_of p.head → places_of p.head ≤ m.width (get_or arbiters b a)
  pub quiet : (b o : ℕ) → b < banks_of p.head → m.waiting (get_or arbiters b a) o ≡ false
  pub takes_time : (i : ℕ) → i < length p.rows → 1 ≤ (dated table i).response
  pub in_period : (i : ℕ) → i < length p.rows → finish (dated table i) ≤ period_of p.head

module _ {A : Type 0} (m : Model A) (p : Plan) (table : List Dates) (arbiters : List A) where
  -- Its questions, each with a yes.
  record Answered : Type 0 where
    task : 1 ≤ length p.rows
    one_per_bank : length arbiters ≡ banks_of p.head
    wide : all_wide m (places_of p.head) arbiters ≡ true
    quiet : all_quiet m arbiters ≡ true
    in_range : all_in_range table (length p.rows) ≡ true
    none_late : lowest (length p.rows) (is_late p table) ≡ None

  answered : set_up_refusal m p table arbiters ≡ None → Answered
  answered e =
      let v = passed (ltb 0 (length p.rows)) NoTask _ e in
      let w = passed (arbiters_fit m p arbiters) Arbiters _ v.1 in
      let x = passed (leb (length p.rows) (length table)) Table _ w.1 in
      let y = passed (all_quiet m arbiters) Waiting _ x.1 in
      let z = passed (all_in_range table (length p.rows)) Range _ y.1 in
      let fit = and_parts (eqb (length arbiters) (banks_of p.head)) (all_wide m (places_of p.head) arbiters) w.0 in
      record {
        task = ltb-true 0 (length p.rows) v.0;
        one_per_bank = eqb-true (length arbiters) (banks_of p.head) fit.0;
        wide = fit.1;
        quiet = y.0;
        in_range = z.0;
        none_late = not_late (lowest (length p.rows) (is_late p table)) z.1;
      }

  pub taken : Lawful m → set_up_refusal m p table arbiters ≡ None → (a : A) → Taken m p table arbiters a
  taken laws e a =
      let h = answered e in
      let each = h.one_per_bank in
      record {
        one_per_bank = each;
        wide = λ b l. all_at (λ x. places_of p.head ≤ m.width x) arbiters a (wide_all m (places_of p.head) arbiters h.wide) b (omega arith);
        quiet = λ b o l. quiet_at m laws arbiters a h.quiet b o (omega arith);
        takes_time = λ i l. let r = and_parts (leb (dated table i).release 1000000000) (between 1 1000000000 (dated table i).response) (range_at table (length p.rows) i h.in_range l) in
            leb-true 1 (dated table i).response (and_parts (leb 1 (dated table i).response) (leb (dated table i).response 1000000000) r.1).0;
        in_period = λ i l. ltb-false (period_of p.head) (finish (dated table i)) (none_passes (length p.rows) (is_late p table) h.none_late i l);
      }

  pub has_arbiter : Kept p → set_up_refusal m p table arbiters ≡ None → 1 ≤ length arbiters
  has_arbiter kept e = let h = answered e in omega (arith, h.one_per_bank, some_bank p.head _ kept.headed (kept.legal 0 h.task).placed)

  module _ (kept : Kept p) (sound : Sound m p arbiters table) where
    runs : (i : ℕ) → i < length p.rows → runs_in_range (dated table i) ≡ true
    runs i l =
        let low = short_period p.head kept.headed in
        let end = sound.in_period i l in
        and_from _ _ (le-leb (dated table i).release 1000000000 (omega arith))
        (and_from _ _ (le-leb 1 (dated table i).response (omega (arith, sound.covered i l, (kept.legal i l).some))) (le-leb (dated table i).response 1000000000 (omega arith)))

    pub sound_sets_up : Fits m p arbiters table → all_quiet m arbiters ≡ true → set_up_refusal m p table arbiters ≡ None
    sound_sets_up fits quiet =
        pass (ltb 0 (length p.rows)) NoTask _ (lt-ltb 0 (length p.rows) fits.some)
        (pass (arbiters_fit m p arbiters) Arbiters _ (and_from _ _ (eq-eqb (length arbiters) (banks_of p.head) fits.one_per_bank) (wide_yes m (places_of p.head) arbiters fits.wide))
        (pass (leb (length p.rows) (length table)) Table _ (le-leb (length p.rows) (length table) fits.row_per_task)
        (pass (all_quiet m arbiters) Waiting _ quiet
        (pass (all_in_range table (length p.rows)) Range _ (range_all table (length p.rows) runs)
        (ap late_refusal (none_lowest (length p.rows) (is_late p table) (λ i l. le-ltb (period_of p.head) (finish (dated table i)) (sound.in_period i l))))))))
