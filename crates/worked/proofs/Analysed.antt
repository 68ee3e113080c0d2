-- The dates worked by hand compute from the definitions once the ring's width is known.
-- Assumes nothing.
use Rattle.std.proofs.Common.{◌≡◌, ℕ, ◌-◌, ◌*◌, ◌≤◌, true, false, eqb, leb, List, [], ◌∷◌, length, None, Ok, Err, sym, refl, ap, ◌∙◌, subst, arith}
use Rattle.std.proofs.lemmas.List.{get_or_past}
use Rattle.std.proofs.lemmas.Bool.{leb-true}
use Rattle.plan.specs.Rows.{Plan, Row}
use Rattle.arbiter.specs.Fair.{fair_bound}
use Rattle.arbiter.specs.Meaning.{Model}
use Rattle.rings.specs.declared.ring.Ring.{Ring}
use Rattle.rings.specs.Rings.{ring, NewRing}
use Rattle.date_check.specs.declared.dates.Dates.{Dates}
use Rattle.date_check.specs.Sound.{Fits, loads}
use Rattle.date_check.specs.Verdict.{verdict}
use Rattle.consistency.specs.System.{System}
use Rattle.consistency.specs.Dates.{Consistent, Rounds, Table, alone, finish, first, release_date, then_round, worst}
use Rattle.consistency.proofs.Consistent.{unmoved, unmoved_consistent}
use Rattle.analysis.specs.Answers.{Answer}
use Rattle.analysis.specs.Plans.{releases, responses, system}
use Rattle.analysis.specs.declared.refusal.Refusal.TheVariants.{Late}
use Rattle.worked.specs.Plans.{dates, filter, plan_of, sample, scan, scan_and_steam, steam}
use Rattle.worked.specs.Analyses.{AnalysesWorked, meeting_dates, overlapping_dates, sample_dates, scan_takes, touching_dates}
use Rattle.worked.specs.Checks.{ChecksWorked, checked}
use Rattle.worked.proofs.Tried.{all_below, below_all, is_smallest, released_by, responses_by}

-- All that a system of tasks reads of a ring is its width.
abbrev pub wide : Model ℕ
wide = record {
  width = λ n. n;
  waiting = λ n s. false;
  last = λ n. None;
  bound = λ n s own xs. fair_bound n s own xs;
  posted = λ n s k. ⊥;
  picked = λ n s k. ⊥;
}

abbrev pub over_two : Plan → System
over_two p = system wide p (2 ∷ [])

pub on_ring : (P : System → Type 0) (p : Plan) (a : Ring) → NewRing 2 a → P (over_two p) → P (system ring p (a ∷ []))
on_ring P p a new h = subst (λ n. P (system wide p (n ∷ []))) (sym new.width) h

-- The sample.
first_releases : Table
first_releases = releases (dates 0 0 ∷ dates 0 0 ∷ dates 8 0 ∷ [])

sample_rounds : Rounds (over_two sample) 2 (releases sample_dates) (responses sample_dates)
unfolding loads first_releases
sample_rounds = record {
  before = 1;
  counted = refl;
  reached = then_round {rel = first_releases} {res = responses sample_dates} (first (released_by (over_two sample) first_releases (alone (over_two sample)) refl)) (record {
    responses = responses_by (over_two sample) first_releases (responses sample_dates) refl;
    released = released_by (over_two sample) (releases sample_dates) (responses sample_dates) refl;
  }) (record { row = 2; task = omega arith; moved = λ e. absurd (omega arith) });
  last = record {
    responses = responses_by (over_two sample) (releases sample_dates) (responses sample_dates) refl;
    released = released_by (over_two sample) (releases sample_dates) (responses sample_dates) refl;
  };
}

-- Scan and steam.
module _ (period earliest : ℕ) (table : List Dates) where
  abbrev pair : System
  pair = over_two (scan_and_steam period earliest)

  consistent_pair : all_below 2 (λ i. eqb (releases table i) (release_date pair (releases table) (responses table) i)) ≡ true → all_below 2 (λ i. is_smallest (worst pair (releases table) (responses table) i) (responses table i)) ≡ true → Consistent pair (releases table) (responses table)
  consistent_pair h k = record {
    released = released_by pair (releases table) (responses table) h;
    responses = responses_by pair (releases table) (responses table) k;
  }

meeting_consistent : (period : ℕ) → Consistent (over_two (scan_and_steam period 0)) (releases meeting_dates) (responses meeting_dates)
unfolding loads
meeting_consistent period = consistent_pair period 0 meeting_dates refl refl

-- One round is the last, as it changes no release.
meeting_rounds : Rounds (over_two (scan_and_steam 10 0)) 1 (releases meeting_dates) (responses meeting_dates)
unfolding loads
meeting_rounds = record {
  before = 0;
  counted = refl;
  reached = first (released_by (over_two (scan_and_steam 10 0)) (releases meeting_dates) (alone (over_two (scan_and_steam 10 0))) refl);
  last = unmoved (meeting_consistent 10);
}

touching_consistent : Consistent (over_two (scan_and_steam 20 8)) (releases touching_dates) (responses touching_dates)
unfolding loads
touching_consistent = consistent_pair 20 8 touching_dates refl refl

overlapping_consistent : Consistent (over_two (scan_and_steam 20 7)) (releases overlapping_dates) (responses overlapping_dates)
unfolding loads
overlapping_consistent = consistent_pair 20 7 overlapping_dates refl refl

module _ (a : Ring) (new : NewRing 2 a) where
  fits : (period : ℕ) (rows : List Row) (old : List Dates) → 1 ≤ length rows → length old ≡ length rows → Fits ring (plan_of period rows) (a ∷ []) old
  fits period rows old some same = record { some = some; one_per_bank = refl; wide = (omega (arith, new.width), tt); row_per_task = omega arith }

  granted : (period : ℕ) (rows : List Row) (table old : List Dates) (rounds : ℕ) → 1 ≤ length rows → length table ≡ length rows → length old ≡ length rows → rounds ≤ 2 * length rows - 1 → all_below (length rows) (λ i. leb (finish (releases table) (responses table) i) period) ≡ true → Rounds (over_two (plan_of period rows)) rounds (releases table) (responses table) → Answer ring (plan_of period rows) (a ∷ []) old table (Ok rounds)
  granted period rows table old rounds some long same few within found = (
    fits period rows old some same,
    record {
      consistent = on_ring (λ y. Consistent y (releases table) (responses table)) (plan_of period rows) a new (unmoved_consistent found.last);
      in_period = λ i l. leb-true (finish (releases table) (responses table) i) period (below_all (length rows) (λ k. leb (finish (releases table) (responses table) k) period) within i l);
      counted = on_ring (λ y. Rounds y rounds (releases table) (responses table)) (plan_of period rows) a new found;
      few = few;
      same_length = long ∙ sym same;
      others = λ i l. get_or_past table i (dates 0 0) (omega arith) ∙ sym (get_or_past old i (dates 0 0) (omega arith));
    },
  )

  late : (old : List Dates) → length old ≡ 2 → Answer ring (scan_and_steam 9 0) (a ∷ []) old old (Err (Late 0 10))
  late old same = (
    fits 9 (scan ∷ steam 0 ∷ []) old (omega arith) same,
    record {
      rel = releases meeting_dates;
      res = responses meeting_dates;
      consistent = on_ring (λ y. Consistent y (releases meeting_dates) (responses meeting_dates)) (scan_and_steam 9 0) a new (meeting_consistent 9);
      task = omega arith;
      ends = refl;
      late = omega arith;
      lowest = λ k l. absurd (omega arith);
    },
    refl,
  )

  -- What scan takes with a response of 8, and of 10.
  balanced : (r : ℕ) → worst (over_two (scan_and_steam 20 8)) (releases touching_dates) (responses touching_dates) 0 r ≡ r → scan_takes a r ≡ r
  balanced r h = on_ring (λ y. worst y (releases touching_dates) (responses touching_dates) 0 r ≡ r) (scan_and_steam 20 8) a new h

  pub analyses_worked : AnalysesWorked a
  unfolding loads
  analyses_worked = record {
    sample_rounds = on_ring (λ y. Rounds y 2 (releases sample_dates) (responses sample_dates)) sample a new sample_rounds;
    sample_granted = λ old same. granted 20 (scan ∷ steam 0 ∷ filter ∷ []) sample_dates old 2 (omega arith) refl same (omega arith) refl sample_rounds;
    granted = λ old same. granted 10 (scan ∷ steam 0 ∷ []) meeting_dates old 1 (omega arith) refl same (omega arith) refl meeting_rounds;
    late = late;
    touching = on_ring (λ y. Consistent y (releases touching_dates) (responses touching_dates)) (scan_and_steam 20 8) a new touching_consistent;
    balances = balanced 8 refl;
    balances_too = balanced 10 refl;
    not_smallest = λ s. absurd (omega (arith, s.least 8 (balanced 8 refl)));
    overlapping = on_ring (λ y. Consistent y (releases overlapping_dates) (responses overlapping_dates)) (scan_and_steam 20 7) a new overlapping_consistent;
  }

  pub checks_worked : ChecksWorked a
  unfolding loads
  checks_worked =
      let is : (table : List Dates) → checked a table ≡ verdict wide (scan_and_steam 20 8) (2 ∷ []) table = λ table. ap (λ n. verdict wide (scan_and_steam 20 8) (n ∷ []) table) new.width in
      record {
        passes = is (dates 0 10 ∷ dates 8 8 ∷ []);
        short = is (dates 0 10 ∷ dates 8 6 ∷ []);
        early = is (dates 0 10 ∷ dates 7 8 ∷ []);
      }
