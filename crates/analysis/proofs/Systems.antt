-- Plans with lawful arbiters are lawful systems of tasks.
-- Assumes nothing.
use Rattle.std.proofs.Common.{◌≡◌, ℕ, ◌+◌, ◌<◌, ◌≤◌, Bool, true, false, cond, ◌&&◌, eqb, List, [], ◌∷◌, length, get_or, refl, mul-le-mul_left, arith}
use Rattle.std.specs.List.{AllByRecursion}
use Rattle.plan.specs.Rows.{Plan, accesses, row}
use Rattle.plan.specs.Rules.{Kept, places_of, latency_of, period_of}
use Rattle.plan.proofs.Waiting.{waits_below}
use Rattle.arbiter.specs.Laws as arbiters_keep
use Rattle.arbiter.specs.Meaning.{Model}
use Rattle.arbiter.proofs.Sums.{sum_below_le}
use Rattle.date_check.specs.declared.dates.Dates.{Dates}
use Rattle.date_check.specs.Sound.{Sound, dated, finish, loads, services, share}
use Rattle.date_check.proofs.Counting.{loads_at}
use Rattle.date_check.proofs.Limits.{bound_accepted}
use Rattle.consistency.specs.System as systems
use Rattle.consistency.specs.Theorem.{DatesAreDetermined, RoundsEnd}
use Rattle.consistency.proofs.Consistent.{balanced, in_order, not_early}
use Rattle.analysis.specs.Plans.{ConsistentDates, Dated, system}

module _ {S : Type 0} (m : Model S) (laws : arbiters_keep.Lawful m) (p : Plan) (kept : Kept p) where
  -- More tasks that are met add no less.
  share_grows : (few more : ℕ → Bool) (bank o k : ℕ) → (few k ≡ true → more k ≡ true) → share p.rows few bank o k ≤ share p.rows more bank o k
  share_grows few more bank o k h = grows (eqb (row p.rows k).place o) (few k) (more k) (accesses (row p.rows k) bank) h
    where
      grows : (here a b : Bool) (d : ℕ) → (a ≡ true → b ≡ true) → cond (here && a) d 0 ≤ cond (here && b) d 0
      grows true true b d h = rw (h refl) (omega arith)
      grows true false b d h = omega arith
      grows false a b d h = omega arith

  loads_grow : (few more : ℕ → Bool) (bank o : ℕ) → ((k : ℕ) → k < length p.rows → few k ≡ true → more k ≡ true) → o < 32 → get_or (loads p.rows few bank) o 0 ≤ get_or (loads p.rows more bank) o 0
  loads_grow few more bank o h l =
      omega (
        arith,
        loads_at p.rows few bank o l,
        loads_at p.rows more bank o l,
        sum_below_le (length p.rows) (share p.rows few bank o) (share p.rows more bank o) (λ k j. share_grows few more bank o k (h k j)),
      )

  services_grow : (i bank : ℕ) (few more : ℕ → Bool) (arbiters : List S) → i < length p.rows → ((k : ℕ) → k < length p.rows → few k ≡ true → more k ≡ true) → AllByRecursion (λ a. places_of p.head ≤ m.width a) arbiters → services m p.rows few i bank arbiters ≤ services m p.rows more i bank arbiters
  services_grow i bank few more [] l h wide = omega arith
  services_grow i bank few more (a ∷ rest) l h wide =
      omega (
        arith,
        laws.monotone a (row p.rows i).place (accesses (row p.rows i) bank) (accesses (row p.rows i) bank) (loads p.rows few bank) (loads p.rows more bank)
            (bound_accepted p kept few m laws a i bank l wide.0) (bound_accepted p kept more m laws a i bank l wide.0) (omega arith)
            (λ o j other. loads_grow few more bank o h (omega (arith, (laws.steps.width_limits a).1))),
        services_grow i (bank + 1) few more rest l h wide.1,
      )

  pub lawful : (arbiters : List S) → AllByRecursion (λ a. places_of p.head ≤ m.width a) arbiters → systems.Lawful (system m p arbiters)
  lawful arbiters wide = record {
    work_grows = λ i l few more h. omega (arith, mul-le-mul_left (latency_of p.head) (services_grow i 0 few more arbiters l h wide));
    work_positive = λ i l met. omega (arith, (kept.legal i l).some);
    start_after = λ t. omega arith;
    start_steady = λ t. refl;
    start_ordered = λ s t h. h;
  }

  -- Consistent dates that end within the period are sound.
  pub consistent_sound : (arbiters : List S) → AllByRecursion (λ a. places_of p.head ≤ m.width a) arbiters → (table : List Dates) → ConsistentDates m p arbiters table → ((i : ℕ) → i < length p.rows → finish (dated table i) ≤ period_of p.head) → Sound m p arbiters table
  consistent_sound arbiters wide table g fits =
      let l = lawful arbiters wide in
      record {
        not_early = λ i h. not_early (system m p arbiters) l g i h;
        in_order = λ i k h w. in_order (system m p arbiters) l g i h k (waits_below p i k kept h w) w;
        covered = λ i h. omega (arith, balanced (system m p arbiters) l g i h);
        in_period = fits;
      }

  pub dated_plan : DatesAreDetermined → RoundsEnd → (arbiters : List S) → AllByRecursion (λ a. places_of p.head ≤ m.width a) arbiters → Dated m p arbiters
  dated_plan determined ending arbiters wide = record {
    determined = determined (system m p arbiters) (lawful arbiters wide);
    ending = ending (system m p arbiters) (lawful arbiters wide);
    sound = consistent_sound arbiters wide;
  }
