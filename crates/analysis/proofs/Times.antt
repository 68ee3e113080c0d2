-- The facts of a plan and arbiters that fit it, and what their tasks take, alone and at worst.
-- Assumes nothing.
use Rattle.std.proofs.Common.{◌≡◌, ℕ, ◌^◌, ◌<◌, ◌≤◌, true, false, eqb, length, refl, ◌∙◌, arith}
use Rattle.std.specs.List.{AllByRecursion}
use Rattle.std.proofs.lemmas.Bool.{and_parts, eqb-true}
use Rattle.plan.specs.declared.closed.ClosedPlan.{ClosedPlan}
use Rattle.plan.specs.Plans.{closed}
use Rattle.plan.specs.Rules.{Kept, banks_of, places_of}
use Rattle.plan.proofs.Keeping.{few_banks}
use Rattle.arbiter.specs.declared.Arbiter.{Ghosts}
use Rattle.arbiter.specs.Given.{model}
use Rattle.arbiter.specs.Laws as arbiters_keep
use Rattle.date_check.specs.Verdict.{all_wide}
use Rattle.date_check.proofs.Limits.{work_limit}
use Rattle.date_check.proofs.Passing.{wide_all}
use Rattle.date_check.proofs.Reading.{kept_of}
use Rattle.consistency.specs.Dates.{Table, alone, meets, worst}
use Rattle.consistency.specs.System.{Lawful}
use Rattle.analysis.specs.declared.system.System.{System}
use Rattle.analysis.specs.declared.tables.Meetings.{Meetings}
use Rattle.analysis.specs.Systems.{plan_in, system_of}
use Rattle.analysis.specs.Workings.{MetAll, marked}
use Rattle.analysis.proofs.Raising.{work_same}
use Rattle.analysis.proofs.Systems.{lawful}

pub few_rows : (plan : ClosedPlan) → length (closed plan).rows ≤ 256
few_rows plan = (kept_of plan).few

module _ {S : Type 0} {d : Ghosts S} (s : System S d) where
  pub kept : Kept (plan_in s)
  kept = kept_of s.plan.now

  fitting : (eqb (length s.arbiters.now) (banks_of (plan_in s).head) ≡ true) × (all_wide (model d) (places_of (plan_in s).head) s.arbiters.now ≡ true)
  fitting = and_parts (eqb (length s.arbiters.now) (banks_of (plan_in s).head)) (all_wide (model d) (places_of (plan_in s).head) s.arbiters.now) s.fit

  pub one_per_bank : length s.arbiters.now ≡ banks_of (plan_in s).head
  one_per_bank = eqb-true (length s.arbiters.now) (banks_of (plan_in s).head) fitting.0

  pub few_arbiters : length s.arbiters.now ≤ 16
  few_arbiters = omega (arith, one_per_bank, few_banks (plan_in s).head kept.headed)

  pub wide : AllByRecursion (λ a. places_of (plan_in s).head ≤ (model d).width a) s.arbiters.now
  wide = wide_all (model d) (places_of (plan_in s).head) s.arbiters.now fitting.1

  module _ (laws : arbiters_keep.Lawful (model d)) where
    pub lawful_system : Lawful (system_of s)
    lawful_system = lawful (model d) laws (plan_in s) kept s.arbiters.now wide

    pub alone_low : (i : ℕ) → i < length (plan_in s).rows → alone (system_of s) i < 2 ^ 35
    alone_low i h = work_limit (plan_in s) kept (λ _. false) (model d) laws s.arbiters.now i few_arbiters wide h refl

    pub worst_read : (rel res : Table) (i : ℕ) → i < length (plan_in s).rows → (t : Meetings) → MetAll (plan_in s).rows rel res i t → (n : ℕ) → n ≡ (system_of s).work i (marked t.met) → n ≡ worst (system_of s) rel res i (res i)
    worst_read rel res i h t met n e =
        e ∙ work_same (system_of s) lawful_system i h (marked t.met) (meets (system_of s) rel res i (res i)) met.exact
