use Rattle.std.proofs.Common.{◌≡◌, ℕ, ◌-◌, ◌<◌, ◌≤◌, get_or, set, None, vec_items, vec_len, sym, refl, ◌∙◌, subst, arith}
use Rattle.std.proofs.lemmas.List.{length-map}
use Rattle.plan.specs.declared.open.OpenPlan.{OpenPlan}
use Rattle.plan.specs.declared.rows.Task.{Task}
use Rattle.plan.specs.Plans.{opened}
use Rattle.plan.specs.Rows.{plan_of, row_of}
use Rattle.plan.specs.Rules.{Kept, demand_refusal, with_accesses, with_demand}
use Rattle.plan.proofs.Keeping.{demand_kept, demand_room, few_banks, known}
use Rattle.plan.proofs.Views.{newest_changed}
use Rattle.plan.proofs.open.OpenPlan.add_demand.Goals as goal

module _ (s : OpenPlan) (bank count : ℕ) (pass : demand_refusal (opened s) bank count ≡ None) where
  some : 1 ≤ vec_len s.tasks
  some = omega (arith, (demand_room (opened s) bank count pass).0, length-map (vec_items s.tasks) row_of, s.tasks.ok.0)

  inside : bank < 16
  inside = omega (arith, (demand_room (opened s) bank count pass).1, few_banks s.head (known (opened s) s.kept).headed)

  changed : (n : ℕ) (t : Task) → n ≡ vec_len s.tasks → t ≡ get_or (vec_items s.tasks) (n - 1) t → plan_of s.head (set (vec_items s.tasks) (n - 1) (record { place = t.place; cycles = t.cycles; earliest = t.earliest; demands = set t.demands bank count; after = t.after })) ≡ with_demand (opened s) bank count
  changed n t all read = newest_changed s.head (vec_items s.tasks) n t _ (all ∙ s.tasks.ok.0) (omega (arith, some)) read (λ r. with_accesses r bank count) refl

pub invariant_of-self : goal.invariant_of-self
invariant_of-self c =
    let s = c.args.self.now in
    let e = changed s c.args.bank c.args.count c.requires (vec_len s.tasks) c.in-Some.newest.now refl c.in-Some.ensures.value in
    record { kept = ∣ subst Kept (sym e) (demand_kept (opened s) c.args.bank c.args.count (known (opened s) s.kept) c.requires) ∣₁ }

pub returns-in-Some : goal.returns-in-Some
returns-in-Some c = changed c.args.self.now c.args.bank c.args.count c.requires (vec_len c.args.self.now.tasks) c.in-Some.newest.now refl c.in-Some.ensures.value
