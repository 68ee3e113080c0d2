use Rattle.std.proofs.Common.{◌≡◌, ℕ, List, [], replicate, is_ok, vec_items, sym, ap, subst}
use Rattle.plan.specs.Plans.{opened}
use Rattle.plan.specs.Rows.{new_row}
use Rattle.plan.specs.Rules.{Kept}
use Rattle.plan.proofs.Keeping.{known, kept_either, task_kept}
use Rattle.plan.proofs.Views.{task_tried}
use Rattle.plan.proofs.open.OpenPlan.add_task.Goals as goal

fresh : (place cycles earliest : ℕ) (xs : List ℕ) → xs ≡ [] → record { place = place; cycles = cycles; earliest = earliest; demands = replicate 16 0; after = xs } ≡ new_row place cycles earliest
fresh place cycles earliest xs e = ap (λ ys. record { place = place; cycles = cycles; earliest = earliest; demands = replicate 16 0; after = ys }) e

pub invariant_of-self : goal.invariant_of-self
invariant_of-self c =
    let s = c.args.self.now in
    let b = is_ok c.push.result in
    let e = task_tried s.head (vec_items s.tasks) (vec_items c.push.new.self) _ b c.args.place c.args.cycles c.args.earliest (fresh c.args.place c.args.cycles c.args.earliest _ c.new.ensures.items) c.push.ensures.items in
    let old = known (opened s) s.kept in
    record { kept = ∣ subst Kept (sym e) (kept_either b (opened s) _ old (task_kept (opened s) c.args.place c.args.cycles c.args.earliest old c.requires)) ∣₁ }
