use Rattle.std.proofs.Common.{◌≡◌, ℕ, ◌-◌, ◌≤◌, Bool, true, false, cond, [], ◌∷◌, ◌++◌, get_or, set, is_ok, None, vec_items, vec_len, Vec, sym, refl, ◌∙◌, subst, arith}
use Rattle.std.proofs.lemmas.List.{length-map}
use Rattle.std.proofs.lemmas.Result.{err_from_is_err_and}
use Rattle.std.specs.declared.alloc.Global.{Global}
use Rattle.plan.specs.declared.open.OpenPlan.{OpenPlan}
use Rattle.plan.specs.declared.rows.Task.{Task}
use Rattle.plan.specs.Plans.{opened}
use Rattle.plan.specs.Rows.{plan_of, row_of}
use Rattle.plan.specs.Rules.{Kept, after_refusal, with_after}
use Rattle.plan.proofs.Keeping.{after_kept, after_room, kept_either, known}
use Rattle.plan.proofs.Views.{after_tried, named_tried}
use Rattle.plan.proofs.open.OpenPlan.add_after.Goals as goal

module _ (s : OpenPlan) (k : ℕ) (pass : after_refusal (opened s) k ≡ None) where
  some : 1 ≤ vec_len s.tasks
  some = omega (arith, after_room (opened s) k pass, length-map (vec_items s.tasks) row_of, s.tasks.ok.0)

  -- the newest task with the list as the push left it
  tried : (n : ℕ) (t : Task) (list : Vec ℕ Global) (b : Bool) → n ≡ vec_len s.tasks → t ≡ get_or (vec_items s.tasks) (n - 1) t → vec_items list ≡ cond b (vec_items t.after ++ k ∷ []) (vec_items t.after) → plan_of s.head (set (vec_items s.tasks) (n - 1) (record { place = t.place; cycles = t.cycles; earliest = t.earliest; demands = t.demands; after = list })) ≡ cond b (with_after (opened s) k) (opened s)
  tried n t list b all read items = after_tried s.head (vec_items s.tasks) n t _ (all ∙ s.tasks.ok.0) (omega (arith, some)) read k b (named_tried (row_of t) k (vec_items list) b items)

pub invariant_of-self : goal.invariant_of-self
invariant_of-self c =
    let s = c.args.self.now in
    let b = is_ok c.push.result in
    let e = tried s c.args.k c.requires (vec_len s.tasks) c.in-Some.newest.now c.push.new.self b refl c.in-Some.ensures.value c.push.ensures.items in
    let old = known (opened s) s.kept in
    record { kept = ∣ subst Kept (sym e) (kept_either b (opened s) (with_after (opened s) c.args.k) old (after_kept (opened s) c.args.k old c.requires)) ∣₁ }

pub returns-in_err-push-clause-tried : goal.returns-in_err-push-clause-tried
returns-in_err-push-clause-tried c =
    let s = c.args.self.now in
    let e = tried s c.args.k c.requires (vec_len s.tasks) c.in-Some.newest.now c.push.new.self false refl c.in-Some.ensures.value c.in_err-push.ensures.items in
    let p = err_from_is_err_and c.from_residual.result c.from_residual.ensures.1 in
    rw (p.1, p.2) (refl, e)

pub returns-in_ok-push-clause-tried : goal.returns-in_ok-push-clause-tried
returns-in_ok-push-clause-tried c = tried c.args.self.now c.args.k c.requires (vec_len c.args.self.now.tasks) c.in-Some.newest.now c.push.new.self true refl c.in-Some.ensures.value c.in_ok-push.ensures.items
