use Rattle.std.proofs.Common.{◌≡◌, ℕ, ◌+◌, ◌<◌, true, List, map, length, get_or, set, replicate, vec_items, refl, ap, ◌∙◌, inl, inr, sym, arith}
use Rattle.std.proofs.lemmas.Bool.{cases_eq}
use Rattle.std.proofs.lemmas.List.{get_or_default, get_or-replicate, get_or-set_other, get_or-set_same, length-set}
use Rattle.plan.specs.Plans.{closed}
use Rattle.plan.specs.declared.closed.ClosedPlan.{ClosedPlan}
use Rattle.plan.specs.declared.rows.Task.{Task}
use Rattle.plan.specs.Rows.{row_of}
use Rattle.plan.specs.Rules.{member}
use Rattle.arbiter.proofs.Lists.{getD_replicate_same}
use Rattle.date_check.proofs.Finishing.{member_at}
use Rattle.date_check.proofs.Reading.{kept_of, read_count, read_place, read_row}
use Rattle.analysis.specs.Workings.{column}
use Rattle.analysis.proofs.Renewing.{latest_read, release_low, renewed_more, renewed_none}
use Rattle.analysis.proofs.releases.renew.Goals as goal

-- The rows that a task names stand before it.
named_before : (plan : ClosedPlan) (tasks : List Task) → map row_of tasks ≡ (closed plan).rows → (i : ℕ) (t : Task) → i < length tasks → t ≡ get_or tasks i t → (xs : List ℕ) → xs ≡ vec_items t.after → (k : ℕ) → member k xs ≡ true → k < i
named_before plan tasks same i t l is xs e k m =
    ((kept_of plan).legal i (omega (arith, read_count plan tasks same))).earlier k (ap (λ r. member k r.after) (sym (read_row plan tasks same i t l is)) ∙ ap (member k) (sym e) ∙ m)

pub loop-i-init : goal.loop-i-init
loop-i-init c = (renewed_none (closed c.args.plan.now).rows (column c.args.responses.now) (λ k. get_or (replicate 256 0) k 0) (λ k. get_or (replicate 256 0) k 0) (replicate 32 0) refl (λ o l. get_or-replicate 32 o 0 0 l), refl, refl, λ k. omega (arith, getD_replicate_same {X = ℕ} 256 k 0))

pub bounds-ends-task : goal.bounds-ends-task
bounds-ends-task c = read_place c.args.plan.now c.tasks-task-items.result.now c.tasks-task-items.ensures c.loop-i.i c.task-item.result c.loop-i-test.true c.task-item.is

pub offset_bounds-ends-task : goal.offset_bounds-ends-task
offset_bounds-ends-task c = omega (arith, read_place c.args.plan.now c.tasks-task-items.result.now c.tasks-task-items.ensures c.loop-i.i c.task-item.result c.loop-i-test.true c.task-item.is)

pub bounds-ends-task-in-loop-i : goal.bounds-ends-task-in-loop-i
bounds-ends-task-in-loop-i c = read_place c.args.plan.now c.tasks-task-items.result.now c.tasks-task-items.ensures c.loop-i.i c.task-item.result c.loop-i-test.true c.task-item.is

pub offset_bounds-ends-task-in-loop-i : goal.offset_bounds-ends-task-in-loop-i
offset_bounds-ends-task-in-loop-i c = omega (arith, read_place c.args.plan.now c.tasks-task-items.result.now c.tasks-task-items.ensures c.loop-i.i c.task-item.result c.loop-i-test.true c.task-item.is)

pub latest_finish-release-requires : goal.latest_finish-release-requires
latest_finish-release-requires c j d h =
    let plan = c.args.plan.now in
    let tasks = c.tasks-task-items.result.now in
    let k = get_or c.deref.result.now j d in
    let here = ap (λ x. member x c.deref.result.now) (get_or_default c.deref.result.now j d 0 h) ∙ member_at c.deref.result.now j h in
    omega (arith, named_before plan tasks c.tasks-task-items.ensures c.loop-i.i c.task-item.result c.loop-i-test.true c.task-item.is c.deref.result.now c.deref.ensures.value k here, read_count plan tasks c.tasks-task-items.ensures, (kept_of plan).few, c.loop-i.invariant.2)

pub overflow_add-finish : goal.overflow_add-finish
overflow_add-finish c =
    let plan = c.args.plan.now in
    let tasks = c.tasks-task-items.result.now in
    let same = c.tasks-task-items.ensures in
    let i = c.loop-i.i in
    let t = c.task-item.result in
    let l : i < length (closed plan).rows = omega (arith, read_count plan tasks same, c.loop-i-test.true) in
    let at = read_row plan tasks same i t c.loop-i-test.true c.task-item.is in
    let res = column c.args.responses.now in
    let rel = c.loop-i.rows in
    let fin = c.loop-i.finishes in
    let release = c.latest_finish-release.result in
    let waited = latest_read (λ k. get_or fin k 0) c.deref.result.now (vec_items t.after) _ c.max-ready.result release c.max-ready.ensures c.deref.ensures.value c.latest_finish-release.ensures in
    let low = release_low (closed plan) (kept_of plan) res i l (c.args.responses.now.low i) (λ k. get_or rel k 0) (λ k. get_or fin k 0) c.loop-i.ends c.loop-i.invariant.0 (row_of t) at release waited in
    omega (arith, low, c.args.responses.now.low i, (kept_of plan).few)

pub loop-i-preserved : goal.loop-i-preserved
loop-i-preserved c =
    let plan = c.args.plan.now in
    let tasks = c.tasks-task-items.result.now in
    let same = c.tasks-task-items.ensures in
    let i = c.loop-i.i in
    let t = c.task-item.result in
    let l : i < length (closed plan).rows = omega (arith, read_count plan tasks same, c.loop-i-test.true) in
    let at = read_row plan tasks same i t c.loop-i-test.true c.task-item.is in
    let res = column c.args.responses.now in
    let rel = c.loop-i.rows in
    let fin = c.loop-i.finishes in
    let release = c.latest_finish-release.result in
    let waited = latest_read (λ k. get_or fin k 0) c.deref.result.now (vec_items t.after) _ c.max-ready.result release c.max-ready.ensures c.deref.ensures.value c.latest_finish-release.ensures in
    let low = release_low (closed plan) (kept_of plan) res i l (c.args.responses.now.low i) (λ k. get_or rel k 0) (λ k. get_or fin k 0) c.loop-i.ends c.loop-i.invariant.0 (row_of t) at release waited in
    let here = get_or-set_same rel i release 0 (omega (arith, (kept_of plan).few, c.loop-i.invariant.1)) in (
      renewed_more (closed plan) (kept_of plan) res i l (c.args.responses.now.low i) (λ k. get_or rel k 0) (λ k. get_or fin k 0) c.loop-i.ends c.loop-i.invariant.0 (row_of t) at release waited
          (λ k. get_or (set rel i release) k 0) (λ k. get_or (set fin i (release + res i)) k 0)
          here (λ k d. get_or-set_other rel i k release 0 d)
          (get_or-set_same fin i (release + res i) 0 (omega (arith, (kept_of plan).few, c.loop-i.invariant.2))) (λ k d. get_or-set_other fin i k (release + res i) 0 d),
      length-set rel i release ∙ c.loop-i.invariant.1,
      length-set fin i (release + res i) ∙ c.loop-i.invariant.2,
      λ k. elim (cases_eq k i) [
        | inl e ↦ omega (arith, ap (λ x. get_or (set rel i release) x 0) e, here, low, (kept_of plan).few)
        | inr d ↦ omega (arith, get_or-set_other rel i k release 0 d, c.loop-i.invariant.3 k)
      ],
    )
