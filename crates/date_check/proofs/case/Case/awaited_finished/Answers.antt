use Rattle.std.proofs.Common.{◌≡◌, ℕ, leb, rules, MatchOption, ◌<◌, ◌≤◌, true, List, length, vec_items, refl, ap, ◌∙◌, arith}
use Rattle.plan.specs.Plans.{closed}
use Rattle.plan.specs.Rows.{row, row_of}
use Rattle.plan.specs.declared.closed.ClosedPlan.{ClosedPlan}
use Rattle.plan.specs.declared.rows.Task.{Task}
use Rattle.date_check.specs.Sound.{dated, finish}
use Rattle.date_check.proofs.Reading.{kept_of}
use Rattle.date_check.proofs.Finishing.{all_members, members_decide, named_earlier, named_late, before_finished, previous_decides}
use Rattle.date_check.proofs.case.Case.awaited_finished.Goals as goal

-- The rows that a task names, as they were read.
names : (plan : ClosedPlan) (i : ℕ) (t : Task) (xs : List ℕ) → xs ≡ vec_items t.after → row_of t ≡ row (closed plan).rows i → xs ≡ (row (closed plan).rows i).after
names plan i t xs e at = e ∙ ap (λ r. r.after) at

pub finished_by-requires : goal.finished_by-requires
finished_by-requires g c =
    let case = c.args.self.now in
    let plan = case.plan.now in
    let xs = c.as_slice.result.now in
    let earlier = named_earlier (closed plan) (kept_of plan) case.dates.now c.args.i c.requires xs (dated case.dates.now c.args.i).release (names plan c.args.i c.task.result.now xs c.as_slice.ensures.value c.task.ensures) refl in
    all_members (λ k. k < length case.dates.now) xs (λ k h. omega (arith, earlier k h, c.requires, case.fits.row_per_task))

pub returns-else-finished_by : goal.returns-else-finished_by
returns-else-finished_by g c =
    let case = c.args.self.now in
    let plan = case.plan.now in
    let xs = c.as_slice.result.now in
    let t = c.from-release.result in
    c.if-finished_by.false ∙ named_late (closed plan) (kept_of plan) case.dates.now c.args.i c.requires xs t (names plan c.args.i c.task.result.now xs c.as_slice.ensures.value c.task.ensures) c.from-release.ensures (members_decide _ (λ k. finish (dated case.dates.now k) ≤ t) xs c.if-finished_by.ensures)

pub returns-then-finished_by : goal.returns-then-finished_by
returns-then-finished_by g c =
    let case = c.args.self.now in
    let plan = case.plan.now in
    let xs = c.as_slice.result.now in
    let t = c.from-release.result in
    let last : MatchOption c.previous.result (c.is_none_or.result ≡ true) (λ k. c.is_none_or.result ≡ leb (finish (dated case.dates.now k)) t) = search rules in
    previous_decides (closed plan) (kept_of plan) case.dates.now c.args.i c.requires xs t (names plan c.args.i c.task.result.now xs c.as_slice.ensures.value c.task.ensures) c.from-release.ensures c.is_none_or.result c.previous.result c.previous.ensures.value ((members_decide true (λ k. finish (dated case.dates.now k) ≤ t) xs c.if-finished_by.ensures).0 refl) (before_finished case.dates.now t c.previous.result c.is_none_or.result last)
