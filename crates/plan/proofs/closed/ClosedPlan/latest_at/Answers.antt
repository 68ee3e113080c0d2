use Rattle.std.proofs.Common.{take, vec_items, subst, arith}
use Rattle.std.proofs.lemmas.List.{length-map}
use Rattle.plan.specs.Rows.{row_of}
use Rattle.plan.specs.Waits.{LastAt}
use Rattle.plan.proofs.Waiting.{latest_from}
use Rattle.plan.proofs.closed.ClosedPlan.latest_at.Goals as goal

pub returns : goal.returns
returns c =
    let ts = vec_items c.args.self.now.tasks in
    latest_from ts c.args.place c.args.row c.last_at.result (omega (arith, c.requires, length-map ts row_of)) (subst (λ xs. LastAt (take c.args.row xs) c.args.place c.last_at.result) c.deref.ensures.value c.last_at.ensures)
