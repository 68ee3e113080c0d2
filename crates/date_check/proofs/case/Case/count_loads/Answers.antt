use Rattle.std.proofs.Common.{◌≡◌, ◌+◌, length, sym, subst, arith}
use Rattle.plan.specs.Plans.{closed}
use Rattle.plan.specs.Rows.{row_of}
use Rattle.date_check.specs.Sound.{meets}
use Rattle.date_check.proofs.Counting.{Counted, counted_all, counted_apart, counted_met, counted_none}
use Rattle.date_check.proofs.Limits.{load_limit}
use Rattle.date_check.proofs.Reading.{kept_of, read_accesses, read_count, read_place, read_row}
use Rattle.date_check.proofs.case.Case.count_loads.Goals as goal
use Rattle.date_check.proofs.case.Case.count_loads.Goals.{then-meet, else-meet}

pub loop-k-init : goal.loop-k-init
loop-k-init g c = counted_none (closed c.args.self.now.plan.now).rows (meets (closed c.args.self.now.plan.now).rows c.args.self.now.dates.now c.args.i) c.args.bank

pub bounds-counts-task : goal.bounds-counts-task
bounds-counts-task g c = read_place c.args.self.now.plan.now c.tasks-task-items.result.now c.tasks-task-items.ensures c.loop-k.k c.task-item.result c.loop-k-test.true c.task-item.is

pub offset_bounds-counts-task : goal.offset_bounds-counts-task
offset_bounds-counts-task g c = omega (arith, bounds-counts-task g c)

pub bounds-counts-task-then-meet : goal.bounds-counts-task-then-meet
bounds-counts-task-then-meet g c = read_place c.args.self.now.plan.now c.tasks-task-items.result.now c.tasks-task-items.ensures c.loop-k.k c.task-item.result c.loop-k-test.true c.task-item.is

pub overflow_add-counts : goal.overflow_add-counts
overflow_add-counts g c =
    let plan = c.args.self.now.plan.now in
    let tasks = c.tasks-task-items.result.now in
    let k = c.loop-k.k in
    let t = c.task-item.result in
    let few = read_count plan tasks c.tasks-task-items.ensures in
    omega (
      arith,
      c.loop-k.invariant.1 t.place (bounds-counts-task-then-meet g c),
      load_limit (closed plan) (kept_of plan) (meets (closed plan).rows c.args.self.now.dates.now c.args.i) k c.args.bank t.place (omega (arith, few, c.loop-k-test.true)),
      read_accesses plan tasks c.tasks-task-items.ensures k t c.loop-k-test.true c.task-item.is c.args.bank,
      (kept_of plan).few,
      few,
      c.loop-k-test.true,
    )

pub loop-k-preserved : goal.loop-k-preserved
loop-k-preserved g c =
    let plan = c.args.self.now.plan.now in
    let rows = (closed plan).rows in
    let tasks = c.tasks-task-items.result.now in
    let met = meets rows c.args.self.now.dates.now c.args.i in
    let k = c.loop-k.k in
    let t = c.task-item.result in
    let same = c.tasks-task-items.ensures in
    elim c.if-meet.branch [
      | then-meet w ↦ subst (Counted rows met c.args.bank (k + 1)) (sym w.counts-is) (counted_met rows met c.args.bank k c.loop-k.counts (row_of t) c.loop-k.invariant w.if-meet.ensures (read_row plan tasks same k t c.loop-k-test.true c.task-item.is) (read_place plan tasks same k t c.loop-k-test.true c.task-item.is))
      | else-meet w ↦ subst (Counted rows met c.args.bank (k + 1)) (sym w.counts-is) (counted_apart rows met c.args.bank k c.loop-k.counts c.loop-k.invariant w.if-meet.ensures)
    ]

pub returns : goal.returns
returns g c =
    let plan = c.args.self.now.plan.now in
    let rows = (closed plan).rows in
    let all : c.loop-k.k ≡ length rows = omega (arith, c.loop-k-test.false, c.loop-k.auto.k-end, read_count plan c.tasks-task-items.result.now c.tasks-task-items.ensures) in
    counted_all rows (meets rows c.args.self.now.dates.now c.args.i) c.args.bank c.loop-k.counts (subst (λ n. Counted rows (meets rows c.args.self.now.dates.now c.args.i) c.args.bank n c.loop-k.counts) all c.loop-k.invariant)
