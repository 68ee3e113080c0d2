use Rattle.std.proofs.Common.{◌≡◌, ◌+◌, ◌<◌, false, [], length, get_or, set, refl, ap, ◌∙◌, arith}
use Rattle.plan.specs.Plans.{closed}
use Rattle.plan.specs.Rows.{accesses, row_of}
use Rattle.date_check.proofs.Reading.{kept_of, read_count, read_place, read_row}
use Rattle.analysis.specs.Workings.{marked}
use Rattle.analysis.proofs.Marks.{adding_more, loads_added, sum_within}
use Rattle.analysis.proofs.tables.Meetings.add.Goals as goal

pub bounds-self-task : goal.bounds-self-task
bounds-self-task c = read_place c.args.plan.now c.tasks.result.now c.tasks.ensures c.args.k c.index-tasks-k.result (omega (arith, read_count c.args.plan.now c.tasks.result.now c.tasks.ensures)) c.index-tasks-k.is

pub offset_bounds-self-task : goal.offset_bounds-self-task
offset_bounds-self-task c = omega (arith, read_place c.args.plan.now c.tasks.result.now c.tasks.ensures c.args.k c.index-tasks-k.result (omega (arith, read_count c.args.plan.now c.tasks.result.now c.tasks.ensures)) c.index-tasks-k.is)

pub bounds-self-task-in-loop-bank : goal.bounds-self-task-in-loop-bank
bounds-self-task-in-loop-bank c = read_place c.args.plan.now c.tasks.result.now c.tasks.ensures c.args.k c.index-tasks-k.result (omega (arith, read_count c.args.plan.now c.tasks.result.now c.tasks.ensures)) c.index-tasks-k.is

pub overflow_add-self : goal.overflow_add-self
overflow_add-self c =
    let plan = c.args.plan.now in
    let tasks = c.tasks.result.now in
    let k = c.args.k in
    let t = c.index-tasks-k.result in
    let l : k < length tasks = omega (arith, read_count plan tasks c.tasks.ensures) in
    let b = c.loop-bank.bank in
    let marks = c.loop-bank.self.met in
    let inside : k < length marks = omega (arith, (kept_of plan).few, c.loop-bank.self.marks) in
    let free : marked marks k ≡ false = ap (λ xs. marked xs k) c.loop-bank.invariant.0 ∙ c.requires.free in
    omega (arith, sum_within (closed plan).rows marks k c.requires.known inside free b (row_of t) (read_row plan tasks c.tasks.ensures k t l c.index-tasks-k.is) (read_place plan tasks c.tasks.ensures k t l c.index-tasks-k.is) (get_or c.loop-bank.self.loads b []) (c.loop-bank.invariant.2 b (omega arith) c.loop-bank-test.true) (closed plan) (kept_of plan) refl)

pub loop-bank-preserved : goal.loop-bank-preserved
loop-bank-preserved c =
    let plan = c.args.plan.now in
    let tasks = c.tasks.result.now in
    let k = c.args.k in
    let t = c.index-tasks-k.result in
    let l : k < length tasks = omega (arith, read_count plan tasks c.tasks.ensures) in
    let b = c.loop-bank.bank in
    let table = c.loop-bank.self.loads in
    let marks = c.loop-bank.self.met in
    let inside : k < length marks = omega (arith, (kept_of plan).few, c.loop-bank.self.marks) in
    let free : marked marks k ≡ false = ap (λ xs. marked xs k) c.loop-bank.invariant.0 ∙ c.requires.free in
    let rows = (closed plan).rows in
    let xs = get_or table b [] in
    let new = loads_added rows marks k c.requires.known inside free b (row_of t) (read_row plan tasks c.tasks.ensures k t l c.index-tasks-k.is) (read_place plan tasks c.tasks.ensures k t l c.index-tasks-k.is) xs (c.loop-bank.invariant.2 b (omega arith) c.loop-bank-test.true) in
    let step = adding_more rows marks k c.requires.known inside free b table (set xs t.place (get_or xs t.place 0 + accesses (row_of t) b)) (omega (arith, c.loop-bank.self.banks)) new (c.loop-bank.invariant.1, c.loop-bank.invariant.2) in
    (c.loop-bank.invariant.0, step.0, step.1)
