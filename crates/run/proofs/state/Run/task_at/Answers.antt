use Rattle.std.proofs.Common.{arith}
use Rattle.date_check.proofs.Reading.{read_count, read_place}
use Rattle.run.proofs.state.Run.task_at.Goals as goal

pub returns-clause-placed : goal.returns-clause-placed
returns-clause-placed g c =
    let plan = c.args.self.now.plan.now in
    let tasks = c.tasks.result.now in
    read_place plan tasks c.tasks.ensures c.args.row c.index-tasks-row.result (omega (arith, c.requires, read_count plan tasks c.tasks.ensures)) c.index-tasks-row.is
