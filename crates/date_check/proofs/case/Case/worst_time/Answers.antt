use Rattle.std.proofs.Common.{arith}
use Rattle.date_check.proofs.Limits.{latency_limit}
use Rattle.date_check.proofs.Reading.{short_task}
use Rattle.date_check.proofs.case.Case.worst_time.Goals as goal

pub overflow_mul-result : goal.overflow_mul-result
overflow_mul-result g c = omega (arith, latency_limit c.extent.result.latency c.count_services.result c.extent.ensures.limits.latency c.count_services.ensures.bound)

pub overflow_add-result : goal.overflow_add-result
overflow_add-result g c =
    omega (
      arith,
      latency_limit c.extent.result.latency c.count_services.result c.extent.ensures.limits.latency c.count_services.ensures.bound,
      short_task c.args.self.now.plan.now c.args.i c.task.result.now c.requires c.task.ensures,
    )
