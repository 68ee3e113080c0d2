use Rattle.std.proofs.Common.{length}
use Rattle.plan.specs.Plans.{opened}
use Rattle.sheet.specs.Place.{count, left, remaining}
use Rattle.sheet.specs.Reading.{whole_reading}
use Rattle.loader.proofs.Progress.{Progress}
use Rattle.loader.proofs.loading.load.Given as goal

abbrev pub invariant-loop-loaded : goal.invariant-loop-loaded
invariant-loop-loaded l = Progress (opened l.fn.plan) (whole_reading l.fn.bytes) (count l.sheet) (remaining l.sheet) l.loaded (opened l.plan)

abbrev pub decreases-loop-loaded : goal.decreases-loop-loaded
decreases-loop-loaded l = length (left l.sheet)
