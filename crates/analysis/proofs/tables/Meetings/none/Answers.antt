use Rattle.std.proofs.Common.{false, [], replicate, ◌∙◌}
use Rattle.std.proofs.lemmas.List.{get_or-replicate}
use Rattle.arbiter.proofs.Lists.{getD_replicate_same}
use Rattle.analysis.specs.Workings.{marked}
use Rattle.analysis.proofs.Marks.{loads_none}
use Rattle.analysis.proofs.tables.Meetings.none.Goals as goal

pub returns-clause-loads : goal.returns-clause-loads
returns-clause-loads c rows b l = get_or-replicate 16 b (replicate 32 0) [] l ∙ loads_none rows (marked (replicate 256 false)) (λ k. getD_replicate_same 256 k false) b

pub returns-clause-nobody : goal.returns-clause-nobody
returns-clause-nobody c k = getD_replicate_same 256 k false
