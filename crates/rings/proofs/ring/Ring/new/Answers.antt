use Rattle.std.proofs.Common.{false, refl, rules}
use Rattle.arbiter.proofs.Lists.{getD_replicate_same}
use Rattle.rings.proofs.ring.Ring.new.Goals as goal

pub invariant_of-result-clause-quiet : goal.invariant_of-result-clause-quiet
invariant_of-result-clause-quiet c = λ o h. getD_replicate_same 32 o false

pub returns : goal.returns
returns c = record { width = search rules; idle = λ s. getD_replicate_same 32 s false; last = refl }
