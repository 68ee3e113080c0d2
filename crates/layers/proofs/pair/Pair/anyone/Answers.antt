use Rattle.std.proofs.Common.{sym, ◌∙◌}
use Rattle.arbiter.specs.Given.{model}
use Rattle.layers.proofs.Calls.{anyone_first, anyone_second}
use Rattle.layers.proofs.pair.Pair.anyone.Goals as goal

pub returns-then-first_waits : goal.returns-then-first_waits
returns-then-first_waits g c = c.if-first_waits.true ∙ sym (anyone_first (model g.L.Arbiter) (model g.R.Arbiter) c.args.self.now (sym c.if-first_waits.ensures))

pub returns-else-first_waits : goal.returns-else-first_waits
returns-else-first_waits g c = c.second_waits.ensures ∙ anyone_second (model g.L.Arbiter) (model g.R.Arbiter) c.args.self.now (sym c.if-first_waits.ensures)
