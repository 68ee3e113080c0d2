use Rattle.std.proofs.Common.{sym, ◌∙◌, arith, length-take}
use Rattle.arbiter.proofs.FairBounds.{fair_cut}
use Rattle.arbiter.proofs.fair.fair_sum.Goals as goal

pub returns : goal.returns
returns c = c.loop-o.invariant.0 ∙ sym (fair_cut c.args.width c.loop-o.o c.args.s c.args.own c.args.counts.now c.requires.1.full (omega (arith, c.requires.1.full, length-take c.min.result c.args.counts.now)))
