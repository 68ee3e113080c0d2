use Rattle.std.proofs.Common.{sym, arith}
use Rattle.arbiter.specs.Given.{model}
use Rattle.layers.proofs.Calls.{posted_second}
use Rattle.layers.proofs.pair.Pair.post.Goals as goal

pub returns-then-fits-clause-state : goal.returns-then-fits-clause-state
returns-then-fits-clause-state g c =
    posted_second (model g.L.Arbiter) (model g.R.Arbiter) c.args.self.now c.args.s c.post-then-fits.new.self c.post-then-fits.result (sym c.if-fits.ensures) (omega (arith, c.width-n.ensures, c.if-s-n.false))
    (rw c.width-n.ensures at c.post-then-fits.ensures.state)
