use Rattle.std.proofs.Common.{sym, ◌∙◌, arith}
use Rattle.arbiter.specs.Given.{model}
use Rattle.layers.proofs.Others.{other_of_first, other_of_second, other_few}
use Rattle.layers.proofs.pair.Pair.other_side.Goals as goal

pub total-requires : goal.total-requires
total-requires g c =
    rw (c.width.ensures, c.width-n.ensures) (omega (
      arith,
      other_few (model g.L.Arbiter) (model g.R.Arbiter) g.met.L.Arbiter.lawful.steps c.args.self.now c.args.s c.args.counts.now c.requires,
      other_of_first (model g.L.Arbiter) (model g.R.Arbiter) g.met.L.Arbiter.lawful.steps c.args.self.now c.args.s c.args.counts.now c.requires (omega (arith, c.width-n.ensures)),
    ))

pub total-requires-else-s-n : goal.total-requires-else-s-n
total-requires-else-s-n g c =
    rw c.width-n.ensures (omega (
      arith,
      other_few (model g.L.Arbiter) (model g.R.Arbiter) g.met.L.Arbiter.lawful.steps c.args.self.now c.args.s c.args.counts.now c.requires,
      other_of_second (model g.L.Arbiter) (model g.R.Arbiter) g.met.L.Arbiter.lawful.steps c.args.self.now c.args.s c.args.counts.now c.requires (omega (arith, c.width-n.ensures)),
    ))

pub returns-then-s-n-clause-value : goal.returns-then-s-n-clause-value
returns-then-s-n-clause-value g c = c.total.ensures.value ∙ rw (c.width.ensures, c.width-n.ensures) (sym (other_of_first (model g.L.Arbiter) (model g.R.Arbiter) g.met.L.Arbiter.lawful.steps c.args.self.now c.args.s c.args.counts.now c.requires (omega (arith, c.width-n.ensures))))

pub returns-else-s-n-clause-value : goal.returns-else-s-n-clause-value
returns-else-s-n-clause-value g c = c.total-else-s-n.ensures.value ∙ rw c.width-n.ensures (sym (other_of_second (model g.L.Arbiter) (model g.R.Arbiter) g.met.L.Arbiter.lawful.steps c.args.self.now c.args.s c.args.counts.now c.requires (omega (arith, c.width-n.ensures))))
