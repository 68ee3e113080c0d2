use Rattle.std.proofs.Common.{ap, subst, rules}
use Rattle.arbiter.specs.Given.{model}
use Rattle.arbiter.proofs.HeldLaws.{held_picking}
use Rattle.layers.specs.declared.precedence.Precedence.{Precedence}
use Rattle.layers.specs.Precedences.{preceding, precedes}
use Rattle.layers.specs.Layers.{layer}
use Rattle.layers.specs.Pairs.{AfterDraw}
use Rattle.layers.proofs.Calls.{picking}
use Rattle.layers.specs.MakeLaws.{precedes_leads}
use Rattle.layers.proofs.precedence.PrecedenceArbiter.pick.Goals as goal

pub returns : goal.returns
returns g c =
    let l = model g.L.Arbiter in
    let r = model g.R.Arbiter in
    held_picking {T = Precedence g.row.L.Denot g.row.R.Denot} (λ a. a.pair) (layer l r (precedes l r) preceding) c.args.self.now record { pair = c.draw.new.self } c.draw.result (λ e. ap {B = Precedence g.row.L.Denot g.row.R.Denot} (λ p. record { pair = p }) e)
    (picking l r (precedes l r) preceding (precedes_leads l r g.met.L.Arbiter.lawful g.met.R.Arbiter.lawful) c.args.self.now.pair c.draw.new.self c.draw.result (subst (λ x. AfterDraw l r x c.args.self.now.pair c.draw.new.self c.draw.result) (search rules) c.draw.ensures))
