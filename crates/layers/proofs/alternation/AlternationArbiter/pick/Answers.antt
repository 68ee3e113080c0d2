use Rattle.std.proofs.Common.{ap, subst, rules}
use Rattle.arbiter.specs.Given.{model}
use Rattle.arbiter.proofs.HeldLaws.{held_picking}
use Rattle.layers.specs.declared.alternation.Alternation.{Alternation}
use Rattle.layers.specs.Alternations.{alternating, alternates}
use Rattle.layers.specs.Layers.{layer}
use Rattle.layers.specs.Pairs.{AfterDraw}
use Rattle.layers.proofs.Calls.{picking}
use Rattle.layers.specs.MakeLaws.{alternates_leads}
use Rattle.layers.proofs.alternation.AlternationArbiter.pick.Goals as goal

pub returns : goal.returns
returns g c =
    let l = model g.L.Arbiter in
    let r = model g.R.Arbiter in
    held_picking {T = Alternation g.row.L.Denot g.row.R.Denot} (λ a. a.pair) (layer l r (alternates l r) alternating) c.args.self.now record { pair = c.draw.new.self } c.draw.result (λ e. ap {B = Alternation g.row.L.Denot g.row.R.Denot} (λ p. record { pair = p }) e)
    (picking l r (alternates l r) alternating (alternates_leads l r g.met.L.Arbiter.lawful g.met.R.Arbiter.lawful) c.args.self.now.pair c.draw.new.self c.draw.result (subst (λ x. AfterDraw l r x c.args.self.now.pair c.draw.new.self c.draw.result) (search rules) c.draw.ensures))
