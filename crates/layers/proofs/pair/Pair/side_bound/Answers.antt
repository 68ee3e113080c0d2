use Rattle.std.proofs.Common.{arith}
use Rattle.arbiter.specs.Given.{model}
use Rattle.layers.specs.Pairs.{pair_width}
use Rattle.layers.specs.Limits.{accepted, first_answer, second_answer}
use Rattle.layers.proofs.pair.Pair.side_bound.Goals as goal

pub returns-then-s-n-clause-facts : goal.returns-then-s-n-clause-facts
returns-then-s-n-clause-facts g c =
    let l = model g.L.Arbiter in
    let r = model g.R.Arbiter in
    let a = c.args.self.now in
    let s = c.args.s in
    let own = c.args.own in
    let xs = c.args.counts.now in
    let ok = accepted c.width.result (pair_width l r a) s own xs c.in_ok-accept.field-0 c.in_ok-accept.ensures.answer c.width.ensures in
    (first_answer l r g.met.L.Arbiter.lawful g.met.R.Arbiter.lawful a s own xs ok (omega (arith, c.width-n.ensures, c.if-s-n.true)) c.bound.result c.bound.ensures).1

pub returns-else-s-n : goal.returns-else-s-n
returns-else-s-n g c =
    let l = model g.L.Arbiter in
    let r = model g.R.Arbiter in
    let a = c.args.self.now in
    let s = c.args.s in
    let own = c.args.own in
    let xs = c.args.counts.now in
    let ok = accepted c.width.result (pair_width l r a) s own xs c.in_ok-accept.field-0 c.in_ok-accept.ensures.answer c.width.ensures in
    let side = second_answer l r g.met.L.Arbiter.lawful g.met.R.Arbiter.lawful a s own xs ok (omega (arith, c.width-n.ensures, c.if-s-n.false)) c.width-n.result c.shift.result c.bound-else-s-n.result c.width-n.ensures c.shift.ensures c.bound-else-s-n.ensures in
    record { answer = side.0; facts = side.1 }
