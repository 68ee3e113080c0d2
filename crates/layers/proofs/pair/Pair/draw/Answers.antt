use Rattle.std.proofs.Common.{◌+◌, sym, refl, ap}
use Rattle.layers.specs.Pairs.{from_first, from_second}
use Rattle.layers.proofs.pair.Pair.draw.Goals as goal

pub returns-then-first : goal.returns-then-first
returns-then-first g c = rw c.if-first.true (from_first c.in_ok-o.ensures refl refl)

pub returns : goal.returns
returns g c = rw c.if-first.false (from_second c.in_ok-o-2.o (sym c.if-not-fits.ensures) (ap (λ n. n + c.in_ok-o-2.o) c.width-n.ensures) c.in_ok-o-2.ensures refl refl)
