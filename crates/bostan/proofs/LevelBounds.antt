-- The worked bounds compute from the definitions once the widths are known.
use Rattle.std.proofs.Common.{ℕ, ◌+◌, ◌-◌, cond, ltb, leb, List, ap, ◌∙◌}
use Rattle.arbiter.specs.Counts.{others_sum}
use Rattle.arbiter.specs.Fair.{fair_bound}
use Rattle.layers.specs.Alternations.{alternating}
use Rattle.layers.specs.Bounds.{shifted, same_side}
use Rattle.bostan.specs.Piles.{units}
use Rattle.bostan.specs.Worked.{against_core, WorkedBounds}

-- The bound of the low side, by the widths of its two rings.
abbrev low_bound : ℕ → ℕ → ℕ → ℕ → List ℕ → ℕ
low_bound n m s own xs =
    alternating (ltb s n) own (cond (ltb s n) (fair_bound n s own xs) (fair_bound m (s - n) own (shifted n xs))) (others_sum (same_side n s) (cond (leb (n + m) 32) (n + m) n) xs)

pub worked : WorkedBounds
worked a k =
    let x = k.new_cores.width in
    let y = k.new_units.width in
    let z = k.new_receive.width in
    record {
      ring_of_cores = rw x;
      alternated = ap (λ n. low_bound n (units a).width 0 10 against_core) x ∙ ap (λ m. low_bound 16 m 0 10 against_core) y;
      in_all = rw (x, y, z);
      of_receive = rw (x, y, z);
    }
