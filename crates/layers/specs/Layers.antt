-- A layer: a pair with a rule for picks and a formula for bounds.
use Rattle.std.specs.Prelude.{ℕ, Bool, List, nat_lt}
use Rattle.arbiter.specs.Meaning.{Model}
use Rattle.layers.specs.declared.pair.Pair.{Pair}
use Rattle.layers.specs.Pairs.{pair_width, pair_waiting, pair_last, PairPosted, Drawn}
use Rattle.layers.specs.Bounds.{side_bound, other_side}

-- From what a bound follows: whether the source is of the first side, its own accesses, the bound of its side, and the accesses of the other side.
abbrev pub Formula : Type 0
Formula = Bool → ℕ → ℕ → ℕ → ℕ

module _ {L R : Type 0} (l : Model L) (r : Model R) where
  -- The bound of a layer, by its formula.
  abbrev pub layer_bound : Formula → Pair L R → ℕ → ℕ → List ℕ → ℕ
  layer_bound formula a s own xs = formula (nat_lt s (l.width a.first)) own (side_bound l r a s own xs) (other_side l r a s xs)

  -- What a layer means; the rule says whether the next pick is from the first side.
  abbrev pub layer : (Pair L R → Bool) → Formula → Model (Pair L R)
  layer rule formula = record {
    width = pair_width l r;
    waiting = pair_waiting l r;
    last = pair_last l r;
    bound = layer_bound formula;
    posted = PairPosted l r;
    picked = λ a s b. Drawn l r a s b (rule a);
  }
