-- Precedence: the second side, the high one, goes first.
use Rattle.std.specs.Prelude.{◌+◌, min, Bool, true, false, cond, not, ◌==◌}
use Rattle.arbiter.specs.Held.{held}
use Rattle.arbiter.specs.Meaning.{Model}
use Rattle.layers.specs.declared.precedence.Precedence.{Precedence}
use Rattle.layers.specs.declared.pair.Pair.{Pair}
use Rattle.layers.specs.Pairs.{new_pair, second_waits}
use Rattle.layers.specs.Layers.{Formula, layer}

-- The sides as they are, and none picked from yet.
abbrev pub new_precedence : {L R : Type 0} → L → R → Precedence L R
new_precedence low high = record { pair = new_pair low high }

-- A low source waits for all of the other side's accesses t, a high one for at most one at each own access; b is the bound of the own side.
abbrev pub preceding : Formula
preceding true own b t = cond (own == 0) 0 (b + t)
preceding false own b t = b + min own t

module _ {L R : Type 0} (l : Model L) (r : Model R) where
  -- Low is picked from where nobody waits at high.
  abbrev pub precedes : Pair L R → Bool
  precedes a = not (second_waits l r a)

  -- What a precedence of low l and high r means.
  abbrev pub precedence : Model (Precedence L R)
  precedence = held (λ a. a.pair) (layer l r precedes preceding)
