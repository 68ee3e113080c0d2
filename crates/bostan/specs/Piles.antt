-- The Bostan pile.
use Rattle.std.specs.Prelude.{◌≡◌, ℕ, false, None}
use Rattle.arbiter.specs.Meaning.{Model}
use Rattle.rings.specs.declared.ring.Ring.{Ring}
use Rattle.rings.specs.Rings.{ring, NewRing}
use Rattle.layers.specs.declared.alternation.Alternation.{Alternation}
use Rattle.layers.specs.declared.precedence.Precedence.{Precedence}
use Rattle.layers.specs.Alternations.{alternation, new_alternation}
use Rattle.layers.specs.Precedences.{new_precedence, precedence}

-- Its low side alternates a ring of cores and a ring of units, and its high side is a ring of one.
abbrev pub Low : Type 0
Low = Alternation Ring Ring

abbrev pub Pile : Type 0
Pile = Precedence Low Ring

abbrev pub bostan_low : Model Low
bostan_low = alternation ring ring

abbrev pub bostan : Model Pile
bostan = precedence bostan_low ring

-- Its parts.
abbrev pub low_side : Pile → Low
low_side a = a.pair.first

abbrev pub cores : Pile → Ring
cores a = (low_side a).pair.first

abbrev pub units : Pile → Ring
units a = (low_side a).pair.second

abbrev pub receive : Pile → Ring
receive a = a.pair.second

-- A new pile has 16 cores, 3 units and network receive; nobody waits, and nobody was picked.
pub record NewPile (a : Pile) : Type 0 where
  pub new_cores : NewRing 16 (cores a)
  pub new_units : NewRing 3 (units a)
  pub new_receive : NewRing 1 (receive a)
  pub width : bostan.width a ≡ 20
  pub idle : (s : ℕ) → bostan.waiting a s ≡ false
  pub last : bostan.last a ≡ None

-- Its layers have not picked from a side yet.
pub record IsUnpicked (a : Pile) : Type 0 where
  pub low : low_side a ≡ new_alternation (cores a) (units a)
  pub whole : a ≡ new_precedence (low_side a) (receive a)
