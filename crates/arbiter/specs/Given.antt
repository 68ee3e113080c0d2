-- The meaning of a type that is an arbiter.
use Rattle.arbiter.specs.declared.Arbiter.{Ghosts}
use Rattle.arbiter.specs.Meaning.{Model}

-- Under a bound `A: Arbiter` it is `model A.Arbiter`, or `A.model` in a clause.
abbrev pub model : {A : Type 0} → Ghosts A → Model A
model g = g.model
