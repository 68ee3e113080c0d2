-- Rings: what their posts and picks do, and their bound.
use Rattle.std.specs.Prelude.{◌≡◌, ℕ, ◌<◌, Bool, true, false, Some, None, slice_index_or, slice_set}
use Rattle.arbiter.specs.Fair.{fair_bound}
use Rattle.arbiter.specs.Meaning.{Model}
use Rattle.rings.specs.declared.ring.Ring.{Ring}
use Rattle.rings.specs.Order.{First}

-- Does s wait?
abbrev pub ring_waiting : Ring → ℕ → Bool
ring_waiting a s = slice_index_or a.waiting s false

-- A new ring of n sources: nobody waits, and nobody was picked.
pub record NewRing (n : ℕ) (a : Ring) : Type 0 where
  pub width : a.width ≡ n
  pub idle : (s : ℕ) → ring_waiting a s ≡ false
  pub last : a.last ≡ None

-- An accepted post makes s wait.
pub record Posted (a : Ring) (s : ℕ) (b : Ring) : Type 0 where
  pub known : s < a.width
  pub free : ring_waiting a s ≡ false
  pub waiting : b.waiting ≡ slice_set a.waiting s true
  pub last : b.last ≡ a.last
  pub width : b.width ≡ a.width

-- A pick takes the first waiting source in the ring's order, which is then the last picked.
pub record Picked (a : Ring) (s : ℕ) (b : Ring) : Type 0 where
  pub first : First a.width a.last (ring_waiting a) s
  pub waiting : b.waiting ≡ slice_set a.waiting s false
  pub last : b.last ≡ Some s
  pub width : b.width ≡ a.width

-- What a ring means.
abbrev pub ring : Model Ring
ring = record {
  width = λ a. a.width;
  waiting = ring_waiting;
  last = λ a. a.last;
  bound = λ a s own xs. fair_bound a.width s own xs;
  posted = Posted;
  picked = Picked;
}
