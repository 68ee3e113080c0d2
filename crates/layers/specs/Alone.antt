-- A layer whose widths add to more than 32 is its first side alone.
use Rattle.std.specs.Prelude.{◌≡◌, ℕ, ◌+◌, ◌<◌, List}
use Rattle.arbiter.specs.Answers.{Accepts}
use Rattle.arbiter.specs.Meaning.{Model}
use Rattle.layers.specs.declared.pair.Pair.{Pair}

-- All that the layer m answers at a, its first side l answers.
pub record Alone {L S : Type 0} (l : Model L) (first : S → L) (m : Model S) (a : S) : Type 0 where
  pub width : m.width a ≡ l.width (first a)
  pub waiting : (s : ℕ) → m.waiting a s ≡ l.waiting (first a) s
  pub bound : (s own : ℕ) (xs : List ℕ) → Accepts (l.width (first a)) s own xs → m.bound a s own xs ≡ l.bound (first a) s own xs
  pub posted : (s : ℕ) (b : S) → m.posted a s b → l.posted (first a) s (first b)
  pub picked : (s : ℕ) (b : S) → m.picked a s b → l.picked (first a) s (first b)

-- The layer m of sides l and r is alone wherever their widths add to more than 32.
abbrev pub AloneWhereTooWide : {L R S : Type 0} → Model L → Model R → (S → Pair L R) → Model S → Type 0
AloneWhereTooWide {S = S} l r pair m = (a : S) → 32 < l.width (pair a).first + r.width (pair a).second → Alone l (λ x. (pair x).first) m a
