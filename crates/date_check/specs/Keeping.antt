-- What soundness does not depend on.
use Rattle.std.specs.Prelude.{◌≡◌, ℕ, ◌<◌, List, [], ◌∷◌, length}
use Rattle.plan.specs.Rows.{Plan}
use Rattle.plan.specs.Rules.{Kept}
use Rattle.arbiter.specs.Meaning.{Keeps, Model}
use Rattle.date_check.specs.declared.dates.Dates.{Dates}
use Rattle.date_check.specs.Sound.{Sound, dated}

-- Each arbiter of the second list has the width and the bounds of the one at the same place in the first.
abbrev pub AllKeep : {S : Type 0} → Model S → List S → List S → Type 0
AllKeep m [] [] = Unit {0}
AllKeep m [] (b ∷ ys) = ⊥
AllKeep m (a ∷ xs) [] = ⊥
AllKeep m (a ∷ xs) (b ∷ ys) = Keeps m a b × AllKeep m xs ys

pub record SoundnessKeeps {S : Type 0} (m : Model S) : Type 0 where
  -- Dates are sound in every state of the arbiters, if in one.
  pub states : (p : Plan) (before after : List S) (table : List Dates) → AllKeep m before after → Sound m p before table → Sound m p after table
  -- Of a plan that keeps its rules, only the tasks' own rows of the table count.
  pub rows : (p : Plan) (arbiters : List S) (table other : List Dates) → Kept p → ((i : ℕ) → i < length p.rows → dated other i ≡ dated table i) → Sound m p arbiters table → Sound m p arbiters other
