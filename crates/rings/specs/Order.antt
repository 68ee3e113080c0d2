-- The order in which a ring looks at its sources: upwards from the source after the last picked, round to 0.
use Rattle.std.specs.Prelude.{◌≡◌, ℕ, suc, ◌+◌, ◌-◌, ◌≤◌, Bool, true, false, cond, Some, None, Option, nat_lt}

-- The place of source o in this order, for n sources and a last pick; from 0 if none was picked.
abbrev pub rank : ℕ → Option ℕ → ℕ → ℕ
rank n None o = o
rank n (Some l) o = cond (nat_lt l o) (o - suc l) ((o + n) - suc l)

-- Source s waits, and no waiting source comes before it.
pub record First (n : ℕ) (last : Option ℕ) (waiting : ℕ → Bool) (s : ℕ) : Type 0 where
  pub waited : waiting s ≡ true
  pub first : (o : ℕ) → waiting o ≡ true → rank n last s ≤ rank n last o

-- The first waiting source, or none if nobody waits.
abbrev pub FirstWaiting : ℕ → Option ℕ → (ℕ → Bool) → Option ℕ → Type 0
FirstWaiting n last waiting None = (o : ℕ) → waiting o ≡ false
FirstWaiting n last waiting (Some s) = First n last waiting s
