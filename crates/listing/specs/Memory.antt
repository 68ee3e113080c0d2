-- What writing a text into memory does to it.
use Rattle.std.specs.Prelude.{◌≡◌, ℕ, ◌^◌, ◌<◌, ◌≤◌, List, ◌++◌, length, drop, Ok, Err, Option, Result}
use Rattle.std.specs.Option.{SomeIff}
use Rattle.listing.specs.declared.answer.Short.{Short}

-- the number of the refusal of memory that is too short
abbrev pub short_memory : ℕ
short_memory = 11

-- a length is answered, or none where it takes more than 64 bits
abbrev pub Measured : Option ℕ → ℕ → Type 0
Measured r n = SomeIff r (n < 2 ^ 64) n

-- a text that the memory holds stands at its front, its length is answered, and all behind it is as it was;
-- one that is longer than the memory is refused, and nothing has changed
abbrev pub Listed : List ℕ → List ℕ → Result ℕ Short → List ℕ → Type 0
Listed text before (Ok n) after = (length text ≤ length before) × (n ≡ length text) × (after ≡ text ++ drop n before)
Listed text before (Err e) after = (length before < length text) × (after ≡ before)

-- a text was written at the front of the memory, n is its length, and all behind it is as it was
pub record AtFront (text before : List ℕ) (n : ℕ) (after : List ℕ) : Type 0 where
  pub size : n ≡ length text
  pub memory : after ≡ text ++ drop n before
