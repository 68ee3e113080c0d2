-- What cutting the first line off the bytes of a sheet gives.
use Rattle.std.specs.Prelude.{◌≡◌, ◌<◌, ◌≤◌, ℕ, List, ◌∷◌, ◌++◌, length, drop}
use Rattle.sheet.specs.Reading.{lines}

-- l is the first line of bs
pub record First (bs l : List ℕ) : Type 0 where
  pub cut : lines bs ≡ l ∷ lines (drop (length l) bs)
  pub whole : bs ≡ l ++ drop (length l) bs
  pub some : 0 < length l
  pub inside : length l ≤ length bs
