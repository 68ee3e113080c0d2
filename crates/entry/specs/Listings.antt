-- The listing of a sheet, in memory that is lent.
use Rattle.std.specs.Prelude.{◌≡◌, ℕ, ◌<◌, ◌≤◌, List, ◌++◌, length, drop}
use Rattle.answering.specs.Listings.{Answers}

-- A text that the memory holds stands at its front, and all behind it is as it was; for a longer one the answer is 0, and nothing has changed.
pub data Put (text before : List ℕ) (n : ℕ) (after : List ℕ) : Type 0 where
  held : length text ≤ length before → n ≡ length text → after ≡ text ++ drop n before → Put text before n after
  short : length before < length text → n ≡ 0 → after ≡ before → Put text before n after

-- The listing that answers the sheet is put into the memory. If its making finds no memory, the answer is 0, too.
pub data Listed (sheet before : List ℕ) (n : ℕ) (after : List ℕ) : Type 0 where
  put : (text : List ℕ) → Answers sheet text → Put text before n after → Listed sheet before n after
  starved : n ≡ 0 → after ≡ before → Listed sheet before n after
