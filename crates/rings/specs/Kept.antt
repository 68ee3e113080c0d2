-- What every ring keeps.
use Rattle.std.specs.Prelude.{◌≡◌, ℕ, ◌<◌, ◌≤◌, Bool, false, List, Some, Option, slice_index_or}

-- Nobody waits from n on.
abbrev pub Quiet : List Bool → ℕ → Type 0
Quiet waiting n = (o : ℕ) → n ≤ o → slice_index_or waiting o false ≡ false

-- The last picked source is one of n.
abbrev pub Known : Option ℕ → ℕ → Type 0
Known last n = (s : ℕ) → last ≡ Some s → s < n
