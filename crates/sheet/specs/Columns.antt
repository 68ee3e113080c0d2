-- Text and numbers in columns.
use Rattle.std.specs.Prelude.{ℕ, ◌-◌, List, ◌++◌, length, replicate, decimal}

-- text right-justified in w columns
abbrev pub justified : ℕ → List ℕ → List ℕ
justified w text = replicate (w - length text) 32 ++ text

-- a number in decimal, right-justified in w columns
abbrev pub column : ℕ → ℕ → List ℕ
column w n = justified w (decimal n)
