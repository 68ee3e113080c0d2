-- The row of the task that is wanted.
use Rattle.std.specs.Prelude.{ℕ, ◌-◌, ◌==◌, if◌then◌else◌, List, Some, None, Option, bytes_eq, length, position}
use Rattle.std.specs.Borrow.{Bor}

-- The row of the newest task.
abbrev pub newest : List (Bor (List ℕ)) → Option ℕ
newest names = if length names == 0 then None else Some (length names - 1)

-- The first row of this name; for an empty name the newest.
abbrev pub wanted_row : List ℕ → List (Bor (List ℕ)) → Option ℕ
wanted_row name names = if length name == 0 then newest names else position (λ n. bytes_eq n.now name) names
