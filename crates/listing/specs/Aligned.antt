-- How long a listing is whose numbers and names fit their columns.
use Rattle.std.specs.Prelude.{ℕ, ◌+◌, ◌*◌, ◌^◌, ◌<◌, ◌≤◌, length}
use Rattle.std.specs.List.{AllByRecursion}
use Rattle.listing.specs.declared.answer.Answer.{Answer}
use Rattle.listing.specs.declared.answer.Answer.TheVariants.{Granted, Late, Fault}
use Rattle.listing.specs.declared.answer.Row.{Row}

-- the finish of a row fits its 10 columns, and its name fits its 12
abbrev pub RowAligned : Row → Type 0
RowAligned r = (r.release + r.response < 10 ^ 10) × (length r.name.now ≤ 12)

-- every number and every name fits its columns; those of 32 bits always do
abbrev pub Aligned : Answer → Type 0
Aligned (Granted rounds rows) = (length rows.now ≤ 10 ^ 10) × AllByRecursion RowAligned rows.now
Aligned (Late row finish) = (row < 10 ^ 10) × (finish < 10 ^ 16)
Aligned (Fault number line column) = (line < 10 ^ 10) × (column < 10 ^ 10)

-- the line of the rounds then has 12 bytes, each row's 55, a late plan's 28 and a fault's 32
abbrev pub aligned_size : Answer → ℕ
aligned_size (Granted rounds rows) = 12 + 55 * length rows.now
aligned_size (Late row finish) = 28
aligned_size (Fault number line column) = 32
