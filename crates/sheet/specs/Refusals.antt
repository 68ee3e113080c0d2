-- The numbers of the refusals.
use Rattle.std.specs.Prelude.{ℕ}
use Rattle.sheet.specs.declared.faults.Cause.{Cause}
use Rattle.sheet.specs.declared.faults.Cause.TheVariants.{UnknownLetter, WrongLength, IllFormedField, UnknownMake}

-- the number of the question that a line fails
abbrev pub refusal : Cause → ℕ
refusal UnknownLetter = 1
refusal WrongLength = 2
refusal IllFormedField = 3
refusal UnknownMake = 5
