-- A number of at most ten digits leaves its column as wide as it is.
use Rattle.std.proofs.Common.{arith, length-append}
use Rattle.std.proofs.lemmas.List.{length-replicate}
use Rattle.listing.proofs.Aligns.{few_digits}
use Rattle.listing.proofs.parts.Part.len.Goals as goal

pub returns-in-Number : goal.returns-in-Number
returns-in-Number c =
    rw c.in-Number.is (simp (length-append, length-replicate) (omega (arith, few_digits c.in-Number.n c.if-n-lt-TEN_DIGITS.true, c.if-width-ge10.true)))
