-- Each call has the tenth part of the number.
use Rattle.listing.proofs.parts.+digits.Given as goal

abbrev pub decreases-digits : goal.decreases-digits
decreases-digits l = l.n
