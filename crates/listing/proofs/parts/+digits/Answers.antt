-- A number has one digit more than its tenth part.
use Rattle.std.proofs.Common.{◌≡◌, ◌+◌, ◌/◌, ◌%◌, length, decimal, sym, ap, ◌∙◌, arith}
use Rattle.std.proofs.lemmas.Fmt.{decimal_digit, decimal_step, length-decimal-le}
use Rattle.std.proofs.lemmas.List.{length_push}
use Rattle.listing.proofs.parts.+digits.Goals as goal

pub returns-then-n-lt10 : goal.returns-then-n-lt10
returns-then-n-lt10 t c = record { count = sym (ap length (decimal_digit c.args.n (omega arith))); few = omega arith }

pub returns-else-n-lt10 : goal.returns-else-n-lt10
returns-else-n-lt10 t c =
    let n = c.args.n in
    let more : length (decimal n) ≡ length (decimal (n / 10)) + 1 = ap length (decimal_step n (omega arith) (omega arith)) ∙ length_push (decimal (n / 10)) (48 + n % 10) in
    record { count = omega arith; few = omega (arith, length-decimal-le 20 n (omega arith) (omega arith) (omega arith)) }
