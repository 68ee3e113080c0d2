use Rattle.std.proofs.Common.{rules, tests}
use Rattle.std.proofs.lemmas.Fn.{always_returns_same}
use Rattle.sheet.proofs.Splits.{first_parts}
use Rattle.sheet.proofs.cutting.first_line.Goals as goal

pub returns : goal.returns
returns c =
    first_parts c.args.bytes.now c.split_inclusive.result.rest.now _ c.next.result _ _ _ c.split_inclusive.ensures.rest
    (always_returns_same _ _ _ (λ a r q k. search (rules, tests))) c.next.ensures.steps
