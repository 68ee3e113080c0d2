use Rattle.std.proofs.Common.{◌≡◌, ◌^◌, ◌<◌, drop}
use Rattle.std.specs.Str.Parse.{digits_value, digits_value_after}
use Rattle.sheet.proofs.fields.value_of.Given as goal

abbrev pub invariant-loop-d : goal.invariant-loop-d
invariant-loop-d l =
    (digits_value_after 10 l.total (drop l.d-index l.digits) ≡ digits_value 10 l.digits)
    × (l.total < 10 ^ l.d-index)
