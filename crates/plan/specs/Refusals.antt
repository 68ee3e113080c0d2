-- The numbers of the plan's refusals.
use Rattle.std.specs.Prelude.{ℕ}
use Rattle.plan.specs.declared.rows.Refusal.{Refusal}
use Rattle.plan.specs.declared.rows.Refusal.TheVariants.{Order, Range, Full, Unknown, Twice, Memory}

abbrev pub number_of : Refusal → ℕ
number_of Order = 4
number_of Range = 5
number_of Full = 6
number_of Unknown = 7
number_of Twice = 8
number_of Memory = 0
