-- The head of a plan that has a task.
-- Assumes nothing.
use Rattle.std.proofs.Common.{◌≡◌, ◌≤◌, true, length, Some, None, Option, refl, arith}
use Rattle.std.proofs.lemmas.Bool.Decides.{nat_tests}
use Rattle.plan.specs.declared.rows.Head.{Head}
use Rattle.plan.specs.Rows.{Plan}
use Rattle.plan.specs.Rules.{Kept, banks_of, legal_heading, period_of, places_of}
use Rattle.date_check.proofs.Reading.{no_head}

legal : (o : Option Head) → legal_heading o ≡ true → (o ≡ None → ⊥) → (places_of o ≤ 32) × (banks_of o ≤ 16) × (1 ≤ period_of o)
legal None l some = absurd (some refl)
legal (Some h) l some = grind (arith, nat_tests)

pub head_limits : (p : Plan) → Kept p → 1 ≤ length p.rows → (places_of p.head ≤ 32) × (banks_of p.head ≤ 16) × (1 ≤ period_of p.head)
head_limits p kept some = legal p.head kept.headed (λ none. no_head p kept none some)
