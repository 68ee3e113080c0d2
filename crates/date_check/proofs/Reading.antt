-- What a closed plan keeps, and its tasks and its head as they are read.
-- Assumes nothing.
use Rattle.std.proofs.Common.{◌≡◌, ℕ, ◌<◌, ◌≤◌, true, List, map, length, get_or, Some, None, Option, sym, ap, ◌∙◌, subst, arith}
use Rattle.std.proofs.lemmas.List.{length-map}
use Rattle.std.proofs.lemmas.Bool.Decides.{nat_tests}
use Rattle.plan.specs.declared.closed.ClosedPlan.{ClosedPlan}
use Rattle.plan.specs.declared.rows.Head.{Head}
use Rattle.plan.specs.declared.rows.Task.{Task}
use Rattle.plan.specs.Plans.{closed}
use Rattle.plan.specs.Rows.{Plan, accesses, row, row_of}
use Rattle.plan.specs.Rules.{Kept, legal_heading, places_of, latency_of, period_of}
use Rattle.plan.proofs.Keeping.{known}
use Rattle.plan.proofs.Views.{row_at}

pub kept_of : (plan : ClosedPlan) → Kept (closed plan)
kept_of plan = known (closed plan) plan.kept

pub few_places : (o : Option Head) → legal_heading o ≡ true → places_of o ≤ 32
few_places None l = omega arith
few_places (Some h) l = grind (arith, nat_tests)

-- The tasks that were read stand for the rows, one by one.
module _ (plan : ClosedPlan) (tasks : List Task) (same : map row_of tasks ≡ (closed plan).rows) where
  pub read_count : length tasks ≡ length (closed plan).rows
  read_count = sym (length-map tasks row_of) ∙ ap length same

  module _ (k : ℕ) (t : Task) (l : k < length tasks) (at : t ≡ get_or tasks k t) where
    pub read_below : k < length (closed plan).rows
    read_below = omega (arith, read_count)

    pub read_row : row_of t ≡ row (closed plan).rows k
    read_row = row_at tasks k t l at ∙ ap (λ rows. row rows k) same

    pub read_place : t.place < 32
    read_place =
        omega (arith, ap (λ r. r.place) read_row, ((kept_of plan).legal k read_below).placed, few_places (closed plan).head (kept_of plan).headed)

    pub read_accesses : (bank : ℕ) → accesses (row_of t) bank ≤ 65535
    read_accesses bank = subst (λ r. accesses r bank ≤ 65535) (sym read_row) (((kept_of plan).legal k read_below).light bank)

pub short_task : (plan : ClosedPlan) (k : ℕ) (t : Task) → k < length (closed plan).rows → row_of t ≡ row (closed plan).rows k → t.cycles ≤ 1000000
short_task plan k t l at = omega (arith, ap (λ r. r.cycles) at, ((kept_of plan).legal k l).short)

headless : (o : Option Head) (place : ℕ) → o ≡ None → place < places_of o → ⊥
headless None place e l = omega arith
headless (Some h) place e l = let z : ◌≡◌ {A = ℕ} 0 1 = cc in omega arith

-- A plan without a head has no task.
pub no_head : (p : Plan) → Kept p → p.head ≡ None → 1 ≤ length p.rows → ⊥
no_head p kept e some = headless p.head _ e (kept.legal 0 some).placed

pub low_latency : (o : Option Head) → legal_heading o ≡ true → latency_of o ≤ 64
low_latency None l = omega arith
low_latency (Some h) l = grind (arith, nat_tests)

pub short_period : (o : Option Head) → legal_heading o ≡ true → period_of o ≤ 1000000000
short_period None l = omega arith
short_period (Some h) l = grind (arith, nat_tests)
