use Rattle.arbiter.specs.Given.{model}
use Rattle.analysis.proofs.Systems.{dated_plan}
use Rattle.analysis.proofs.dating.plans_are_dated.Goals as goal

pub returns-then-dates_are_determined-clause-law : goal.returns-then-dates_are_determined-clause-law
returns-then-dates_are_determined-clause-law g c p arbiters kept wide =
    dated_plan (model g.A.Arbiter) g.met.A.Arbiter.lawful p kept c.dates_are_determined.ensures.law c.rounds_end.ensures.law arbiters wide
