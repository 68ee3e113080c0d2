use Rattle.answering.proofs.OneListing.{one_listing}
use Rattle.answering.proofs.uniqueness.sheets_have_one_listing.Goals as goal

pub returns-clause-one : goal.returns-clause-one
returns-clause-one c = one_listing c.plans_are_dated.ensures.law c.plans_are_dated-2.ensures.law
