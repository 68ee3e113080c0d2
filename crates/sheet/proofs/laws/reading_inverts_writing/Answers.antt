use Rattle.sheet.proofs.Inverses.{inverse}
use Rattle.sheet.proofs.laws.reading_inverts_writing.Goals as goal

pub returns-clause-exact : goal.returns-clause-exact
returns-clause-exact c = inverse
