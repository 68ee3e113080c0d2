use Rattle.consistency.proofs.Consistent.{unmoved_consistent}
use Rattle.consistency.proofs.Rounds.{last_exists, count_unique, count_limit}
use Rattle.consistency.proofs.ending.rounds_end.Goals as goal

pub returns-clause-law : goal.returns-clause-law
returns-clause-law c y l =
    record {
      last_exists = last_exists y l;
      last_consistent = λ count rel res p. unmoved_consistent p.last;
      count_unique = λ count count' rel res rel' res'. count_unique y l;
      count_limit = λ count rel res. count_limit y l;
    }
