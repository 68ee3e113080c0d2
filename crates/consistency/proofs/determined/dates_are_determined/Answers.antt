use Rattle.consistency.proofs.Responses.{responses_exist, responses_unique, responses_least}
use Rattle.consistency.proofs.Consistent.{dates_exist, dates_unique}
use Rattle.consistency.proofs.determined.dates_are_determined.Goals as goal

pub returns-clause-law : goal.returns-clause-law
returns-clause-law c y l =
    record {
      responses_exist = responses_exist y l;
      responses_unique = responses_unique y l;
      responses_least = responses_least y l;
      dates_exist = dates_exist y l;
      dates_unique = λ rel res rel' res'. dates_unique y l;
    }
