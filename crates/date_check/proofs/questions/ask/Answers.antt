use Rattle.std.proofs.Common.{arith, rules}
use Rattle.date_check.proofs.Passing.{range_taken}
use Rattle.date_check.proofs.questions.ask.Goals as goal

pub returns-then-not-all_in_range-clause-answer : goal.returns-then-not-all_in_range-clause-answer
returns-then-not-all_in_range-clause-answer g c = let e = range_taken c.args.dates.now c.len-rows.result (omega arith) in search (rules, e)

pub returns-clause-answer : goal.returns-clause-answer
returns-clause-answer g c = let e = range_taken c.args.dates.now c.len-rows.result (omega arith) in search (rules, e)
