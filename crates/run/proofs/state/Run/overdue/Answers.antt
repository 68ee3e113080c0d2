use Rattle.std.proofs.Common.{◌≡◌, true, false, rules, arith}
use Rattle.std.proofs.lemmas.Iterator.{first_from_Range}
use borrow.Author.Tests.{tests}
use Rattle.setup.proofs.Lowest.{lowest_is}
use Rattle.cluster.specs.Cycles.{is_overdue}
use Rattle.cluster.specs.States.{with_time}
use Rattle.run.specs.Views.{state, table}
use Rattle.run.proofs.state.Run.overdue.Goals as goal

pub returns : goal.returns
returns g c =
    let run = c.args.self.now in
    let f = is_overdue (table run) (with_time (state run) c.args.time) in
    let first = first_from_Range _ _ _ _ (λ k. f k ≡ true) (λ k. f k ≡ false) c.find.ensures.ran (λ x q k. search (rules, tests)) (λ x q k. search (rules, tests)) in
    rw (← c.len.ensures) (lowest_is f c.len.result c.find.result
    (λ none k l. (rw none at first) k (omega arith) l)
    (λ i some. let at = rw some at first in (at.1, at.2, λ k l. at.3 k (omega arith) l)))
