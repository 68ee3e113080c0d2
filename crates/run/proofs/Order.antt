-- The steps of a cycle, in their order.
-- Assumes nothing.
use Rattle.std.proofs.Common.{◌≡◌, ◌+◌, None, ap, ◌∙◌}
use Rattle.plan.specs.Plans.{closed}
use Rattle.plan.specs.Rules.{banks_of, latency_of}
use Rattle.arbiter.specs.Meaning.{Model}
use Rattle.cluster.specs.Calls.{Cycling}
use Rattle.cluster.specs.Cycles.{Turns, all_ended, all_retired, close, used}
use Rattle.cluster.specs.States.{State, with_time}
use Rattle.run.specs.declared.state.Run.{Run}
use Rattle.run.specs.Views.{Goes, Moves, Stays, planned, state, table}
use Rattle.run.proofs.Steps.{stays_then}
use Rattle.run.proofs.Unbroken.{all_ended_keeps, all_retired_keeps, turns_keep}

module _ {A : Type 0} (m : Model A) where
  abbrev grown : State A → State A
  grown s = with_time s (s.time + 1)

  same_plan : (r q : Run A) → Stays r q → planned q ≡ planned r
  same_plan r q kept = ap (λ p. closed p.now) kept.0

  module _ (r a b c d : Run A)
      (picks : Moves (Turns m (latency_of (planned r).head) (banks_of (planned r).head)) r a)
      (uses : Goes used a b)
      (ends : Goes (all_ended (planned b)) b c)
      (retires : Goes (all_retired (planned c)) c d) where
    at_b : Stays r b
    at_b = stays_then r a b picks.stays uses.stays

    at_c : Stays r c
    at_c = stays_then r b c at_b ends.stays

    at_d : Stays r d
    at_d = stays_then r c d at_c retires.stays

    pub still_unbroken : r.breach ≡ None → d.breach ≡ None
    still_unbroken none =
        ap (λ s. s.breach) retires.leaves ∙ all_retired_keeps (planned c) (state c)
        ∙ ap (λ s. s.breach) ends.leaves ∙ all_ended_keeps (planned b) (state b)
        ∙ ap (λ s. s.breach) uses.leaves ∙ turns_keep m (latency_of (planned r).head) (banks_of (planned r).head) (state r) (state a) picks.moves
        ∙ none

    done : state d ≡ all_retired (planned r) (all_ended (planned r) (used (state a)))
    done =
        retires.leaves
        ∙ ap (λ p. all_retired p (state c)) (same_plan r c at_c)
        ∙ ap (all_retired (planned r)) (ends.leaves ∙ ap (λ p. all_ended p (state b)) (same_plan r b at_b) ∙ ap (all_ended (planned r)) uses.leaves)

    pub cycled : (e : Run A) → Goes (λ s. close (planned d) (table d) (grown s)) d e → Moves (Cycling m (planned r) (table r)) r e
    cycled e closes = record {
      moves = record {
        picked = state a;
        turns = picks.moves;
        leaves =
            closes.leaves
            ∙ ap (λ p. close p (table d) (grown (state d))) (same_plan r d at_d)
            ∙ ap (λ x. close (planned r) x.now (grown (state d))) at_d.1
            ∙ ap (λ s. close (planned r) (table r) (grown s)) done;
      };
      stays = stays_then r d e at_d closes.stays;
    }
