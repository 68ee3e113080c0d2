use Rattle.std.proofs.Common.{sym, refl, subst, add-one}
use Rattle.arbiter.specs.Given.{model}
use Rattle.plan.specs.Plans.{closed}
use Rattle.plan.specs.Rules.{latency_of}
use Rattle.cluster.specs.Cycles.{Turn, Turns, next_turn, no_turn}
use Rattle.run.specs.Views.{planned, state}
use Rattle.run.proofs.Steps.{stays_then}
use Rattle.run.proofs.state.Run.pick_all.Goals as goal

pub loop-b-init : goal.loop-b-init
loop-b-init g c = record { moves = no_turn; stays = (refl, refl) }

pub loop-b-preserved : goal.loop-b-preserved
loop-b-preserved g c =
    let m = model g.A.Arbiter in
    let first = c.args.self.now in
    let run = c.loop-b.self in
    let next = c.turn.new.self in
    let so = c.loop-b.invariant in
    let turn = subst (λ p. Turn m (latency_of (closed p.now).head) c.loop-b.b (state run) (state next)) so.stays.0 c.turn.ensures.moves in
    record {
      moves = subst (λ n. Turns m (latency_of (planned first).head) n (state first) (state next)) (sym (add-one c.loop-b.b)) (next_turn so.moves turn);
      stays = stays_then first run next so.stays c.turn.ensures.stays;
    }
