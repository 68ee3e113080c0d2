use Rattle.std.proofs.Common.{◌≡◌, ◌+◌, set, sym, subst, arith}
use Rattle.cluster.specs.declared.place.Event.TheVariants.{CycleUsed}
use Rattle.cluster.specs.declared.place.Place.TheVariants.{Idle}
use Rattle.cluster.specs.Places.{after}
use Rattle.run.proofs.Steps.{mapped, mapped_more}
use Rattle.run.proofs.state.Run.use_places.Goals as goal

pub loop-place-preserved : goal.loop-place-preserved
loop-place-preserved g c =
    let run = c.args.self.now in
    let k = c.loop-place.place-index in
    subst (λ x. set c.loop-place.place-items k x ≡ mapped (λ y. after y CycleUsed) (k + 1) run.places) (sym c.on.ensures) (mapped_more (λ y. after y CycleUsed) run.places c.loop-place.place-items k Idle (omega (arith, run.placed, c.loop-place-test.true)) c.loop-place.invariant)
