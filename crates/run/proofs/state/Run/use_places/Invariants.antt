use Rattle.std.proofs.Common.{◌≡◌, ◌++◌, map, take, drop}
use Rattle.cluster.specs.declared.place.Event.TheVariants.{CycleUsed}
use Rattle.cluster.specs.Places.{after}
use Rattle.run.proofs.state.Run.use_places.Given as goal

abbrev pub invariant-loop-place : goal.invariant-loop-place
invariant-loop-place g l = l.place-items ≡ map (λ x. after x CycleUsed) (take l.place-index l.initial.place-items) ++ drop l.place-index l.initial.place-items
