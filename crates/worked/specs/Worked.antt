-- All cases that are worked by hand.
use Rattle.rings.specs.declared.ring.Ring.{Ring}
use Rattle.rings.specs.Rings.{NewRing}
use Rattle.bostan.specs.Worked.{WorkedBounds}
use Rattle.worked.specs.Analyses.{AnalysesWorked}
use Rattle.worked.specs.Breaches.{BreachWorked}
use Rattle.worked.specs.Checks.{ChecksWorked}
use Rattle.worked.specs.Refuted.{Refuted}
use Rattle.worked.specs.Sheets.{SheetWorked}
use Rattle.worked.specs.Touching.{TouchingRefuted}

-- What is worked out on a ring.
pub record WorkedOn (a : Ring) : Type 0 where
  pub analyses : AnalysesWorked a
  pub checks : ChecksWorked a
  pub breach : BreachWorked a
  pub touching : TouchingRefuted a

pub record WorkedByHand : Type 0 where
  -- Core 0 of a new pile: 24 from the ring of cores, 48 alternated, 55 in all; network receive: 6.
  pub bounds : WorkedBounds
  pub sheet : SheetWorked
  -- There are new rings of two places, and this holds of every one.
  pub new_ring : (a : Ring) × NewRing 2 a
  pub on_new_ring : (a : Ring) → NewRing 2 a → WorkedOn a
  pub refuted : Refuted
