-- "Windows that touch meet": this looks right and is false.
use Rattle.std.specs.Prelude.{◌≡◌, ℕ, ◌+◌, Bool, true, false, ◌&&◌, nat_le}
use Rattle.rings.specs.declared.ring.Ring.{Ring}
use Rattle.consistency.specs.Dates.{Table, finish, meets}
use Rattle.consistency.specs.System.{System}
use Rattle.analysis.specs.Plans.{releases, responses}
use Rattle.worked.specs.Analyses.{spaced, touching_dates}

-- Meeting by that rule: each is released no later than the other's finish.
abbrev pub touches : System → Table → Table → ℕ → ℕ → ℕ → Bool
touches y rel res i r k = y.apart i k && (nat_le (rel i) (finish rel res k) && nat_le (rel k) (rel i + r))

-- Scan from 0 to 8 and steam from 8 on do not meet. By that rule they would, and scan would take 10, not 8.
pub record TouchingRefuted (a : Ring) : Type 0 where
  pub meet_not : meets (spaced a) (releases touching_dates) (responses touching_dates) 0 8 1 ≡ false
  pub touch : touches (spaced a) (releases touching_dates) (responses touching_dates) 0 8 1 ≡ true
  pub would_take : (spaced a).work 0 (touches (spaced a) (releases touching_dates) (responses touching_dates) 0 8) ≡ 10
