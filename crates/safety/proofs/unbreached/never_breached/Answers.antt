use Rattle.std.proofs.Common.{refl}
use Rattle.arbiter.specs.Given.{model}
use Rattle.safety.proofs.Theorem.{analysed_checked, check_exact, checked_unbreached, never_turned_away, sound_unbreached}
use Rattle.safety.proofs.unbreached.never_breached.Goals as goal

pub returns : goal.returns
returns g c = record {
  answer = refl;
  sound = sound_unbreached (model g.A.Arbiter) g.met.A.Arbiter.lawful;
  exact = check_exact (model g.A.Arbiter);
  checked = checked_unbreached (model g.A.Arbiter) g.met.A.Arbiter.lawful;
  analysed = analysed_checked (model g.A.Arbiter) g.met.A.Arbiter.lawful;
  asks = never_turned_away (model g.A.Arbiter) g.met.A.Arbiter.lawful;
}
