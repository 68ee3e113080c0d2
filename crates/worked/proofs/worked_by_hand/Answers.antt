use Rattle.std.proofs.Common.{false, None, refl}
use Rattle.bostan.proofs.LevelBounds.{worked}
use Rattle.worked.proofs.Analysed.{analyses_worked, checks_worked}
use Rattle.worked.proofs.Counterexamples.{refuted, touching_refuted}
use Rattle.worked.proofs.Overdue.{breach_worked}
use Rattle.worked.proofs.SampleSheet.{sheet_worked}
use Rattle.worked.proofs.TwoSources.{known_none, new_two, two}
use Rattle.worked.proofs.worked_by_hand.Goals as goal

pub returns : goal.returns
returns c = record {
  answer = refl;
  cases = record {
    bounds = worked;
    sheet = sheet_worked;
    new_ring = (two false false None known_none, new_two);
    on_new_ring = λ a new. record {
      analyses = analyses_worked a new;
      checks = checks_worked a new;
      breach = breach_worked a new;
      touching = touching_refuted a new;
    };
    refuted = refuted;
  };
}
