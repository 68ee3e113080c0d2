-- No run breaches sound dates.
use Rattle.std.proofs.Common.{List, [], ◌∷◌, refl, arith}
use Rattle.plan.specs.Rows.{Plan}
use Rattle.plan.specs.Rules.{Kept}
use Rattle.arbiter.specs.Laws.{Lawful}
use Rattle.arbiter.specs.Meaning.{Model}
use Rattle.date_check.specs.declared.dates.Dates.{Dates}
use Rattle.date_check.specs.Verdict.{verdict}
use Rattle.date_check.proofs.Passing.{verdict_exact}
use Rattle.cluster.specs.Runs.{NeverTurnedAway, SoundUnbreached}
use Rattle.analysis.proofs.Systems.{consistent_sound}
use Rattle.safety.specs.Promises.{AnalysedChecked, CheckExact, CheckedUnbreached}
use Rattle.safety.proofs.Comings.{not_turned_away}
use Rattle.safety.proofs.Setting.{Setting}
use Rattle.safety.proofs.SettingUp.{Taken, has_arbiter, sound_sets_up, taken}
use Rattle.safety.proofs.Unbroken.{unbreached}

-- The setting of a run that was set up.
abbrev setting : {A : Type 0} (m : Model A) → Lawful m → (p : Plan) → Kept p → (table : List Dates) (arbiters : List A) (a : A) → Taken m p table arbiters a → Setting A
setting m laws p kept table arbiters a h = record {
  model = m;
  laws = laws;
  plan = p;
  kept = kept;
  table = table;
  arbiters = arbiters;
  some = a;
  one_per_bank = h.one_per_bank;
  wide = h.wide;
  quiet = h.quiet;
  takes_time = h.takes_time;
  in_period = h.in_period;
}

pub sound_unbreached : {A : Type 0} (m : Model A) → Lawful m → SoundUnbreached m
sound_unbreached m laws p table [] kept up sound = absurd (omega (arith, has_arbiter m p table [] kept up))
sound_unbreached m laws p table (a ∷ rest) kept up sound = unbreached (setting m laws p kept table (a ∷ rest) a (taken m p table (a ∷ rest) laws up a)) sound

pub never_turned_away : {A : Type 0} (m : Model A) → Lawful m → NeverTurnedAway m
never_turned_away m laws p table [] kept up = absurd (omega (arith, has_arbiter m p table [] kept up))
never_turned_away m laws p table (a ∷ rest) kept up = not_turned_away (setting m laws p kept table (a ∷ rest) a (taken m p table (a ∷ rest) laws up a))

pub check_exact : {A : Type 0} (m : Model A) → CheckExact m
check_exact m p table arbiters kept = verdict_exact m p arbiters table kept (verdict m p arbiters table) refl

pub checked_unbreached : {A : Type 0} (m : Model A) → Lawful m → CheckedUnbreached m
checked_unbreached m laws p table arbiters kept ok quiet =
    let good = (check_exact m p table arbiters kept).only_sound ok in
    let up = sound_sets_up m p table arbiters kept good.1 good.0 quiet in
    (up, sound_unbreached m laws p table arbiters kept up good.1)

pub analysed_checked : {A : Type 0} (m : Model A) → Lawful m → AnalysedChecked m
analysed_checked m laws p old new arbiters rounds kept (fits, granted) =
    (check_exact m p new arbiters kept).all_sound
    (record { some = fits.some; one_per_bank = fits.one_per_bank; wide = fits.wide; row_per_task = omega (arith, fits.row_per_task, granted.same_length) })
    (consistent_sound m laws p kept arbiters fits.wide new granted.consistent granted.in_period)
