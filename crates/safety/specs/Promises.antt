-- From the check and the analysis to runs.
use Rattle.std.specs.Prelude.{◌≡◌, ℕ, true, List, None, Ok}
use Rattle.plan.specs.Rows.{Plan}
use Rattle.plan.specs.Rules.{Kept}
use Rattle.arbiter.specs.Meaning.{Model}
use Rattle.date_check.specs.declared.dates.Dates.{Dates}
use Rattle.date_check.specs.Verdict.{Exact, verdict}
use Rattle.analysis.specs.Answers.{Answer}
use Rattle.cluster.specs.Calls.{all_quiet, set_up_refusal}
use Rattle.cluster.specs.Runs.{Unbreached}

-- The check passes a table exactly if it fits and its dates are sound.
abbrev pub CheckExact : {A : Type 0} → Model A → Type 0
CheckExact {A} m = (p : Plan) (table : List Dates) (arbiters : List A) → Kept p → Exact m p arbiters table (verdict m p arbiters table)

-- What the check passes, set-up takes as long as nobody waits at the arbiters, and no run under it breaches.
abbrev pub CheckedUnbreached : {A : Type 0} → Model A → Type 0
CheckedUnbreached {A} m = (p : Plan) (table : List Dates) (arbiters : List A) → Kept p → verdict m p arbiters table ≡ Ok tt → all_quiet m arbiters ≡ true → (set_up_refusal m p table arbiters ≡ None) × Unbreached m p table arbiters

-- What the analysis hands out, the check passes.
abbrev pub AnalysedChecked : {A : Type 0} → Model A → Type 0
AnalysedChecked {A} m = (p : Plan) (old new : List Dates) (arbiters : List A) (rounds : ℕ) → Kept p → Answer m p arbiters old new (Ok rounds) → verdict m p arbiters new ≡ Ok tt
