-- What is asked of the dates of the tasks is asked of the first rows of the table.
-- Assumes nothing.
use Rattle.std.proofs.Common.{◌≡◌, ℕ, zero, suc, ◌<◌, ◌≤◌, Bool, true, false, cond, ◌&&◌, leb, ltb, List, length, Option, Some, None, take, sym, refl, ap, ◌∙◌, arith}
use Rattle.std.proofs.lemmas.Bool.{le-leb, lt-ltb}
use Rattle.std.proofs.lemmas.List.{get_or-take}
use Rattle.plan.specs.Rows.{Plan}
use Rattle.plan.specs.Rules.{period_of}
use Rattle.arbiter.specs.Meaning.{Model}
use Rattle.date_check.specs.declared.dates.Dates.{Dates}
use Rattle.date_check.specs.Sound.{dated, finish}
use Rattle.date_check.specs.Verdict.{arbiters_fit}
use Rattle.cluster.specs.declared.refusal.SetUpRefusal.{SetUpRefusal}
use Rattle.cluster.specs.declared.refusal.SetUpRefusal.TheVariants.{Arbiters, NoTask, Range, Table, Waiting}
use Rattle.cluster.specs.Calls.{all_in_range, all_quiet, asked, set_up_refusal, is_late, late_refusal, runs_in_range}
use Rattle.cluster.specs.Cycles.{lowest, or_else}
use Rattle.setup.specs.Questions.{dates_refusal}

module _ (p : Plan) (table : List Dates) (m : ℕ) where
  dated_taken : (k : ℕ) → k < m → dated (take m table) k ≡ dated table k
  dated_taken k l = get_or-take m table k _ l

  in_range_taken : (n : ℕ) → n ≤ m → all_in_range (take m table) n ≡ all_in_range table n
  in_range_taken zero l = refl
  in_range_taken (suc n) l = ap (λ d. runs_in_range d && all_in_range (take m table) n) (dated_taken n (omega arith)) ∙ ap (λ b. runs_in_range (dated table n) && b) (in_range_taken n (omega arith))

  late_taken : (n : ℕ) → n ≤ m → lowest n (is_late p (take m table)) ≡ lowest n (is_late p table)
  late_taken zero l = refl
  late_taken (suc n) l = ap (λ o. or_else o (cond (is_late p (take m table) n) (Some n) None)) (late_taken n (omega arith)) ∙ ap (λ d. or_else (lowest n (is_late p table)) (cond (ltb (period_of p.head) (finish d)) (Some n) None)) (dated_taken n (omega arith))

pub dates_taken : (p : Plan) (table : List Dates) → dates_refusal p (take (length p.rows) table) ≡ dates_refusal p table
dates_taken p table =
    let n = length p.rows in
    ap (λ b. asked b Range (late_refusal (lowest n (is_late p (take n table))))) (in_range_taken p table n n (omega arith))
    ∙ ap (λ o. asked (all_in_range table n) Range (late_refusal o)) (late_taken p table n n (omega arith))

pass : (answer : Bool) (refusal : SetUpRefusal) (rest : Option SetUpRefusal) → answer ≡ true → asked answer refusal rest ≡ rest
pass true refusal rest e = refl
pass false refusal rest e = let z : ◌≡◌ {A = ℕ} 0 1 = cc in absurd (omega arith)

-- Where all else was answered by yes, the dates decide.
pub dates_decide : {S : Type 0} (m : Model S) (p : Plan) (table : List Dates) (arbiters : List S) → 0 < length p.rows → arbiters_fit m p arbiters ≡ true → length p.rows ≤ length table → all_quiet m arbiters ≡ true → dates_refusal p (take (length p.rows) table) ≡ set_up_refusal m p table arbiters
dates_decide m p table arbiters some fit enough quiet =
    dates_taken p table
    ∙ sym (
    pass (ltb 0 (length p.rows)) NoTask _ (lt-ltb 0 (length p.rows) some)
    ∙ pass (arbiters_fit m p arbiters) Arbiters _ fit
    ∙ pass (leb (length p.rows) (length table)) Table _ (le-leb (length p.rows) (length table) enough)
    ∙ pass (all_quiet m arbiters) Waiting _ quiet
    )
