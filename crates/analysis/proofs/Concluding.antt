-- From the last round to the answer.
-- Assumes nothing.
use Rattle.std.proofs.Common.{◌≡◌, ℕ, ◌-◌, ◌<◌, ◌≤◌, ◌++◌, List, length, drop, take, IfOk, Ok, Err, Result, refl, sym, ap, ◌∙◌, subst, arith}
use Rattle.std.proofs.lemmas.List.{get_or-append_right, get_or-drop, get_or_append_left, length-append, length-drop, length-take-le, take-append-drop}
use Rattle.plan.specs.Rules.{period_of}
use Rattle.arbiter.specs.declared.Arbiter.{Ghosts}
use Rattle.arbiter.specs.Given.{model}
use Rattle.arbiter.specs.Laws as arbiters_keep
use Rattle.date_check.specs.declared.dates.Dates.{Dates}
use Rattle.date_check.specs.Sound.{Fits, Sound, dated}
use Rattle.consistency.specs.Dates.{Rounds, Same, Table, finish}
use Rattle.consistency.specs.System as systems
use Rattle.consistency.proofs.Consistent.{unmoved_consistent}
use Rattle.consistency.proofs.Releases.{released_same}
use Rattle.consistency.proofs.Responses.{responses_same}
use Rattle.consistency.proofs.Rounds.{count_limit, reached_same}
use Rattle.analysis.specs.declared.refusal.Refusal.{Refusal}
use Rattle.analysis.specs.declared.refusal.Refusal.TheVariants as refused
use Rattle.analysis.specs.declared.system.System.{System}
use Rattle.analysis.specs.declared.tables.Found.{Found}
use Rattle.analysis.specs.declared.tables.Windows.{Windows}
use Rattle.analysis.specs.Answers.{Answer, Granted, LateRow}
use Rattle.analysis.specs.Plans.{releases, responses}
use Rattle.analysis.specs.Systems.{plan_in, system_of}
use Rattle.analysis.specs.Workings.{Decided, Filled, FoundBy, LowestLate, finish_in, release_in, response_in}
use Rattle.analysis.proofs.Systems.{consistent_sound}
use Rattle.analysis.proofs.Times.{kept, lawful_system, one_per_bank, wide}

-- Only rows of tasks count.
rounds_same : (y : systems.System) → systems.Lawful y → {count : ℕ} {rel res rel' res' : Table} → Same y rel rel' → Same y res res' → Rounds y count rel res → Rounds y count rel' res'
rounds_same y l {rel = rel} {res = res} {rel' = rel'} {res' = res'} p q r = record {
  before = r.before;
  counted = r.counted;
  reached = reached_same p r.reached;
  last = record { responses = responses_same y l rel res rel' res' p q r.last.responses; released = released_same y rel res rel' res' p q r.last.released };
}

-- The rows of tasks were written, and the others stayed.
module _ (w : Windows) (old front : List Dates) (n : ℕ) (rows : n ≤ length old) (long : length front ≡ n) where
  new_length : length (front ++ drop n old) ≡ length old
  new_length = omega (arith, length-append front (drop n old), length-drop n old)

  new_filled : Filled w front → (i : ℕ) → i < n → dated (front ++ drop n old) i ≡ record { release = release_in w i; response = response_in w i }
  new_filled filled i h = get_or_append_left front (drop n old) _ i (omega arith) ∙ filled i (omega arith)

  new_others : (i : ℕ) → n ≤ i → dated (front ++ drop n old) i ≡ dated old i
  new_others i h = get_or-append_right front (drop n old) n i _ long h ∙ get_or-drop n old (i - n) _ ∙ ap (dated old) (omega arith)

module _ {S : Type 0} {d : Ghosts S} (s : System S d) (laws : arbiters_keep.Lawful (model d)) (found : Found) (rounds : FoundBy (system_of s) found) (some : 1 ≤ length (plan_in s).rows) (old front : List Dates) (n : ℕ) (all : n ≡ length (plan_in s).rows) (rows : n ≤ length old) (long : length front ≡ n) where
  abbrev new : List Dates
  new = front ++ drop n old

  fits_table : (table : List Dates) → length table ≡ length old → Fits (model d) (plan_in s) s.arbiters.now table
  fits_table table e = record { some = some; one_per_bank = one_per_bank s; wide = wide s; row_per_task = omega arith }

  late_row : (i f : ℕ) → LowestLate n (period_of (plan_in s).head) (finish_in found.windows) i → f ≡ finish_in found.windows i → LateRow (model d) (plan_in s) s.arbiters.now i f
  late_row i f low e = record { rel = release_in found.windows; res = response_in found.windows; consistent = unmoved_consistent rounds.last; task = omega (arith, low.task); ends = e; late = omega (arith, low.late); lowest = low.lowest }

  module _ (filled : Filled found.windows front) (fits : (i : ℕ) → i < n → finish_in found.windows i ≤ period_of (plan_in s).head) where
    read_release : Same (system_of s) (release_in found.windows) (releases new)
    read_release i h = sym (ap (λ d. d.release) (new_filled found.windows old front n rows long filled i (omega arith)))

    read_response : Same (system_of s) (response_in found.windows) (responses new)
    read_response i h = sym (ap (λ d. d.response) (new_filled found.windows old front n rows long filled i (omega arith)))

    counted_table : Rounds (system_of s) found.rounds (releases new) (responses new)
    counted_table = rounds_same (system_of s) (lawful_system s laws) read_release read_response rounds

    in_time : (i : ℕ) → i < length (plan_in s).rows → finish (releases new) (responses new) i ≤ period_of (plan_in s).head
    in_time i h = omega (arith, read_release i h, read_response i h, fits i (omega arith))

    granted : Granted (model d) (plan_in s) s.arbiters.now old new found.rounds
    granted = record {
      consistent = unmoved_consistent counted_table.last;
      in_period = in_time;
      counted = counted_table;
      few = count_limit (system_of s) (lawful_system s laws) some counted_table;
      same_length = new_length found.windows old front n rows long;
      others = λ i h. new_others found.windows old front n rows long i (omega arith);
    }

    granted_sound : Sound (model d) (plan_in s) s.arbiters.now new
    granted_sound = consistent_sound (model d) laws (plan_in s) (kept s) s.arbiters.now (wide s) new (unmoved_consistent counted_table.last) in_time

  -- What is decided of the dates that were found is the answer, and what is granted is sound.
  pub concluded : (r : Result ℕ Refusal) → Decided (period_of (plan_in s).head) found (take n old) front r → Answer (model d) (plan_in s) s.arbiters.now old new r × IfOk r (λ _. Fits (model d) (plan_in s) s.arbiters.now new × Sound (model d) (plan_in s) s.arbiters.now new)
  concluded (Ok count) (e, fits, filled) =
      let in_rows : (i : ℕ) → i < n → finish_in found.windows i ≤ period_of (plan_in s).head = λ i h. fits i (omega (arith, length-take-le n old rows)) in (
        (fits_table old refl, subst (Granted (model d) (plan_in s) s.arbiters.now old new) (sym e) (granted filled in_rows)),
        (fits_table new (new_length found.windows old front n rows long), granted_sound filled in_rows),
      )
  concluded (Err (refused.Late i f)) (low, e, same) =
      let first : LowestLate n (period_of (plan_in s).head) (finish_in found.windows) i = subst (λ k. LowestLate k (period_of (plan_in s).head) (finish_in found.windows) i) (length-take-le n old rows) low in
      ((fits_table old refl, late_row i f first e, ap (λ xs. xs ++ drop n old) same ∙ take-append-drop n old), tt)
  concluded (Err refused.NoTask) z = absurd z
  concluded (Err refused.Arbiters) z = absurd z
  concluded (Err refused.Table) z = absurd z
