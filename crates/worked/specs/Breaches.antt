-- A run of scan and steam that breaks its dates, call by call.
use Rattle.std.specs.Prelude.{◌≡◌, ℕ, List, [], ◌∷◌, replicate, Some, None, Ok, Result}
use Rattle.plan.specs.Rows.{Plan}
use Rattle.rings.specs.declared.ring.Ring.{Ring}
use Rattle.rings.specs.Rings.{ring}
use Rattle.date_check.specs.declared.dates.Dates.{Dates}
use Rattle.cluster.specs.declared.breach.Breach.TheVariants.{Overdue}
use Rattle.cluster.specs.declared.refusal.CallRefusal.{CallRefusal}
use Rattle.cluster.specs.Calls.{Ask, Cycle, set_up, set_up_refusal}
use Rattle.cluster.specs.Runs.{Comes}
use Rattle.cluster.specs.States.{State}
use Rattle.worked.specs.Plans.{dates, scan_and_steam}

-- Both tasks start at 0, with the responses that each would have alone.
abbrev pub plan : Plan
plan = scan_and_steam 20 0

abbrev pub short_dates : List Dates
short_dates = dates 0 8 ∷ dates 0 6 ∷ []

pub data Call : Type 0 where
  ask : (place bank : ℕ) → Call
  cycle : Call

abbrev pub CallAnswer : Type 0
CallAnswer = Result (Unit {0}) CallRefusal

-- These calls, with these answers, lead from one state to another.
pub data Leads : State Ring → List Call → List CallAnswer → State Ring → Type 0 where
  stop : {s : State Ring} → Leads s [] [] s
  then_ask : {s t u : State Ring} {q b : ℕ} {r : CallAnswer} {cs : List Call} {rs : List CallAnswer} → Ask ring plan s q b r t → Leads t cs rs u → Leads s (ask q b ∷ cs) (r ∷ rs) u
  then_cycle : {s t u : State Ring} {r : CallAnswer} {cs : List Call} {rs : List CallAnswer} → Cycle ring plan short_dates s r t → Leads t cs rs u → Leads s (cycle ∷ cs) (r ∷ rs) u

-- Scan, at place 0, asks for bank 0 three times; steam, at place 1, once.
abbrev pub calls : List Call
calls = ask 0 0 ∷ ask 1 0 ∷ cycle ∷ ask 0 0 ∷ cycle ∷ cycle ∷ ask 0 0 ∷ cycle ∷ cycle ∷ cycle ∷ cycle ∷ cycle ∷ []

-- Scan is at work at its finish date: a breach of row 0, at time 8.
pub record ScanOverdue (a : Ring) (t : State Ring) : Type 0 where
  pub comes : Comes ring plan short_dates (a ∷ []) t
  pub breach : t.breach ≡ Some (Overdue 0)
  pub time : t.time ≡ 8

pub record BreachWorked (a : Ring) : Type 0 where
  pub set_up_taken : set_up_refusal ring plan short_dates (a ∷ []) ≡ None
  -- A run goes through the calls, all accepted, and every run through them ends so.
  pub some_run : (t : State Ring) × Leads (set_up plan short_dates (a ∷ [])) calls (replicate 12 (Ok tt)) t
  pub every_run : (t : State Ring) (rs : List CallAnswer) → Leads (set_up plan short_dates (a ∷ [])) calls rs t → (rs ≡ replicate 12 (Ok tt)) × ScanOverdue a t
