-- Dates of the plans on a ring of two places, worked out by hand.
use Rattle.std.specs.Prelude.{◌≡◌, ℕ, List, [], ◌∷◌, length, Ok, Err}
use Rattle.rings.specs.declared.ring.Ring.{Ring}
use Rattle.rings.specs.Rings.{ring}
use Rattle.date_check.specs.declared.dates.Dates.{Dates}
use Rattle.consistency.specs.Dates.{Rounds, Smallest, worst}
use Rattle.consistency.specs.System.{System}
use Rattle.analysis.specs.Answers.{Answer}
use Rattle.analysis.specs.Plans.{ConsistentDates, releases, responses, system}
use Rattle.analysis.specs.declared.refusal.Refusal.TheVariants.{Late}
use Rattle.worked.specs.Plans.{dates, sample, scan_and_steam}

-- Scan and steam meet, and filter waits for scan.
abbrev pub sample_dates : List Dates
sample_dates = dates 0 10 ∷ dates 0 8 ∷ dates 10 3 ∷ []

-- Scan and steam meet.
abbrev pub meeting_dates : List Dates
meeting_dates = dates 0 10 ∷ dates 0 8 ∷ []

-- Steam is released when scan ends, so they only touch.
abbrev pub touching_dates : List Dates
touching_dates = dates 0 8 ∷ dates 8 6 ∷ []

-- Steam is released at 7, before scan ends.
abbrev pub overlapping_dates : List Dates
overlapping_dates = dates 0 10 ∷ dates 7 8 ∷ []

-- Scan and steam with steam's earliest date 8.
abbrev pub spaced : Ring → System
spaced a = system ring (scan_and_steam 20 8) (a ∷ [])

-- What scan takes at worst if its response is r, and steam is released at 8 with a response of 6.
abbrev pub scan_takes : Ring → ℕ → ℕ
scan_takes a r = worst (spaced a) (releases touching_dates) (responses touching_dates) 0 r

pub record AnalysesWorked (a : Ring) : Type 0 where
  -- The sample's dates come out of exactly two rounds,
  pub sample_rounds : Rounds (system ring sample (a ∷ [])) 2 (releases sample_dates) (responses sample_dates)
  -- and the analysis grants them.
  pub sample_granted : (old : List Dates) → length old ≡ 3 → Answer ring sample (a ∷ []) old sample_dates (Ok 2)
  -- Scan and steam alone are granted finishes 10 and 8 at period 10; at 9, row 0 is late with 10.
  pub granted : (old : List Dates) → length old ≡ 2 → Answer ring (scan_and_steam 10 0) (a ∷ []) old meeting_dates (Ok 1)
  pub late : (old : List Dates) → length old ≡ 2 → Answer ring (scan_and_steam 9 0) (a ∷ []) old old (Err (Late 0 10))
  -- With steam's earliest date 8 they touch. For scan 10 balances as well as 8, but is not the smallest number that does.
  pub touching : ConsistentDates ring (scan_and_steam 20 8) (a ∷ []) touching_dates
  pub balances : scan_takes a 8 ≡ 8
  pub balances_too : scan_takes a 10 ≡ 10
  pub not_smallest : ¬ Smallest (λ r. scan_takes a r ≡ r) 10
  -- With 7 they meet.
  pub overlapping : ConsistentDates ring (scan_and_steam 20 7) (a ∷ []) overlapping_dates
