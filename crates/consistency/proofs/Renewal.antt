-- Two rounds side by side: where their releases agree before a date, the renewed releases agree up to it.
use Rattle.std.proofs.Common.{◌≡◌, ℕ, suc, ◌<◌, ◌≤◌, true, sym, ap, ◌∙◌, arith}
use Rattle.consistency.specs.System.{System, Lawful}
use Rattle.consistency.specs.Dates.{Table, finish, ready, Covered, Released, Round}
use Rattle.consistency.proofs.Induction.{by_rows}
use Rattle.consistency.proofs.Latest.{latest_first, latest_marked, latest_least}
use Rattle.consistency.proofs.Worst.{covered_positive, smallest_covered}
use Rattle.consistency.proofs.Comparison.{SameBefore, ends_no_later}

-- What b releases before s, a releases no later.
abbrev pub NoLater : System → ℕ → Table → Table → Type 0
NoLater y s a b = (k : ℕ) → k < y.tasks → b k < s → a k ≤ b k

-- The tasks that either releases before s are released at the same dates by both.
pub record Agree (y : System) (s : ℕ) (a b : Table) : Type 0 where
  pub forth : NoLater y s a b
  pub back : NoLater y s b a

pub agree_none : {y : System} {a b : Table} → Agree y 0 a b
agree_none = record { forth = λ k h j. absurd (omega arith); back = λ k h j. absurd (omega arith) }

pub agree_before : {y : System} {s : ℕ} {a b : Table} → Agree y s a b → SameBefore y s a b
agree_before g k h j = let p = g.back k h j in omega (arith, g.forth k h (omega arith))

pub agree_swap : {y : System} {s : ℕ} {a b : Table} → Agree y s a b → Agree y s b a
agree_swap g = record { forth = g.back; back = g.forth }

pub agree_sooner : {y : System} {s t : ℕ} {a b : Table} → s ≤ t → Agree y t a b → Agree y s a b
agree_sooner h g = record { forth = λ k hk j. g.forth k hk (omega arith); back = λ k hk j. g.back k hk (omega arith) }

module _ (y : System) (l : Lawful y) where
  -- If tasks that end by s under rel' end no later under rel, then what rel' releases by s, rel releases no later.
  module _ (rel res rel' res' : Table) (g : Released y rel res) (g' : Released y rel' res') (positive : (k : ℕ) → k < y.tasks → 1 ≤ res' k) (s : ℕ) (ends : (k : ℕ) → k < y.tasks → rel' k < s → rel k ≤ rel' k → finish rel' res' k ≤ s → finish rel res k ≤ finish rel' res' k) where
    -- By rows: all that i waits for has ended by its date under rel', and so under rel.
    released_next : (i : ℕ) → ((k : ℕ) → k < i → k < y.tasks → rel' k ≤ s → rel k ≤ rel' k) → i < y.tasks → rel' i ≤ s → rel i ≤ rel' i
    released_next i rows h by = omega (arith, g i h, start, l.start_ordered (ready y rel res i) (rel' i) ready_by)
      where
        ready_by' : ready y rel' res' i ≤ rel' i
        ready_by' = omega (arith, g' i h, l.start_after (ready y rel' res' i))

        ended : (k : ℕ) → k < i → y.waits i k ≡ true → finish rel res k ≤ rel' i
        ended k j waits =
            let hk : k < y.tasks = omega arith in
            let ended' : finish rel' res' k ≤ rel' i = omega (arith, ready_by', latest_marked (y.earliest i) (y.waits i) (finish rel' res') i k j waits) in
            let some = positive k hk in
            omega (arith, ends k hk (omega arith) (rows k j hk (omega arith)) (omega arith))

        ready_by : ready y rel res i ≤ rel' i
        ready_by = latest_least (y.earliest i) (y.waits i) (finish rel res) i (rel' i) (omega (arith, ready_by', latest_first (y.earliest i) (y.waits i) (finish rel' res') i)) ended

        start : y.start (rel' i) ≡ rel' i
        start = ap y.start (g' i h) ∙ l.start_steady (ready y rel' res' i) ∙ sym (g' i h)

    pub released_no_later : (i : ℕ) → i < y.tasks → rel' i ≤ s → rel i ≤ rel' i
    released_no_later = by_rows (λ i. i < y.tasks → rel' i ≤ s → rel i ≤ rel' i) released_next

  -- If what rel releases before s is released at the same dates by rel', then what is renewed by s from rel' is renewed no later from rel.
  -- The last premise: no task compared was released later than it now is from rel', so that one which now ends by s did so before.
  pub renewed_no_later : {rel res new rel' res' new' : Table} → Round y rel res new → Round y rel' res' new' → (s : ℕ) → SameBefore y s rel rel' → ((k : ℕ) → k < y.tasks → new' k < s → new k ≤ new' k → rel k ≤ new' k) → NoLater y (suc s) new new'
  renewed_no_later {rel} {res} {new} {rel'} {res'} {new'} r r' s same kept i h by =
      released_no_later new res new' res' r.released r'.released (covered_positive y l rel' res' covered) s ends i h (omega arith)
    where
      covered : Covered y rel' res'
      covered = smallest_covered y l rel' res' r'.responses

      ends : (k : ℕ) → k < y.tasks → new' k < s → new k ≤ new' k → finish new' res' k ≤ s → finish new res k ≤ finish new' res' k
      ends k hk before p ended =
          let not_after = kept k hk before p in
          let at = same k hk (omega arith) in
          omega (arith, ends_no_later y l rel res rel' res' r.responses covered s same k hk (omega arith) (omega arith))
