-- Releases by the rule exist for any responses, and lie below a limit that the system alone gives.
use Rattle.std.proofs.Common.{◌≡◌, ℕ, zero, suc, ◌+◌, ◌<◌, ◌≤◌, true, sym, refl, ap, ◌∙◌, inl, inr, arith}
use Rattle.std.proofs.lemmas.Bool.{cases_lt, cases_eq}
use Rattle.consistency.specs.System.{System, Lawful}
use Rattle.consistency.specs.Dates.{Table, Same, AtMost, finish, ready, release_date, Released}
use Rattle.consistency.proofs.Induction.{by_rows}
use Rattle.consistency.proofs.Latest.{latest_least, latest_same}
use Rattle.consistency.proofs.Worst.{crowded}

-- The rule reads the finishes of the rows before its own.
pub release_date_same : (y : System) (rel res rel' res' : Table) (i : ℕ) → ((k : ℕ) → k < i → finish rel res k ≡ finish rel' res' k) → release_date y rel res i ≡ release_date y rel' res' i
release_date_same y rel res rel' res' i same = ap y.start (latest_same (y.earliest i) (y.waits i) (finish rel res) (finish rel' res') i same)

-- Only rows of tasks count.
pub released_same : (y : System) (rel res rel' res' : Table) → Same y rel rel' → Same y res res' → Released y rel res → Released y rel' res'
released_same y rel res rel' res' p q g i h = sym (p i h) ∙ g i h ∙ release_date_same y rel res rel' res' i (λ k j. omega (arith, p k (omega arith), q k (omega arith)))

-- The same responses have the same releases.
pub releases_unique : (y : System) (rel res rel' res' : Table) → Released y rel res → Released y rel' res' → Same y res res' → Same y rel rel'
releases_unique y rel res rel' res' g g' same =
    by_rows (λ i. i < y.tasks → rel i ≡ rel' i) (λ i rows h.
    g i h ∙ release_date_same y rel res rel' res' i (λ k j. omega (arith, rows k j (omega arith), same k (omega arith))) ∙ sym (g' i h))

-- Releases for given responses are found by rows: row m follows from the rows before it.
module _ (y : System) (res : Table) where
  record Renewed (m : ℕ) : Type 0 where
    rel : Table
    ruled : (i : ℕ) → i < m → rel i ≡ release_date y rel res i

  renew_next : (m : ℕ) → Renewed m → Renewed (suc m)
  renew_next m old = record { rel = next; ruled = λ i h. (each i).1.1 h ∙ release_date_same y old.rel res next res i (λ k j. omega (arith, (each k).1.0 (omega arith))) }
    where
      each : (i : ℕ) → (x : ℕ) × ((i < m → x ≡ old.rel i) × (i < suc m → x ≡ release_date y old.rel res i))
      each i = elim (cases_lt i m) [ inl j ↦ (old.rel i, (λ _. refl, λ _. old.ruled i j)) | inr j ↦ (release_date y old.rel res i, (λ q. absurd (omega arith), λ _. refl)) ]

      next : Table
      next i = (each i).0

  renew : (m : ℕ) → Renewed m
  renew zero = record { rel = λ k. 0; ruled = λ i h. absurd (omega arith) }
  renew (suc m) = renew_next m (renew m)

  pub releases_exist : (rel : Table) × Released y rel res
  releases_exist = let r = renew y.tasks in (r.rel, r.ruled)

module _ (y : System) (l : Lawful y) where
  -- No task before row m ends later than this.
  pub horizon : ℕ → ℕ
  horizon zero = 0
  horizon (suc m) = y.start (horizon m + y.earliest m) + crowded y m

  horizon_up : (k m : ℕ) → k ≤ m → horizon k ≤ horizon m
  unfolding horizon
  horizon_up k zero h = let e : k ≡ 0 = omega arith in rw e (omega arith)
  horizon_up k (suc m) h =
      elim (cases_eq k (suc m)) [
        | inl e ↦ rw e (omega arith)
        | inr d ↦ omega (arith, horizon_up k m (omega arith), l.start_after (horizon m + y.earliest m))
      ]

  module _ (rel res : Table) (g : Released y rel res) (most : AtMost y res (crowded y)) where
    ends_next : (i : ℕ) → ((k : ℕ) → k < i → k < y.tasks → finish rel res k ≤ horizon (suc k)) → i < y.tasks → finish rel res i ≤ horizon (suc i)
    unfolding horizon
    ends_next i rows h =
        let ended : (k : ℕ) → k < i → y.waits i k ≡ true → finish rel res k ≤ horizon i + y.earliest i = λ k j waits. omega (arith, rows k j (omega arith), horizon_up (suc k) i j) in
        let by = latest_least (y.earliest i) (y.waits i) (finish rel res) i (horizon i + y.earliest i) (omega arith) ended in
        omega (arith, g i h, most i h, l.start_ordered (ready y rel res i) (horizon i + y.earliest i) by)

    pub released_by_horizon : (i : ℕ) → i < y.tasks → rel i ≤ horizon y.tasks
    released_by_horizon i h = omega (arith, by_rows (λ i. i < y.tasks → finish rel res i ≤ horizon (suc i)) ends_next i h, horizon_up (suc i) y.tasks h)
