-- A task that is done leaves its place.
use Rattle.std.proofs.Common.{◌≡◌, ℕ, ◌<◌, ◌≤◌, ◌≢◌, Some, sym, refl, ap, ◌∙◌, arith}
use Rattle.arbiter.proofs.Sums.{sum_below_le}
use Rattle.cluster.specs.declared.place.Job.{Job}
use Rattle.cluster.specs.declared.place.Place.{Place}
use Rattle.cluster.specs.declared.place.Place.TheVariants.{Idle, Working}
use Rattle.cluster.specs.declared.stage.Stage.TheVariants.{AtWork, Done}
use Rattle.safety.proofs.Accounts.{Paid, Past, met, met_le, spent_at, used, used_by, used_by_all, used_by_less, watched_on}
use Rattle.safety.proofs.Agreement.{IsAtWork, Linked, Timely, same_holder}
use Rattle.safety.proofs.Hands.{Plain, done_idle, hand_linked, hand_spent}
use Rattle.safety.proofs.Options.{none_some}
use Rattle.safety.proofs.Setting.{Setting, banks, demand, home, rows}
use Rattle.safety.proofs.Standing.{cycles_of, holder, left_of, served}
use Rattle.safety.proofs.Updates.{upd, upd_both, upd_other}
use Rattle.safety.proofs.Views.{View, handed}

pub idle_plain : (x : Place) → x ≡ Idle → Plain x
idle_plain x e = rw e (record { waits = λ d. refl; serves = λ d. refl })

pub working_plain : (x : Place) (j : Job) → x ≡ Working j → Plain x
working_plain x j e = rw e (record { waits = λ d. refl; serves = λ d. refl })

module _ {A : Type 0} (c : Setting A) (v : View A) (q : ℕ) (j : Job) (lk : Linked c v) (here : v.place q ≡ Working j) where
  abbrev pub left_by : View A
  left_by = handed v q Idle j.task Done

  task : IsAtWork c v j.task q
  task = lk.holds q j.task (ap holder here)

  -- Whoever is at work then was at work before, and is another task at another place.
  pub record Other (k : ℕ) : Type 0 where
    pub apart : k ≢ j.task
    pub stage : v.stage k ≡ AtWork
    pub away : home c k ≢ q

  pub other : (k : ℕ) → k < rows c → upd v.stage j.task Done k ≡ AtWork → Other k
  other k l =
      upd_both v.stage j.task k Done (λ y. y ≡ AtWork → Other k)
      (λ f w. absurd (done_idle w))
      (λ f w. record { apart = f; stage = w; away = λ h. f (same_holder c v lk q j.task k (ap holder here) l w h) })

  pub retire_linked : Linked c left_by
  retire_linked =
      hand_linked c v q j.task Idle Done (working_plain (v.place q) j here) (idle_plain Idle refl) lk
      (λ o k. upd_both v.place q o Idle (λ z. holder z ≡ Some k → IsAtWork c left_by k o)
      (λ f e. absurd (none_some k e))
      (λ f e. let w = lk.holds o k e in record { known = w.known; here = w.here; stage = upd_other v.stage j.task k Done (λ g. f (sym w.here ∙ ap (home c) g ∙ task.here)) ∙ w.stage }))
      (λ k l w. let h = other k l w in ap holder (upd_other v.place q (home c k) Idle h.away) ∙ lk.held k l h.stage)

  pub retire_timely : (n : ℕ) → Timely c n v → Timely c n left_by
  retire_timely n h = record { begun = λ k l w. h.begun k l (other k l w).stage; unfinished = λ k l w. h.unfinished k l (other k l w).stage }

  left_less : (o b : ℕ) → left_of (upd v.place q Idle o) b ≤ left_of (v.place o) b
  left_less o b = upd_both v.place q o Idle (λ z. left_of z b ≤ left_of (v.place o) b) (λ f. omega arith) (λ f. omega arith)

  used_more : (k b : ℕ) → used c v k b ≤ used c left_by k b
  used_more k b =
      upd_both v.stage j.task k Done (λ y. used c v k b ≤ used_by y (demand c k b) (left_of (upd v.place q Idle (home c k)) b))
      (λ f. used_by_all (v.stage k) (demand c k b) (left_of (v.place (home c k)) b))
      (λ f. used_by_less (v.stage k) (demand c k b) _ _ (left_less (home c k) b))

  pub retire_paid : (n : ℕ) (past : ℕ → ℕ → Past A) → Paid c n v past → Paid c n left_by past
  retire_paid n past pd = record {
    watched = λ k b l w i. watched_on c (v.arbiter b) (served (v.service b)) _ _ (met c v k b) _ (past k b) k b (pd.watched k b l (other k l w).stage i) (left_less (home c k) b) (λ o ne. met_le c v left_by k b o (λ t u. used_more t b));
    account = λ k l w. let h = other k l w in
        omega (arith, pd.account k l h.stage, ap cycles_of (upd_other v.place q (home c k) Idle h.away), sum_below_le (banks c) (spent_at c v (past k) k) (spent_at c left_by (past k) k) (λ b i. hand_spent c v q j.task Idle Done (working_plain (v.place q) j here) (idle_plain Idle refl) (past k) k b));
  }
