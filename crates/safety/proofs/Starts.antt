-- A task that starts takes its place.
use Rattle.std.proofs.Common.{◌≡◌, ℕ, ◌+◌, ◌<◌, ◌≤◌, true, cond, ◌||◌, ◌≢◌, [], Some, sym, refl, ap, ◌∙◌, subst, inl, inr, arith}
use Rattle.std.proofs.lemmas.Bool.{cases_Bool, cases_eq, eq-eqb}
use Rattle.arbiter.specs.Counts.{sum_below}
use Rattle.arbiter.specs.Events.{one, serves, stop}
use Rattle.arbiter.specs.Laws.{accesses}
use Rattle.arbiter.proofs.Flags.{one_le}
use Rattle.arbiter.proofs.Sums.{sum_below_le}
use Rattle.cluster.specs.declared.place.Place.{Place}
use Rattle.cluster.specs.declared.place.Place.TheVariants.{Idle, Working}
use Rattle.cluster.specs.declared.stage.Stage.{Stage}
use Rattle.cluster.specs.declared.stage.Stage.TheVariants.{Ahead, AtWork, Done}
use Rattle.cluster.specs.Cycles.{new_job}
use Rattle.safety.proofs.Accounts.{Paid, Past, WatchedAt, counts, met, met_le, spent_at, used, used_by, watched_on}
use Rattle.safety.proofs.Agreement.{IsAtWork, Linked, Timely, known_stands, served_not_waits, stands_held}
use Rattle.safety.proofs.Hands.{hand_linked, hand_spent}
use Rattle.safety.proofs.Options.{none_some}
use Rattle.safety.proofs.Payments.{in_windows_meet}
use Rattle.safety.proofs.Posting.{has_posted}
use Rattle.safety.proofs.Retires.{idle_plain, working_plain}
use Rattle.safety.proofs.Setting.{Setting, banks, cycles, demand, due, home, release, rows}
use Rattle.safety.proofs.Standing.{cycles_of, holder, left_of, served, served_at, stands_at, waits_at}
use Rattle.safety.proofs.Sums.{sum_below_plus}
use Rattle.safety.proofs.Updates.{upd, upd_both, upd_other, upd_same}
use Rattle.safety.proofs.Views.{View, handed}

-- What a task that is not at work has used does not depend on its place.
used_still : (x : Stage) (all left other : ℕ) → x ≢ AtWork → used_by x all left ≡ used_by x all other
used_still Ahead all left other h = refl
used_still AtWork all left other h = absurd (h refl)
used_still Done all left other h = refl

module _ {A : Type 0} (c : Setting A) where
  -- The place of a task that starts, and all else.
  abbrev pub at_start : ℕ → Place
  at_start i = Working (new_job c.plan i)

  abbrev pub started_by : View A → ℕ → View A
  started_by v i = handed v (home c i) (at_start i) i AtWork

  module _ (v : View A) (i : ℕ) (l : i < rows c) (lk : Linked c v) (idle : v.place (home c i) ≡ Idle) where
    abbrev pub started : View A
    started = started_by v i

    -- Whoever is at work is at another place.
    apart : (k : ℕ) → k < rows c → v.stage k ≡ AtWork → home c k ≢ home c i
    apart k j w e = none_some k (sym (ap holder (ap v.place e ∙ idle)) ∙ lk.held k j w)

    pub start_linked : Linked c started
    start_linked =
        hand_linked c v (home c i) i (at_start i) AtWork (idle_plain (v.place (home c i)) idle) (working_plain (at_start i) (new_job c.plan i) refl) lk
        (λ o k. upd_both v.place (home c i) o (at_start i) (λ z. holder z ≡ Some k → IsAtWork c started k o)
        (λ f e. let same : k ≡ i = cc in record { known = omega arith; here = ap (home c) same ∙ sym f; stage = upd_same v.stage i k AtWork same })
        (λ f e. let w = lk.holds o k e in record { known = w.known; here = w.here; stage = upd_both v.stage i k AtWork (λ y. y ≡ AtWork) (λ g. refl) (λ g. w.stage) }))
        (λ k j. upd_both v.stage i k AtWork (λ y. y ≡ AtWork → holder (upd v.place (home c i) (at_start i) (home c k)) ≡ Some k)
        (λ f w. ap holder (upd_same v.place (home c i) (home c k) (at_start i) (ap (home c) f)) ∙ ap Some (sym f))
        (λ f w. ap holder (upd_other v.place (home c i) (home c k) (at_start i) (apart k j w)) ∙ lk.held k j w))

    -- What was at work before, and is not i.
    was : (k : ℕ) → k ≢ i → upd v.stage i AtWork k ≡ AtWork → v.stage k ≡ AtWork
    was k ne w = sym (upd_other v.stage i k AtWork ne) ∙ w

    module _ (n : ℕ) (now : release c i ≡ n) (ti : Timely c n v) where
      pub start_timely : Timely c n started
      start_timely = record {
        begun = λ k j w. elim (cases_eq k i) [ inl same ↦ omega (arith, ap (release c) same, now) | inr ne ↦ ti.begun k j (was k ne w) ];
        unfinished = λ k j w. elim (cases_eq k i) [ inl same ↦ omega (arith, ap (due c) same, now, c.takes_time i l) | inr ne ↦ ti.unfinished k j (was k ne w) ];
      }

      module _ (new : v.stage i ≡ Ahead) (past : ℕ → ℕ → Past A) (pd : Paid c n v past) where
        -- The past of i begins now.
        abbrev fresh : ℕ → Past A
        fresh b = record { from = v.arbiter b; amid = served (v.service b); seen = [] }

        abbrev pub start_past : ℕ → ℕ → Past A
        start_past = upd past i fresh

        elsewhere : (k : ℕ) → k < rows c → k ≢ i → upd v.stage i AtWork k ≡ AtWork → upd v.place (home c i) (at_start i) (home c k) ≡ v.place (home c k)
        elsewhere k j f w = upd_other v.place (home c i) (home c k) (at_start i) (apart k j (was k f w))

        used_same : (k b : ℕ) → k < rows c → used c v k b ≤ used c started k b
        used_same k b j =
            upd_both v.stage i k AtWork (λ y. used c v k b ≤ used_by y (demand c k b) (left_of (upd v.place (home c i) (at_start i) (home c k)) b))
            (λ f. omega (arith, ap (λ y. used_by y (demand c k b) (left_of (v.place (home c k)) b)) (ap v.stage f ∙ new)))
            (λ f. upd_both v.place (home c i) (home c k) (at_start i) (λ z. used c v k b ≤ used_by (v.stage k) (demand c k b) (left_of z b))
            (λ g. omega (arith, used_still (v.stage k) (demand c k b) (left_of (v.place (home c k)) b) (left_of (at_start i) b) (λ w. apart k j w g)))
            (λ g. omega arith))

        -- Whoever stands at a bank when i starts meets i, and has used an access.
        others : (b o : ℕ) → b < banks c → o ≢ home c i → accesses c.model (v.arbiter b) (served (v.service b)) [] o ≤ met c started i b o
        others b o bank ne =
            elim (cases_Bool (stands_at (v.place o) b)) [
              | inr e ↦ omega (arith, ap one (known_stands c v lk b o bank ∙ e))
              | inl e ↦ (let t = stands_held (v.place o) b e in
                  let w = lk.holds o t.0 t.1 in
                  let k = pd.watched t.0 b w.known w.stage bank in
                  let posted = has_posted c (v.arbiter b) (served (v.service b)) _ _ (past t.0 b) t.0 b k (subst (λ z. (c.model.waiting (v.arbiter b) z || serves (served (v.service b)) z) ≡ true) (sym w.here) (known_stands c v lk b o bank ∙ e)) in
                  let some : 1 ≤ used c v t.0 b = omega (arith, posted, k.own, ap (λ y. used_by y (demand c t.0 b) (left_of (v.place (home c t.0)) b)) w.stage) in
                  let meets = in_windows_meet c i t.0 o w.here ne (omega (arith, now, c.takes_time i l, ti.begun t.0 w.known w.stage)) (omega (arith, now, ti.unfinished t.0 w.known w.stage)) in
                  let counted = sum_below_plus (rows c) 1 (λ m. 0) (λ m. cond (counts c i o m) (used c started m b) 0) t.0 w.known (λ m. omega arith) (rw meets (omega (arith, some, used_same t.0 b w.known))) in
                  omega (arith, counted, one_le (c.model.waiting (v.arbiter b) o || serves (served (v.service b)) o)))
            ]

        begin : (b : ℕ) → b < banks c → WatchedAt c started (fresh b) i b
        begin b bank = record {
          trace = stop;
          begins = record {
            idle = lk.waiting b (home c i) bank ∙ ap (λ z. waits_at z b) idle;
            other = lk.serving b (home c i) bank ∙ ap (λ z. served_at z b) idle;
            picked = λ o e. (lk.last b o bank e, lk.waiting b o bank ∙ served_not_waits (v.place o) b (sym (lk.serving b o bank) ∙ ap (λ u. serves u o) e ∙ eq-eqb o o refl));
          };
          keeps = lk.keeps b bank;
          own = omega (arith, ap (λ z. left_of z b) (upd_same v.place (home c i) (home c i) (at_start i) refl));
          all = λ o ne. others b o bank ne;
        }

        pub start_paid : Paid c n started start_past
        start_paid = record {
          watched = λ k b j w bank. upd_both past i k fresh (λ y. WatchedAt c started (y b) k b)
              (λ f. subst (λ t. WatchedAt c started (fresh b) t b) (sym f) (begin b bank))
              (λ f. watched_on c (v.arbiter b) (served (v.service b)) _ _ (met c v k b) _ (past k b) k b (pd.watched k b j (was k f w) bank) (omega (arith, ap (λ z. left_of z b) (elsewhere k j f w))) (λ o ne. met_le c v started k b o (λ t u. used_same t b u)));
          account = λ k j w. upd_both past i k fresh (λ y. n + cycles_of (started.place (home c k)) ≤ release c k + cycles c k + sum_below (banks c) (spent_at c started y k))
              (λ f. omega (arith, ap cycles_of (upd_same v.place (home c i) (home c k) (at_start i) (ap (home c) f)), ap (release c) f, ap (cycles c) f, now))
              (λ f. omega (arith, pd.account k j (was k f w), ap cycles_of (elsewhere k j f w), sum_below_le (banks c) (spent_at c v (past k) k) (spent_at c started (past k) k) (λ b z. hand_spent c v (home c i) i (at_start i) AtWork (idle_plain (v.place (home c i)) idle) (working_plain (at_start i) (new_job c.plan i) refl) (past k) k b)));
        }
