-- An event at one place and one bank keeps the accounts.
use Rattle.std.proofs.Common.{◌≡◌, ℕ, ◌+◌, ◌<◌, ◌≤◌, true, cond, ◌≢◌, List, Option, sym, ap, ◌∙◌, subst, inl, inr, arith}
use Rattle.std.proofs.lemmas.Bool.{and_from, cases_eq, eq-eqb, lt-ltb, ne_eqb, not_from_false}
use Rattle.arbiter.specs.Events.{Event, posts}
use Rattle.arbiter.proofs.Sums.{sum_below_le}
use Rattle.cluster.specs.declared.place.Place.{Place}
use Rattle.cluster.specs.declared.service.Service.{Service}
use Rattle.cluster.specs.declared.stage.Stage.{Stage}
use Rattle.cluster.specs.declared.stage.Stage.TheVariants.{AtWork}
use Rattle.safety.proofs.Accounts.{Paid, Past, Watched, counts, longer, met, met_le, met_plus, spent, spent_at, spent_grows, used, used_by, used_by_less, watched_grows, watched_on}
use Rattle.safety.proofs.Agreement.{Linked, Timely, idle_or_held}
use Rattle.safety.proofs.Exchanges.{Exchange, cycles_same, stands_away}
use Rattle.safety.proofs.Setting.{Setting, banks, demand, due, gone, home, release, rows}
use Rattle.safety.proofs.Standing.{left_of, served, stands_at}
use Rattle.safety.proofs.Updates.{upd, upd_both}
use Rattle.safety.proofs.Views.{View, exchanged}

-- Two tasks in their windows at the same time meet, if their places differ.
pub in_windows_meet : {A : Type 0} (c : Setting A) (t k o : ℕ) → home c k ≡ o → o ≢ home c t → release c k < due c t → release c t < due c k → counts c t o k ≡ true
in_windows_meet c t k o e ne i j =
    and_from _ _ (eq-eqb (home c k) o e)
    (and_from _ _ (not_from_false _ (ne_eqb (home c t) (home c k) (λ f. ne (sym e ∙ sym f))))
    (and_from _ _ (lt-ltb (release c t) (due c k) j) (lt-ltb (release c k) (due c t) i)))

module _ {A : Type 0} (c : Setting A) (v : View A) (q b : ℕ) (x : Place) (a : A) (u : Option Service) (es : List Event) (e : Exchange c v q b x a u es) (lk : Linked c v) where
  -- The events are new at bank b, for all tasks.
  abbrev pub grown : (ℕ → ℕ → Past A) → ℕ → ℕ → Past A
  grown past t = upd (past t) b (longer (past t b) es)

  left_less : (o d : ℕ) → left_of (upd v.place q x o) d ≤ left_of (v.place o) d
  left_less o d = upd_both v.place q o x (λ y. left_of y d ≤ left_of (v.place o) d) (λ f. omega (arith, e.posts_away d, ap (λ k. left_of (v.place k) d) f)) (λ f. omega arith)

  used_more : (k d : ℕ) → used c v k d ≤ used c (exchanged v q b x a u) k d
  used_more k d = used_by_less (v.stage k) (demand c k d) _ _ (left_less (home c k) d)

  left_here : (o : ℕ) → posts o es + left_of (upd v.place q x o) b ≤ left_of (v.place o) b
  left_here o = upd_both v.place q o x (λ y. posts o es + left_of y b ≤ left_of (v.place o) b) (λ f. omega (arith, e.posts_here, ap (λ k. posts k es) f, ap (λ k. left_of (v.place k) b) f)) (λ f. omega (arith, e.posts_others o f))

  used_plus : (x : Stage) (all left less more : ℕ) → x ≡ AtWork → more + less ≤ left → left ≤ all → more + used_by x all left ≤ used_by x all less
  used_plus x all left less more f i j = rw f (omega arith)

  module _ (n m : ℕ) (past : ℕ → ℕ → Past A) (ti : Timely c m v) (pd : Paid c n v past) where
    -- An access of the task at q counts for all that it meets.
    met_grows : (t o : ℕ) → t < rows c → v.stage t ≡ AtWork → o ≢ home c t → posts o es + met c v t b o ≤ met c (exchanged v q b x a u) t b o
    met_grows t o l w ne =
        elim (idle_or_held (v.place o)) [
          | inl f ↦ omega (arith, left_here o, ap (λ y. left_of y b) f, met_le c v (exchanged v q b x a u) t b o (λ k j. used_more k b))
          | inr f ↦ (let k = lk.holds o f.0 f.1 in
              let own = (pd.watched f.0 b k.known k.stage e.bank).own in
              let less = left_here (home c f.0) in
              met_plus c v (exchanged v q b x a u) t b o f.0 (posts o es) k.known (λ i. used_more i b)
              (in_windows_meet c t f.0 o k.here ne (omega (arith, ti.begun f.0 k.known k.stage, ti.unfinished t l w)) (omega (arith, ti.begun t l w, ti.unfinished f.0 k.known k.stage)))
              (subst (λ i. posts i es + used c v f.0 b ≤ used c (exchanged v q b x a u) f.0 b) k.here (used_plus (v.stage f.0) (demand c f.0 b) _ _ _ k.stage less (omega (arith, own)))))
        ]

    spent_on : (t d : ℕ) → t < rows c → v.stage t ≡ AtWork → d < banks c → spent_at c v (past t) t d ≤ spent_at c (exchanged v q b x a u) (grown past t) t d
    spent_on t d l w i =
        elim (cases_eq d b) [
          | inl same ↦ rw (eq-eqb d b same)
              (subst (λ k. spent_at c v (past t) t k ≤ spent c (stands_at (upd v.place q x (home c t)) k) u (longer (past t b) es) t) (sym same)
              (spent_grows c (v.arbiter b) (served (v.service b)) (v.service b) u _ _ _ _ (past t b) t b es (pd.watched t b l w e.bank) (e.pays (home c t))))
          | inr apart ↦ rw (ne_eqb d b apart)
              (upd_both v.place q (home c t) x (λ y. spent_at c v (past t) t d ≤ spent c (stands_at y d) (v.service d) (past t d) t)
              (λ f. omega (arith, ap (λ z. cond z (gone c (v.service d)) 0) (stands_away c v q b x a u e d apart ∙ ap (λ k. stands_at (v.place k) d) (sym f))))
              (λ f. omega arith))
        ]

    pub exchange_paid : Paid c n (exchanged v q b x a u) (grown past)
    exchange_paid = record {
      watched = λ t d l w i. elim (cases_eq d b) [
        | inl same ↦ rw (eq-eqb d b same)
            (subst (λ k. Watched c a (served u) (left_of (upd v.place q x (home c t)) k) (met c (exchanged v q b x a u) t k) (longer (past t b) es) t k) (sym same)
            (watched_grows c (v.arbiter b) (served (v.service b)) _ _ (met c v t b) _ (past t b) t b a (served u) es (pd.watched t b l w e.bank) e.trace (left_here (home c t)) (λ o ne. met_grows t o l w ne)))
        | inr apart ↦ rw (ne_eqb d b apart)
            (watched_on c (v.arbiter d) (served (v.service d)) _ _ (met c v t d) _ (past t d) t d (pd.watched t d l w i) (left_less (home c t) d) (λ o ne. met_le c v (exchanged v q b x a u) t d o (λ k j. used_more k d)))
      ];
      account = λ t l w. omega (arith, pd.account t l w, cycles_same c v q b x a u e (home c t), sum_below_le (banks c) (spent_at c v (past t) t) (spent_at c (exchanged v q b x a u) (grown past t) t) (λ d i. spent_on t d l w i));
    }
