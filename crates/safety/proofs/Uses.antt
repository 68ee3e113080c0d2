-- A cycle that all places and services use.
use Rattle.std.proofs.Common.{◌≡◌, ℕ, ◌+◌, ◌-◌, ◌<◌, ◌≤◌, true, cond, Some, None, Option, sym, refl, ap, ◌∙◌, subst, arith}
use Rattle.std.specs.Prelude.{is_some}
use Rattle.std.proofs.lemmas.Bool.{eq-eqb, false≢true, or_left, or_right}
use Rattle.arbiter.specs.Counts.{sum_below}
use Rattle.arbiter.specs.Events.{serves}
use Rattle.arbiter.proofs.Sums.{sum_below_le}
use Rattle.cluster.specs.declared.place.Place.{Place}
use Rattle.cluster.specs.declared.place.Place.TheVariants.{Idle, Working, Waiting, Served}
use Rattle.cluster.specs.declared.place.Event.TheVariants.{CycleUsed}
use Rattle.cluster.specs.declared.service.Service.{Service}
use Rattle.cluster.specs.declared.stage.Stage.TheVariants.{AtWork}
use Rattle.cluster.specs.Cycles.{service_used}
use Rattle.cluster.specs.Places.{after}
use Rattle.safety.proofs.Accounts.{Paid, Past, Watched, met, met_le, spent_at, used_by_less, watched_on}
use Rattle.safety.proofs.Agreement.{Linked, Timely, stands_held}
use Rattle.safety.proofs.Options.{none_some}
use Rattle.safety.proofs.Setting.{Setting, banks, cycles, demand, gone, home, latency, release, rows}
use Rattle.safety.proofs.Standing.{cycles_of, holder, left_of, served, served_at, stands_at, waits_at}
use Rattle.safety.proofs.Sums.{cond_le, sum_below_plus}
use Rattle.safety.proofs.Views.{View, used}

-- A cycle changes neither who holds a place nor where it stands,
same_holder : (x : Place) → holder (after x CycleUsed) ≡ holder x
same_holder Idle = refl
same_holder (Working j) = refl
same_holder (Waiting j bank) = refl
same_holder (Served j bank) = refl

same_waits : (x : Place) (b : ℕ) → waits_at (after x CycleUsed) b ≡ waits_at x b
same_waits Idle b = refl
same_waits (Working j) b = refl
same_waits (Waiting j bank) b = refl
same_waits (Served j bank) b = refl

same_served : (x : Place) (b : ℕ) → served_at (after x CycleUsed) b ≡ served_at x b
same_served Idle b = refl
same_served (Working j) b = refl
same_served (Waiting j bank) b = refl
same_served (Served j bank) b = refl

same_stands : (x : Place) (b : ℕ) → stands_at (after x CycleUsed) b ≡ stands_at x b
same_stands Idle b = refl
same_stands (Working j) b = refl
same_stands (Waiting j bank) b = refl
same_stands (Served j bank) b = refl

same_left : (x : Place) (b : ℕ) → left_of (after x CycleUsed) b ≡ left_of x b
same_left Idle b = refl
same_left (Working j) b = refl
same_left (Waiting j bank) b = refl
same_left (Served j bank) b = refl

-- nor the cycles of a place that stands at a bank, nor whom a bank serves.
same_cycles : (x : Place) (b : ℕ) → stands_at x b ≡ true → cycles_of (after x CycleUsed) ≡ cycles_of x
same_cycles Idle b e = refl
same_cycles (Working j) b e = absurd (false≢true e)
same_cycles (Waiting j bank) b e = refl
same_cycles (Served j bank) b e = refl

same_service : (u : Option Service) → served (service_used u) ≡ served u
same_service None = refl
same_service (Some y) = refl

service_before : (u : Option Service) (y : Service) → service_used u ≡ Some y → (z : Service) × (u ≡ Some z) × (y.left ≡ z.left - 1)
service_before None y e = cc
service_before (Some z) y e = (z, refl, sym cc)

module _ {A : Type 0} (c : Setting A) where
  -- A state between two calls: tasks and services have cycles left.
  pub record Lively (v : View A) : Type 0 where
    pub task : (q t : ℕ) → holder (v.place q) ≡ Some t → 1 ≤ cycles_of (v.place q)
    pub service : (b : ℕ) (y : Service) → b < banks c → v.service b ≡ Some y → 1 ≤ y.left
    pub low : (b : ℕ) (y : Service) → b < banks c → v.service b ≡ Some y → y.left ≤ latency c

  -- While cycles are used up: those of a place that stands at a bank are not.
  pub record Stocked (v : View A) : Type 0 where
    pub task : (q b : ℕ) → stands_at (v.place q) b ≡ true → 1 ≤ cycles_of (v.place q)
    pub low : (b : ℕ) (y : Service) → b < banks c → v.service b ≡ Some y → y.left ≤ latency c

  -- A bank at which somebody waits serves somebody.
  abbrev pub Busy : View A → ℕ → Type 0
  Busy v b = (o : ℕ) → c.model.waiting (v.arbiter b) o ≡ true → is_some (v.service b) ≡ true

  pub used_linked : (v : View A) → Linked c v → Linked c (used v)
  used_linked v lk = record {
    keeps = lk.keeps;
    waiting = λ b q l. lk.waiting b q l ∙ sym (same_waits (v.place q) b);
    serving = λ b q l. ap (λ w. serves w q) (same_service (v.service b)) ∙ lk.serving b q l ∙ sym (same_served (v.place q) b);
    last = λ b o l e. lk.last b o l (sym (same_service (v.service b)) ∙ e);
    inside = λ q b i. lk.inside q b (sym (same_stands (v.place q) b) ∙ i);
    holds = λ q t e. let w = lk.holds q t (sym (same_holder (v.place q)) ∙ e) in record { known = w.known; here = w.here; stage = w.stage };
    held = λ t l w. same_holder (v.place (home c t)) ∙ lk.held t l w;
  }

  pub used_timely : (n : ℕ) (v : View A) → Timely c n v → Timely c n (used v)
  used_timely n v h = record { begun = h.begun; unfinished = h.unfinished }

  module _ (v : View A) (lk : Linked c v) (lv : Lively v) where
    pub used_stocked : Stocked (used v)
    used_stocked = record {
      task = λ q b e. let stood : stands_at (v.place q) b ≡ true = sym (same_stands (v.place q) b) ∙ e in
          let t = stands_held (v.place q) b stood in
          omega (arith, same_cycles (v.place q) b stood, lv.task q t.0 t.1);
      low = λ b y l e. let z = service_before (v.service b) y e in omega (arith, z.2, lv.low b z.0 l z.1);
    }

    gone_less : (u : Option Service) → gone c u ≤ gone c (service_used u)
    gone_less None = omega arith
    gone_less (Some y) = omega arith

    -- A service that is on has had one cycle more.
    gone_more : (u : Option Service) → is_some u ≡ true → ((y : Service) → u ≡ Some y → (1 ≤ y.left) × (y.left ≤ latency c)) → 1 + gone c u ≤ gone c (service_used u)
    gone_more None e h = absurd (false≢true e)
    gone_more (Some y) e h = omega (arith, (h y refl).0, (h y refl).1)

    module _ (n : ℕ) (past : ℕ → ℕ → Past A) (pd : Paid c n v past) (busy : (b : ℕ) → b < banks c → Busy v b) where
      spent_less : (t b : ℕ) → spent_at c v (past t) t b ≤ spent_at c (used v) (past t) t b
      spent_less t b = omega (arith, cond_le (stands_at (v.place (home c t)) b) (gone c (v.service b)) (gone c (service_used (v.service b))) (gone_less (v.service b)), ap (λ z. cond z (gone c (service_used (v.service b))) 0) (same_stands (v.place (home c t)) b))

      is_served : (u : Option Service) (o : ℕ) → serves (served u) o ≡ true → is_some u ≡ true
      is_served None o e = e
      is_served (Some y) o e = refl

      -- A task that stands at a bank spends a cycle there.
      spent_more : (t b : ℕ) → stands_at (v.place (home c t)) b ≡ true → is_some (v.service b) ≡ true → 1 + sum_below (banks c) (spent_at c v (past t) t) ≤ sum_below (banks c) (spent_at c (used v) (past t) t)
      spent_more t b e on =
          let l = lk.inside (home c t) b e in
          sum_below_plus (banks c) 1 (spent_at c v (past t) t) (spent_at c (used v) (past t) t) b l (spent_less t)
          (omega (arith, ap (λ z. cond z (gone c (v.service b)) 0) e, ap (λ z. cond z (gone c (service_used (v.service b))) 0) (same_stands (v.place (home c t)) b ∙ e), gone_more (v.service b) on (λ y f. (lv.service b y l f, lv.low b y l f))))

      spend : (t : ℕ) → t < rows c → v.stage t ≡ AtWork → (x : Place) → v.place (home c t) ≡ x → n + 1 + cycles_of (after (v.place (home c t)) CycleUsed) ≤ release c t + cycles c t + sum_below (banks c) (spent_at c (used v) (past t) t)
      spend t l w Idle e = absurd (none_some t (sym (ap holder e) ∙ lk.held t l w))
      spend t l w (Working j) e =
          omega (arith, pd.account t l w, sum_below_le (banks c) (spent_at c v (past t) t) (spent_at c (used v) (past t) t) (λ b i. spent_less t b), lv.task (home c t) t (lk.held t l w), ap cycles_of e, ap (λ x. cycles_of (after x CycleUsed)) e)
      spend t l w (Waiting j bank) e =
          let here : waits_at (v.place (home c t)) bank ≡ true = ap (λ x. waits_at x bank) e ∙ eq-eqb bank bank refl in
          let stands = or_left (waits_at (v.place (home c t)) bank) (served_at (v.place (home c t)) bank) here in
          let i = lk.inside (home c t) bank stands in
          omega (arith, pd.account t l w, spent_more t bank stands (busy bank i (home c t) (lk.waiting bank (home c t) i ∙ here)), ap cycles_of e, ap (λ x. cycles_of (after x CycleUsed)) e)
      spend t l w (Served j bank) e =
          let here : served_at (v.place (home c t)) bank ≡ true = ap (λ x. served_at x bank) e ∙ eq-eqb bank bank refl in
          let stands = or_right (waits_at (v.place (home c t)) bank) (served_at (v.place (home c t)) bank) here in
          let i = lk.inside (home c t) bank stands in
          omega (arith, pd.account t l w, spent_more t bank stands (is_served (v.service bank) (home c t) (lk.serving bank (home c t) i ∙ here)), ap cycles_of e, ap (λ x. cycles_of (after x CycleUsed)) e)

      pub used_paid : Paid c (n + 1) (used v) past
      used_paid = record {
        watched = λ t b l w i. subst (λ u. Watched c (v.arbiter b) u (left_of (after (v.place (home c t)) CycleUsed) b) (met c (used v) t b) (past t b) t b) (sym (same_service (v.service b)))
            (watched_on c (v.arbiter b) (served (v.service b)) _ _ (met c v t b) _ (past t b) t b (pd.watched t b l w i) (omega (arith, same_left (v.place (home c t)) b))
            (λ o ne. met_le c v (used v) t b o (λ k j. used_by_less (v.stage k) (demand c k b) _ _ (omega (arith, same_left (v.place (home c k)) b)))));
        account = λ t l w. spend t l w (v.place (home c t)) refl;
      }
