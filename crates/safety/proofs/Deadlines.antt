-- A task at work with a cycle left is before its finish.
use Rattle.std.proofs.Common.{◌≡◌, ℕ, suc, ◌+◌, ◌*◌, ◌<◌, ◌≤◌, true, false, cond, List, [], ◌∷◌, ◌++◌, length, get_or, Some, None, Option, sym, refl, ap, ◌∙◌, inl, inr, mul-le-mul_left, arith}
use Rattle.std.proofs.lemmas.Bool.{cases_Bool}
use Rattle.plan.specs.Rules.{places_of}
use Rattle.arbiter.specs.Counts.{sum_below}
use Rattle.arbiter.specs.Events.{Event, Trace, delay, done, one, posts, stop, then_done}
use Rattle.arbiter.proofs.AtLeast.{covers_at_least}
use Rattle.arbiter.proofs.Sums.{sum_below_le}
use Rattle.arbiter.proofs.Traces.{delay_append, posts_append, trace_append}
use Rattle.date_check.specs.Sound.{Sound, load, loads, services, share}
use Rattle.date_check.proofs.Counting.{loads_at}
use Rattle.date_check.proofs.Limits.{bound_accepted}
use Rattle.cluster.specs.declared.service.Service.{Service}
use Rattle.cluster.specs.declared.stage.Stage.TheVariants.{AtWork}
use Rattle.safety.proofs.Accounts.{Paid, Past, WatchedAt, counts, met, spent_at, used, used_by_all}
use Rattle.safety.proofs.Agreement.{Linked, known_stands}
use Rattle.safety.proofs.Setting.{Setting, banks, demand, due, first, gone, home, latency, met_by, rows}
use Rattle.safety.proofs.Standing.{cycles_of, left_of, served, stands_at}
use Rattle.safety.proofs.Sums.{cond_le, sum_front, sum_scale, sum_same}
use Rattle.safety.proofs.Views.{View}

module _ {A : Type 0} (c : Setting A) where
  -- The services that task t may have to wait for at bank b with arbiter a, and with its first one.
  abbrev bound_by : ℕ → ℕ → A → ℕ
  bound_by t b a = c.model.bound a (home c t) (demand c t b) (loads c.plan.rows (met_by c t) b)

  abbrev allowed : ℕ → ℕ → ℕ
  allowed t b = bound_by t b (first c b)

  -- The bounds of all banks as a sum over the banks.
  services_sum : (t k : ℕ) (xs : List A) → services c.model c.plan.rows (met_by c t) t k xs ≡ sum_below (length xs) (λ b. bound_by t (k + b) (get_or xs b c.some))
  services_sum t k [] = refl
  services_sum t k (x ∷ xs) =
      let next : (b : ℕ) → k + 1 + b ≡ k + suc b = λ b. omega arith in
      let here : k + 0 ≡ k = omega arith in
      omega (
        arith,
        sum_front (length xs) (λ b. bound_by t (k + b) (get_or (x ∷ xs) b c.some)),
        services_sum t (k + 1) xs,
        sum_same (length xs) (λ b. bound_by t (k + 1 + b) (get_or xs b c.some)) (λ b. bound_by t (k + suc b) (get_or xs b c.some)) (λ b. ap (λ n. bound_by t n (get_or xs b c.some)) (next b)),
        ap (λ n. bound_by t n x) here,
      )

  all_services : (t : ℕ) → services c.model c.plan.rows (met_by c t) t 0 c.arbiters ≡ sum_below (banks c) (allowed t)
  all_services t =
      let from_0 : (b : ℕ) → 0 + b ≡ b = λ b. omega arith in
      services_sum t 0 c.arbiters
      ∙ ap (λ n. sum_below n (λ b. bound_by t (0 + b) (first c b))) c.one_per_bank
      ∙ sum_same (banks c) (λ b. bound_by t (0 + b) (first c b)) (allowed t) (λ b. ap (λ n. bound_by t n (first c b)) (from_0 b))

  met_load : (v : View A) (t b o : ℕ) → met c v t b o ≤ load c.plan.rows (met_by c t) b o
  met_load v t b o =
      sum_below_le (rows c) (λ k. cond (counts c t o k) (used c v k b) 0) (share c.plan.rows (met_by c t) b o)
      (λ k l. cond_le (counts c t o k) (used c v k b) (demand c k b) (used_by_all (v.stage k) (demand c k b) (left_of (v.place (home c k)) b)))

  module _ (v : View A) (t b : ℕ) (x : Past A) (l : t < rows c) (bank : b < banks c) (h : WatchedAt c v x t b) where
    -- The delay so far, and that of more events without a post.
    stalled : (fs : List Event) (a : A) (u : Option ℕ) → ((o : ℕ) → posts o fs ≡ 0) → Trace c.model.posted c.model.picked (v.arbiter b) (served (v.service b)) fs a u → delay (home c t) false x.amid x.seen + delay (home c t) (c.model.waiting (v.arbiter b) (home c t)) (served (v.service b)) fs ≤ allowed t b
    stalled fs a u none r =
        let wide : places_of c.plan.head ≤ c.model.width x.from = omega (arith, c.wide b bank, h.keeps.width) in
        let k = covers_at_least c.model c.laws x.from a x.amid u (x.seen ++ fs) (home c t) (demand c t b) (loads c.plan.rows (met_by c t) b) (trace_append h.trace r) h.begins
        (omega (arith, posts_append (home c t) x.seen fs, none (home c t), h.own))
        (bound_accepted c.plan c.kept (met_by c t) c.model c.laws x.from t b l wide)
        (λ o i ne. omega (arith, posts_append o x.seen fs, none o, h.all o ne, met_load v t b o, loads_at c.plan.rows (met_by c t) b o (omega (arith, (c.laws.steps.width_limits x.from).1)))) in
        omega (arith, k, delay_append c.model c.laws.steps fs (home c t) false (sym h.begins.idle) h.trace, h.keeps.bound (home c t) (demand c t b) (loads c.plan.rows (met_by c t) b))

    -- A bank costs no more than its bound: where t stands there, the service that is on counts as one more.
    spent_most : Linked c v → spent_at c v (λ d. x) t b ≤ latency c * allowed t b
    spent_most lk =
        elim (cases_Bool (stands_at (v.place (home c t)) b)) [
          | inr e ↦ omega (arith, mul-le-mul_left (latency c) quiet, ap (λ y. cond y (gone c (v.service b)) 0) e)
          | inl e ↦ on e (v.service b) refl
        ]
      where
        quiet : delay (home c t) false x.amid x.seen ≤ allowed t b
        quiet = omega (arith, stalled [] (v.arbiter b) (served (v.service b)) (λ o. refl) stop)

        on : stands_at (v.place (home c t)) b ≡ true → (u : Option Service) → v.service b ≡ u → spent_at c v (λ d. x) t b ≤ latency c * allowed t b
        on e None i = omega (arith, mul-le-mul_left (latency c) quiet, ap (λ u. cond (stands_at (v.place (home c t)) b) (gone c u) 0) i, ap (λ y. cond y (gone c None) 0) e)
        on e (Some y) i =
            let more = stalled (done ∷ []) (v.arbiter b) None (λ o. refl) (rw i (then_done stop)) in
            let enough : delay (home c t) false x.amid x.seen + 1 ≤ allowed t b = omega (arith, more, ap one (known_stands c v lk b (home c t) bank ∙ e)) in
            omega (arith, mul-le-mul_left (latency c) enough, ap (λ u. cond (stands_at (v.place (home c t)) b) (gone c u) 0) i, ap (λ z. cond z (gone c (Some y)) 0) e)

  pub before_finish : Sound c.model c.plan c.arbiters c.table → (n : ℕ) (v : View A) (past : ℕ → ℕ → Past A) (t : ℕ) → Linked c v → Paid c n v past → t < rows c → v.stage t ≡ AtWork → 1 ≤ cycles_of (v.place (home c t)) → n < due c t
  before_finish sound n v past t lk pd l w some =
      omega (
        arith,
        pd.account t l w,
        sum_below_le (banks c) (spent_at c v (past t) t) (λ b. latency c * allowed t b) (λ b i. spent_most v t b (past t b) l i (pd.watched t b l w i) lk),
        sum_scale (banks c) (latency c) (allowed t),
        ap (λ k. latency c * k) (all_services t),
        sound.covered t l,
      )
