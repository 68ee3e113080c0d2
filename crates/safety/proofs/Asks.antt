-- An ask is an exchange.
use Rattle.std.proofs.Common.{◌≡◌, ℕ, ◌+◌, ◌-◌, ◌*◌, ◌<◌, ◌≤◌, cond, [], ◌∷◌, length, set, sym, refl, ap, ◌∙◌, inl, inr, arith}
use Rattle.std.proofs.lemmas.List.{get_or_past}
use Rattle.std.proofs.lemmas.Bool.{cases_lt, eq-eqb, lt-ltb, ne_eqb}
use Rattle.arbiter.specs.Events.{one, post, stop, then_post}
use Rattle.cluster.specs.declared.place.Job.{Job}
use Rattle.cluster.specs.declared.place.Place.{Place}
use Rattle.cluster.specs.declared.place.Place.TheVariants.{Working, Waiting}
use Rattle.cluster.specs.declared.place.Event.TheVariants.{Asked}
use Rattle.cluster.specs.Places.{after, left_at}
use Rattle.safety.proofs.Agreement.{Linked}
use Rattle.safety.proofs.Exchanges.{Exchange}
use Rattle.safety.proofs.Setting.{Setting, banks, gone, latency}
use Rattle.safety.proofs.Standing.{cycles_of, holder, left_of, served_at, stands_at, waits_at}
use Rattle.safety.proofs.Updates.{set_at, upd, upd_both}
use Rattle.safety.proofs.Views.{View}

-- A task with one access less to bank b.
abbrev pub less : Job → ℕ → Job
less j b = record { task = j.task; cycles = j.cycles; accesses = set j.accesses b (left_at j b - 1) }

pub asked_is : (x : Place) (j : Job) (b : ℕ) → x ≡ Working j → b < 16 → after x (Asked b) ≡ Waiting (less j b) b
asked_is x j b here l = ap (λ y. after y (Asked b)) here ∙ ap (λ t. Waiting (cond t (less j b) j) b) (lt-ltb b 16 l)

listed : (j : Job) (b : ℕ) → 1 ≤ left_at j b → b < length j.accesses
listed j b some = elim (cases_lt b (length j.accesses)) [ inl l ↦ l | inr l ↦ absurd (omega (arith, get_or_past j.accesses b 0 l)) ]

less_at : (j : Job) (b d : ℕ) → 1 ≤ left_at j b → left_at (less j b) d ≡ upd (left_at j) b (left_at j b - 1) d
less_at j b d some = set_at j.accesses b d (left_at j b - 1) 0 (listed j b some)

module _ {A : Type 0} (c : Setting A) (v : View A) (q b : ℕ) (j : Job) (a : A) (lk : Linked c v) (here : v.place q ≡ Working j) (bank : b < banks c) (some : 1 ≤ left_at j b) (h : c.model.posted (v.arbiter b) q a) where
  module _ (x : Place) (is : x ≡ Waiting (less j b) b) where
    pays : (o : ℕ) → cond (stands_at (v.place o) b) (gone c (v.service b)) 0 ≤ latency c * 0 + cond (stands_at (upd v.place q x o) b) (gone c (v.service b)) 0
    pays o =
        upd_both v.place q o x (λ y. cond (stands_at (v.place o) b) (gone c (v.service b)) 0 ≤ latency c * 0 + cond (stands_at y b) (gone c (v.service b)) 0)
        (λ f. omega (arith, ap (λ y. cond (stands_at y b) (gone c (v.service b)) 0) (ap v.place f ∙ here)))
        (λ f. omega arith)

    pub ask_exchange : Exchange c v q b x a (v.service b) (post q ∷ [])
    ask_exchange =
        let shows = c.laws.steps.post_shows (v.arbiter b) a q h in
        record {
          bank = bank;
          trace = then_post (lk.serving b q bank ∙ ap (λ y. served_at y b) here) h stop;
          keeps = c.laws.steps.post_keeps (v.arbiter b) a q h;
          last = λ o f. shows.same ∙ lk.last b o bank f;
          holder = ap holder is ∙ sym (ap holder here);
          cycles = ap cycles_of is ∙ sym (ap cycles_of here);
          waits_here = shows.now ∙ sym (ap (λ y. waits_at y b) is ∙ eq-eqb b b refl);
          serves_here = lk.serving b q bank ∙ ap (λ y. served_at y b) here ∙ sym (ap (λ y. served_at y b) is);
          waits_others = shows.others;
          serves_others = λ o f. refl;
          waits_away = λ d f. ap (λ y. waits_at y d) is ∙ ne_eqb b d (λ e. f (sym e)) ∙ sym (ap (λ y. waits_at y d) here);
          serves_away = λ d f. ap (λ y. served_at y d) is ∙ sym (ap (λ y. served_at y d) here);
          posts_here = omega (arith, ap one (eq-eqb q q refl), ap (λ y. left_of y b) is, ap (λ y. left_of y b) here, less_at j b b some, ap (λ t. cond t (left_at j b - 1) (left_at j b)) (eq-eqb b b refl));
          posts_away = λ d. omega (arith, ap (λ y. left_of y d) is, ap (λ y. left_of y d) here, upd_both (left_at j) b d (left_at j b - 1) (λ n. n ≤ left_at j d) (λ f. omega (arith, ap (left_at j) f)) (λ f. omega arith), less_at j b d some);
          posts_others = λ o f. omega (arith, ap one (ne_eqb q o (λ e. f (sym e))));
          pays = pays;
        }
