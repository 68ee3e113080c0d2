-- A pick is an exchange.
use Rattle.std.proofs.Common.{◌≡◌, ℕ, ◌<◌, ◌≤◌, Bool, true, false, cond, [], ◌∷◌, Some, None, sym, refl, ap, ◌∙◌, arith}
use Rattle.std.proofs.lemmas.Bool.{eq-eqb, eqb-true, false≢true, ne_eqb}
use Rattle.arbiter.specs.Events.{pick, serves, stop, then_pick}
use Rattle.cluster.specs.declared.place.Job.{Job}
use Rattle.cluster.specs.declared.place.Place.{Place}
use Rattle.cluster.specs.declared.place.Place.TheVariants.{Idle, Working, Waiting, Served}
use Rattle.cluster.specs.declared.service.Service.{Service}
use Rattle.safety.proofs.Agreement.{Linked}
use Rattle.safety.proofs.Exchanges.{Exchange}
use Rattle.safety.proofs.Setting.{Setting, banks, gone, latency}
use Rattle.safety.proofs.Standing.{cycles_of, holder, left_of, served, served_at, stands_at, waits_at}
use Rattle.safety.proofs.Views.{View}

pub waits_is : (x : Place) (b : ℕ) → waits_at x b ≡ true → (j : Job) × (x ≡ Waiting j b)
waits_is Idle b e = absurd (false≢true e)
waits_is (Working j) b e = absurd (false≢true e)
waits_is (Waiting j bank) b e = (j, ap (Waiting j) (eqb-true bank b e))
waits_is (Served j bank) b e = absurd (false≢true e)

cond_zero : (x : Bool) → cond x 0 0 ≤ 0
cond_zero true = omega arith
cond_zero false = omega arith

module _ {A : Type 0} (c : Setting A) (v : View A) (q b : ℕ) (j : Job) (a : A) (lk : Linked c v) (here : v.place q ≡ Waiting j b) (bank : b < banks c) (free : v.service b ≡ None) (h : c.model.picked (v.arbiter b) q a) where
  -- The service that begins.
  abbrev pub begun : Service
  begun = record { place = q; left = latency c }

  pub pick_exchange : (x : Place) → x ≡ Served j b → Exchange c v q b x a (Some begun) (pick q ∷ [])
  pick_exchange x is =
      let shows = c.laws.steps.pick_shows (v.arbiter b) a q h in
      record {
        bank = bank;
        trace = rw free (then_pick h stop);
        keeps = c.laws.steps.pick_keeps (v.arbiter b) a q h;
        last = λ o f. shows.now ∙ f;
        holder = ap holder is ∙ sym (ap holder here);
        cycles = ap cycles_of is ∙ sym (ap cycles_of here);
        waits_here = shows.gone ∙ sym (ap (λ y. waits_at y b) is);
        serves_here = eq-eqb q q refl ∙ sym (ap (λ y. served_at y b) is ∙ eq-eqb b b refl);
        waits_others = shows.others;
        serves_others = λ o f. ne_eqb q o (λ e. f (sym e)) ∙ sym (ap (λ u. serves (served u) o) free);
        waits_away = λ d f. ap (λ y. waits_at y d) is ∙ sym (ap (λ y. waits_at y d) here ∙ ne_eqb b d (λ e. f (sym e)));
        serves_away = λ d f. ap (λ y. served_at y d) is ∙ ne_eqb b d (λ e. f (sym e)) ∙ sym (ap (λ y. served_at y d) here);
        posts_here = omega (arith, ap (λ y. left_of y b) is, ap (λ y. left_of y b) here);
        posts_away = λ d. omega (arith, ap (λ y. left_of y d) is, ap (λ y. left_of y d) here);
        posts_others = λ o f. refl;
        pays = λ o. omega (arith, ap (λ u. cond (stands_at (v.place o) b) (gone c u) 0) free, cond_zero (stands_at (v.place o) b));
      }
