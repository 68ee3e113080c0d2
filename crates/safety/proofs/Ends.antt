-- The end of a service is an exchange.
use Rattle.std.proofs.Common.{◌≡◌, ℕ, ◌*◌, ◌<◌, ◌≤◌, Bool, true, false, cond, ◌||◌, [], ◌∷◌, Some, None, Option, sym, refl, ap, ◌∙◌, arith}
use Rattle.std.proofs.lemmas.Bool.{eqb-true, false≢true, ne_eqb}
use Rattle.arbiter.specs.Events.{delay, done, one, serves, stop, then_done}
use Rattle.cluster.specs.declared.place.Job.{Job}
use Rattle.cluster.specs.declared.place.Place.{Place}
use Rattle.cluster.specs.declared.place.Place.TheVariants.{Idle, Working, Waiting, Served}
use Rattle.cluster.specs.declared.service.Service.{Service}
use Rattle.safety.proofs.Agreement.{Linked, known_stands}
use Rattle.safety.proofs.Exchanges.{Exchange, keeps_same}
use Rattle.safety.proofs.Options.{none_some}
use Rattle.safety.proofs.Setting.{Setting, banks, gone, latency}
use Rattle.safety.proofs.Standing.{cycles_of, holder, left_of, served, served_at, stands_at, waits_at}
use Rattle.safety.proofs.Views.{View}

pub served_is : (x : Place) (b : ℕ) → served_at x b ≡ true → (j : Job) × (x ≡ Served j b)
served_is Idle b e = absurd (false≢true e)
served_is (Working j) b e = absurd (false≢true e)
served_is (Waiting j bank) b e = absurd (false≢true e)
served_is (Served j bank) b e = (j, ap (Served j) (eqb-true bank b e))

-- A full service counts as one.
full : (x : Bool) (latency : ℕ) → cond x latency 0 ≤ latency * one x
full true latency = omega arith
full false latency = omega arith

module _ {A : Type 0} (c : Setting A) (v : View A) (b : ℕ) (y : Service) (j : Job) (lk : Linked c v) (bank : b < banks c) (on : v.service b ≡ Some y) (over : y.left ≡ 0) (here : v.place y.place ≡ Served j b) where
  pays : (w : Option Service) (o : ℕ) → w ≡ Some y → (c.model.waiting (v.arbiter b) o || serves (served w) o) ≡ stands_at (v.place o) b → cond (stands_at (v.place o) b) (gone c w) 0 ≤ latency c * delay o (c.model.waiting (v.arbiter b) o) (served w) (done ∷ [])
  pays w o e k =
      let all : gone c w ≡ latency c = ap (gone c) e ∙ omega (arith, over) in
      omega (arith, ap (λ n. cond (stands_at (v.place o) b) n 0) all, full (stands_at (v.place o) b) (latency c), ap (λ t. latency c * one t) k)

  pub end_exchange : (x : Place) → x ≡ Working j → Exchange c v y.place b x (v.arbiter b) None (done ∷ [])
  end_exchange x is = record {
    bank = bank;
    trace = rw on (then_done stop);
    keeps = keeps_same c.model (v.arbiter b);
    last = λ o f. absurd (none_some o f);
    holder = ap holder is ∙ sym (ap holder here);
    cycles = ap cycles_of is ∙ sym (ap cycles_of here);
    waits_here = lk.waiting b y.place bank ∙ ap (λ z. waits_at z b) here ∙ sym (ap (λ z. waits_at z b) is);
    serves_here = sym (ap (λ z. served_at z b) is);
    waits_others = λ o f. refl;
    serves_others = λ o f. sym (ap (λ u. serves (served u) o) on ∙ ne_eqb y.place o (λ e. f (sym e)));
    waits_away = λ d f. ap (λ z. waits_at z d) is ∙ sym (ap (λ z. waits_at z d) here);
    serves_away = λ d f. ap (λ z. served_at z d) is ∙ sym (ap (λ z. served_at z d) here ∙ ne_eqb b d (λ e. f (sym e)));
    posts_here = omega (arith, ap (λ z. left_of z b) is, ap (λ z. left_of z b) here);
    posts_away = λ d. omega (arith, ap (λ z. left_of z d) is, ap (λ z. left_of z d) here);
    posts_others = λ o f. refl;
    pays = λ o. omega (arith, pays (v.service b) o on (known_stands c v lk b o bank));
  }
