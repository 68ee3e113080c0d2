-- An event at one place and one bank: an ask, a pick, an end of service.
use Rattle.std.proofs.Common.{◌≡◌, ℕ, ◌+◌, ◌*◌, ◌<◌, ◌≤◌, true, cond, ◌||◌, ◌≢◌, List, Some, Option, sym, refl, ap, ◌∙◌, subst, inl, inr}
use Rattle.std.proofs.lemmas.Bool.{cases_eq, eq-eqb, ne_eqb}
use Rattle.arbiter.specs.Events.{Event, Trace, delay, posts, serves}
use Rattle.arbiter.specs.Meaning.{Keeps, Model}
use Rattle.cluster.specs.declared.place.Place.{Place}
use Rattle.cluster.specs.declared.service.Service.{Service}
use Rattle.safety.proofs.Agreement.{Linked, Timely}
use Rattle.safety.proofs.Setting.{Setting, banks, first, gone, home, latency}
use Rattle.safety.proofs.Standing.{cycles_of, holder, left_of, served, served_at, stands_at, waits_at}
use Rattle.safety.proofs.Updates.{upd, upd_both}
use Rattle.safety.proofs.Views.{View, exchanged}

keeps_on : {A : Type 0} (m : Model A) (x y z : A) → Keeps m x y → Keeps m y z → Keeps m x z
keeps_on m x y z h k = record { width = k.width ∙ h.width; bound = λ s own xs. k.bound s own xs ∙ h.bound s own xs }

pub keeps_same : {A : Type 0} (m : Model A) (x : A) → Keeps m x x
keeps_same m x = record { width = refl; bound = λ s own xs. refl }

module _ {A : Type 0} (c : Setting A) (v : View A) (q b : ℕ) (x : Place) (a : A) (u : Option Service) where
  -- Place q becomes x, bank b has arbiter a and service u, and the arbiter goes through these events.
  pub record Exchange (es : List Event) : Type 0 where
    pub bank : b < banks c
    pub trace : Trace c.model.posted c.model.picked (v.arbiter b) (served (v.service b)) es a (served u)
    pub keeps : Keeps c.model (v.arbiter b) a
    pub last : (o : ℕ) → served u ≡ Some o → c.model.last a ≡ Some o
    -- The task stays, with its cycles.
    pub holder : holder x ≡ holder (v.place q)
    pub cycles : cycles_of x ≡ cycles_of (v.place q)
    -- The bank knows of x, and of other places what it knew.
    pub waits_here : c.model.waiting a q ≡ waits_at x b
    pub serves_here : serves (served u) q ≡ served_at x b
    pub waits_others : (o : ℕ) → o ≢ q → c.model.waiting a o ≡ c.model.waiting (v.arbiter b) o
    pub serves_others : (o : ℕ) → o ≢ q → serves (served u) o ≡ serves (served (v.service b)) o
    -- At other banks the place is what it was.
    pub waits_away : (d : ℕ) → d ≢ b → waits_at x d ≡ waits_at (v.place q) d
    pub serves_away : (d : ℕ) → d ≢ b → served_at x d ≡ served_at (v.place q) d
    -- A post uses up an access.
    pub posts_here : posts q es + left_of x b ≤ left_of (v.place q) b
    pub posts_away : (d : ℕ) → left_of x d ≤ left_of (v.place q) d
    pub posts_others : (o : ℕ) → o ≢ q → posts o es ≡ 0
    -- What the present service has had is kept, or counted as a service that delays.
    pub pays : (o : ℕ) → cond (stands_at (v.place o) b) (gone c (v.service b)) 0 ≤ latency c * delay o (c.model.waiting (v.arbiter b) o) (served (v.service b)) es + cond (stands_at (upd v.place q x o) b) (gone c u) 0

  module _ {es : List Event} (e : Exchange es) where
    -- A fact of all pairs of bank and place.
    everywhere : (P : Option Service → A → Place → ℕ → ℕ → Type 0) → P u a x b q → ((o : ℕ) → o ≢ q → P u a (v.place o) b o) → ((d : ℕ) → d ≢ b → P (v.service d) (v.arbiter d) x d q) → ((d o : ℕ) → d ≢ b → o ≢ q → P (v.service d) (v.arbiter d) (v.place o) d o) → (d o : ℕ) → P (upd v.service b u d) (upd v.arbiter b a d) (upd v.place q x o) d o
    everywhere P here others away rest d o =
        elim (cases_eq d b) [
          | inl same ↦ rw (eq-eqb d b same) (subst (λ k. P u a (upd v.place q x o) k o) (sym same) (upd_both v.place q o x (λ y. P u a y b o) (λ f. subst (P u a x b) (sym f) here) (λ f. others o f)))
          | inr apart ↦ rw (ne_eqb d b apart) (upd_both v.place q o x (λ y. P (v.service d) (v.arbiter d) y d o) (λ f. subst (P (v.service d) (v.arbiter d) x d) (sym f) (away d apart)) (λ f. rest d o apart f))
        ]

    pub holder_same : (o : ℕ) → holder (upd v.place q x o) ≡ holder (v.place o)
    holder_same o = upd_both v.place q o x (λ y. holder y ≡ holder (v.place o)) (λ f. e.holder ∙ ap (λ k. holder (v.place k)) (sym f)) (λ f. refl)

    pub cycles_same : (o : ℕ) → cycles_of (upd v.place q x o) ≡ cycles_of (v.place o)
    cycles_same o = upd_both v.place q o x (λ y. cycles_of y ≡ cycles_of (v.place o)) (λ f. e.cycles ∙ ap (λ k. cycles_of (v.place k)) (sym f)) (λ f. refl)

    pub stands_away : (d : ℕ) → d ≢ b → stands_at x d ≡ stands_at (v.place q) d
    stands_away d f = ap (λ y. y || served_at x d) (e.waits_away d f) ∙ ap (λ y. waits_at (v.place q) d || y) (e.serves_away d f)

    pub exchange_linked : Linked c v → Linked c (exchanged v q b x a u)
    exchange_linked lk = record {
      keeps = λ d l. upd_both v.arbiter b d a (Keeps c.model (first c d)) (λ f. keeps_on c.model (first c d) (v.arbiter b) a (subst (λ k. Keeps c.model (first c k) (v.arbiter b)) (sym f) (lk.keeps b e.bank)) e.keeps) (λ f. lk.keeps d l);
      waiting = λ d o l. everywhere (λ w z y k j. k < banks c → c.model.waiting z j ≡ waits_at y k) (λ i. e.waits_here) (λ j f i. e.waits_others j f ∙ lk.waiting b j i) (λ k f i. lk.waiting k q i ∙ sym (e.waits_away k f)) (λ k j f g i. lk.waiting k j i) d o l;
      serving = λ d o l. everywhere (λ w z y k j. k < banks c → serves (served w) j ≡ served_at y k) (λ i. e.serves_here) (λ j f i. e.serves_others j f ∙ lk.serving b j i) (λ k f i. lk.serving k q i ∙ sym (e.serves_away k f)) (λ k j f g i. lk.serving k j i) d o l;
      last = λ d o l. everywhere (λ w z y k j. k < banks c → served w ≡ Some o → c.model.last z ≡ Some o) (λ i. e.last o) (λ j f i. e.last o) (λ k f i. lk.last k o i) (λ k j f g i. lk.last k o i) d o l;
      inside = λ o d. everywhere (λ w z y k j. stands_at y k ≡ true → k < banks c) (λ i. e.bank) (λ j f i. e.bank) (λ k f i. lk.inside q k (sym (stands_away k f) ∙ i)) (λ k j f g i. lk.inside j k i) d o;
      holds = λ o t i. let w = lk.holds o t (sym (holder_same o) ∙ i) in record { known = w.known; here = w.here; stage = w.stage };
      held = λ t l w. holder_same (home c t) ∙ lk.held t l w;
    }

    pub exchange_timely : (n : ℕ) → Timely c n v → Timely c n (exchanged v q b x a u)
    exchange_timely n h = record { begun = h.begun; unfinished = h.unfinished }
