-- The events of one side of a layer: its trace, and what the other side adds to a delay.
use Rattle.std.proofs.Common.{◌≡◌, ℕ, ◌+◌, Bool, true, false, not, ◌&&◌, ◌||◌, eqb, List, [], ◌∷◌, Some, None, Option, sym, refl, ap, ◌∙◌, subst, inl, inr, arith}
use mathlib.Core.Bool.{or-false, and-true}
use Rattle.std.proofs.lemmas.Bool.{cases_eq, eq-eqb, ne_eqb, both_ways}
use Rattle.arbiter.specs.Events.{Event, post, pick, done, Trace, stop, then_post, then_pick, then_done, serves, posts, delay, one}
use Rattle.arbiter.specs.Meaning.{Model}

-- The event, where the flag says that it is one of the side.
abbrev pub put : Bool → Event → List Event → List Event
put true e es = e ∷ es
put false e es = es

-- The source in service, where the flag says that it is one of the side.
abbrev pub choose : Bool → ℕ → Option ℕ
choose true t = Some t
choose false t = None

-- A trace of the side goes on by an event of its own, and is the same after another's.
module _ {K : Type 0} {posted : K → ℕ → K → Type 0} {picked : K → ℕ → K → Type 0} {y : K} {U : Option ℕ} {es : List Event} where
  put_post : {x z : K} {V : Option ℕ} (b : Bool) (t : ℕ) → (b ≡ true → serves V t ≡ false) → (b ≡ true → posted x t z) → (b ≡ false → z ≡ x) → Trace posted picked z V es y U → Trace posted picked x V (put b (post t) es) y U
  put_post true t f h k r = then_post (f refl) (h refl) r
  put_post {V = V} false t f h k r = subst (λ c. Trace posted picked c V es y U) (k refl) r

  put_pick : {x z : K} (b : Bool) (t : ℕ) → (b ≡ true → picked x t z) → (b ≡ false → z ≡ x) → Trace posted picked z (choose b t) es y U → Trace posted picked x None (put b (pick t) es) y U
  put_pick true t h k r = then_pick (h refl) r
  put_pick false t h k r = subst (λ c. Trace posted picked c None es y U) (k refl) r

  put_done : {x : K} (b : Bool) (t : ℕ) → Trace posted picked x None es y U → Trace posted picked x (choose b t) (put b done es) y U
  put_done true t r = then_done r
  put_done false t r = r

-- What an event adds to the delay; e says whether it is one of s.
pub delay_post : (s t : ℕ) (w e b : Bool) (v : Option ℕ) (es : List Event) → (b ≡ true → eqb t s ≡ e) → (b ≡ false → e ≡ false) → delay s w v (put b (post t) es) ≡ delay s (w || e) v es
delay_post s t w e true v es h k = ap (λ x. delay s (w || x) v es) (h refl)
delay_post s t w e false v es h k = ap (λ x. delay s x v es) (sym (or-false w) ∙ ap (λ x. w || x) (sym (k refl)))

pub delay_pick : (s t : ℕ) (w e b : Bool) (es : List Event) → (b ≡ true → eqb t s ≡ e) → (b ≡ false → e ≡ false) → delay s w None (put b (pick t) es) ≡ delay s (w && not e) (choose b t) es
delay_pick s t w e true es h k = ap (λ x. delay s (w && not x) (Some t) es) (h refl)
delay_pick s t w e false es h k = ap (λ x. delay s x None es) (sym (and-true w) ∙ ap (λ x. w && not x) (sym (k refl)))

pub delay_done : (s t : ℕ) (w e b : Bool) (es : List Event) → (b ≡ true → eqb t s ≡ e) → (b ≡ false → e ≡ false) → delay s w (choose b t) (put b done es) + one (w && not b) ≡ one (w || e) + delay s w None es
delay_done s t true e true es h k = omega arith
delay_done s t false e true es h k = omega (arith, ap one (h refl))
delay_done s t true e false es h k = omega arith
delay_done s t false e false es h k = omega (arith, ap one (k refl))

-- What an event adds to the posts of s.
posts_put : (s t : ℕ) (e b : Bool) (es : List Event) → (b ≡ true → eqb t s ≡ e) → (b ≡ false → e ≡ false) → posts s (put b (post t) es) ≡ one e + posts s es
posts_put s t e true es h k = omega (arith, ap one (h refl))
posts_put s t e false es h k = omega (arith, ap one (k refl))

posts_pick : (s t : ℕ) (b : Bool) (es : List Event) → posts s (put b (pick t) es) ≡ posts s es
posts_pick s t true es = refl
posts_pick s t false es = refl

posts_done : (s : ℕ) (b : Bool) (es : List Event) → posts s (put b done es) ≡ posts s es
posts_done s true es = refl
posts_done s false es = refl

-- `mine` tells the sources of the side, and `own` the side's numbers for them.
module _ (mine : ℕ → Bool) (own : ℕ → ℕ) where
  -- The source in service, as the side sees it.
  abbrev pub seen : Option ℕ → Option ℕ
  seen None = None
  seen (Some o) = choose (mine o) (own o)

  -- Is the service one of the side?
  abbrev pub belongs : Option ℕ → Bool
  belongs None = true
  belongs (Some o) = mine o

  -- The events of the side, in its numbers.
  abbrev pub project : Option ℕ → List Event → List Event
  project v [] = []
  project v (post o ∷ es) = put (mine o) (post (own o)) (project v es)
  project v (pick o ∷ es) = put (mine o) (pick (own o)) (project (Some o) es)
  project v (done ∷ es) = put (belongs v) done (project None es)

  -- Services of the other side that end while s waits.
  abbrev pub foreign : ℕ → Bool → Option ℕ → List Event → ℕ
  foreign s w v [] = 0
  foreign s w v (post o ∷ es) = foreign s (w || eqb o s) v es
  foreign s w v (pick o ∷ es) = foreign s (w && not (eqb o s)) (Some o) es
  foreign s w v (done ∷ es) = one (w && not (belongs v)) + foreign s w None es

  -- Sources of the side have numbers of their own.
  pub record Numbers : Type 0 where
    pub apart : (o s : ℕ) → mine o ≡ true → mine s ≡ true → own o ≡ own s → o ≡ s

  module _ (num : Numbers) where
    pub same_own : (o s : ℕ) → mine s ≡ true → mine o ≡ true → eqb (own o) (own s) ≡ eqb o s
    same_own o s h k = elim (cases_eq o s) [ inl e ↦ eq-eqb (own o) (own s) (ap own e) ∙ sym (eq-eqb o s e) | inr ne ↦ ne_eqb (own o) (own s) (λ e. ne (num.apart o s k h e)) ∙ sym (ne_eqb o s ne) ]

    pub not_own : (o s : ℕ) → mine s ≡ true → mine o ≡ false → eqb o s ≡ false
    not_own o s h k = ne_eqb o s (λ e. both_ways (mine o) k (ap mine e ∙ h))

    pub posts_own : (s : ℕ) (v : Option ℕ) (es : List Event) → mine s ≡ true → posts (own s) (project v es) ≡ posts s es
    posts_own s v [] h = refl
    posts_own s v (post o ∷ es) h = posts_put (own s) (own o) (eqb o s) (mine o) (project v es) (same_own o s h) (not_own o s h) ∙ ap (λ x. one (eqb o s) + x) (posts_own s v es h)
    posts_own s v (pick o ∷ es) h = posts_pick (own s) (own o) (mine o) (project (Some o) es) ∙ posts_own s (Some o) es h
    posts_own s v (done ∷ es) h = posts_done (own s) (belongs v) (project None es) ∙ posts_own s None es h

    -- What a layer does to one of its sides; `Fixed` holds of the layers in question, and is kept.
    module _ {S K : Type 0} (m : Model S) (k : Model K) (side : S → K) (Fixed : S → Type 0) where
      pub record Over : Type 0 where
        pub post_fixed : (a b : S) (o : ℕ) → Fixed a → m.posted a o b → Fixed b
        pub pick_fixed : (a b : S) (o : ℕ) → Fixed a → m.picked a o b → Fixed b
        pub post_own : (a b : S) (o : ℕ) → Fixed a → m.posted a o b → mine o ≡ true → k.posted (side a) (own o) (side b)
        pub post_other : (a b : S) (o : ℕ) → Fixed a → m.posted a o b → mine o ≡ false → side b ≡ side a
        pub pick_own : (a b : S) (o : ℕ) → Fixed a → m.picked a o b → mine o ≡ true → k.picked (side a) (own o) (side b)
        pub pick_other : (a b : S) (o : ℕ) → Fixed a → m.picked a o b → mine o ≡ false → side b ≡ side a

      module _ (over : Over) where
        seen_other : (v : Option ℕ) (o : ℕ) → serves v o ≡ false → mine o ≡ true → serves (seen v) (own o) ≡ false
        seen_other None o h t = refl
        seen_other (Some p) o h t = go (mine p) refl
          where
            go : (b : Bool) → mine p ≡ b → serves (choose b (own p)) (own o) ≡ false
            go true e = same_own p o t e ∙ h
            go false e = refl

        -- The side's events are a trace of the side.
        pub project_trace : {a b : S} {v u : Option ℕ} {es : List Event} → Fixed a → Trace m.posted m.picked a v es b u → Trace k.posted k.picked (side a) (seen v) (project v es) (side b) (seen u)
        project_trace f stop = stop
        project_trace {v = v} f (then_post {a = a} {b = b} {o = o} free h r) =
            put_post (mine o) (own o) (seen_other v o free) (over.post_own a b o f h) (over.post_other a b o f h) (project_trace (over.post_fixed a b o f h) r)
        project_trace f (then_pick {a = a} {b = b} {o = o} h r) =
            put_pick (mine o) (own o) (over.pick_own a b o f h) (over.pick_other a b o f h) (project_trace (over.pick_fixed a b o f h) r)
        project_trace f (then_done {o = o} r) = put_done (mine o) (own o) (project_trace f r)

        -- A delay is the side's delay and what the other side adds.
        pub project_delay : {a b : S} {v u : Option ℕ} {es : List Event} → (s : ℕ) (w : Bool) → mine s ≡ true → Trace m.posted m.picked a v es b u → delay s w v es ≡ delay (own s) w (seen v) (project v es) + foreign s w v es
        project_delay s w t stop = refl
        project_delay {v = v} s w t (then_post {o = o} {es = es} free h r) =
            omega (arith, project_delay s (w || eqb o s) t r, delay_post (own s) (own o) w (eqb o s) (mine o) (seen v) (project v es) (same_own o s t) (not_own o s t))
        project_delay s w t (then_pick {o = o} {es = es} h r) =
            omega (arith, project_delay s (w && not (eqb o s)) t r, delay_pick (own s) (own o) w (eqb o s) (mine o) (project (Some o) es) (same_own o s t) (not_own o s t))
        project_delay s w t (then_done {o = o} {es = es} r) =
            omega (arith, project_delay s w t r, delay_done (own s) (own o) w (eqb o s) (mine o) (project None es) (same_own o s t) (not_own o s t))
