-- No source is served more often than it has accesses.
use Rattle.std.proofs.Common.{◌≡◌, ℕ, ◌+◌, ◌<◌, ◌≤◌, Bool, true, false, cond, not, ◌&&◌, ◌||◌, eqb, ◌≢◌, List, [], ◌∷◌, Some, None, Option, sym, refl, ap, ◌∙◌, subst, inl, inr, arith}
use mathlib.Core.Bool.{or-false, and-true}
use Rattle.std.proofs.lemmas.Bool.{cases_Bool, cases_eq, eq-eqb, ne_eqb, eqb-true, or_right, and_right, false≢true, both_ways}
use Rattle.arbiter.specs.Events.{Event, post, pick, done, Trace, stop, then_post, then_pick, then_done, serves, posts, delay, one}
use Rattle.arbiter.specs.Counts.{sum_below}
use Rattle.arbiter.specs.Meaning.{Model}
use Rattle.arbiter.specs.Laws.{Steps, Start, accesses}
use Rattle.arbiter.proofs.Flags.{one_le, one_and, one_own, one_either, cond_mono}
use Rattle.arbiter.proofs.Sums.{sum_below_le, sum_below_more}

-- Ended services of o.
abbrev pub services : ℕ → Option ℕ → List Event → ℕ
services o v [] = 0
services o v (post p ∷ es) = services o v es
services o v (pick p ∷ es) = services o (Some p) es
services o v (done ∷ es) = one (serves v o) + services o None es

-- Services of o that end while s waits.
abbrev pub ends : ℕ → ℕ → Bool → Option ℕ → List Event → ℕ
ends s o w v [] = 0
ends s o w v (post p ∷ es) = ends s o (w || eqb p s) v es
ends s o w v (pick p ∷ es) = ends s o (w && not (eqb p s)) (Some p) es
ends s o w v (done ∷ es) = one (w && serves v o) + ends s o w None es

-- The same of the sources other than s.
abbrev pub others_ends : ℕ → Bool → Option ℕ → List Event → ℕ → ℕ
others_ends s w v es o = cond (eqb o s) 0 (ends s o w v es)

-- A source in service is one of n.
abbrev pub ServedBelow : ℕ → Option ℕ → Type 0
ServedBelow n None = Unit {0}
ServedBelow n (Some o) = o < n

pub served_below : (l : Option ℕ) (n : ℕ) → ((s : ℕ) → l ≡ Some s → s < n) → ServedBelow n l
served_below None n h = tt
served_below (Some s) n h = h s refl

pub ends_services : (s o : ℕ) (w : Bool) (v : Option ℕ) (es : List Event) → ends s o w v es ≤ services o v es
ends_services s o w v [] = omega arith
ends_services s o w v (post p ∷ es) = ends_services s o (w || eqb p s) v es
ends_services s o w v (pick p ∷ es) = ends_services s o (w && not (eqb p s)) (Some p) es
ends_services s o w v (done ∷ es) = omega (arith, one_and w (serves v o), ends_services s o w None es)

-- The end of p's service while s waits adds one to the sum over the sources that are not mine, if p is one of them.
pub sum_one_more : (mine : ℕ → Bool) (n p : ℕ) (w : Bool) (f : ℕ → ℕ) → p < n → one (w && not (mine p)) + sum_below n (λ o. cond (mine o) 0 (f o)) ≤ sum_below n (λ o. cond (mine o) 0 (one (w && eqb p o) + f o))
sum_one_more mine n p false f k = omega (arith, sum_below_le n (λ o. cond (mine o) 0 (f o)) (λ o. cond (mine o) 0 (0 + f o)) (λ o j. cond_mono (mine o) (f o) (0 + f o) (omega arith)))
sum_one_more mine n p true f k =
    let before : ℕ → ℕ = λ o. cond (mine o) 0 (f o) in
    let after : ℕ → ℕ = λ o. cond (mine o) 0 (one (eqb p o) + f o) in
    let grown : (o : ℕ) → before o ≤ after o = λ o. cond_mono (mine o) (f o) (one (eqb p o) + f o) (omega arith) in
    elim (cases_Bool (mine p)) [
      | inl t ↦ omega (arith, ap (λ b. one (not b)) t, sum_below_le n before after (λ o j. grown o))
      | inr t ↦ omega (arith, ap (λ b. one (not b)) t, sum_below_more n before after p k grown (rw (t, eq-eqb p p refl) (omega arith)))
    ]

module _ {S : Type 0} (m : Model S) (laws : Steps m) where
  -- What a post and a pick do to the waiting sources, as a test.
  pub post_waits : (a b : S) (p o : ℕ) → m.posted a p b → m.waiting b o ≡ (m.waiting a o || eqb p o)
  post_waits a b p o h =
      let k = laws.post_shows a b p h in
      elim (cases_eq p o) [
        | inl e ↦ sym (ap (m.waiting b) e) ∙ k.now ∙ sym (or_right (m.waiting a o) (eqb p o) (eq-eqb p o e))
        | inr n ↦ k.others o (λ e. n (sym e)) ∙ sym (or-false (m.waiting a o)) ∙ ap (λ x. m.waiting a o || x) (sym (ne_eqb p o n))
      ]

  pub pick_waits : (a b : S) (p o : ℕ) → m.picked a p b → m.waiting b o ≡ (m.waiting a o && not (eqb p o))
  pick_waits a b p o h =
      let k = laws.pick_shows a b p h in
      elim (cases_eq p o) [
        | inl e ↦ sym (ap (m.waiting b) e) ∙ k.gone ∙ sym (and_right (m.waiting a o) (not (eqb p o)) (ap not (eq-eqb p o e)))
        | inr n ↦ k.others o (λ e. n (sym e)) ∙ sym (and-true (m.waiting a o)) ∙ ap (λ x. m.waiting a o && not x) (sym (ne_eqb p o n))
      ]

  -- The same as numbers.
  pub post_one : (a b : S) (p o : ℕ) → m.posted a p b → one (m.waiting b o) ≤ one (m.waiting a o) + one (eqb p o)
  post_one a b p o h =
      let k = laws.post_shows a b p h in
      elim (cases_eq p o) [ inl e ↦ omega (arith, one_le (m.waiting b o), ap one (eq-eqb p o e)) | inr n ↦ omega (arith, ap one (k.others o (λ e. n (sym e)))) ]

  pub pick_one : (a b : S) (p o : ℕ) → m.picked a p b → one (m.waiting b o) + one (eqb p o) ≤ one (m.waiting a o)
  pick_one a b p o h =
      let k = laws.pick_shows a b p h in
      elim (cases_eq p o) [
        | inl e ↦ omega (arith, one_le (eqb p o), ap one (sym (ap (m.waiting a) e) ∙ k.waited), ap one (sym (ap (m.waiting b) e) ∙ k.gone))
        | inr n ↦ omega (arith, ap one (k.others o (λ e. n (sym e))), ap one (ne_eqb p o n))
      ]

  pub services_le : {a b : S} {v u : Option ℕ} {es : List Event} → (o : ℕ) → Trace m.posted m.picked a v es b u → services o v es ≤ one (m.waiting a o) + one (serves v o) + posts o es
  services_le o stop = omega arith
  services_le o (then_post {a = a} {b = b} {o = p} free h r) = omega (arith, services_le o r, post_one a b p o h)
  services_le o (then_pick {a = a} {b = b} {o = p} h r) = omega (arith, services_le o r, pick_one a b p o h)
  services_le o (then_done r) = omega (arith, services_le o r)

  pub services_accesses : {a b : S} {v u : Option ℕ} {es : List Event} → (s o : ℕ) → Start m s a v → Trace m.posted m.picked a v es b u → services o v es ≤ accesses m a v es o
  services_accesses {a} {b} {v} {u} {es} s o st r = omega (arith, services_le o r, one_either (m.waiting a o) (serves v o) (λ t. served v st.picked t))
    where
      served : (x : Option ℕ) → ((p : ℕ) → x ≡ Some p → (m.last a ≡ Some p) × (m.waiting a p ≡ false)) → serves x o ≡ true → m.waiting a o ≡ false
      served None k t = elim (false≢true t) [ ]
      served (Some p) k t = subst (λ x. m.waiting a x ≡ false) (eqb-true p o t) (k p refl).1

  -- The delay of s is made of its own services and, source by source, of the others' that end while it waits.
  pub delay_parts : {a b : S} {v u : Option ℕ} {es : List Event} → (s n : ℕ) (w : Bool) → m.width a ≡ n → ServedBelow n v → Trace m.posted m.picked a v es b u → delay s w v es ≤ services s v es + sum_below n (others_ends s w v es)
  delay_parts s n w e i stop = omega arith
  delay_parts s n w e i (then_post {a = a} {b = b} {o = p} free h r) = delay_parts s n (w || eqb p s) ((laws.post_keeps a b p h).width ∙ e) i r
  delay_parts s n w e i (then_pick {a = a} {b = b} {o = p} h r) =
      delay_parts s n (w && not (eqb p s)) ((laws.pick_keeps a b p h).width ∙ e) (omega (arith, e, laws.waiting_below a p (laws.pick_shows a b p h).waited)) r
  delay_parts s n w e i (then_done {o = p} {es = es} r) =
      omega (arith, delay_parts s n w e tt r, one_own w (eqb p s), sum_one_more (λ o. eqb o s) n p w (λ o. ends s o w None es) i)

  -- A source that never posts is never delayed.
  pub idle_delay : {a b : S} {v u : Option ℕ} {es : List Event} → (s : ℕ) → m.waiting a s ≡ false → serves v s ≡ false → posts s es ≡ 0 → Trace m.posted m.picked a v es b u → delay s false v es ≡ 0
  idle_delay s x y z stop = refl
  idle_delay {v = v} s x y z (then_post {a = a} {b = b} {o = o} {es = es} free h r) =
      elim (cases_eq o s) [
        | inl e ↦ absurd (omega (arith, ap one (eq-eqb o s e)))
        | inr ne ↦ ap (λ c. delay s c v es) (ne_eqb o s ne) ∙ idle_delay s ((laws.post_shows a b o h).others s (λ e. ne (sym e)) ∙ x) y (omega arith) r
      ]
  idle_delay s x y z (then_pick {a = a} {b = b} {o = o} {es = es} h r) =
      let k = laws.pick_shows a b o h in
      let ne : o ≢ s = λ e. both_ways (m.waiting a o) (ap (m.waiting a) e ∙ x) k.waited in
      idle_delay s (k.others s (λ e. ne (sym e)) ∙ x) (ne_eqb o s ne) z r
  idle_delay s x y z (then_done {o = q} r) = omega (arith, idle_delay s x refl z r, ap one y)
