-- An arbiter that serves no other source twice while a source waits: the fair bound covers every delay.
use Rattle.std.proofs.Common.{◌≡◌, ℕ, ◌+◌, ◌<◌, ◌≤◌, min, Bool, true, false, not, ◌&&◌, ◌||◌, eqb, ◌≢◌, ◌⊎◌, List, get_or, Some, None, Option, sym, refl, ap, ◌∙◌, subst, inl, inr, arith}
use Rattle.std.proofs.lemmas.Bool.{cases_eq, eq-eqb, ne_eqb, eqb-true, eqb-false, not-true, or_cases}
use Rattle.arbiter.specs.Events.{Event, Trace, stop, then_post, then_pick, then_done, serves, posts, delay, one}
use Rattle.arbiter.specs.Counts.{counted}
use Rattle.arbiter.specs.Fair.{fair_bound}
use Rattle.arbiter.specs.Meaning.{Model}
use Rattle.arbiter.specs.Laws.{Steps, Start, accesses}
use Rattle.arbiter.proofs.Flags.{one_post, one_pick, one_done}
use Rattle.arbiter.proofs.Sums.{sum_below_le}
use Rattle.arbiter.proofs.Services.{ends, others_ends, served_below, ends_services, post_waits, pick_waits, services_le, services_accesses, delay_parts}

or_keeps : (p x y : Bool) → (x ≡ true → y ≡ true) → (p || x) ≡ true → (p || y) ≡ true
or_keeps true x y h e = refl
or_keeps false x y h e = h e

module _ {S : Type 0} (m : Model S) (laws : Steps m) (before : S → ℕ → ℕ → Bool) where
  -- `before a s o`: while s waits, o may be served once more before it.
  pub record Order : Type 0 where
    pub post_keeps : (a b : S) (p s o : ℕ) → m.posted a p b → m.waiting a s ≡ true → before b s o ≡ true → before a s o ≡ true
    pub pick_first : (a b : S) (p s : ℕ) → m.picked a p b → m.waiting a s ≡ true → p ≢ s → before a s p ≡ true
    pub pick_keeps : (a b : S) (p s o : ℕ) → m.picked a p b → m.waiting a s ≡ true → p ≢ s → o < m.width a → before b s o ≡ true → before a s o ≡ true
    pub served : (a : S) (s o : ℕ) → s < m.width a → m.last a ≡ Some o → m.waiting a o ≡ false → before a s o ≡ false

  -- The source in service is the last picked, and does not wait.
  abbrev Serving : Option ℕ → S → Type 0
  Serving v a = (q : ℕ) → v ≡ Some q → (m.last a ≡ Some q) × (m.waiting a q ≡ false)

  none_served : (a : S) → Serving None a
  none_served a q e = let z : ◌≡◌ {A = ℕ} 0 1 = cc in absurd (omega arith)

  post_serving : (v : Option ℕ) (a b : S) (p : ℕ) → serves v p ≡ false → m.posted a p b → Serving v a → Serving v b
  post_serving None a b p f h k q e = none_served b q e
  post_serving (Some r) a b p f h k q e =
      let x = laws.post_shows a b p h in
      let same : r ≡ q = cc in
      let apart : q ≢ p = λ z. eqb-false r p f (same ∙ z) in
      (x.same ∙ (k q e).0, x.others q apart ∙ (k q e).1)

  pick_serving : (a b : S) (p : ℕ) → m.picked a p b → Serving (Some p) b
  pick_serving a b p h q e =
      let x = laws.pick_shows a b p h in
      let same : p ≡ q = cc in
      (x.now ∙ e, ap (m.waiting b) (sym same) ∙ x.gone)

  module _ (order : Order) where
    -- No other source ends more services while s waits than s posts.
    once : {a b : S} {v u : Option ℕ} {es : List Event} → (s o n : ℕ) (w : Bool) → s < n → o < n → m.width a ≡ n → Serving v a → w ≡ m.waiting a s → Trace m.posted m.picked a v es b u → ends s o w v es ≤ one (w && (serves v o || before a s o)) + posts s es
    once s o n w i j e t x stop = omega arith
    once {v = v} s o n w i j e t x (then_post {a = a} {b = b} {o = p} free h r) =
        let more = once s o n (w || eqb p s) i j ((laws.post_keeps a b p h).width ∙ e) (post_serving v a b p free h t) (ap (λ z. z || eqb p s) x ∙ sym (post_waits m laws a b p s h)) r in
        omega (arith, more, one_post w (eqb p s) (serves v o || before b s o) (serves v o || before a s o) (λ y z. or_keeps (serves v o) (before b s o) (before a s o) (order.post_keeps a b p s o h (sym x ∙ y)) z))
    once s o n w i j e t x (then_pick {a = a} {b = b} {o = p} h r) =
        let more = once s o n (w && not (eqb p s)) i j ((laws.pick_keeps a b p h).width ∙ e) (pick_serving a b p h) (ap (λ z. z && not (eqb p s)) x ∙ sym (pick_waits m laws a b p s h)) r in
        omega (arith, more, one_pick w (not (eqb p s)) (eqb p o || before b s o) (before a s o) (λ y z k. go (sym x ∙ y) (eqb-false p s (not-true (eqb p s) z)) (or_cases (eqb p o) (before b s o) k)))
      where
        go : m.waiting a s ≡ true → p ≢ s → (eqb p o ≡ true) ⊎ (before b s o ≡ true) → before a s o ≡ true
        go y ne (inl k) = subst (λ z. before a s z ≡ true) (eqb-true p o k) (order.pick_first a b p s h y ne)
        go y ne (inr k) = order.pick_keeps a b p s o h y ne (omega (arith, e)) k
    once s o n w i j e t x (then_done {a = a} {o = q} r) =
        let more = once s o n w i j e (none_served a) x r in
        omega (arith, more, one_done w (eqb q o) (before a s o) (λ y. subst (λ z. before a s z ≡ false) (eqb-true q o y) (order.served a s q (omega (arith, e)) (t q refl).0 (t q refl).1)))

    -- So the fair bound covers the delay.
    pub order_covers : (a b : S) (v u : Option ℕ) (es : List Event) (s : ℕ) (xs : List ℕ) → Trace m.posted m.picked a v es b u → Start m s a v → s < m.width a → ((o : ℕ) → o < m.width a → o ≢ s → get_or xs o 0 ≡ accesses m a v es o) → delay s false v es ≤ fair_bound (m.width a) s (posts s es) xs
    order_covers a b v u es s xs r st i count =
        let n : ℕ = m.width a in
        let each : (o : ℕ) → o < n → others_ends s false v es o ≤ min (counted s xs o) (posts s es) =
        λ o j. elim (cases_eq o s) [
          | inl same ↦ rw (eq-eqb o s same) (omega arith)
          | inr apart ↦ rw (ne_eqb o s apart) (omega (arith, count o j apart, ends_services s o false v es, services_accesses m laws s o st r, once s o n false i j refl st.picked (sym st.idle) r))
        ] in
        omega (arith, delay_parts m laws s n false refl (served_below v n (λ q e. laws.last_below a q (st.picked q e).0)) r, services_le m laws s r, ap one st.idle, ap one st.other, sum_below_le n (others_ends s false v es) (λ o. min (counted s xs o) (posts s es)) each)
