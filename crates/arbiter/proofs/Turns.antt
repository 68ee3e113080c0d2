-- A side that takes turns with the other: the other side delays it no more than it delays itself.
use Rattle.std.proofs.Common.{◌≡◌, ℕ, ◌+◌, ◌<◌, ◌≤◌, min, Bool, true, false, not, ◌&&◌, ◌||◌, eqb, ◌≢◌, List, ◌++◌, get_or, Some, None, Option, sym, refl, ap, ◌∙◌, subst, inl, inr, arith}
use mathlib.Core.Bool.{or-true}
use Rattle.std.proofs.lemmas.Bool.{cases_Bool, both_ways}
use Rattle.arbiter.specs.Events.{Event, Trace, stop, then_post, then_pick, then_done, serves, posts, delay, one}
use Rattle.arbiter.specs.Answers.{Accepts}
use Rattle.arbiter.specs.Meaning.{Model}
use Rattle.arbiter.specs.Laws.{Steps, Lawful, Start, accesses}
use Rattle.arbiter.proofs.Flags.{one_le}
use Rattle.arbiter.proofs.Services.{post_waits, pick_waits}
use Rattle.arbiter.proofs.Traces.{trace_append, posts_append, delay_append, Extension, extension_idle, extension_served}
use Rattle.arbiter.proofs.Sides.{choose, seen, project, foreign, Numbers, Over, project_trace, project_delay, posts_own, same_own, not_own, delay_post, delay_pick, delay_done}

-- A debt stands where s waits and its side is served or comes next, or where s is served. How each event moves it.
debt_post : (w e x y : Bool) → one ((w && x) || y) ≤ one (((w || e) && x) || y)
debt_post true e x y = omega arith
debt_post false e x true = omega (arith, ap one (or-true ((e && x))))
debt_post false e x false = omega arith

debt_pick : (w f b e : Bool) → (b ≡ false → w ≡ true → f ≡ false) → one ((w && f) || false) ≤ one (((w && not e) && b) || e)
debt_pick false f b e h = omega arith
debt_pick true f true true h = omega (arith, one_le (f || false))
debt_pick true f true false h = omega (arith, one_le (f || false))
debt_pick true f false e h = omega (arith, ap (λ x. one (x || false)) (h refl refl))

debt_done : (w b e : Bool) → (b ≡ false → e ≡ false) → one (w && not b) + one (w && not b) + one ((w && b) || e) ≤ one (w || e) + one ((w && not b) || false)
debt_done true true e h = omega arith
debt_done true false e h = omega (arith, ap one (h refl))
debt_done false b e h = omega arith

module _ (mine : ℕ → Bool) (own : ℕ → ℕ) (num : Numbers mine own) {S K : Type 0} (m : Model S) (k : Model K) (side : S → K) (Fixed : S → Type 0) (over : Over mine own num m k side Fixed) (laws : Steps m) (turned : S → Bool) where
  -- `turned`: the last pick was one of the other side. Then the next is not, if somebody of the side waits.
  pub record Alternates : Type 0 where
    pub post_turn : (a b : S) (o : ℕ) → m.posted a o b → turned b ≡ turned a
    pub pick_turn : (a b : S) (o : ℕ) → Fixed a → m.picked a o b → turned b ≡ not (mine o)
    pub fair : (a b : S) (o s : ℕ) → Fixed a → m.picked a o b → mine o ≡ false → mine s ≡ true → m.waiting a s ≡ true → turned a ≡ false

  -- Is a service of the side under way, or the next to come?
  abbrev owed : Option ℕ → Bool → Bool
  owed None f = f
  owed (Some q) f = mine q

  abbrev debt : ℕ → Bool → Option ℕ → Bool → ℕ
  debt s w v f = one ((w && owed v f) || serves v s)

  -- A service under way is that of the last pick.
  abbrev pub Linked : Option ℕ → Bool → Type 0
  Linked None f = Unit {0}
  Linked (Some q) f = f ≡ not (mine q)

  module _ (alt : Alternates) where
    -- What the other side adds is paid by services of the own side, but for the debt.
    pub turn_debt : {a b : S} {v u : Option ℕ} {es : List Event} → (s : ℕ) (w : Bool) → mine s ≡ true → Fixed a → w ≡ m.waiting a s → Linked v (turned a) → Trace m.posted m.picked a v es b u → foreign mine own s w v es + debt s w v (turned a) ≤ delay (own s) w (seen mine own v) (project mine own v es) + debt s (m.waiting b s) u (turned b)
    turn_debt {a = a} {v = v} s w t f x l stop = omega (arith, ap (λ z. debt s z v (turned a)) x)
    turn_debt {v = v} s w t f x l (then_post {a = a} {b = b} {o = o} {es = es} free h r) =
        let e = alt.post_turn a b o h in
        let ih = turn_debt s (w || eqb o s) t (over.post_fixed a b o f h) (ap (λ z. z || eqb o s) x ∙ sym (post_waits m laws a b o s h)) (subst (Linked v) (sym e) l) r in
        omega (arith, ih, ap (λ z. debt s (w || eqb o s) v z) e, debt_post w (eqb o s) (owed v (turned a)) (serves v s), delay_post (own s) (own o) w (eqb o s) (mine o) (seen mine own v) (project mine own v es) (same_own mine own num o s t) (not_own mine own num o s t))
    turn_debt s w t f x l (then_pick {a = a} {b = b} {o = o} {es = es} h r) =
        let ih = turn_debt s (w && not (eqb o s)) t (over.pick_fixed a b o f h) (ap (λ z. z && not (eqb o s)) x ∙ sym (pick_waits m laws a b o s h)) (alt.pick_turn a b o f h) r in
        omega (arith, ih, debt_pick w (turned a) (mine o) (eqb o s) (λ n y. alt.fair a b o s f h n t (sym x ∙ y)), delay_pick (own s) (own o) w (eqb o s) (mine o) (project mine own (Some o) es) (same_own mine own num o s t) (not_own mine own num o s t))
    turn_debt s w t f x l (then_done {a = a} {o = q} {es = es} r) =
        let ih = turn_debt s w t f x tt r in
        omega (arith, ih, ap (λ z. one ((w && z) || false)) l, debt_done w (mine q) (eqb q s) (not_own mine own num q s t), delay_done (own s) (own q) w (eqb q s) (mine q) (project mine own None es) (same_own mine own num q s t) (not_own mine own num q s t))

-- The bound covers one service more than there was, where one must still come.
pub covers_one_more : {K : Type 0} (k : Model K) (laws : Lawful k) {x y : K} {V U : Option ℕ} {es : List Event} (s : ℕ) (ys : List ℕ) → Trace k.posted k.picked x V es y U → Extension k laws.steps s y U → Start k s x V → Accepts (k.width x) s (posts s es) ys → ((o : ℕ) → o < k.width x → o ≢ s → get_or ys o 0 ≡ accesses k x V es o) → delay s false V es + 1 ≤ k.bound x s (posts s es) ys
covers_one_more k laws {x} {y} {V} {U} {es} s ys r more st ok count =
    let fs : List Event = more.events in
    let same : (o : ℕ) → posts o (es ++ fs) ≡ posts o es = λ o. omega (arith, posts_append o es fs, more.quiet o) in
    let h = laws.covers x more.state V more.serving (es ++ fs) s ys (trace_append r more.trace) st (subst (λ n. Accepts (k.width x) s n ys) (sym (same s)) ok) (λ o i ne. count o i ne ∙ ap (λ n. one (k.waiting x o || serves V o) + n) (sym (same o))) in
    omega (arith, h, ap (λ n. k.bound x s n ys) (same s), delay_append k laws.steps fs s false (sym st.idle) r, more.counts)

module _ (mine : ℕ → Bool) (own : ℕ → ℕ) (num : Numbers mine own) {S K : Type 0} (m : Model S) (k : Model K) (side : S → K) (Fixed : S → Type 0) (over : Over mine own num m k side Fixed) (laws : Steps m) (turned : S → Bool) (alt : Alternates mine own num m k side Fixed over laws turned) (sided : Lawful k) where
  -- A debt is paid by one service more of the side.
  pays : (s : ℕ) (u : Option ℕ) (b : S) → mine s ≡ true → m.waiting b s ≡ k.waiting (side b) (own s) → ((m.waiting b s && owed mine own num m k side Fixed over laws turned u (turned b)) || serves u s) ≡ true → Extension k sided.steps (own s) (side b) (seen mine own u)
  pays s None b t link h = extension_idle k sided.steps (own s) (side b) (sym link ∙ front (m.waiting b s) (turned b) h)
    where
      front : (w f : Bool) → ((w && f) || false) ≡ true → w ≡ true
      front true f e = refl
      front false f e = e
  pays s (Some q) b t link h = go (mine q) refl
    where
      served : (w e : Bool) → ((w && true) || e) ≡ true → (w || e) ≡ true
      served true e x = refl
      served false e x = x

      strange : (w e : Bool) → e ≡ false → ((w && false) || e) ≡ true → ⊥
      strange true e z x = both_ways e z x
      strange false e z x = both_ways e z x

      go : (x : Bool) → mine q ≡ x → Extension k sided.steps (own s) (side b) (choose x (own q))
      go true e = extension_served k sided.steps (own s) (side b) (own q) (ap (λ w. w || eqb (own q) (own s)) (sym link) ∙ ap (λ z. m.waiting b s || z) (same_own mine own num q s t e) ∙ served (m.waiting b s) (eqb q s) (ap (λ z. (m.waiting b s && z) || eqb q s) (sym e) ∙ h))
      go false e = absurd (strange (m.waiting b s) (eqb q s) (not_own mine own num q s t e) (ap (λ z. (m.waiting b s && z) || eqb q s) (sym e) ∙ h))

  -- The side's delay with the debt is within the side's bound.
  pub turn_own : {a b : S} {v u : Option ℕ} {es : List Event} (s : ℕ) (ys : List ℕ) → mine s ≡ true → Fixed a → m.waiting b s ≡ k.waiting (side b) (own s) → Start k (own s) (side a) (seen mine own v) → Trace m.posted m.picked a v es b u → Accepts (k.width (side a)) (own s) (posts s es) ys → ((o : ℕ) → o < k.width (side a) → o ≢ own s → get_or ys o 0 ≡ accesses k (side a) (seen mine own v) (project mine own v es) o) → delay (own s) false (seen mine own v) (project mine own v es) + debt mine own num m k side Fixed over laws turned s (m.waiting b s) u (turned b) ≤ k.bound (side a) (own s) (posts s es) ys
  turn_own {a} {b} {v} {u} {es} s ys t f link st r ok count =
      let p = posts_own mine own num s v es t in
      let q = project_trace mine own num m k side Fixed over f r in
      let ok' = subst (λ n. Accepts (k.width (side a)) (own s) n ys) (sym p) ok in
      elim (cases_Bool ((m.waiting b s && owed mine own num m k side Fixed over laws turned u (turned b)) || serves u s)) [
        | inl h ↦ omega (arith, ap one h, ap (λ n. k.bound (side a) (own s) n ys) p, covers_one_more k sided (own s) ys q (pays s u b t link h) st ok' count)
        | inr h ↦ omega (arith, ap one h, ap (λ n. k.bound (side a) (own s) n ys) p, sided.covers (side a) (side b) (seen mine own v) (seen mine own u) (project mine own v es) (own s) ys q st ok' count)
      ]

  -- The whole delay: at most the side's bound, and as much again of the other side.
  pub turn_delay : {a b : S} {v u : Option ℕ} {es : List Event} (s : ℕ) (ys : List ℕ) → mine s ≡ true → Fixed a → m.waiting b s ≡ k.waiting (side b) (own s) → Start m s a v → Linked mine own num m k side Fixed over laws turned v (turned a) → Start k (own s) (side a) (seen mine own v) → Trace m.posted m.picked a v es b u → Accepts (k.width (side a)) (own s) (posts s es) ys → ((o : ℕ) → o < k.width (side a) → o ≢ own s → get_or ys o 0 ≡ accesses k (side a) (seen mine own v) (project mine own v es) o) → delay s false v es ≤ k.bound (side a) (own s) (posts s es) ys + min (k.bound (side a) (own s) (posts s es) ys) (foreign mine own s false v es)
  turn_delay {a} {b} {v} {u} {es} s ys t f link st l st' r ok count =
      omega (arith, project_delay mine own num m k side Fixed over s false t r, turn_own s ys t f link st' r ok count, turn_debt mine own num m k side Fixed over laws turned alt s false t f (sym st.idle) l r)
