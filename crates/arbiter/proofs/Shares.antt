-- What a layer's events are to one of its sides, and how its delay splits into the side's and the other side's.
use Rattle.std.proofs.Common.{◌≡◌, ℕ, ◌+◌, ◌<◌, ◌≤◌, min, Bool, true, false, cond, not, ◌&&◌, ◌||◌, eqb, ◌≢◌, List, get_or, Some, None, Option, sym, refl, ap, ◌∙◌, subst, inl, inr, arith}
use Rattle.std.proofs.lemmas.Bool.{cases_Bool, not-true, both_ways}
use Rattle.arbiter.specs.Events.{Event, Trace, stop, then_post, then_pick, then_done, serves, posts, delay, one}
use Rattle.arbiter.specs.Counts.{sum_below, others_sum}
use Rattle.arbiter.specs.Answers.{Accepts}
use Rattle.arbiter.specs.Meaning.{Model}
use Rattle.arbiter.specs.Laws.{Steps, Lawful, Start, accesses}
use Rattle.arbiter.proofs.Flags.{one_post, one_pick}
use Rattle.arbiter.proofs.Sums.{sum_below_le}
use Rattle.arbiter.proofs.Services.{ends, ends_services, sum_one_more, ServedBelow, served_below, post_waits, pick_waits, services_accesses}
use Rattle.arbiter.proofs.Sides.{choose, seen, belongs, project, foreign, Numbers, Over, project_trace, project_delay, posts_own, same_own, not_own}
use Rattle.arbiter.proofs.Turns.{Alternates, Linked, turn_delay}

one_none : (w : Bool) → one (w && false) ≤ 0
one_none true = omega arith
one_none false = omega arith

module _ {S : Type 0} (m : Model S) (laws : Steps m) where
  module _ (mine : ℕ → Bool) (own : ℕ → ℕ) where
    -- What the other side adds, source by source.
    foreign_ends : {a b : S} {v u : Option ℕ} {es : List Event} → (s n : ℕ) (w : Bool) → m.width a ≡ n → ServedBelow n v → Trace m.posted m.picked a v es b u → foreign mine own s w v es ≤ sum_below n (λ o. cond (mine o) 0 (ends s o w v es))
    foreign_ends s n w e i stop = omega arith
    foreign_ends s n w e i (then_post {a = a} {b = b} {o = p} free h r) = foreign_ends s n (w || eqb p s) ((laws.post_keeps a b p h).width ∙ e) i r
    foreign_ends s n w e i (then_pick {a = a} {b = b} {o = p} h r) =
        foreign_ends s n (w && not (eqb p s)) ((laws.pick_keeps a b p h).width ∙ e) (omega (arith, e, laws.waiting_below a p (laws.pick_shows a b p h).waited)) r
    foreign_ends s n w e i (then_done {o = p} {es = es} r) =
        omega (arith, foreign_ends s n w e tt r, sum_one_more mine n p w (λ o. ends s o w None es) i)

    -- The other side has no more services than accesses.
    pub foreign_rest : {a b : S} {v u : Option ℕ} {es : List Event} → (s : ℕ) (xs : List ℕ) → mine s ≡ true → Start m s a v → Trace m.posted m.picked a v es b u → ((o : ℕ) → o < m.width a → o ≢ s → get_or xs o 0 ≡ accesses m a v es o) → foreign mine own s false v es ≤ others_sum mine (m.width a) xs
    foreign_rest {a} {b} {v} {u} {es} s xs t st r count =
        omega (arith, foreign_ends s (m.width a) false refl (served_below v (m.width a) (λ p e. laws.last_below a p (st.picked p e).0)) r, sum_below_le (m.width a) (λ o. cond (mine o) 0 (ends s o false v es)) (λ o. cond (mine o) 0 (get_or xs o 0)) each)
      where
        each : (o : ℕ) → o < m.width a → cond (mine o) 0 (ends s o false v es) ≤ cond (mine o) 0 (get_or xs o 0)
        each o i = elim (cases_Bool (mine o)) [
          | inl y ↦ rw y (omega arith)
          | inr y ↦ rw y (omega (arith, ends_services s o false v es, services_accesses m laws s o st r, count o i (λ e. both_ways (mine o) y (ap mine e ∙ t))))
        ]

-- One side of a layer.
module _ (mine : ℕ → Bool) (own : ℕ → ℕ) (num : Numbers mine own) {S K : Type 0} (m : Model S) (k : Model K) (side : S → K) (Fixed : S → Type 0) (over : Over mine own num m k side Fixed) (laws : Steps m) (sided : Lawful k) where
  -- Its waiting sources and its last pick are the layer's, and each of its sources is one of the layer.
  pub record Shares : Type 0 where
    pub waiting : (a : S) (s : ℕ) → Fixed a → mine s ≡ true → m.waiting a s ≡ k.waiting (side a) (own s)
    pub last : (a : S) (o : ℕ) → Fixed a → mine o ≡ true → m.last a ≡ Some o → k.last (side a) ≡ Some (own o)
    pub back : (a : S) (q : ℕ) → Fixed a → q < k.width (side a) → (o : ℕ) × (mine o ≡ true) × (own o ≡ q) × (o < m.width a)

  serves_own : (v : Option ℕ) (o : ℕ) → mine o ≡ true → serves (seen mine own v) (own o) ≡ serves v o
  serves_own None o t = refl
  serves_own (Some p) o t = go (mine p) refl
    where
      go : (b : Bool) → mine p ≡ b → serves (choose b (own p)) (own o) ≡ eqb p o
      go true e = same_own mine own num p o t e
      go false e = sym (not_own mine own num p o t e)

  -- Where no pick falls on the other side while s waits, only a service that was under way at a post of s delays it.
  foreign_posts : {a b : S} {v u : Option ℕ} {es : List Event} → ((x y : S) (o s : ℕ) → Fixed x → m.picked x o y → mine o ≡ false → mine s ≡ true → m.waiting x s ≡ true → ⊥) → (s : ℕ) (w : Bool) → mine s ≡ true → Fixed a → w ≡ m.waiting a s → Trace m.posted m.picked a v es b u → foreign mine own s w v es ≤ one (w && not (belongs mine own v)) + posts s es
  foreign_posts fair s w t f x stop = omega arith
  foreign_posts {v = v} fair s w t f x (then_post {a = a} {b = b} {o = o} free h r) =
      omega (arith, foreign_posts fair s (w || eqb o s) t (over.post_fixed a b o f h) (ap (λ z. z || eqb o s) x ∙ sym (post_waits m laws a b o s h)) r, one_post w (eqb o s) (not (belongs mine own v)) (not (belongs mine own v)) (λ y z. z))
  foreign_posts fair s w t f x (then_pick {a = a} {b = b} {o = o} h r) =
      omega (arith, foreign_posts fair s (w && not (eqb o s)) t (over.pick_fixed a b o f h) (ap (λ z. z && not (eqb o s)) x ∙ sym (pick_waits m laws a b o s h)) r, one_pick w (not (eqb o s)) (not (mine o)) false (λ y z n. absurd (fair a b o s f h (not-true (mine o) n) t (sym x ∙ y))))
  foreign_posts fair s w t f x (then_done {o = q} r) =
      omega (arith, foreign_posts fair s w t f x r, one_none w)

  fixed_end : {a b : S} {v u : Option ℕ} {es : List Event} → Fixed a → Trace m.posted m.picked a v es b u → Fixed b
  fixed_end f stop = f
  fixed_end f (then_post {a = a} {b = b} {o = o} free h r) = fixed_end (over.post_fixed a b o f h) r
  fixed_end f (then_pick {a = a} {b = b} {o = o} h r) = fixed_end (over.pick_fixed a b o f h) r
  fixed_end f (then_done r) = fixed_end f r

  module _ (shares : Shares) {a b : S} {v u : Option ℕ} {es : List Event} (s : ℕ) (xs ys : List ℕ) (t : mine s ≡ true) (f : Fixed a) (st : Start m s a v) (r : Trace m.posted m.picked a v es b u) (ok : Accepts (k.width (side a)) (own s) (posts s es) ys) (count : (o : ℕ) → o < m.width a → o ≢ s → get_or xs o 0 ≡ accesses m a v es o) (same : (o : ℕ) → mine o ≡ true → o < m.width a → get_or ys (own o) 0 ≡ get_or xs o 0) where
    -- The trace starts for the side too, and counts its accesses.
    start_own : Start k (own s) (side a) (seen mine own v)
    start_own = record {
      idle = sym (shares.waiting a s f t) ∙ st.idle;
      other = serves_own v s t ∙ st.other;
      picked = λ q e. go v st.picked q e;
    }
      where
        go : (x : Option ℕ) → ((p : ℕ) → x ≡ Some p → (m.last a ≡ Some p) × (m.waiting a p ≡ false)) → (q : ℕ) → seen mine own x ≡ Some q → (k.last (side a) ≡ Some q) × (k.waiting (side a) q ≡ false)
        go None h q e = let z : ◌≡◌ {A = ℕ} 0 1 = cc in absurd (omega arith)
        go (Some p) h q e = here (mine p) refl e
          where
            here : (c : Bool) → mine p ≡ c → choose c (own p) ≡ Some q → (k.last (side a) ≡ Some q) × (k.waiting (side a) q ≡ false)
            here true y z = (shares.last a p f y (h p refl).0 ∙ z, (let i : own p ≡ q = cc in ap (k.waiting (side a)) (sym i) ∙ sym (shares.waiting a p f y) ∙ (h p refl).1))
            here false y z = let i : ◌≡◌ {A = ℕ} 0 1 = cc in absurd (omega arith)

    count_own : (q : ℕ) → q < k.width (side a) → q ≢ own s → get_or ys q 0 ≡ accesses k (side a) (seen mine own v) (project mine own v es) q
    count_own q i ne = go (shares.back a q f i)
      where
        go : ((o : ℕ) × (mine o ≡ true) × (own o ≡ q) × (o < m.width a)) → get_or ys q 0 ≡ accesses k (side a) (seen mine own v) (project mine own v es) q
        go p =
            let o : ℕ = p.0 in
            let apart : o ≢ s = λ e. ne (sym p.2 ∙ ap own e) in
            subst (λ x. get_or ys x 0 ≡ accesses k (side a) (seen mine own v) (project mine own v es) x) p.2
            (same o p.1 p.3 ∙ count o p.3 apart ∙ ap (λ x. one (x || serves v o) + posts o es) (shares.waiting a o f p.1) ∙ ap (λ x. one (k.waiting (side a) (own o) || x) + posts o es) (sym (serves_own v o p.1)) ∙ ap (λ x. one (k.waiting (side a) (own o) || serves (seen mine own v) (own o)) + x) (sym (posts_own mine own num o v es p.1)))

    -- The side's bound.
    abbrev B : ℕ
    B = k.bound (side a) (own s) (posts s es) ys

    -- The side's bound covers the side's delay.
    own_covers : delay (own s) false (seen mine own v) (project mine own v es) ≤ B
    own_covers =
        let p = posts_own mine own num s v es t in
        omega (arith, ap (λ n. k.bound (side a) (own s) n ys) p, sided.covers (side a) (side b) (seen mine own v) (seen mine own u) (project mine own v es) (own s) ys (project_trace mine own num m k side Fixed over f r) start_own (subst (λ n. Accepts (k.width (side a)) (own s) n ys) (sym p) ok) count_own)

    -- A side that may always have to wait for the other.
    pub low_covers : delay s false v es ≤ k.bound (side a) (own s) (posts s es) ys + others_sum mine (m.width a) xs
    low_covers = omega (arith, own_covers, project_delay mine own num m k side Fixed over s false t r, foreign_rest m laws mine own s xs t st r count)

    -- A side that goes first.
    pub high_covers : ((x y : S) (o p : ℕ) → Fixed x → m.picked x o y → mine o ≡ false → mine p ≡ true → m.waiting x p ≡ true → ⊥) → delay s false v es ≤ k.bound (side a) (own s) (posts s es) ys + min (posts s es) (others_sum mine (m.width a) xs)
    high_covers fair = omega (arith, own_covers, project_delay mine own num m k side Fixed over s false t r, foreign_rest m laws mine own s xs t st r count, foreign_posts fair s false t f (sym st.idle) r)

    -- A side that takes turns with the other.
    pub turn_covers : (turned : S → Bool) → Alternates mine own num m k side Fixed over laws turned → Linked mine own num m k side Fixed over laws turned v (turned a) → delay s false v es ≤ k.bound (side a) (own s) (posts s es) ys + min (k.bound (side a) (own s) (posts s es) ys) (others_sum mine (m.width a) xs)
    turn_covers turned alt l = omega (arith, turn_delay mine own num m k side Fixed over laws turned alt sided s ys t f (shares.waiting b s (fixed_end f r) t) st l start_own r ok count_own, foreign_rest m laws mine own s xs t st r count)
