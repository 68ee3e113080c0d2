-- The laws of a layer, from those of its sides.
use Rattle.std.proofs.Common.{◌≡◌, ℕ, ◌+◌, ◌-◌, ◌<◌, ◌≤◌, min, Bool, true, false, not, ◌&&◌, ltb, ◌≢◌, List, get_or, Some, None, Option, sym, refl, ap, ◌∙◌, subst, inl, inr, arith}
use Rattle.std.proofs.lemmas.Bool.{cases_lt, cases_Bool, both_ways, lt-ltb, le-ltb, ltb-true, ltb-false, lt-leb, not-true, not-false, not_from_false}
use Rattle.arbiter.specs.Events.{Event, Trace, posts, delay}
use Rattle.arbiter.specs.Counts.{sum_below, counted, others_sum}
use Rattle.arbiter.specs.Answers.{Accepts}
use Rattle.arbiter.specs.Meaning.{Model}
use Rattle.arbiter.specs.Laws.{Steps, Lawful, Start, accesses}
use Rattle.arbiter.proofs.Acceptance.{acceptance}
use Rattle.arbiter.proofs.Shares.{Shares, low_covers, high_covers, turn_covers}
use Rattle.arbiter.proofs.Sides.{Numbers, Over}
use Rattle.arbiter.proofs.Turns.{Alternates, Linked}
use Rattle.layers.specs.declared.pair.Side.{Side}
use Rattle.layers.specs.declared.pair.Side.TheVariants.{First, Second}
use Rattle.layers.specs.declared.pair.Pair.{Pair}
use Rattle.layers.specs.Pairs.{fits, pair_width, pair_waiting, is_first, pair_last, PairPosted, to_first, to_second, Drawn, from_first, from_second}
use Rattle.layers.specs.Bounds.{shifted}
use Rattle.layers.specs.Layers.{Formula, layer, layer_bound}
use Rattle.layers.specs.Alone.{Alone}
use Rattle.layers.specs.Formulas.{FormulaLaws}
use Rattle.layers.specs.Shifts.{shifted_at}
use Rattle.layers.specs.SideSums.{first_sum, first_only, second_sum, others_sum_le}
use Rattle.layers.specs.Limits.{source_below, first_accepts, second_accepts}
use Rattle.layers.specs.PairFacts.{width_fits, width_first, first_le, past, waits_first, waits_past, waits_second, last_cases, Leads, Alike, alike_fits, post_alike, pick_alike, layer_steps}

-- The sources of the first side, which has n, and those of the second.
abbrev pub firsts : ℕ → ℕ → Bool
firsts n o = ltb o n

abbrev pub seconds : ℕ → ℕ → Bool
seconds n o = not (ltb o n)

pub first_numbers : (n : ℕ) → Numbers (firsts n) (λ o. o)
first_numbers n = record { apart = λ o s h k e. e }

pub seconds_from : (n o : ℕ) → seconds n o ≡ true → n ≤ o
seconds_from n o h = ltb-false o n (not-true (ltb o n) h)

pub seconds_not : (n o : ℕ) → seconds n o ≡ false → o < n
seconds_not n o h = ltb-true o n (not-false (ltb o n) h)

pub second_numbers : (n : ℕ) → Numbers (seconds n) (λ o. o - n)
second_numbers n = record { apart = λ o s h k e. omega (arith, seconds_from n o h, seconds_from n s k) }

abbrev pub is_second : Option Side → Bool
is_second None = false
is_second (Some First) = false
is_second (Some Second) = true

pub not_second : (t : Option Side) → is_first t ≡ true → is_second t ≡ false
not_second None h = refl
not_second (Some First) h = refl
not_second (Some Second) h = sym h

module _ {L R : Type 0} (l : Model L) (r : Model R) (rule : Pair L R → Bool) (formula : Formula) (ll : Lawful l) (rr : Lawful r) (leads : Leads l r rule formula) where
  abbrev pub steps : Steps (layer l r rule formula)
  steps = layer_steps l r rule formula ll.steps rr.steps leads

  -- What every step keeps.
  abbrev pub Fixed : ℕ → Pair L R → Type 0
  Fixed n a = l.width a.first ≡ n

  abbrev pub Fits : ℕ → Pair L R → Type 0
  Fits n a = (l.width a.first ≡ n) × (fits l r a ≡ true)

  alike_fixed : (n : ℕ) (a b : Pair L R) → Alike l r a b → Fixed n a → Fixed n b
  alike_fixed n a b k f = k.first.width ∙ f

  alike_fit : (n : ℕ) (a b : Pair L R) → Alike l r a b → Fits n a → Fits n b
  alike_fit n a b k f = (k.first.width ∙ f.0, alike_fits l r a b k ∙ f.1)

  post_like : (a b : Pair L R) (o : ℕ) → PairPosted l r a o b → Alike l r a b
  post_like a b o h = post_alike l r rule formula ll.steps rr.steps leads a b o h

  pick_like : (a b : Pair L R) (o : ℕ) (c : Bool) → Drawn l r a o b c → Alike l r a b
  pick_like a b o c h = pick_alike l r rule formula ll.steps rr.steps leads a b o c h

  -- What a post is to the sides.
  post_first : (n : ℕ) (a b : Pair L R) (o : ℕ) → Fixed n a → PairPosted l r a o b → firsts n o ≡ true → l.posted a.first o b.first
  post_first n a b o f (to_first i h e t) m = h
  post_first n a b o f (to_second q g i h e t) m = absurd (omega (arith, ltb-true o n m))

  post_not_first : (n : ℕ) (a b : Pair L R) (o : ℕ) → Fixed n a → PairPosted l r a o b → firsts n o ≡ false → b.first ≡ a.first
  post_not_first n a b o f (to_first i h e t) m = absurd (omega (arith, ltb-false o n m))
  post_not_first n a b o f (to_second q g i h e t) m = e

  post_second : (n : ℕ) (a b : Pair L R) (o : ℕ) → Fixed n a → PairPosted l r a o b → seconds n o ≡ true → r.posted a.second (o - n) b.second
  post_second n a b o f (to_first i h e t) m = absurd (omega (arith, seconds_from n o m))
  post_second n a b o f (to_second q g i h e t) m = let x : q ≡ o - n = omega arith in subst (λ z. r.posted a.second z b.second) x h

  post_not_second : (n : ℕ) (a b : Pair L R) (o : ℕ) → Fixed n a → PairPosted l r a o b → seconds n o ≡ false → b.second ≡ a.second
  post_not_second n a b o f (to_first i h e t) m = e
  post_not_second n a b o f (to_second q g i h e t) m = absurd (omega (arith, seconds_not n o m))

  pub post_turn : (a b : Pair L R) (o : ℕ) → PairPosted l r a o b → b.latest ≡ a.latest
  post_turn a b o (to_first i h e t) = t
  post_turn a b o (to_second q g i h e t) = t

  -- What a pick is to the sides.
  drawn_below : (a b : Pair L R) (o : ℕ) → l.picked a.first o b.first → o < l.width a.first
  drawn_below a b o h = ll.steps.waiting_below a.first o (ll.steps.pick_shows a.first b.first o h).waited

  pick_first : (n : ℕ) (a b : Pair L R) (o : ℕ) (c : Bool) → Fixed n a → Drawn l r a o b c → firsts n o ≡ true → l.picked a.first o b.first
  pick_first n a b o true f (from_first h e t) m = h
  pick_first n a b o false f (from_second q g i h e t) m = absurd (omega (arith, ltb-true o n m))

  pick_not_first : (n : ℕ) (a b : Pair L R) (o : ℕ) (c : Bool) → Fixed n a → Drawn l r a o b c → firsts n o ≡ false → b.first ≡ a.first
  pick_not_first n a b o true f (from_first h e t) m = absurd (omega (arith, ltb-false o n m, drawn_below a b o h))
  pick_not_first n a b o false f (from_second q g i h e t) m = e

  pick_second : (n : ℕ) (a b : Pair L R) (o : ℕ) (c : Bool) → Fixed n a → Drawn l r a o b c → seconds n o ≡ true → r.picked a.second (o - n) b.second
  pick_second n a b o true f (from_first h e t) m = absurd (omega (arith, seconds_from n o m, drawn_below a b o h))
  pick_second n a b o false f (from_second q g i h e t) m = let x : q ≡ o - n = omega arith in subst (λ z. r.picked a.second z b.second) x h

  pick_not_second : (n : ℕ) (a b : Pair L R) (o : ℕ) (c : Bool) → Fixed n a → Drawn l r a o b c → seconds n o ≡ false → b.second ≡ a.second
  pick_not_second n a b o true f (from_first h e t) m = e
  pick_not_second n a b o false f (from_second q g i h e t) m = absurd (omega (arith, seconds_not n o m))

  -- The side of a pick is that of its source.
  pub picked_side : (n : ℕ) (a b : Pair L R) (o : ℕ) (c : Bool) → Fixed n a → Drawn l r a o b c → firsts n o ≡ c
  picked_side n a b o true f (from_first h e t) = lt-ltb o n (omega (arith, drawn_below a b o h))
  picked_side n a b o false f (from_second q g i h e t) = le-ltb o n (omega arith)

  abbrev side_of : Bool → Side
  side_of true = First
  side_of false = Second

  pub picked_turn : (a b : Pair L R) (o : ℕ) (c : Bool) → Drawn l r a o b c → b.latest ≡ Some (side_of c)
  picked_turn a b o true (from_first h e t) = t
  picked_turn a b o false (from_second q g i h e t) = t

  pub first_over : (n : ℕ) → Over (firsts n) (λ o. o) (first_numbers n) (layer l r rule formula) l (λ a. a.first) (Fixed n)
  first_over n = record {
    post_fixed = λ a b o f h. alike_fixed n a b (post_like a b o h) f;
    pick_fixed = λ a b o f h. alike_fixed n a b (pick_like a b o (rule a) h) f;
    post_own = post_first n;
    post_other = post_not_first n;
    pick_own = λ a b o f h. pick_first n a b o (rule a) f h;
    pick_other = λ a b o f h. pick_not_first n a b o (rule a) f h;
  }

  pub second_over : (n : ℕ) → Over (seconds n) (λ o. o - n) (second_numbers n) (layer l r rule formula) r (λ a. a.second) (Fits n)
  second_over n = record {
    post_fixed = λ a b o f h. alike_fit n a b (post_like a b o h) f;
    pick_fixed = λ a b o f h. alike_fit n a b (pick_like a b o (rule a) h) f;
    post_own = λ a b o f h. post_second n a b o f.0 h;
    post_other = λ a b o f h. post_not_second n a b o f.0 h;
    pick_own = λ a b o f h. pick_second n a b o (rule a) f.0 h;
    pick_other = λ a b o f h. pick_not_second n a b o (rule a) f.0 h;
  }

  -- The last pick, by its side.
  pub last_first : (n : ℕ) (a : Pair L R) (o : ℕ) → Fixed n a → firsts n o ≡ true → pair_last l r a ≡ Some o → (a.latest ≡ Some First) × (l.last a.first ≡ Some o)
  last_first n a o f t h =
      elim (last_cases l r (l.width a.first) (fits l r a) (l.last a.first) (r.last a.second) a.latest o h) [
        | inl p ↦ (p.0, p.1)
        | inr p ↦ absurd (omega (arith, ltb-true o n t, p.3))
      ]

  pub last_second : (n : ℕ) (a : Pair L R) (o : ℕ) → Fixed n a → seconds n o ≡ true → pair_last l r a ≡ Some o → (a.latest ≡ Some Second) × (r.last a.second ≡ Some (o - n))
  last_second n a o f t h =
      elim (last_cases l r (l.width a.first) (fits l r a) (l.last a.first) (r.last a.second) a.latest o h) [
        | inl p ↦ absurd (omega (arith, seconds_from n o t, ll.steps.last_below a.first o p.1))
        | inr p ↦ (p.1, (let x : p.0 ≡ o - n = omega (arith, p.3) in p.4 ∙ ap Some x))
      ]

  pub first_shares : (n : ℕ) → Shares (firsts n) (λ o. o) (first_numbers n) (layer l r rule formula) l (λ a. a.first) (Fixed n) (first_over n) steps ll
  first_shares n = record {
    waiting = λ a s f t. waits_first l r a s (omega (arith, ltb-true s n t));
    last = λ a o f t h. (last_first n a o f t h).1;
    back = λ a q f i. (q, lt-ltb q n (omega arith), refl, omega (arith, first_le l r a));
  }

  pub second_shares : (n : ℕ) → Shares (seconds n) (λ o. o - n) (second_numbers n) (layer l r rule formula) r (λ a. a.second) (Fits n) (second_over n) steps rr
  second_shares n = record {
    waiting = λ a s f t. waits_second l r a s f.1 (omega (arith, f.0, seconds_from n s t)) ∙ ap (λ x. r.waiting a.second (s - x)) f.0;
    last = λ a o f t h. (last_second n a o f.0 t h).1;
    back = λ a q f i. (n + q, not_from_false (ltb (n + q) n) (le-ltb (n + q) n (omega arith)), omega arith, omega (arith, f.0, width_fits l r a f.1));
  }

  -- A trace of the layer that may start for s, with the counts xs.
  abbrev Ran : Pair L R → Pair L R → Option ℕ → Option ℕ → List Event → ℕ → List ℕ → Type 0
  Ran a b v u es s xs = Trace (PairPosted l r) (λ x o y. Drawn l r x o y (rule x)) a v es b u × Start (layer l r rule formula) s a v × Accepts (pair_width l r a) s (posts s es) xs × ((o : ℕ) → o < pair_width l r a → o ≢ s → get_or xs o 0 ≡ accesses (layer l r rule formula) a v es o)

  -- A source's number at the second side leads to its count.
  behind : (n : ℕ) (xs : List ℕ) (o : ℕ) → seconds n o ≡ true → get_or (shifted n xs) (o - n) 0 ≡ get_or xs o 0
  behind n xs o t = let e : n + (o - n) ≡ o = omega (arith, seconds_from n o t) in shifted_at n xs (o - n) ∙ ap (λ x. get_or xs x 0) e

  abbrev first_bound : Pair L R → ℕ → List Event → List ℕ → ℕ
  first_bound a s es xs = l.bound a.first s (posts s es) xs

  abbrev second_bound : Pair L R → ℕ → List Event → List ℕ → ℕ
  second_bound a s es xs = r.bound a.second (s - l.width a.first) (posts s es) (shifted (l.width a.first) xs)

  -- A first side that may always have to wait.
  pub first_low : (a b : Pair L R) (v u : Option ℕ) (es : List Event) (s : ℕ) (xs : List ℕ) → s < l.width a.first → Ran a b v u es s xs → delay s false v es ≤ first_bound a s es xs + others_sum (firsts (l.width a.first)) (pair_width l r a) xs
  first_low a b v u es s xs i h =
      let n : ℕ = l.width a.first in
      low_covers (firsts n) (λ o. o) (first_numbers n) (layer l r rule formula) l (λ x. x.first) (Fixed n) (first_over n) steps ll (first_shares n)
      s xs xs (lt-ltb s n i) refl h.1 h.0 (first_accepts l r ll rr a s (posts s es) xs h.2 i) h.3 (λ o t j. refl)

  -- A second side that goes first.
  pub second_high : ((a b : Pair L R) (o s : ℕ) → rule a ≡ true → l.width a.first ≤ s → pair_waiting l r a s ≡ true → ⊥) → (a b : Pair L R) (v u : Option ℕ) (es : List Event) (s : ℕ) (xs : List ℕ) → l.width a.first ≤ s → Ran a b v u es s xs → delay s false v es ≤ second_bound a s es xs + min (posts s es) (others_sum (seconds (l.width a.first)) (pair_width l r a) xs)
  second_high fair a b v u es s xs i h =
      let n : ℕ = l.width a.first in
      high_covers (seconds n) (λ o. o - n) (second_numbers n) (layer l r rule formula) r (λ x. x.second) (Fits n) (second_over n) steps rr (second_shares n)
      s xs (shifted n xs) (not_from_false (ltb s n) (le-ltb s n i)) (refl, (past l r a s (source_below l r ll rr a s (posts s es) xs h.2) i).0) h.1 h.0 (second_accepts l r ll rr a s (posts s es) xs h.2 i) h.3 (λ o t j. behind n xs o t)
      (λ x y o p f d e t w. fair x y o p (sym (picked_side n x y o (rule x) f.0 d) ∙ not-false (ltb o n) e) (omega (arith, f.0, seconds_from n p t)) w)

  -- Sides that take turns: none is picked from twice in a row while somebody waits at the other.
  pub record Turns : Type 0 where
    pub first_fair : (a : Pair L R) (s : ℕ) → rule a ≡ false → s < l.width a.first → pair_waiting l r a s ≡ true → is_second a.latest ≡ false
    pub second_fair : (a : Pair L R) (s : ℕ) → rule a ≡ true → l.width a.first ≤ s → pair_waiting l r a s ≡ true → is_first a.latest ≡ false

  turn_second : (n : ℕ) (a b : Pair L R) (o : ℕ) (c : Bool) → Fixed n a → Drawn l r a o b c → is_second b.latest ≡ not (firsts n o)
  turn_second n a b o true f h = ap is_second (picked_turn a b o true h) ∙ ap not (sym (picked_side n a b o true f h))
  turn_second n a b o false f h = ap is_second (picked_turn a b o false h) ∙ ap not (sym (picked_side n a b o false f h))

  turn_first : (n : ℕ) (a b : Pair L R) (o : ℕ) (c : Bool) → Fixed n a → Drawn l r a o b c → is_first b.latest ≡ not (seconds n o)
  turn_first n a b o true f h = ap is_first (picked_turn a b o true h) ∙ ap (λ x. not (not x)) (sym (picked_side n a b o true f h))
  turn_first n a b o false f h = ap is_first (picked_turn a b o false h) ∙ ap (λ x. not (not x)) (sym (picked_side n a b o false f h))

  module _ (turns : Turns) where
    first_turns : (n : ℕ) → Alternates (firsts n) (λ o. o) (first_numbers n) (layer l r rule formula) l (λ x. x.first) (Fixed n) (first_over n) steps (λ x. is_second x.latest)
    first_turns n = record {
      post_turn = λ a b o h. ap is_second (post_turn a b o h);
      pick_turn = λ a b o f h. turn_second n a b o (rule a) f h;
      fair = λ a b o s f h x y w. turns.first_fair a s (sym (picked_side n a b o (rule a) f h) ∙ x) (omega (arith, ltb-true s n y)) w;
    }

    second_turns : (n : ℕ) → Alternates (seconds n) (λ o. o - n) (second_numbers n) (layer l r rule formula) r (λ x. x.second) (Fits n) (second_over n) steps (λ x. is_first x.latest)
    second_turns n = record {
      post_turn = λ a b o h. ap is_first (post_turn a b o h);
      pick_turn = λ a b o f h. turn_first n a b o (rule a) f.0 h;
      fair = λ a b o s f h x y w. turns.second_fair a s (sym (picked_side n a b o (rule a) f.0 h) ∙ not-false (ltb o n) x) (omega (arith, f.0, seconds_from n s y)) w;
    }

    first_linked : (n : ℕ) (a : Pair L R) (v : Option ℕ) → Fixed n a → ((o : ℕ) → v ≡ Some o → (pair_last l r a ≡ Some o) × (pair_waiting l r a o ≡ false)) → Linked (firsts n) (λ o. o) (first_numbers n) (layer l r rule formula) l (λ x. x.first) (Fixed n) (first_over n) steps (λ x. is_second x.latest) v (is_second a.latest)
    first_linked n a None f h = tt
    first_linked n a (Some q) f h = elim (cases_Bool (firsts n q)) [
      | inl e ↦ ap is_second (last_first n a q f e (h q refl).0).0 ∙ ap not (sym e)
      | inr e ↦ ap is_second (last_second n a q f (not_from_false (ltb q n) e) (h q refl).0).0 ∙ ap not (sym e)
    ]

    second_linked : (n : ℕ) (a : Pair L R) (v : Option ℕ) → Fixed n a → ((o : ℕ) → v ≡ Some o → (pair_last l r a ≡ Some o) × (pair_waiting l r a o ≡ false)) → Linked (seconds n) (λ o. o - n) (second_numbers n) (layer l r rule formula) r (λ x. x.second) (Fits n) (second_over n) steps (λ x. is_first x.latest) v (is_first a.latest)
    second_linked n a None f h = tt
    second_linked n a (Some q) f h = elim (cases_Bool (firsts n q)) [
      | inl e ↦ ap is_first (last_first n a q f e (h q refl).0).0 ∙ ap (λ x. not (not x)) (sym e)
      | inr e ↦ ap is_first (last_second n a q f (not_from_false (ltb q n) e) (h q refl).0).0 ∙ ap (λ x. not (not x)) (sym e)
    ]

    pub first_turning : (a b : Pair L R) (v u : Option ℕ) (es : List Event) (s : ℕ) (xs : List ℕ) → s < l.width a.first → Ran a b v u es s xs → delay s false v es ≤ first_bound a s es xs + min (first_bound a s es xs) (others_sum (firsts (l.width a.first)) (pair_width l r a) xs)
    first_turning a b v u es s xs i h =
        let n : ℕ = l.width a.first in
        turn_covers (firsts n) (λ o. o) (first_numbers n) (layer l r rule formula) l (λ x. x.first) (Fixed n) (first_over n) steps ll (first_shares n)
        s xs xs (lt-ltb s n i) refl h.1 h.0 (first_accepts l r ll rr a s (posts s es) xs h.2 i) h.3 (λ o t j. refl) (λ x. is_second x.latest) (first_turns n) (first_linked n a v refl h.1.picked)

    pub second_turning : (a b : Pair L R) (v u : Option ℕ) (es : List Event) (s : ℕ) (xs : List ℕ) → l.width a.first ≤ s → Ran a b v u es s xs → delay s false v es ≤ second_bound a s es xs + min (second_bound a s es xs) (others_sum (seconds (l.width a.first)) (pair_width l r a) xs)
    second_turning a b v u es s xs i h =
        let n : ℕ = l.width a.first in
        turn_covers (seconds n) (λ o. o - n) (second_numbers n) (layer l r rule formula) r (λ x. x.second) (Fits n) (second_over n) steps rr (second_shares n)
        s xs (shifted n xs) (not_from_false (ltb s n) (le-ltb s n i)) (refl, (past l r a s (source_below l r ll rr a s (posts s es) xs h.2) i).0) h.1 h.0 (second_accepts l r ll rr a s (posts s es) xs h.2 i) h.3 (λ o t j. behind n xs o t) (λ x. is_first x.latest) (second_turns n) (second_linked n a v refl h.1.picked)

  pub bound_first : (a : Pair L R) (s own : ℕ) (xs : List ℕ) → s < l.width a.first → layer_bound l r formula a s own xs ≡ formula true own (l.bound a.first s own xs) (others_sum (firsts (l.width a.first)) (pair_width l r a) xs)
  bound_first a s own xs h = rw (lt-ltb s (l.width a.first) h)

  pub bound_second : (a : Pair L R) (s own : ℕ) (xs : List ℕ) → l.width a.first ≤ s → layer_bound l r formula a s own xs ≡ formula false own (r.bound a.second (s - l.width a.first) own (shifted (l.width a.first) xs)) (others_sum (seconds (l.width a.first)) (pair_width l r a) xs)
  bound_second a s own xs h = rw (le-ltb s (l.width a.first) h)

  -- The counts of both sides together are all counts.
  first_total : (a : Pair L R) (s : ℕ) (xs : List ℕ) → s < l.width a.first → sum_below (l.width a.first) (counted s xs) + others_sum (firsts (l.width a.first)) (pair_width l r a) xs ≤ sum_below (pair_width l r a) (counted s xs)
  first_total a s xs h =
      elim (cases_Bool (fits l r a)) [
        | inl e ↦ rw (width_fits l r a e) (first_sum (l.width a.first) (r.width a.second) s xs h)
        | inr e ↦ rw (width_first l r a e) (omega (arith, first_only (l.width a.first) xs))
      ]

  second_total : (a : Pair L R) (s : ℕ) (xs : List ℕ) → s < pair_width l r a → l.width a.first ≤ s → sum_below (r.width a.second) (counted (s - l.width a.first) (shifted (l.width a.first) xs)) + others_sum (seconds (l.width a.first)) (pair_width l r a) xs ≤ sum_below (pair_width l r a) (counted s xs)
  second_total a s xs k h = rw (width_fits l r a (past l r a s k h).0) (second_sum (l.width a.first) (r.width a.second) s xs h)

  first_mine : (n s : ℕ) → s < n → firsts n s ≡ true
  first_mine n s h = lt-ltb s n h

  second_mine : (n s : ℕ) → n ≤ s → seconds n s ≡ true
  second_mine n s h = not_from_false (ltb s n) (le-ltb s n h)

  module _ (law : FormulaLaws formula) where
    none : (a : Pair L R) (s : ℕ) (xs : List ℕ) → Accepts (pair_width l r a) s 0 xs → layer_bound l r formula a s 0 xs ≡ 0
    none a s xs h =
        elim (cases_lt s (l.width a.first)) [
          | inl i ↦ bound_first a s 0 xs i ∙ ap (λ b. formula true 0 b (others_sum (firsts (l.width a.first)) (pair_width l r a) xs)) (ll.without_own a.first s xs (first_accepts l r ll rr a s 0 xs h i)) ∙ law.none true _
          | inr i ↦ bound_second a s 0 xs i ∙ ap (λ b. formula false 0 b (others_sum (seconds (l.width a.first)) (pair_width l r a) xs)) (rr.without_own a.second (s - l.width a.first) (shifted (l.width a.first) xs) (second_accepts l r ll rr a s 0 xs h i)) ∙ law.none false _
        ]

    least : (a : Pair L R) (s own : ℕ) (xs : List ℕ) → Accepts (pair_width l r a) s own xs → own ≤ layer_bound l r formula a s own xs
    least a s own xs h =
        elim (cases_lt s (l.width a.first)) [
          | inl i ↦ rw (bound_first a s own xs i) (law.least true own _ _ (ll.at_least_own a.first s own xs (first_accepts l r ll rr a s own xs h i)))
          | inr i ↦ rw (bound_second a s own xs i) (law.least false own _ _ (rr.at_least_own a.second (s - l.width a.first) own (shifted (l.width a.first) xs) (second_accepts l r ll rr a s own xs h i)))
        ]

    most : (a : Pair L R) (s own : ℕ) (xs : List ℕ) → Accepts (pair_width l r a) s own xs → layer_bound l r formula a s own xs ≤ own + sum_below (pair_width l r a) (counted s xs)
    most a s own xs h =
        elim (cases_lt s (l.width a.first)) [
          | inl i ↦ (let b : ℕ = l.bound a.first s own xs in let t : ℕ = others_sum (firsts (l.width a.first)) (pair_width l r a) xs in
              omega (arith, bound_first a s own xs i, law.most true own b t, ll.at_most_all a.first s own xs (first_accepts l r ll rr a s own xs h i), first_total a s xs i))
          | inr i ↦ (let b : ℕ = r.bound a.second (s - l.width a.first) own (shifted (l.width a.first) xs) in let t : ℕ = others_sum (seconds (l.width a.first)) (pair_width l r a) xs in
              omega (arith, bound_second a s own xs i, law.most false own b t, rr.at_most_all a.second (s - l.width a.first) own (shifted (l.width a.first) xs) (second_accepts l r ll rr a s own xs h i), second_total a s xs (source_below l r ll rr a s own xs h) i))
        ]

    grows : (a : Pair L R) (s own more : ℕ) (xs ys : List ℕ) → Accepts (pair_width l r a) s own xs → Accepts (pair_width l r a) s more ys → own ≤ more → ((o : ℕ) → o < pair_width l r a → o ≢ s → get_or xs o 0 ≤ get_or ys o 0) → layer_bound l r formula a s own xs ≤ layer_bound l r formula a s more ys
    grows a s own more xs ys h k le each =
        let n : ℕ = l.width a.first in
        elim (cases_lt s (l.width a.first)) [
          | inl i ↦ rw (bound_first a s own xs i, bound_first a s more ys i)
              (law.grows true own _ _ more _ _ le
              (ll.monotone a.first s own more xs ys (first_accepts l r ll rr a s own xs h i) (first_accepts l r ll rr a s more ys k i) le (λ o j ne. each o (omega (arith, first_le l r a)) ne))
              (others_sum_le (firsts n) (pair_width l r a) s xs ys (first_mine n s i) each))
          | inr i ↦ rw (bound_second a s own xs i, bound_second a s more ys i)
              (law.grows false own _ _ more _ _ le
              (rr.monotone a.second (s - n) own more (shifted n xs) (shifted n ys) (second_accepts l r ll rr a s own xs h i) (second_accepts l r ll rr a s more ys k i) le (λ q j ne. omega (arith, shifted_at n xs q, shifted_at n ys q, each (n + q) (omega (arith, width_fits l r a (past l r a s (source_below l r ll rr a s own xs h) i).0)) (omega arith))))
              (others_sum_le (seconds n) (pair_width l r a) s xs ys (second_mine n s i) each))
        ]

    none_of : (a : Pair L R) (s own : ℕ) (xs : List ℕ) → Accepts (l.width a.first) s own xs → own ≡ 0 → l.bound a.first s own xs ≡ 0
    none_of a s own xs h e = ap (λ n. l.bound a.first s n xs) e ∙ ll.without_own a.first s xs (subst (λ n. Accepts (l.width a.first) s n xs) e h)

    drawn_alone : (a b : Pair L R) (s : ℕ) (c : Bool) → fits l r a ≡ false → Drawn l r a s b c → l.picked a.first s b.first
    drawn_alone a b s true f (from_first h e t) = h
    drawn_alone a b s false f (from_second q g i h e t) = absurd (both_ways (fits l r a) f g)

    posted_alone : (a b : Pair L R) (s : ℕ) → fits l r a ≡ false → PairPosted l r a s b → l.posted a.first s b.first
    posted_alone a b s f (to_first i h e t) = h
    posted_alone a b s f (to_second q g i h e t) = absurd (both_ways (fits l r a) f g)

    waits_alone : (a : Pair L R) (s : ℕ) → fits l r a ≡ false → pair_waiting l r a s ≡ l.waiting a.first s
    waits_alone a s f = elim (cases_lt s (l.width a.first)) [
      | inl i ↦ waits_first l r a s i
      | inr i ↦ elim (cases_Bool (l.waiting a.first s)) [
        | inl w ↦ absurd (omega (arith, ll.steps.waiting_below a.first s w))
        | inr w ↦ waits_past l r a s i ∙ ap (λ x. x && r.waiting a.second (s - l.width a.first)) f ∙ sym w
      ]
    ]

    -- Sides with more than 32 sources.
    pub too_wide : (a : Pair L R) → 32 < l.width a.first + r.width a.second → Alone l (λ x. x.first) (layer l r rule formula) a
    too_wide a h =
        let f : fits l r a ≡ false = lt-leb (l.width a.first + r.width a.second) 32 h in
        record {
          width = width_first l r a f;
          waiting = λ s. waits_alone a s f;
          bound = λ s own xs k. bound_first a s own xs (acceptance (l.width a.first) s own xs k).known ∙ ap (λ w. formula true own (l.bound a.first s own xs) (others_sum (firsts (l.width a.first)) w xs)) (width_first l r a f) ∙ ap (formula true own (l.bound a.first s own xs)) (first_only (l.width a.first) xs) ∙ law.alone own (l.bound a.first s own xs) (none_of a s own xs k);
          posted = λ s b p. posted_alone a b s f p;
          picked = λ s b p. drawn_alone a b s (rule a) f p;
        }

    -- A layer is lawful if its formula covers the delay of the sources of each side.
    pub layer_lawful :
        ((a b : Pair L R) (v u : Option ℕ) (es : List Event) (s : ℕ) (xs : List ℕ) → s < l.width a.first → Ran a b v u es s xs → delay s false v es ≤ formula true (posts s es) (first_bound a s es xs) (others_sum (firsts (l.width a.first)) (pair_width l r a) xs)) →
        ((a b : Pair L R) (v u : Option ℕ) (es : List Event) (s : ℕ) (xs : List ℕ) → l.width a.first ≤ s → Ran a b v u es s xs → delay s false v es ≤ formula false (posts s es) (second_bound a s es xs) (others_sum (seconds (l.width a.first)) (pair_width l r a) xs)) →
        Lawful (layer l r rule formula)
    layer_lawful one two = record {
      steps = steps;
      without_own = none;
      at_least_own = least;
      at_most_all = most;
      monotone = grows;
      covers = λ a b v u es s xs run st ok count.
          elim (cases_lt s (l.width a.first)) [
            | inl i ↦ rw (bound_first a s (posts s es) xs i) (one a b v u es s xs i (run, st, ok, count))
            | inr i ↦ rw (bound_second a s (posts s es) xs i) (two a b v u es s xs i (run, st, ok, count))
          ];
    }
