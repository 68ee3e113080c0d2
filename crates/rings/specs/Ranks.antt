-- The order of a ring gives every other source one turn at most while a source waits.
use Rattle.std.specs.Prelude.{◌≡◌, ℕ, suc, ◌+◌, ◌-◌, ◌<◌, ◌≤◌, Bool, true, false, cond, ◌≢◌, ◌⊎◌, List, Some, None, Option, nat_lt, slice_index}
use Rattle.std.proofs.Common.{sym, ap, ◌∙◌, subst, inl, inr, arith}
use Rattle.std.proofs.lemmas.Bool.{cases_lt, lt-ltb, le-ltb, ltb-true}
use Rattle.arbiter.specs.Events.{Event, Trace, posts, delay}
use Rattle.arbiter.specs.Fair.{fair_bound}
use Rattle.arbiter.specs.Meaning.{Model}
use Rattle.arbiter.specs.Laws.{Steps, Start, accesses}
use Rattle.arbiter.proofs.Orders.{Order, order_covers}
use Rattle.arbiter.proofs.Services.{ServedBelow, served_below}
use Rattle.rings.specs.Order.{rank}

-- Where the ring begins to look.
abbrev pub start_of : Option ℕ → ℕ
start_of None = 0
start_of (Some l) = l + 1

-- Sources from there on come first, the others behind them.
pub rank_cases : (n : ℕ) (l : Option ℕ) (o : ℕ) → ((start_of l ≤ o) × (rank n l o ≡ o - start_of l)) ⊎ ((o < start_of l) × (rank n l o ≡ (o + n) - start_of l))
rank_cases n None o = inl (omega arith)
rank_cases n (Some l) o =
    elim (cases_lt l o) [
      | inl h ↦ inl (omega arith, ap (λ b. cond b (o - suc l) ((o + n) - suc l)) (lt-ltb l o h) ∙ omega arith)
      | inr h ↦ inr (omega arith, ap (λ b. cond b (o - suc l) ((o + n) - suc l)) (le-ltb l o h) ∙ omega arith)
    ]

start_below : (n : ℕ) (l : Option ℕ) → ServedBelow n l → start_of l ≤ n
start_below n None h = omega arith
start_below n (Some l) h = omega arith

-- Does o come before s?
abbrev pub ahead : ℕ → Option ℕ → ℕ → ℕ → Bool
ahead n l s o = nat_lt (rank n l o) (rank n l s)

-- The last picked source comes before nobody.
not_ahead : (n o s : ℕ) → o < n → s < n → rank n (Some o) s ≤ rank n (Some o) o
not_ahead n o s i j = omega (arith, rank_cases n (Some o) s, rank_cases n (Some o) o)

-- After a pick that was no later than s, whoever comes before s came before it already.
step_rank : (n : ℕ) (l : Option ℕ) (p s o : ℕ) → ServedBelow n l → p < n → s < n → o < n → p ≢ s → rank n l p ≤ rank n l s → rank n (Some p) o < rank n (Some p) s → rank n l o < rank n l s
step_rank n l p s o i j k q ne h t =
    omega (arith, start_below n l i, rank_cases n (Some p) o, rank_cases n (Some p) s, rank_cases n l o, rank_cases n l s, rank_cases n l p)

-- No two sources have one place.
first_rank : (n : ℕ) (l : Option ℕ) (p s : ℕ) → ServedBelow n l → p < n → s < n → p ≢ s → rank n l p ≤ rank n l s → rank n l p < rank n l s
first_rank n l p s i j k ne h = omega (arith, start_below n l i, rank_cases n l p, rank_cases n l s)

module _ {S : Type 0} (m : Model S) (laws : Steps m) (near : (a b : S) (p s : ℕ) → m.picked a p b → m.waiting a s ≡ true → rank (m.width a) (m.last a) p ≤ rank (m.width a) (m.last a) s) where
  last_in : (a : S) → ServedBelow (m.width a) (m.last a)
  last_in a = served_below (m.last a) (m.width a) (λ s h. laws.last_below a s h)

  picked_in : (a b : S) (p : ℕ) → m.picked a p b → p < m.width a
  picked_in a b p h = laws.waiting_below a p (laws.pick_shows a b p h).waited

  pub ring_order : Order m laws (λ a s o. ahead (m.width a) (m.last a) s o)
  ring_order = record {
    post_keeps = λ a b p s o h w e. subst (λ l. ahead (m.width a) l s o ≡ true) (laws.post_shows a b p h).same (subst (λ n. ahead n (m.last b) s o ≡ true) (laws.post_keeps a b p h).width e);
    pick_first = λ a b p s h w ne. lt-ltb (rank (m.width a) (m.last a) p) (rank (m.width a) (m.last a) s) (first_rank (m.width a) (m.last a) p s (last_in a) (picked_in a b p h) (laws.waiting_below a s w) ne (near a b p s h w));
    pick_keeps = λ a b p s o h w ne j e. lt-ltb (rank (m.width a) (m.last a) o) (rank (m.width a) (m.last a) s) (step_rank (m.width a) (m.last a) p s o (last_in a) (picked_in a b p h) (laws.waiting_below a s w) j ne (near a b p s h w) (ltb-true (rank (m.width a) (Some p) o) (rank (m.width a) (Some p) s) (subst (λ l. ahead (m.width a) l s o ≡ true) (laws.pick_shows a b p h).now (subst (λ n. ahead n (m.last b) s o ≡ true) (laws.pick_keeps a b p h).width e))));
    served = λ a s o i e w. le-ltb (rank (m.width a) (m.last a) o) (rank (m.width a) (m.last a) s) (subst (λ l. rank (m.width a) l s ≤ rank (m.width a) l o) (sym e) (not_ahead (m.width a) o s (laws.last_below a o e) i));
  }

  pub ring_covers : (a b : S) (v u : Option ℕ) (es : List Event) (s : ℕ) (xs : List ℕ) → Trace m.posted m.picked a v es b u → Start m s a v → s < m.width a → ((o : ℕ) → o < m.width a → o ≢ s → slice_index xs o ≡ accesses m a v es o) → delay s false v es ≤ fair_bound (m.width a) s (posts s es) xs
  ring_covers = order_covers m laws (λ a s o. ahead (m.width a) (m.last a) s o) ring_order
