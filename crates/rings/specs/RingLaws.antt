-- The laws of a ring.
use Rattle.std.specs.Prelude.{◌≡◌, ℕ, zero, suc, ◌<◌, ◌≤◌, Bool, true, false, ◌≢◌, ◌⊎◌, length, Some, slice_set, refl}
use Rattle.std.proofs.Common.{sym, ap, ◌∙◌, subst, inl, inr, arith, length-set, get_or-set_same, get_or-set_other}
use Rattle.std.proofs.lemmas.Bool.{cases_eq, cases_lt, both_ways}
use Rattle.arbiter.specs.Events.{posts}
use Rattle.arbiter.specs.Fair.{fair_bound}
use Rattle.arbiter.specs.Meaning.{Post, Pick}
use Rattle.arbiter.specs.Laws.{Steps, Lawful}
use Rattle.arbiter.proofs.Acceptance.{acceptance}
use Rattle.arbiter.proofs.FairBounds.{fair_without_own, fair_at_most_all, fair_monotone}
use Rattle.rings.specs.Kept.{Quiet}
use Rattle.rings.specs.Order.{rank}
use Rattle.rings.specs.declared.ring.Ring.{Ring}
use Rattle.rings.specs.Rings.{ring, ring_waiting, Posted, Picked}
use Rattle.rings.specs.Ranks.{ring_covers}

inside : (a : Ring) (s : ℕ) → ring_waiting a s ≡ true → s < a.width
inside a s h = elim (cases_lt s a.width) [ inl k ↦ k | inr k ↦ absurd (both_ways (ring_waiting a s) (a.quiet s k) h) ]

post_shows : (a b : Ring) (s : ℕ) → Posted a s b → Post ring a s b
post_shows a b s h =
    let lt : s < length a.waiting = omega (arith, h.known, a.most, a.full) in
    record {
      known = h.known;
      free = h.free;
      now = rw h.waiting (rw get_or-set_same refl);
      others = λ o ne. rw h.waiting (rw get_or-set_other refl);
      same = h.last;
    }

pick_shows : (a b : Ring) (s : ℕ) → Picked a s b → Pick ring a s b
pick_shows a b s h =
    let lt : s < length a.waiting = omega (arith, inside a s h.first.waited, a.most, a.full) in
    record {
      waited = h.first.waited;
      gone = rw h.waiting (rw get_or-set_same refl);
      others = λ o ne. rw h.waiting (rw get_or-set_other refl);
      now = h.last;
    }

-- One index more.
upto : (k : ℕ) (P : ℕ → Type 0) → ((o : ℕ) → o < k → P o) → P k → (o : ℕ) → o < suc k → P o
upto k P below here o h = elim (cases_eq o k) [ inl e ↦ subst P (sym e) here | inr ne ↦ below o (omega arith) ]

-- Nobody of the first k waits, or somebody waits and comes first among them.
least : (k : ℕ) (f : ℕ → Bool) (r : ℕ → ℕ) → ((o : ℕ) → o < k → f o ≡ false) ⊎ ((p : ℕ) × (f p ≡ true) × ((o : ℕ) → o < k → f o ≡ true → r p ≤ r o))
least zero f r = inl (λ o h. absurd (omega arith))
least (suc k) f r = go (f k) refl (least k f r)
  where
    go : (b : Bool) → f k ≡ b → ((o : ℕ) → o < k → f o ≡ false) ⊎ ((p : ℕ) × (f p ≡ true) × ((o : ℕ) → o < k → f o ≡ true → r p ≤ r o)) → ((o : ℕ) → o < suc k → f o ≡ false) ⊎ ((p : ℕ) × (f p ≡ true) × ((o : ℕ) → o < suc k → f o ≡ true → r p ≤ r o))
    go false e (inl none) = inl (upto k (λ o. f o ≡ false) none e)
    go true e (inl none) = inr (k, e, upto k (λ o. f o ≡ true → r k ≤ r o) (λ o h t. absurd (both_ways (f o) (none o h) t)) (λ t. omega arith))
    go false e (inr q) = inr (q.0, q.1, upto k (λ o. f o ≡ true → r q.0 ≤ r o) q.2 (λ t. absurd (both_ways (f k) e t)))
    go true e (inr q) = elim (cases_lt (r k) (r q.0)) [
      | inl h ↦ inr (k, e, upto k (λ o. f o ≡ true → r k ≤ r o) (λ o j t. omega (arith, q.2 o j t)) (λ t. omega arith))
      | inr h ↦ inr (q.0, q.1, upto k (λ o. f o ≡ true → r q.0 ≤ r o) q.2 (λ t. h))
    ]

known_picked : (n p : ℕ) → p < n → (s : ℕ) → Some p ≡ Some s → s < n
known_picked n p h s e = let same : s ≡ p = cc in omega arith

still_quiet : (a : Ring) (p : ℕ) → p < a.width → Quiet (slice_set a.waiting p false) a.width
still_quiet a p h o k = let ne : o ≢ p = omega arith in rw get_or-set_other (a.quiet o k)

-- The ring after a pick of p.
abbrev after : (a : Ring) (p : ℕ) → p < a.width → Ring
after a p h = record {
  waiting = slice_set a.waiting p false;
  last = Some p;
  width = a.width;
  least = a.least;
  most = a.most;
  quiet = still_quiet a p h;
  known = λ s e. known_picked a.width p h s e;
  full = length-set a.waiting p false ∙ a.full;
}

picks : (a : Ring) (s : ℕ) → ring_waiting a s ≡ true → (o : ℕ) × (b : Ring) × Picked a o b
picks a s h =
    elim (least a.width (ring_waiting a) (rank a.width a.last)) [
      | inl none ↦ absurd (both_ways (ring_waiting a s) (none s (inside a s h)) h)
      | inr q ↦ (
        q.0,
        after a q.0 (inside a q.0 q.1),
        record {
          first = record { waited = q.1; first = λ o t. q.2 o (inside a o t) t };
          waiting = refl;
          last = refl;
          width = refl;
        },
      )
    ]

ring_steps : Steps ring
ring_steps = record {
  width_limits = λ a. (a.least, a.most);
  waiting_below = inside;
  last_below = λ a s h. a.known s h;
  post_shows = post_shows;
  pick_shows = pick_shows;
  post_keeps = λ a b s h. record { width = h.width; bound = λ o own xs. ap (λ n. fair_bound n o own xs) h.width };
  pick_keeps = λ a b s h. record { width = h.width; bound = λ o own xs. ap (λ n. fair_bound n o own xs) h.width };
  pick_exists = picks;
}

pub ring_lawful : Lawful ring
ring_lawful = record {
  steps = ring_steps;
  without_own = λ a s xs h. fair_without_own a.width s xs;
  at_least_own = λ a s own xs h. omega arith;
  at_most_all = λ a s own xs h. fair_at_most_all a.width s own xs;
  monotone = λ a s own more xs ys h k le each. fair_monotone a.width s own more xs ys le each;
  covers = λ a b v u es s xs r st h count. ring_covers ring ring_steps (λ x y p o t w. t.first.first o w) a b v u es s xs r st (acceptance a.width s (posts s es) xs h).known count;
}
