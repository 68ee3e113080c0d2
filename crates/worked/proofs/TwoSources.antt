-- Rings of two sources, by who waits and who was picked last.
-- Assumes nothing.
use Rattle.std.proofs.Common.{◌≡◌, ℕ, zero, suc, ◌<◌, ◌≤◌, Bool, true, false, List, ◌∷◌, get_or, set, replicate, Some, None, Option, sym, refl, ap, ◌∙◌, subst, arith, ext_get_or}
use Rattle.std.proofs.lemmas.Bool.{both_ways}
use Rattle.arbiter.proofs.Lists.{getD_replicate_same}
use Rattle.arbiter.specs.Answers.{AfterPick}
use Rattle.rings.specs.declared.ring.Ring.{Ring}
use Rattle.rings.specs.Kept.{Known}
use Rattle.rings.specs.Order.{First, rank}
use Rattle.rings.specs.Rings.{NewRing, Picked, Posted, ring, ring_waiting}
use Rattle.rings.specs.Ranks.{rank_cases, start_of}

-- Who waits, if source 0 does as x says and source 1 as y says.
abbrev pub waiters : Bool → Bool → List Bool
waiters x y = x ∷ y ∷ replicate 30 false

pub waiters_quiet : (x y : Bool) (o : ℕ) → 2 ≤ o → get_or (waiters x y) o false ≡ false
waiters_quiet x y zero h = absurd (omega arith)
waiters_quiet x y (suc zero) h = absurd (omega arith)
waiters_quiet x y (suc (suc o)) h = getD_replicate_same 30 o false

pub known_none : Known None 2
known_none s e = cc

known_some : (o : ℕ) → o < 2 → Known (Some o) 2
known_some o h s e = let same : s ≡ o = cc in omega arith

pub known_0 : Known (Some 0) 2
known_0 = known_some 0 (omega arith)

pub known_1 : Known (Some 1) 2
known_1 = known_some 1 (omega arith)

-- Such a ring.
abbrev pub two : (x y : Bool) (l : Option ℕ) → Known l 2 → Ring
two x y l known = record {
  waiting = waiters x y;
  last = l;
  width = 2;
  least = omega arith;
  most = omega arith;
  quiet = waiters_quiet x y;
  known = known;
  full = refl;
}

pub new_two : NewRing 2 (two false false None known_none)
new_two = record { width = refl; idle = λ s. getD_replicate_same 32 s false; last = refl }

-- A ring that is in this state.
pub record At (x y : Bool) (l : Option ℕ) (a : Ring) : Type 0 where
  pub waiting : a.waiting ≡ waiters x y
  pub last : a.last ≡ l
  pub width : a.width ≡ 2

pub new_at : (a : Ring) → NewRing 2 a → At false false None a
new_at a new = record {
  waiting = ext_get_or false a.waiting (waiters false false) a.full (λ o h. new.idle o ∙ sym (getD_replicate_same 32 o false));
  last = new.last;
  width = new.width;
}

-- Posts.
pub post_0 : {y : Bool} {l : Option ℕ} {a b : Ring} → At false y l a → Posted a 0 b → At true y l b
post_0 at h = record { waiting = h.waiting ∙ ap (λ w. set w 0 true) at.waiting; last = h.last ∙ at.last; width = h.width ∙ at.width }

pub post_1 : {x : Bool} {l : Option ℕ} {a b : Ring} → At x false l a → Posted a 1 b → At x true l b
post_1 at h = record { waiting = h.waiting ∙ ap (λ w. set w 1 true) at.waiting; last = h.last ∙ at.last; width = h.width ∙ at.width }

pub posted_0 : {y : Bool} {l : Option ℕ} {a : Ring} (known : Known l 2) → At false y l a → Posted a 0 (two true y l known)
posted_0 known at = record {
  known = omega (arith, at.width);
  free = ap (λ w. get_or w 0 false) at.waiting;
  waiting = sym (ap (λ w. set w 0 true) at.waiting);
  last = sym at.last;
  width = sym at.width;
}

pub posted_1 : {x : Bool} {l : Option ℕ} {a : Ring} (known : Known l 2) → At x false l a → Posted a 1 (two x true l known)
posted_1 known at = record {
  known = omega (arith, at.width);
  free = ap (λ w. get_or w 1 false) at.waiting;
  waiting = sym (ap (λ w. set w 1 true) at.waiting);
  last = sym at.last;
  width = sym at.width;
}

-- Picks: source o is the first, by the ranks of the two.
pub first_of : (x y : Bool) (l : Option ℕ) (o : ℕ) → get_or (waiters x y) o false ≡ true → (x ≡ true → rank 2 l o ≤ rank 2 l 0) → (y ≡ true → rank 2 l o ≤ rank 2 l 1) → First 2 l (λ s. get_or (waiters x y) s false) o
first_of x y l o w p q = record { waited = w; first = below }
  where
    below : (s : ℕ) → get_or (waiters x y) s false ≡ true → rank 2 l o ≤ rank 2 l s
    below zero h = p h
    below (suc zero) h = q h
    below (suc (suc s)) h = absurd (both_ways (get_or (waiters x y) (suc (suc s)) false) (waiters_quiet x y (suc (suc s)) (omega arith)) h)

-- There is only one first.
waiting_below : (x y : Bool) (s : ℕ) → get_or (waiters x y) s false ≡ true → s < 2
waiting_below x y zero h = omega arith
waiting_below x y (suc zero) h = omega arith
waiting_below x y (suc (suc s)) h = absurd (both_ways (get_or (waiters x y) (suc (suc s)) false) (waiters_quiet x y (suc (suc s)) (omega arith)) h)

start_below : (l : Option ℕ) → Known l 2 → start_of l ≤ 2
start_below None k = omega arith
start_below (Some o) k = omega (arith, k o refl)

one_first : (x y : Bool) (l : Option ℕ) (s o : ℕ) → Known l 2 → First 2 l (λ k. get_or (waiters x y) k false) s → First 2 l (λ k. get_or (waiters x y) k false) o → s ≡ o
one_first x y l s o known f g =
    omega (arith, start_below l known, rank_cases 2 l s, rank_cases 2 l o, f.first o g.waited, g.first s f.waited, waiting_below x y s f.waited, waiting_below x y o g.waited)

first_at : {x y : Bool} {l : Option ℕ} {a : Ring} {s : ℕ} → At x y l a → First a.width a.last (ring_waiting a) s → First 2 l (λ k. get_or (waiters x y) k false) s
first_at {x} {y} {l} {a} {s} at f =
    subst (λ n. First n l (λ k. get_or (waiters x y) k false) s) at.width
    (subst (λ m. First a.width m (λ k. get_or (waiters x y) k false) s) at.last
    (subst (λ w. First a.width a.last (λ k. get_or w k false) s) at.waiting f))

at_first : {x y : Bool} {l : Option ℕ} {a : Ring} {s : ℕ} → At x y l a → First 2 l (λ k. get_or (waiters x y) k false) s → First a.width a.last (ring_waiting a) s
at_first {x} {y} {l} {a} {s} at f =
    subst (λ n. First n a.last (ring_waiting a) s) (sym at.width)
    (subst (λ m. First 2 m (ring_waiting a) s) (sym at.last)
    (subst (λ w. First 2 l (λ k. get_or w k false) s) (sym at.waiting) f))

-- What a pick answers, and the waiting sources that it leaves.
pub record Took (o : ℕ) (w : List Bool) (r : Option ℕ) (b : Ring) : Type 0 where
  pub answer : r ≡ Some o
  pub waiting : b.waiting ≡ set w o false
  pub last : b.last ≡ Some o
  pub width : b.width ≡ 2

pub pick_is : {x y : Bool} {l : Option ℕ} {a b : Ring} (o : ℕ) (r : Option ℕ) → Known l 2 → At x y l a → First 2 l (λ k. get_or (waiters x y) k false) o → AfterPick ring a b r → Took o (waiters x y) r b
pick_is {x} {y} {l} {a} {b} o None known at f h = absurd (both_ways (get_or a.waiting o false) (h.1 o) (ap (λ w. get_or w o false) at.waiting ∙ f.waited))
pick_is {x} {y} {l} {a} {b} o (Some s) known at f h =
    let same : s ≡ o = one_first x y l s o known (first_at at h.first) f in
    record {
      answer = ap Some same;
      waiting = h.waiting ∙ ap (λ w. set w s false) at.waiting ∙ ap (λ k. set (waiters x y) k false) same;
      last = h.last ∙ ap Some same;
      width = h.width ∙ at.width;
    }

pub pick_none : {l : Option ℕ} {a b : Ring} (r : Option ℕ) → At false false l a → AfterPick ring a b r → (r ≡ None) × (b ≡ a)
pick_none {l} {a} None at h = (refl, h.0)
pick_none {l} {a} (Some s) at h = absurd (both_ways (get_or a.waiting s false) (ap (λ w. get_or w s false) at.waiting ∙ getD_replicate_same 32 s false) h.first.waited)

pub picked_0 : {y : Bool} {l : Option ℕ} {a : Ring} → At true y l a → First 2 l (λ k. get_or (waiters true y) k false) 0 → Picked a 0 (two false y (Some 0) known_0)
picked_0 at f = record { first = at_first at f; waiting = sym (ap (λ w. set w 0 false) at.waiting); last = refl; width = sym at.width }

pub picked_1 : {x : Bool} {l : Option ℕ} {a : Ring} → At x true l a → First 2 l (λ k. get_or (waiters x true) k false) 1 → Picked a 1 (two x false (Some 1) known_1)
picked_1 at f = record { first = at_first at f; waiting = sym (ap (λ w. set w 1 false) at.waiting); last = refl; width = sym at.width }
