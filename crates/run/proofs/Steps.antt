-- Steps of a run, one after the other.
-- Assumes nothing.
use Rattle.std.proofs.Common.{◌≡◌, ℕ, ◌+◌, ◌<◌, List, ◌++◌, map, length, get_or, take, drop, set, sym, refl, ap, ◌∙◌, subst, add-one, arith}
use Rattle.std.proofs.lemmas.List.Edits.{map_over_more}
use Rattle.std.proofs.lemmas.List.{get_or_default, length-append, length-map, set-get_or, take-append-drop}
use Rattle.cluster.specs.States.{State, each, with_arbiters}
use Rattle.run.specs.declared.state.Run.{Run}
use Rattle.run.specs.Views.{Goes, Stays}

-- The first n items are mapped.
abbrev pub mapped : {X : Type 0} → (X → X) → ℕ → List X → List X
mapped f n xs = map f (take n xs) ++ drop n xs

length_mapped : {X : Type 0} (f : X → X) (n : ℕ) (xs : List X) → length (mapped f n xs) ≡ length xs
length_mapped f n xs = omega (arith, length-append (map f (take n xs)) (drop n xs), length-map (take n xs) f, length-append (take n xs) (drop n xs), ap length (take-append-drop n xs))

pub mapped_more : {X : Type 0} (f : X → X) (xs ys : List X) (k : ℕ) (d : X) → k < length xs → ys ≡ mapped f k xs → set ys k (f (get_or ys k d)) ≡ mapped f (k + 1) xs
mapped_more f xs ys k d l e = map_over_more f xs ys k (get_or ys k d) l e (get_or_default ys k d (get_or ys k d) (omega (arith, ap length e, length_mapped f k xs)))

module _ {A : Type 0} where
  -- An arbiter that did not change is put back.
  pub put_back : (s : State A) (b : ℕ) (a x : A) → a ≡ get_or s.arbiters b a → x ≡ a → with_arbiters s (set s.arbiters b x) ≡ s
  put_back s b a x at same = ap (with_arbiters s) (ap (set s.arbiters b) (same ∙ at) ∙ set-get_or s.arbiters b a)

  pub stays_same : (r : Run A) → Stays r r
  stays_same r = (refl, refl)

  pub stays_then : (r q t : Run A) → Stays r q → Stays q t → Stays r t
  stays_then r q t a b = (b.0 ∙ a.0, b.1 ∙ a.1)

  -- One step after another.
  pub goes_then : (f h : State A → State A) (r q t : Run A) → Goes f r q → Goes h q t → Goes (λ s. h (f s)) r t
  goes_then f h r q t a b = record { leaves = b.leaves ∙ ap h a.leaves; stays = stays_then r q t a.stays b.stays }

  -- One step more of a loop.
  pub goes_more : (f : ℕ → State A → State A) (k : ℕ) (r q t : Run A) → Goes (each k f) r q → Goes (f k) q t → Goes (each (k + 1) f) r t
  goes_more f k r q t a b = subst (λ n. Goes (each n f) r t) (sym (add-one k)) (goes_then (each k f) (f k) r q t a b)
