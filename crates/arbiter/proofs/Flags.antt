-- Flags as numbers: what `one` of a test is worth.
use Rattle.std.proofs.Common.{◌≡◌, ℕ, ◌+◌, ◌≤◌, Bool, true, false, cond, not, ◌&&◌, ◌||◌, sym, refl, ap, arith}
use mathlib.Core.Bool.{or-false, or-true}
use Rattle.arbiter.specs.Events.{one}

pub one_le : (x : Bool) → one x ≤ 1
one_le true = omega arith
one_le false = omega arith

pub one_and : (w x : Bool) → one (w && x) ≤ one x
one_and true x = omega arith
one_and false x = omega arith

pub one_own : (w x : Bool) → one (w || x) ≤ one x + one (w && not x)
one_own true true = omega arith
one_own true false = omega arith
one_own false x = omega arith

pub one_either : (x y : Bool) → (y ≡ true → x ≡ false) → one x + one y ≤ one (x || y)
one_either x true h = omega (arith, ap one (h refl), ap one (or-true x))
one_either x false h = omega (arith, ap one (or-false x))

pub cond_mono : (b : Bool) (x y : ℕ) → x ≤ y → cond b 0 x ≤ cond b 0 y
cond_mono true x y h = omega arith
cond_mono false x y h = h

-- Where w may become true by an event that counts e, what held under it holds before or is paid by e.
pub one_post : (w e x y : Bool) → (w ≡ true → x ≡ true → y ≡ true) → one ((w || e) && x) ≤ one (w && y) + one e
one_post true e true y h = omega (arith, ap one (sym (h refl refl)))
one_post true e false y h = omega arith
one_post false true true y h = omega arith
one_post false true false y h = omega arith
one_post false false x y h = omega arith

-- Where w may become false, what holds under it then held before.
pub one_pick : (w n x y : Bool) → (w ≡ true → n ≡ true → x ≡ true → y ≡ true) → one ((w && n) && x) ≤ one (w && y)
one_pick false n x y h = omega arith
one_pick true false x y h = omega arith
one_pick true true false y h = omega arith
one_pick true true true y h = omega (arith, ap one (sym (h refl refl refl)))

-- Two flags that exclude each other count as one.
pub one_done : (w x y : Bool) → (x ≡ true → y ≡ false) → one (w && x) + one (w && y) ≤ one (w && (x || y))
one_done false x y h = omega arith
one_done true false y h = omega arith
one_done true true y h = omega (arith, ap one (h refl))
