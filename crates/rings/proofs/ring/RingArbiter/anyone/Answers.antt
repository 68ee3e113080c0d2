use Rattle.std.proofs.Common.{◌≡◌, ℕ, Bool, true, false, List, get_or, length, sym, inl, inr, arith}
use Rattle.std.specs.List.{IsAnyAnswer}
use mathlib.Core.Bool.{beq}
use Rattle.std.proofs.lemmas.Bool.{cases_lt, both_ways}
use Rattle.std.proofs.lemmas.Grind.{common_steps}
use Rattle.arbiter.specs.Answers.{someone}
use Rattle.arbiter.proofs.Someone.{someone_at, no_one}
use Rattle.rings.specs.Kept.{Quiet}
use Rattle.rings.proofs.ring.RingArbiter.anyone.Goals as goal

is : (x b : Bool) → beq x true ≡ b → x ≡ b
is true b e = e
is false b e = e

anybody : (n : ℕ) (ws : List Bool) (r : Bool) → Quiet ws n → IsAnyAnswer (λ y b. beq y true ≡ b) ws r → r ≡ someone n (λ o. get_or ws o false)
anybody n ws true q h =
    let waits = is (get_or ws h.0 false) true (h.2 false) in
    elim (cases_lt h.0 n) [ inl i ↦ sym (someone_at n (λ o. get_or ws o false) h.0 i waits) | inr i ↦ absurd (both_ways (get_or ws h.0 false) (q h.0 i) waits) ]
anybody n ws false q h = sym (no_one n (λ o. get_or ws o false) (λ o i. elim (cases_lt o (length ws)) [ inl j ↦ is (get_or ws o false) false (h o false (omega arith) j) | inr j ↦ grind (arith, common_steps) ]))

pub returns : goal.returns
returns c = anybody c.args.self.now.width c.args.self.now.waiting c.contains.result c.args.self.now.quiet c.contains.ensures.cases
