-- What the calls answer, and what they leave.
use Rattle.std.specs.Prelude.{◌≡◌, ℕ, zero, suc, Bool, false, cond, ◌&&◌, ◌||◌, List, length, Some, None, Ok, Err, Option, Result, ◌==◌, nat_le, nat_lt}
use Rattle.std.specs.Result.{result_and}
use Rattle.arbiter.specs.declared.refusal.Refusal.{Refusal}
use Rattle.arbiter.specs.declared.refusal.Refusal.TheVariants.{Range, Unknown, Size, Waiting}
use Rattle.arbiter.specs.Counts.{limit, all_within}
use Rattle.arbiter.specs.Meaning.{Model}

-- The number of a refusal.
abbrev pub number_of : Refusal → ℕ
number_of Range = 5
number_of Unknown = 7
number_of Size = 10
number_of Waiting = 18

-- Does s, one of n sources, wait?
abbrev pub waits_answer : ℕ → (ℕ → Bool) → ℕ → Result Bool Refusal
waits_answer n waiting s = cond (nat_lt s n) (Ok (waiting s)) (Err Unknown)

-- Does one of n sources wait?
abbrev pub someone : ℕ → (ℕ → Bool) → Bool
someone zero waiting = false
someone (suc n) waiting = waiting n || someone n waiting

-- A post asks: is s below the width, and does it not wait yet?
abbrev pub post_answer : ℕ → (ℕ → Bool) → ℕ → Result (Unit {0}) Refusal
post_answer n waiting s = cond (nat_lt s n) (cond (waiting s) (Err Waiting) (Ok tt)) (Err Unknown)

-- An accepted post leads from a to b, and a refused one changes nothing.
abbrev pub AfterPost : {S : Type 0} → Model S → S → ℕ → S → Result (Unit {0}) Refusal → Type 0
AfterPost m a s b (Ok u) = m.posted a s b
AfterPost m a s b (Err e) = b ≡ a

-- A pick that answers a source leads from a to b; one that answers none changes nothing, and nobody waits.
abbrev pub AfterPick : {S : Type 0} → Model S → S → S → Option ℕ → Type 0
AfterPick m a b None = (b ≡ a) × ((s : ℕ) → m.waiting a s ≡ false)
AfterPick m a b (Some s) = m.picked a s b

-- A bound asks: is s below the width, are there 32 entries, are own and all entries within the limit?
abbrev pub accept_answer : ℕ → ℕ → ℕ → List ℕ → Result (Unit {0}) Refusal
accept_answer n s own xs = cond (nat_lt s n) (cond (length xs == 32) (cond (nat_le own limit && all_within xs) (Ok tt) (Err Range)) (Err Size)) (Err Unknown)

-- Where a bound is accepted.
abbrev pub Accepts : ℕ → ℕ → ℕ → List ℕ → Type 0
Accepts n s own xs = accept_answer n s own xs ≡ Ok tt

-- The first refusal, or the bound.
abbrev pub bound_answer : ℕ → (ℕ → ℕ → List ℕ → ℕ) → ℕ → ℕ → List ℕ → Result ℕ Refusal
bound_answer n bound s own xs = result_and (accept_answer n s own xs) (Ok (bound s own xs))
