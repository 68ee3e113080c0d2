use Rattle.std.proofs.Common.{◌≡◌, ℕ, ◌+◌, ◌-◌, ◌^◌, ◌<◌, ◌≤◌, ◌++◌, List, false, length, drop, take, get_or, replicate, set, refl, sym, ap, ◌∙◌, inl, inr, ⊎_elim, arith}
use Rattle.std.proofs.lemmas.Bool.{cases_eq, cases_lt}
use Rattle.std.proofs.lemmas.List.{get_or-append_right, get_or-drop, get_or-set_other, get_or-set_same, get_or-take, get_or_append_left, get_or_past, length-take-le}
use Rattle.arbiter.proofs.Lists.{getD_replicate_same}
use Rattle.consistency.specs.Dates.{Table}
use Rattle.analysis.specs.Systems.{plan_in, system_of}
use Rattle.analysis.specs.Workings.{marked}
use Rattle.analysis.proofs.Raising.{work_same}
use Rattle.analysis.proofs.Times.{kept, lawful_system}
use Rattle.analysis.proofs.system.System.times_alone.Goals as goal

-- The first n numbers of a list, where all are 0, and others in their place.
module _ (zeros : List ℕ) (none : (k : ℕ) → get_or zeros k 0 ≡ 0) (n limit : ℕ) (some : 0 < limit) (within : n ≤ length zeros) where
  taken_low : (k : ℕ) → get_or (take n zeros) k 0 < limit
  taken_low k = ⊎_elim (λ l. omega (arith, get_or-take n zeros k 0 l, none k)) (λ l. omega (arith, get_or_past (take n zeros) k 0 (omega (arith, length-take-le n zeros within)))) (cases_lt k n)

  module _ (xs : List ℕ) where
    back_low : ((k : ℕ) → get_or xs k 0 < limit) → (k : ℕ) → get_or (xs ++ drop n zeros) k 0 < limit
    back_low low k =
        ⊎_elim (λ l. omega (arith, get_or_append_left xs (drop n zeros) 0 k l, low k))
        (λ l. omega (arith, get_or-append_right xs (drop n zeros) (length xs) k 0 refl l, get_or-drop n zeros (k - length xs) 0, none (n + (k - length xs))))
        (cases_lt k (length xs))

    back_same : length xs ≡ length (take n zeros) → (t : Table) → ((k : ℕ) → k < n → get_or xs k 0 ≡ t k) → (k : ℕ) → k < n → get_or (xs ++ drop n zeros) k 0 ≡ t k
    back_same long t same k l = get_or_append_left xs (drop n zeros) 0 k (omega (arith, length-take-le n zeros within)) ∙ same k l

abbrev start : List ℕ
start = replicate 256 0

start_none : (k : ℕ) → get_or start k 0 ≡ 0
start_none k = getD_replicate_same {X = ℕ} 256 k 0

pub loop-i-init : goal.loop-i-init
loop-i-init g c = (λ k l. absurd (omega arith), taken_low start start_none c.len.result (2 ^ 35) (omega arith) (omega (arith, (kept c.args.self.now).few, c.len.ensures)))

pub loop-i-preserved : goal.loop-i-preserved
loop-i-preserved g c =
    let s = c.args.self.now in
    let y = system_of s in
    let i = c.loop-i.i in
    let xs = c.loop-i.time-items in
    let n = c.work_time.result in
    let front = length-take-le c.len.result start (omega (arith, (kept s).few, c.len.ensures)) in
    let next : i < length (take c.len.result start) = c.loop-i-test.true in
    let long : length xs ≡ length (take c.len.result start) = c.loop-i.auto.time-items in
    let below : i < length (plan_in s).rows = omega (arith, next, front, c.len.ensures) in
    let here : get_or (set xs i n) i 0 ≡ n = get_or-set_same xs i n 0 (omega (arith, next, long)) in
    let alone_now : n ≡ y.work i (λ k. false) = c.work_time.ensures.value ∙ work_same y (lawful_system s g.met.A.Arbiter.lawful) i below (marked c.none-none.result.met) (λ k. false) (λ k l. c.none-none.ensures.nobody k) in (
      λ k l. elim (cases_eq k i) [
        | inl e ↦ ap (λ x. get_or (set xs i n) x 0) e ∙ here ∙ alone_now ∙ ap (λ x. y.work x (λ _. false)) (sym e)
        | inr d ↦ get_or-set_other xs i k n 0 d ∙ c.loop-i.invariant.0 k (omega arith)
      ],
      λ k. elim (cases_eq k i) [
        | inl e ↦ omega (arith, ap (λ x. get_or (set xs i n) x 0) e, here, c.work_time.ensures.low)
        | inr d ↦ omega (arith, get_or-set_other xs i k n 0 d, c.loop-i.invariant.1 k)
      ],
    )

pub invariant_of-result-clause-low : goal.invariant_of-result-clause-low
invariant_of-result-clause-low g c = back_low start start_none c.len.result (2 ^ 35) (omega arith) (omega (arith, (kept c.args.self.now).few, c.len.ensures)) c.loop-i.time-items c.loop-i.invariant.1

pub returns : goal.returns
returns g c =
    let few : c.len.result ≤ 256 = omega (arith, (kept c.args.self.now).few, c.len.ensures) in
    let done : length (take c.len.result start) ≤ c.loop-i.i = c.loop-i-test.false in
    let front = length-take-le c.len.result start few in
    λ i l. back_same start start_none c.len.result 1 (omega arith) few c.loop-i.time-items c.loop-i.auto.time-items (λ k. (system_of c.args.self.now).work k (λ _. false)) (λ k h. c.loop-i.invariant.0 k (omega (arith, front, done))) i (omega (arith, c.len.ensures))
