use Rattle.std.proofs.Common.{◌≡◌, ℕ, ◌<◌, not, ◌||◌, true, false, get_or, refl, subst, arith, rules}
use Rattle.std.proofs.lemmas.Iterator.{YieldsList-from_range, cases_from_all}
use Rattle.std.proofs.lemmas.List.FromFn.{get_or-range_with_len, length-range_with_len}
use Rattle.std.specs.List.{range_with_len}
use borrow.Author.Tests.{tests}
use Rattle.date_check.proofs.Every.{below_is}
use Rattle.plan.specs.Waits.{waits_for}
use Rattle.cluster.specs.Cycles.{all_done, is_done}
use Rattle.cluster.specs.States.{stage_of}
use Rattle.run.specs.Views.{planned, state}
use Rattle.run.proofs.state.Run.all_done.Goals as goal

listed : (n k : ℕ) → k < n → get_or (range_with_len 0 n) k 0 ≡ k
listed n k l = omega (arith, get_or-range_with_len 0 n k 0 l)

pub returns : goal.returns
returns g c =
    let run = c.args.self.now in
    let n = c.len.result in
    let p = (λ (k : ℕ). not (waits_for (planned run).rows c.args.row k) || is_done (stage_of (state run) k)) in
    let all = cases_from_all _ _ _ (λ k. p k ≡ true) (λ k. p k ≡ false) c.all.ensures.ran (YieldsList-from_range 0 n n refl (omega arith)) (λ x q k. search (rules, tests)) (λ x q k. search (rules, tests)) in
    rw (← c.len.ensures) (below_is (all_done (planned run) (state run) c.args.row) p refl (λ _. refl) n c.all.result
    (λ yes k l. subst (λ j. p j ≡ true) (listed n k l) ((rw yes at all) k 0 (omega arith) (omega (arith, length-range_with_len 0 n))))
    (λ no. let at = rw no at all in let below : at.0 < n = omega (arith, at.1, length-range_with_len 0 n) in (at.0, below, subst (λ j. p j ≡ false) (listed n at.0 below) (at.2 0))))
