use Rattle.std.proofs.Common.{◌≡◌, ℕ, ◌≢◌, get_or, set, ◌∙◌, subst, arith}
use Rattle.std.proofs.lemmas.List.{get_or-set_other, get_or-set_same}
use Rattle.analysis.specs.Systems.{plan_in, system_of}
use Rattle.analysis.specs.Workings.{Settled, column, release_in, response_in}
use Rattle.consistency.specs.Dates.{worst}
use Rattle.analysis.proofs.Raising.{rising_raised, still_met}
use Rattle.analysis.proofs.Times.{kept, lawful_system, worst_read}
use Rattle.analysis.proofs.system.System.settle.Goals as goal

pub returns-then-worst-windows-clause-settled : goal.returns-then-worst-windows-clause-settled
returns-then-worst-windows-clause-settled g c =
    let s = c.args.self.now in
    let rel = release_in c.loop-windows.windows in
    let res = response_in c.loop-windows.windows in
    let settled : Settled (system_of s) rel (response_in c.args.windows.now) res c.args.i =
    record {
      rising = c.loop-windows.invariant.0;
      covered = omega (arith, worst_read s g.met.A.Arbiter.lawful rel res c.args.i c.requires.known c.meet_all.new.self c.meet_all.ensures c.work_time-worst.result c.work_time-worst.ensures.value, c.if-worst-windows.true);
      others = c.loop-windows.invariant.1;
    } in
    subst (λ r. Settled (system_of s) (column r) (response_in c.args.windows.now) res c.args.i) c.loop-windows.invariant.3 settled

pub loop-windows-preserved : goal.loop-windows-preserved
loop-windows-preserved g c =
    let s = c.args.self.now in
    let laws = g.met.A.Arbiter.lawful in
    let i = c.args.i in
    let xs = c.loop-windows.windows.responses.rows in
    let rel = release_in c.loop-windows.windows in
    let res = response_in c.loop-windows.windows in
    let n = c.work_time-worst.result in
    let here : get_or (set xs i n) i 0 ≡ n = get_or-set_same xs i n 0 (omega (arith, (kept s).few, c.requires.known, c.loop-windows.windows.responses.full)) in
    let others : (k : ℕ) → k ≢ i → get_or (set xs i n) k 0 ≡ res k = λ k d. get_or-set_other xs i k n 0 d in
    let n_is : n ≡ worst (system_of s) rel res i (res i) = worst_read s laws rel res i c.requires.known c.meet_all.new.self c.meet_all.ensures n c.work_time-worst.ensures.value in (
      rising_raised (system_of s) (lawful_system s laws) rel res (λ k. get_or (set xs i n) k 0) i c.requires.known c.loop-windows.invariant.0 (here ∙ n_is) others,
      λ k d. others k d ∙ c.loop-windows.invariant.1 k d,
      still_met (plan_in s).rows rel i res (λ k. get_or (set xs i n) k 0) c.meet_all.new.self c.meet_all.ensures others (omega (arith, here, c.if-worst-windows.false)),
      c.loop-windows.invariant.3,
    )
