use Rattle.std.proofs.Common.{◌≡◌, ◌≤◌, length, inl, inr, sym, subst, take, ◌∙◌, arith}
use Rattle.std.proofs.lemmas.Bool.{cases_eq, true≢false}
use Rattle.std.proofs.lemmas.List.{length-take-le}
use Rattle.plan.specs.Plans.{closed}
use Rattle.analysis.specs.declared.system.System.{System}
use Rattle.analysis.specs.Workings.{Decided}
use Rattle.analysis.proofs.Concluding.{concluded}
use Rattle.analysis.proofs.analysing.analyse.Goals as goal

pub returns : goal.returns
returns g c =
    let s : System g.row.A.Denot g.A.Arbiter = record { plan = c.args.plan; arbiters = c.args.arbiters; fit = sym c.if-not-arbiters_fit.ensures.answer } in
    let old = c.args.dates.now in
    let n = c.len-tasks.result in
    let count = length (closed c.args.plan.now).rows in
    let found = c.find_dates-found.result in
    let some : 1 ≤ count = elim (cases_eq count 0) [ inl e ↦ absurd (true≢false (sym (c.if-is_empty.ensures.1 e))) | inr d ↦ omega arith ] in
    let decided = subst (λ t. Decided t found (take n old) c.grant.new.dates c.grant.result) c.extent.ensures.period c.grant.ensures in
    let rows : n ≤ length old = omega (arith, c.if-dates-tasks.false) in
    let long : length c.grant.new.dates ≡ n = c.grant.auto.dates ∙ length-take-le n old rows in
    let done = concluded s g.met.A.Arbiter.lawful found c.find_dates-found.ensures some old c.grant.new.dates n c.len-tasks.ensures rows long c.grant.result decided in
    record { answer = done.0; sound = done.1 }
