use Rattle.std.proofs.Common.{◌≡◌, leb, refl, sym, ◌∙◌, rules}
use Rattle.plan.specs.Plans.{closed}
use Rattle.plan.specs.Rules.{places_of}
use Rattle.arbiter.specs.Given.{model}
use Rattle.date_check.specs.Verdict.{all_wide, arbiters_fit}
use Rattle.date_check.proofs.Every.{all_is}
use Rattle.date_check.proofs.Passing.{fit_facts}
use Rattle.date_check.proofs.questions.arbiters_fit.Goals as goal

pub returns-then-arbiters-head : goal.returns-then-arbiters-head
returns-then-arbiters-head g c =
    let m = model g.A.Arbiter in
    let plan = closed c.args.plan.now in
    let arbiters = c.args.arbiters.now in
    let places = places_of plan.head in
    let wide : c.all.result ≡ all_wide m places arbiters = all_is (all_wide m places) (λ a. leb places (m.width a)) refl (λ _ _. refl) arbiters c.all.result (search rules) (search rules) in
    let answer : c.all.result ≡ arbiters_fit m plan arbiters = search rules in
    record { answer = answer; facts = λ e. fit_facts m plan arbiters (sym answer ∙ e) }
