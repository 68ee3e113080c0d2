use Rattle.std.proofs.Common.{not, refl, rules}
use Rattle.arbiter.specs.Answers.{someone}
use Rattle.arbiter.specs.Given.{model}
use Rattle.cluster.specs.Calls.{all_quiet}
use Rattle.date_check.proofs.Every.{all_is}
use Rattle.setup.proofs.conditions.all_quiet.Goals as goal

pub returns : goal.returns
returns g c =
    let m = model g.A.Arbiter in
    all_is (all_quiet m) (λ a. not (someone (m.width a) (m.waiting a))) refl (λ _ _. refl) c.args.arbiters.now _ (search rules) (search rules)
