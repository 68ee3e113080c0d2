use Rattle.std.proofs.Common.{length, refl, rules}
use Rattle.date_check.specs.Sound.{dated}
use Rattle.date_check.specs.Verdict.{all_in_range, in_range}
use Rattle.date_check.proofs.Every.{below_is}
use Rattle.date_check.proofs.questions.all_in_range.Goals as goal

pub returns : goal.returns
returns c =
    let dates = c.args.dates.now in
    below_is (all_in_range dates) (λ i. in_range (dated dates i)) refl (λ _. refl) (length dates) _ (search rules) (search rules)
