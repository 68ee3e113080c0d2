use Rattle.plan.specs.Plans.{opened}
use Rattle.plan.proofs.Keeping.{head_kept, known}
use Rattle.plan.proofs.open.OpenPlan.set_head.Goals as goal

pub invariant_of-self : goal.invariant_of-self
invariant_of-self c =
    let p = opened c.args.self.now in
    record { kept = ∣ head_kept p c.args.head (known p c.args.self.now.kept) c.requires ∣₁ }
