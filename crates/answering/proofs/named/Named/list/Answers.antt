use Rattle.std.proofs.Common.{◌≡◌, Some, rules}
use Rattle.std.proofs.lemmas.Result.{IfOk-weaker}
use Rattle.date_check.proofs.Reading.{kept_of}
use Rattle.sheet.specs.declared.lines.Make.TheVariants.{Ring}
use Rattle.rings.specs.Rings.{ring}
use Rattle.answering.specs.Named.{plan_of}
use Rattle.answering.proofs.Making.{remade, ring_over}
use Rattle.answering.proofs.named.Named.list.Goals as goal

pub returns-in-Some-Ring : goal.returns-in-Some-Ring
returns-in-Some-Ring c =
    let make : c.args.make ≡ Some Ring = search rules in
    rw make
    (IfOk-weaker c.list_made.result _ _
    (λ text made. remade {m = ring} (λ a some post. ring_over (plan_of c.args.self.now) (kept_of c.args.self.now.plan.now) c.extent-places.result.places c.extent-places.ensures.places some a (search rules)) made)
    c.list_made.ensures)
