use Rattle.std.proofs.Common.{ap, arith, drop, length-drop, sym, ◌∙◌}
use Rattle.std.proofs.lemmas.List.{take_all}
use Rattle.sheet.proofs.Texts.{unpadded-drop}
use Rattle.sheet.proofs.fields.unpadded.Goals as goal

pub returns-clause-text : goal.returns-clause-text
returns-clause-text c =
    let field = c.args.field.now in
    let n = c.leading_spaces.result in
    take_all _ (drop n field) (omega (arith, length-drop n field)) ∙ (ap (λ k. drop k field) c.leading_spaces.ensures.value ∙ sym (unpadded-drop field))
