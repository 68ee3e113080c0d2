use Rattle.std.proofs.Common.{sym, ◌∙◌, subst, arith}
use Rattle.std.proofs.lemmas.Result.{IfOk-weaker}
use Rattle.answering.specs.Listings.{RowsOf}
use Rattle.answering.specs.Named.{names_of}
use Rattle.answering.proofs.Naming.{rows_joined}
use Rattle.answering.proofs.named.Named.list_granted.Goals as goal

pub returns : goal.returns
returns c =
    let same = c.as_slice.ensures.value ∙ c.in_ok-rows.ensures in
    IfOk-weaker c.write.result _ _
    (λ text lines. record {
      rows = c.as_slice.result.now;
      told = subst (RowsOf c.args.dates.now (names_of c.args.self.now)) (sym same) (rows_joined c.args.dates.now c.args.self.now.names.now (omega (arith, c.args.self.now.per_task)));
      lines = lines;
    })
    c.write.ensures
