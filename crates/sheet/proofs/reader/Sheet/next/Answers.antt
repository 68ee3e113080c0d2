use Rattle.std.proofs.Common.{Err, Ok, refl}
use Rattle.sheet.specs.Rows.{row_of}
use Rattle.sheet.proofs.Stepping.{line_answer, line_passed}
use Rattle.sheet.proofs.reader.Sheet.next.Goals as goal

pub returns-in-Ok-clause-exact : goal.returns-in-Ok-clause-exact
returns-in-Ok-clause-exact c =
    line_answer c.args.self.now.bytes.now c.in-Some.line.now c.args.self.now.at c.in-Some.ensures c.args.self.now.lines (Ok (row_of c.in-Ok.row)) c.in-Ok.ensures

pub returns-in-Ok-clause-moved : goal.returns-in-Ok-clause-moved
returns-in-Ok-clause-moved c =
    let p = line_passed c.args.self.now.bytes.now c.in-Some.line.now c.args.self.now.at c.in-Some.ensures (row_of c.in-Ok.row) c.in-Ok.ensures in
    (p.0, refl, p.1)

pub returns-in-Err-clause-exact : goal.returns-in-Err-clause-exact
returns-in-Err-clause-exact c =
    line_answer c.args.self.now.bytes.now c.in-Some.line.now c.args.self.now.at c.in-Some.ensures c.args.self.now.lines (Err c.in-Err.flaw) c.in-Err.ensures
