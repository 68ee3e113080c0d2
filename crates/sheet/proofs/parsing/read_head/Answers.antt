use Rattle.std.proofs.Common.{◌≡◌, Err, rules}
use Rattle.sheet.specs.Lines.{flaw, make_of}
use Rattle.sheet.proofs.Exact.{no_make}
use Rattle.sheet.proofs.parsing.read_head.Goals as goal

pub returns-in_err-make-2 : goal.returns-in_err-make-2
returns-in_err-make-2 c =
    let e : make_of c.in_ok-make.make ≡ Err (flaw c.in_err-make-2.field-0.0 1) = no_make c.in_ok-make.make c.in_err-make-2.field-0.0 c.in_err-make-2.ensures in
    search rules
