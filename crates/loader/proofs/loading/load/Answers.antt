use Rattle.std.proofs.Common.{◌≡◌, Ok, rules, sym, ap, ◌∙◌, subst}
use Rattle.std.proofs.lemmas.Result.{err_from_is_err_and}
use Rattle.std.specs.Result.{OnOk}
use Rattle.plan.specs.Plans.{opened}
use Rattle.sheet.specs.Place.{count, left, remaining}
use Rattle.sheet.specs.Reading.{continued, lines, next_view, whole_reading}
use Rattle.sheet.specs.Rows.{row_of}
use Rattle.loader.specs.Faults.{row_fault}
use Rattle.loader.specs.Loading.{Entered, Notes, Stopped}
use Rattle.loader.proofs.Progress.{Progress, finished, handed_out, line_number, stepped, stopped, unmapped_err, unmapped_ok, unreadable}
use Rattle.loader.proofs.loading.load.Goals as goal

pub returns-in_err-line : goal.returns-in_err-line
returns-in_err-line c =
    let e = c.in_err-line.field-0.0 in
    let told = c.in_err-line.ensures in
    let p = err_from_is_err_and c.from_residual.result c.from_residual.ensures.1 in
    rw (p.1, p.2) (unreadable c.loop-loaded.invariant e (remaining c.next.new.self) told.reading (line_number (count c.loop-loaded.sheet) (lines (left c.loop-loaded.sheet)) e (sym told.answer)))

pub returns-in_err-map_err : goal.returns-in_err-map_err
returns-in_err-map_err c =
    let (number, reading) = handed_out c.loop-loaded.sheet c.next.new.self _ c.in-Some.line c.in-Some.is c.in_ok-line.ensures.moved c.in_ok-line.ensures.reading in
    let (f, refused, _) = unmapped_err _ c.take_line.result c.map_err.result _ c.map_err.ensures.cases c.in_err-map_err.was in
    let fault : c.in_err-map_err.field-0.0 ≡ row_fault c.lines-number.result f = search rules in
    let entered = subst (λ r. Entered (opened c.loop-loaded.plan) (row_of c.in-Some.line) r (opened c.take_line.new.plan)) refused c.take_line.ensures.plan in
    let here = stopped c.loop-loaded.invariant (row_of c.in-Some.line) (remaining c.next.new.self) f (opened c.take_line.new.plan) reading entered in
    let (_, is, same) = err_from_is_err_and c.from_residual-in_err-map_err.result c.from_residual-in_err-map_err.ensures.1 in
    let numbered = same ∙ (fault ∙ ap (λ n. row_fault n f) (c.lines-number.ensures ∙ number)) in
    rw is (subst (λ g. Stopped (opened c.args.plan.now) (whole_reading c.args.bytes.now) g (opened c.take_line.new.plan)) (sym numbered) here)

pub loop-loaded-preserved : goal.loop-loaded-preserved
loop-loaded-preserved c =
    let (number, reading) = handed_out c.loop-loaded.sheet c.next.new.self _ c.in-Some.line c.in-Some.is c.in_ok-line.ensures.moved c.in_ok-line.ensures.reading in
    let took = unmapped_ok _ c.take_line.result c.map_err.result _ c.map_err.ensures.cases c.in_ok-map_err.was in
    let entered = subst (λ r. Entered (opened c.loop-loaded.plan) (row_of c.in-Some.line) r (opened c.take_line.new.plan)) took c.take_line.ensures.plan in
    let noted = subst (λ r. OnOk r (Notes c.loop-loaded.loaded (row_of c.in-Some.line) c.take_line.new.loaded)) took c.take_line.ensures.noted in
    let here = stepped c.loop-loaded.invariant (row_of c.in-Some.line) (remaining c.next.new.self) c.take_line.new.loaded (opened c.take_line.new.plan) reading entered noted in
    subst (λ k. Progress (opened c.args.plan.now) (whole_reading c.args.bytes.now) k (remaining c.next.new.self) c.take_line.new.loaded (opened c.take_line.new.plan)) (sym number) here

pub returns : goal.returns
returns c =
    finished c.loop-loaded.invariant (remaining c.next.new.self) (c.in_ok-line.ensures.reading ∙ ap (λ o. continued (next_view (Ok o)) (remaining c.next.new.self)) c.in_default.is)
