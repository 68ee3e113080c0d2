use Rattle.std.proofs.lemmas.Result.{IfOk-weaker}
use Rattle.std.proofs.Common.{vec_items}
use Rattle.date_check.proofs.Reading.{kept_of}
use Rattle.answering.proofs.Loads.{fault_listed, listed, name_per_row, no_make}
use Rattle.answering.proofs.answering.list_lines.Goals as goal

pub invariant_of-named : goal.invariant_of-named
invariant_of-named c = record {
  per_task = name_per_row c.args.sheet.now c.new-plan.ensures c.in-Ok.loaded c.close.ensures c.as_slice.ensures.value c.in-Ok.ensures;
}

pub list-requires : goal.list-requires
list-requires c =
    no_make c.args.sheet.now c.new-plan.ensures c.in-Ok.loaded c.close.ensures c.as_slice.ensures.value c.in-Ok.ensures (kept_of c.close.result)

pub returns-in-Ok : goal.returns-in-Ok
returns-in-Ok c =
    IfOk-weaker c.list.result _ _
    (λ text by. listed c.args.sheet.now c.new-plan.ensures c.in-Ok.loaded c.close.ensures c.as_slice.ensures.value c.in-Ok.ensures (vec_items text) c.requires by)
    c.list.ensures

pub returns-in-Err : goal.returns-in-Err
returns-in-Err c =
    IfOk-weaker c.list_fault.result _ _
    (λ text told. fault_listed c.args.sheet.now c.new-plan.ensures c.in-Err.fault (vec_items text) c.requires c.in-Err.ensures told.0 told.1)
    c.list_fault.ensures
