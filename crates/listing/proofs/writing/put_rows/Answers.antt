-- Each turn writes the first of the lines that are left.
use Rattle.std.proofs.Common.{◌+◌, [], ◌++◌, drop, length, ap, ◌∙◌, sym, append_assoc, arith, length-append}
use Rattle.listing.specs.Listing.{row_lines}
use Rattle.std.proofs.lemmas.List.{at_drop_more}
use Rattle.listing.specs.declared.answer.Row.{Row}
use Rattle.listing.proofs.Writes.{behind}
use Rattle.listing.proofs.writing.put_rows.Goals as goal

-- what a read past the last row would give
abbrev blank : Row
blank = record { release = 0; response = 0; name = record { ref_ptr = (0, 0); now = [] } }

pub loop-row-preserved : goal.loop-row-preserved
loop-row-preserved c =
    let (text, written, all) = c.loop-row.invariant in
    let i = c.loop-row.row in
    let line = c.row_line.ensures in
    let left = row_lines (i + 1) (drop (i + 1) c.args.rows.now) in
    let more = at_drop_more (row_lines i) c.args.rows.now i blank c.loop-row-test.true in
    let fits = simp length-append at (ap length all) in (
      _,
      behind (omega arith) written c.put-end.ensures,
      ap (λ x. (text ++ x) ++ left) line ∙ append_assoc text _ left ∙ ap (λ x. text ++ x) (sym more) ∙ all,
    )
