-- Numbers and names that fit their columns have the widths of the columns.
use Rattle.std.proofs.Common.{length, ap, ◌∙◌, arith}
use Rattle.listing.proofs.Aligns.{aligned_fault, aligned_late, aligned_rounds, aligned_rows, measured_fits}
use Rattle.listing.proofs.sizes.size.Goals as goal

pub returns-in_ok-first-in-Granted-clause-aligned : goal.returns-in_ok-first-in-Granted-clause-aligned
returns-in_ok-first-in-Granted-clause-aligned c =
    let line = ap length c.rounds_line.ensures ∙ aligned_rounds c.in-Granted.rounds (omega arith) in
    rw c.in-Granted.is
    (λ a. measured_fits _ _ _ c.add_rows.ensures (omega (arith, c.in_ok-first-in-Granted.ensures, aligned_rows 0 c.in-Granted.rows.now (omega (arith, a.0)) a.1)) (omega (arith, a.0)))

pub returns-in_err-first-in-Granted-clause-aligned : goal.returns-in_err-first-in-Granted-clause-aligned
returns-in_err-first-in-Granted-clause-aligned c =
    let line = ap length c.rounds_line.ensures ∙ aligned_rounds c.in-Granted.rounds (omega arith) in
    absurd (c.in_err-first-in-Granted.ensures (omega arith))

pub returns-in-Late-clause-aligned : goal.returns-in-Late-clause-aligned
returns-in-Late-clause-aligned c =
    rw c.in-Late.is
    (λ a. measured_fits _ _ 28 c.add_sizes-in-Late.ensures (omega (arith, ap length c.late_line.ensures, aligned_late c.in-Late.row c.in-Late.finish a)) (omega arith))

pub returns-in-Fault-clause-aligned : goal.returns-in-Fault-clause-aligned
returns-in-Fault-clause-aligned c =
    rw c.in-Fault.is
    (λ a. measured_fits _ _ 32 c.add_sizes-in-Fault.ensures (omega (arith, ap length c.fault_line.ensures, aligned_fault c.in-Fault.number c.in-Fault.line c.in-Fault.column (omega arith) a)) (omega arith))
