-- The faults of a sheet that is loaded.
use Rattle.std.specs.Prelude.{ℕ}
use Rattle.plan.specs.Refusals as plan_refusals
use Rattle.plan.specs.declared.rows.Refusal.{Refusal}
use Rattle.sheet.specs.Refusals as sheet_refusals
use Rattle.sheet.specs.declared.faults.Fault.{Fault}
use Rattle.loader.specs.declared.faults.LoadCause.{LoadCause}
use Rattle.loader.specs.declared.faults.LoadCause.TheVariants.{Line, Row}
use Rattle.loader.specs.declared.faults.LoadFault.{LoadFault}

-- The number of a fault is that of the reader's or the plan's refusal inside it.
abbrev pub number_of : LoadCause → ℕ
number_of (Line cause) = sheet_refusals.refusal cause
number_of (Row refusal) = plan_refusals.number_of refusal

-- A line that cannot be read.
abbrev pub read_fault : Fault → LoadFault
read_fault f = record { cause = Line f.cause; line = f.line; column = f.column }

-- A row that the plan refuses; the column of such a line is its first.
abbrev pub row_fault : ℕ → Refusal → LoadFault
row_fault line refusal = record { cause = Row refusal; line = line; column = 1 }
