-- The numbers of the refusals.
use Rattle.std.specs.Prelude.{ℕ}
use Rattle.cluster.specs.declared.refusal.CallRefusal.{CallRefusal}
use Rattle.cluster.specs.declared.refusal.CallRefusal.TheVariants.{Breached, Unknown, Idle, Busy, Spent}
use Rattle.cluster.specs.declared.refusal.SetUpRefusal.{SetUpRefusal}
use Rattle.cluster.specs.declared.refusal.SetUpRefusal.TheVariants.{NoTask, Arbiters, Table, Waiting, Range, Late}

abbrev pub set_up_number : SetUpRefusal → ℕ
set_up_number NoTask = 9
set_up_number Arbiters = 10
set_up_number Table = 11
set_up_number Waiting = 15
set_up_number Range = 5
set_up_number (Late i) = 12

abbrev pub call_number : CallRefusal → ℕ
call_number Breached = 16
call_number Unknown = 7
call_number Idle = 17
call_number Busy = 18
call_number Spent = 19
