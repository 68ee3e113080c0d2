-- What happens to a place.
use Rattle.std.specs.Prelude.{ℕ, ◌-◌, cond, nat_lt, slice_index, slice_set}
use Rattle.cluster.specs.declared.place.Job.{Job}
use Rattle.cluster.specs.declared.place.Place.{Place}
use Rattle.cluster.specs.declared.place.Place.TheVariants.{Idle, Working, Waiting, Served}
use Rattle.cluster.specs.declared.place.Event.{Event}
use Rattle.cluster.specs.declared.place.Event.TheVariants.{Asked, Picked, CycleUsed, ServiceEnded}

-- The accesses to a bank that a task at work has left.
abbrev pub left_at : Job → ℕ → ℕ
left_at j bank = slice_index j.accesses bank

-- One access to a bank is used up; there is no bank from 16 on.
abbrev pub access_used : Job → ℕ → Job
access_used j bank = cond (nat_lt bank 16) (record { task = j.task; cycles = j.cycles; accesses = slice_set j.accesses bank (left_at j bank - 1) }) j

-- One cycle is used up.
abbrev pub cycle_used : Job → Job
cycle_used j = record { task = j.task; cycles = j.cycles - 1; accesses = j.accesses }

-- What a place is after an event. Only a working place asks and uses cycles, only a waiting one is picked, only a served one is done with its service.
abbrev pub after : Place → Event → Place
after Idle e = Idle
after (Working j) (Asked bank) = Waiting (access_used j bank) bank
after (Working j) CycleUsed = Working (cycle_used j)
after (Working j) Picked = Working j
after (Working j) ServiceEnded = Working j
after (Waiting j bank) Picked = Served j bank
after (Waiting j bank) (Asked b) = Waiting j bank
after (Waiting j bank) CycleUsed = Waiting j bank
after (Waiting j bank) ServiceEnded = Waiting j bank
after (Served j bank) ServiceEnded = Working j
after (Served j bank) (Asked b) = Served j bank
after (Served j bank) Picked = Served j bank
after (Served j bank) CycleUsed = Served j bank
