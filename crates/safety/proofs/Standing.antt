-- Who holds a place, and where it stands.
use Rattle.std.proofs.Common.{ℕ, Bool, false, ◌||◌, eqb, Some, None, Option}
use Rattle.cluster.specs.declared.place.Place.{Place}
use Rattle.cluster.specs.declared.place.Place.TheVariants.{Idle, Working, Waiting, Served}
use Rattle.cluster.specs.declared.service.Service.{Service}
use Rattle.cluster.specs.Places.{left_at}

-- The task at work there.
abbrev pub holder : Place → Option ℕ
holder Idle = None
holder (Working j) = Some j.task
holder (Waiting j bank) = Some j.task
holder (Served j bank) = Some j.task

-- Does the place wait, is it served, does it do either at bank b?
abbrev pub waits_at : Place → ℕ → Bool
waits_at Idle b = false
waits_at (Working j) b = false
waits_at (Waiting j bank) b = eqb bank b
waits_at (Served j bank) b = false

abbrev pub served_at : Place → ℕ → Bool
served_at Idle b = false
served_at (Working j) b = false
served_at (Waiting j bank) b = false
served_at (Served j bank) b = eqb bank b

abbrev pub stands_at : Place → ℕ → Bool
stands_at x b = waits_at x b || served_at x b

-- The cycles and the accesses to bank b that its task has left.
abbrev pub cycles_of : Place → ℕ
cycles_of Idle = 0
cycles_of (Working j) = j.cycles
cycles_of (Waiting j bank) = j.cycles
cycles_of (Served j bank) = j.cycles

abbrev pub left_of : Place → ℕ → ℕ
left_of Idle b = 0
left_of (Working j) b = left_at j b
left_of (Waiting j bank) b = left_at j b
left_of (Served j bank) b = left_at j b

-- Whom a bank serves.
abbrev pub served : Option Service → Option ℕ
served None = None
served (Some x) = Some x.place
