-- Rules for bounds that look right and are false, each with a case against it.
use Rattle.std.specs.Prelude.{◌≡◌, ℕ, ◌+◌, ◌<◌, min, false, ◌≢◌, List, [], ◌∷◌, replicate, Some, None, Option, slice_index, slice_set}
use Rattle.arbiter.specs.Answers.{Accepts}
use Rattle.arbiter.specs.Events.{Event, Trace, delay, done, one, pick, post, posts}
use Rattle.arbiter.specs.Laws.{Lawful, Start, accesses}
use Rattle.arbiter.specs.Meaning.{Model}
use Rattle.rings.specs.declared.ring.Ring.{Ring}
use Rattle.rings.specs.Order.{First}
use Rattle.rings.specs.Rings.{ring, ring_waiting}
use Rattle.layers.specs.declared.pair.Pair.{Pair}
use Rattle.layers.specs.Alternations.{alternates}
use Rattle.layers.specs.Layers.{Formula, layer}

-- A case against a bound: a trace that may start for s, v in service, with the other sources counted as said, in which the delay d is above the bound b.
pub record Against {S : Type 0} (m : Model S) (count : S → Option ℕ → List Event → ℕ → ℕ) (s : ℕ) (v : Option ℕ) (es : List Event) (xs : List ℕ) (b d : ℕ) : Type 0 where
  pub from : S
  pub to : S
  pub left : Option ℕ
  pub trace : Trace m.posted m.picked from v es to left
  pub start : Start m s from v
  pub accepted : Accepts (m.width from) s (posts s es) xs
  pub counted : (o : ℕ) → o < m.width from → o ≢ s → slice_index xs o ≡ count from v es o
  pub bound : m.bound from s (posts s es) xs ≡ b
  pub delayed : delay s false v es ≡ d
  pub above : b < d

-- "An alternation adds the smaller of the own accesses and the other side's."
abbrev pub by_own : Formula
by_own first own b t = b + min own t

abbrev pub alternation_by_own : Model (Pair Ring Ring)
alternation_by_own = layer ring ring (alternates ring ring) by_own

-- Left has sources 0 and 1, right has source 2. Source 1 waits for 2, 0 and 2 before its turn.
abbrev pub behind_three : List Event
behind_three = post 2 ∷ pick 2 ∷ post 0 ∷ post 1 ∷ done ∷ post 2 ∷ pick 0 ∷ done ∷ pick 2 ∷ done ∷ pick 1 ∷ done ∷ []

-- "A ring may start each pick at 0."
pub record PickedFrom0 (a : Ring) (s : ℕ) (b : Ring) : Type 0 where
  pub first : First a.width None (ring_waiting a) s
  pub waiting : b.waiting ≡ slice_set a.waiting s false
  pub last : b.last ≡ Some s
  pub width : b.width ≡ a.width

abbrev pub ring_from_0 : Model Ring
ring_from_0 = record ring { picked = PickedFrom0 }

-- Source 0 posts again after its service, and goes before source 1 twice.
abbrev pub overtaken_twice : List Event
overtaken_twice = post 0 ∷ post 1 ∷ pick 0 ∷ done ∷ post 0 ∷ pick 0 ∷ done ∷ pick 1 ∷ done ∷ []

-- "The service in progress need not be counted."
abbrev pub forgetful : Ring → Option ℕ → List Event → ℕ → ℕ
forgetful a v es o = one (ring_waiting a o) + posts o es

-- Source 0 posts while source 1 is in service.
abbrev pub behind_a_service : List Event
behind_a_service = post 0 ∷ done ∷ pick 0 ∷ done ∷ []

-- In each case the bound is one less than the delay. The first two are no arbiters, since bounds of arbiters cover delays.
pub record Refuted : Type 0 where
  pub own_in_alternation : Against alternation_by_own (accesses alternation_by_own) 1 None behind_three (1 ∷ 0 ∷ 2 ∷ replicate 29 0) 3 4
  pub own_unlawful : ¬ Lawful alternation_by_own
  pub starting_at_0 : Against ring_from_0 (accesses ring_from_0) 1 None overtaken_twice (2 ∷ replicate 31 0) 2 3
  pub from_0_unlawful : ¬ Lawful ring_from_0
  pub service_forgotten : Against ring forgetful 0 (Some 1) behind_a_service (replicate 32 0) 1 2
