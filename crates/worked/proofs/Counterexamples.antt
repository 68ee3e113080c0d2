-- The cases against rules that look right.
-- Assumes nothing.
use Rattle.std.proofs.Common.{◌≡◌, ℕ, zero, suc, ◌<◌, ◌≤◌, Bool, true, false, ◌≢◌, List, ◌∷◌, get_or, replicate, Some, None, Option, refl, subst, arith}
use Rattle.std.proofs.lemmas.Bool.{both_ways, false≢true}
use Rattle.arbiter.proofs.Lists.{getD_replicate_same}
use Rattle.arbiter.specs.Events.{Event, stop, then_done, then_pick, then_post}
use Rattle.arbiter.specs.Laws.{Lawful, Start, accesses}
use Rattle.arbiter.specs.Meaning.{Model}
use Rattle.rings.specs.declared.ring.Ring.{Ring}
use Rattle.rings.specs.Kept.{Known}
use Rattle.rings.specs.Order.{rank}
use Rattle.rings.specs.Rings.{NewRing, Picked, Posted, ring}
use Rattle.layers.specs.declared.pair.Pair.{Pair}
use Rattle.layers.specs.declared.pair.Side.{Side}
use Rattle.layers.specs.declared.pair.Side.TheVariants as sides
use Rattle.layers.specs.Pairs.{from_first, from_second, to_first, to_second}
use Rattle.date_check.specs.Sound.{loads}
use Rattle.analysis.specs.Plans.{releases, responses}
use Rattle.worked.specs.Plans.{scan_and_steam}
use Rattle.worked.specs.Analyses.{touching_dates}
use Rattle.worked.specs.Refuted.{Against, PickedFrom0, Refuted, alternation_by_own, behind_a_service, behind_three, forgetful, overtaken_twice, ring_from_0}
use Rattle.worked.specs.Touching.{TouchingRefuted, touches}
use Rattle.worked.proofs.Analysed.{on_ring}
use Rattle.worked.proofs.TwoSources.{At, first_of, known_0, known_1, known_none, picked_0, picked_1, posted_0, posted_1, two}

pub touching_refuted : (a : Ring) → NewRing 2 a → TouchingRefuted a
unfolding loads
touching_refuted a new = record {
  meet_not = refl;
  touch = refl;
  would_take = on_ring (λ y. y.work 0 (touches y (releases touching_dates) (responses touching_dates) 0 8) ≡ 10) (scan_and_steam 20 8) a new refl;
}

-- A case against a bound is one against its law.
unlawful : {S : Type 0} {m : Model S} {s : ℕ} {v : Option ℕ} {es : List Event} {xs : List ℕ} {b d : ℕ} → Against m (accesses m) s v es xs b d → Lawful m → ⊥
unlawful {s = s} {v} {es} {xs} k laws =
    omega (arith, laws.covers k.from k.to v k.left es s xs k.trace k.start k.accepted k.counted, k.bound, k.delayed, k.above)

-- With nothing in service, a trace may start for whoever does not wait.
start_idle : {S : Type 0} {m : Model S} {s : ℕ} {a : S} → m.waiting a s ≡ false → Start m s a None
start_idle idle = record { idle = idle; other = refl; picked = λ o e. cc }

here : {x y : Bool} {l : Option ℕ} (known : Known l 2) → At x y l (two x y l known)
here known = record { waiting = refl; last = refl; width = refl }

-- Starting each pick at 0.
from_0_picks_0 : {l : Option ℕ} (known : Known l 2) → PickedFrom0 (two true true l known) 0 (two false true (Some 0) known_0)
from_0_picks_0 known = record { first = first_of true true None 0 refl (λ h. omega arith) (λ h. omega arith); waiting = refl; last = refl; width = refl }

from_0_picks_1 : PickedFrom0 (two false true (Some 0) known_0) 1 (two false false (Some 1) known_1)
from_0_picks_1 = record { first = first_of false true None 1 refl (λ h. absurd (false≢true h)) (λ h. omega arith); waiting = refl; last = refl; width = refl }

starting_at_0 : Against ring_from_0 (accesses ring_from_0) 1 None overtaken_twice (2 ∷ replicate 31 0) 2 3
starting_at_0 = record {
  from = two false false None known_none;
  to = two false false (Some 1) known_1;
  left = None;
  trace =
      then_post refl (posted_0 known_none (here known_none))
      (then_post refl (posted_1 known_none (here known_none))
      (then_pick (from_0_picks_0 known_none)
      (then_done
      (then_post refl (posted_0 known_0 (here known_0))
      (then_pick (from_0_picks_0 known_0)
      (then_done
      (then_pick from_0_picks_1
      (then_done stop))))))));
  start = start_idle refl;
  accepted = refl;
  counted = counted;
  bound = refl;
  delayed = refl;
  above = omega arith;
}
  where
    counted : (o : ℕ) → o < 2 → o ≢ 1 → get_or (2 ∷ replicate 31 0) o 0 ≡ accesses ring_from_0 (two false false None known_none) None overtaken_twice o
    counted zero h ne = refl
    counted (suc zero) h ne = absurd (ne refl)
    counted (suc (suc o)) h ne = absurd (omega arith)

-- Forgetting the service in progress.
service_forgotten : Against ring forgetful 0 (Some 1) behind_a_service (replicate 32 0) 1 2
service_forgotten = record {
  from = two false false (Some 1) known_1;
  to = two false false (Some 0) known_0;
  left = None;
  trace =
      then_post refl (posted_0 known_1 (here known_1))
      (then_done
      (then_pick (picked_0 (here known_1) (first_of true false (Some 1) 0 refl (λ h. omega arith) (λ h. absurd (false≢true h))))
      (then_done stop)));
  start = record { idle = refl; other = refl; picked = λ o e. (e, subst (λ k. get_or (replicate 32 false) k false ≡ false) (is_one e) refl) };
  accepted = refl;
  counted = counted;
  bound = refl;
  delayed = refl;
  above = omega arith;
}
  where
    is_one : {o : ℕ} → Some 1 ≡ Some o → 1 ≡ o
    is_one e = cc

    counted : (o : ℕ) → o < 2 → o ≢ 0 → get_or (replicate 32 0) o 0 ≡ forgetful (two false false (Some 1) known_1) (Some 1) behind_a_service o
    counted zero h ne = absurd (ne refl)
    counted (suc zero) h ne = refl
    counted (suc (suc o)) h ne = absurd (omega arith)

-- The smaller of the own accesses and the other side's.
-- The right side: a ring of one source.
known_only : Known (Some 0) 1
known_only s e = let same : s ≡ 0 = cc in omega arith

known_nobody : Known None 1
known_nobody s e = cc

quiet_only : (x : Bool) (o : ℕ) → 1 ≤ o → get_or (x ∷ replicate 31 false) o false ≡ false
quiet_only x zero h = absurd (omega arith)
quiet_only x (suc o) h = getD_replicate_same 31 o false

abbrev only : Bool → (l : Option ℕ) → Known l 1 → Ring
only x l known = record {
  waiting = x ∷ replicate 31 false;
  last = l;
  width = 1;
  least = omega arith;
  most = omega arith;
  quiet = quiet_only x;
  known = known;
  full = refl;
}

only_posts : {l : Option ℕ} (known : Known l 1) → Posted (only false l known) 0 (only true l known)
only_posts known = record { known = omega arith; free = refl; waiting = refl; last = refl; width = refl }

only_picked : {l : Option ℕ} (known : Known l 1) → Picked (only true l known) 0 (only false (Some 0) known_only)
only_picked {l} known = record { first = record { waited = refl; first = first }; waiting = refl; last = refl; width = refl }
  where
    first : (o : ℕ) → get_or (true ∷ replicate 31 false) o false ≡ true → rank 1 l 0 ≤ rank 1 l o
    first zero h = omega arith
    first (suc o) h = absurd (both_ways (get_or (replicate 31 false) o false) (getD_replicate_same 31 o false) h)

abbrev sides_of : Ring → Ring → Option Side → Pair Ring Ring
sides_of a b latest = record { first = a; second = b; latest = latest }

own_in_alternation : Against alternation_by_own (accesses alternation_by_own) 1 None behind_three (1 ∷ 0 ∷ 2 ∷ replicate 29 0) 3 4
own_in_alternation = record {
  from = sides_of (two false false None known_none) (only false None known_nobody) None;
  to = sides_of (two false false (Some 1) known_1) (only false (Some 0) known_only) (Some sides.First);
  left = None;
  trace =
      then_post {b = sides_of (two false false None known_none) (only true None known_nobody) None} refl (to_second 0 refl refl (only_posts known_nobody) refl refl)
      (then_pick {b = sides_of (two false false None known_none) (only false (Some 0) known_only) (Some sides.Second)} (from_second 0 refl refl (only_picked known_nobody) refl refl)
      (then_post {b = sides_of (two true false None known_none) (only false (Some 0) known_only) (Some sides.Second)} refl (to_first (omega arith) (posted_0 known_none (here known_none)) refl refl)
      (then_post {b = sides_of (two true true None known_none) (only false (Some 0) known_only) (Some sides.Second)} refl (to_first (omega arith) (posted_1 known_none (here known_none)) refl refl)
      (then_done
      (then_post {b = sides_of (two true true None known_none) (only true (Some 0) known_only) (Some sides.Second)} refl (to_second 0 refl refl (only_posts known_only) refl refl)
      (then_pick {b = sides_of (two false true (Some 0) known_0) (only true (Some 0) known_only) (Some sides.First)} (from_first (picked_0 (here known_none) (first_of true true None 0 refl (λ h. omega arith) (λ h. omega arith))) refl refl)
      (then_done
      (then_pick {b = sides_of (two false true (Some 0) known_0) (only false (Some 0) known_only) (Some sides.Second)} (from_second 0 refl refl (only_picked known_only) refl refl)
      (then_done
      (then_pick (from_first (picked_1 (here known_0) (first_of false true (Some 0) 1 refl (λ h. absurd (false≢true h)) (λ h. omega arith))) refl refl)
      (then_done stop)))))))))));
  start = start_idle refl;
  accepted = refl;
  counted = counted;
  bound = refl;
  delayed = refl;
  above = omega arith;
}
  where
    counted : (o : ℕ) → o < 3 → o ≢ 1 → get_or (1 ∷ 0 ∷ 2 ∷ replicate 29 0) o 0 ≡ accesses alternation_by_own (sides_of (two false false None known_none) (only false None known_nobody) None) None behind_three o
    counted zero h ne = refl
    counted (suc zero) h ne = absurd (ne refl)
    counted (suc (suc zero)) h ne = refl
    counted (suc (suc (suc o))) h ne = absurd (omega arith)

pub refuted : Refuted
refuted = record {
  own_in_alternation = own_in_alternation;
  own_unlawful = unlawful own_in_alternation;
  starting_at_0 = starting_at_0;
  from_0_unlawful = unlawful starting_at_0;
  service_forgotten = service_forgotten;
}
