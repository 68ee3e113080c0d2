-- There is one table of consistent dates, and it keeps what a task may ask of its dates.
use Rattle.std.proofs.Common.{◌≡◌, ℕ, zero, suc, ◌<◌, ◌≤◌, true, sym, refl, arith}
use Rattle.consistency.specs.System.{System, Lawful}
use Rattle.consistency.specs.Dates.{Table, Same, finish, worst, ready, Consistent, Round}
use Rattle.consistency.proofs.Latest.{latest_first, latest_marked}
use Rattle.consistency.proofs.Worst.{worst_crowded}
use Rattle.consistency.proofs.Responses.{responses_exist, responses_unique, responses_same}
use Rattle.consistency.proofs.Renewal.{Agree, agree_none, agree_before, agree_swap, renewed_no_later}
use Rattle.consistency.proofs.Releases.{releases_exist, released_same, horizon, released_by_horizon}

-- Consistent dates are those that a round leaves as they are.
pub unmoved : {y : System} {rel res : Table} → Consistent y rel res → Round y rel res rel
unmoved g = record { responses = g.responses; released = g.released }

pub unmoved_consistent : {y : System} {rel res : Table} → Round y rel res rel → Consistent y rel res
unmoved_consistent r = record { responses = r.responses; released = r.released }

module _ (y : System) (l : Lawful y) where
  -- What each row of consistent dates satisfies.
  module _ {rel res : Table} (g : Consistent y rel res) (i : ℕ) (h : i < y.tasks) where
    pub not_early : y.earliest i ≤ rel i
    not_early =
        omega (arith, g.released i h, l.start_after (ready y rel res i), latest_first (y.earliest i) (y.waits i) (finish rel res) i)

    pub in_order : (k : ℕ) → k < i → y.waits i k ≡ true → finish rel res k ≤ rel i
    in_order k j waits =
        omega (arith, g.released i h, l.start_after (ready y rel res i), latest_marked (y.earliest i) (y.waits i) (finish rel res) i k j waits)

    pub balanced : worst y rel res i (res i) ≡ res i
    balanced = (g.responses i h).holds

  -- Two consistent tables agree before every date, by dates.
  agree_all : {rel res rel' res' : Table} → Consistent y rel res → Consistent y rel' res' → (s : ℕ) → Agree y s rel rel'
  agree_all g g' zero = agree_none
  agree_all g g' (suc s) =
      let a = agree_all g g' s in
      record {
        forth = renewed_no_later y l (unmoved g) (unmoved g') s (agree_before a) (λ k h u v. v);
        back = renewed_no_later y l (unmoved g') (unmoved g) s (agree_before (agree_swap a)) (λ k h u v. v);
      }

  pub dates_unique : {rel res rel' res' : Table} → Consistent y rel res → Consistent y rel' res' → Same y rel rel' × Same y res res'
  dates_unique {rel} {res} {rel'} {res'} g g' =
      let same : Same y rel rel' = λ i h. agree_before (agree_all g g' (suc (rel i))) i h (omega arith) in
      (same, responses_unique y l rel res res' g.responses (responses_same y l rel' res' rel res' (λ i h. sym (same i h)) (λ i h. refl) g'.responses))

  pub round_exists : (rel : Table) → (res : Table) × (new : Table) × Round y rel res new
  round_exists rel =
      let (res, g) = responses_exist y l rel in
      let (new, f) = releases_exist y res in
      (res, new, record { responses = g; released = f })

  -- If a round moves no task released before s, the next moves none released by s.
  agree_next : {rel res mid res' new : Table} {s : ℕ} → Round y rel res mid → Round y mid res' new → Agree y s rel mid → Agree y (suc s) mid new
  agree_next {s = s} r r' a =
      record {
        forth = renewed_no_later y l r r' s (agree_before a) (λ k h u v. omega (arith, a.forth k h (omega arith)));
        back = renewed_no_later y l r' r s (agree_before (agree_swap a)) (λ k h u v. omega arith);
      }

  -- A round that moves no task released before s; its releases lie within the horizon.
  record StillBefore (s : ℕ) : Type 0 where
    rel : Table
    res : Table
    new : Table
    round : Round y rel res new
    agree : Agree y s rel new
    soon : (i : ℕ) → i < y.tasks → rel i ≤ horizon y l y.tasks

  still_before : (s : ℕ) → StillBefore s
  still_before zero =
      let (res, new, r) = round_exists (λ k. 0) in
      record { rel = λ k. 0; res = res; new = new; round = r; agree = agree_none; soon = λ i h. omega arith }
  still_before (suc s) =
      let o = still_before s in
      let (res, new, r) = round_exists o.new in
      record {
        rel = o.new;
        res = res;
        new = new;
        round = r;
        agree = agree_next o.round r o.agree;
        soon = released_by_horizon y l o.new o.res o.round.released (λ i h. omega (arith, (o.round.responses i h).holds, worst_crowded y l o.rel o.res i (o.res i) h));
      }

  -- Past the horizon there is nothing to move.
  pub dates_exist : (rel : Table) × (res : Table) × Consistent y rel res
  dates_exist =
      let o = still_before (suc (horizon y l y.tasks)) in
      let same : Same y o.new o.rel = λ i h. sym (agree_before o.agree i h (omega (arith, o.soon i h))) in
      (o.rel, o.res, record { responses = o.round.responses; released = released_same y o.new o.res o.rel o.res same (λ i h. refl) o.round.released })
