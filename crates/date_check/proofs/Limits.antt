-- The limits of loads, bounds and worst times, in a plan that keeps its rules.
-- Assumes nothing.
use Rattle.std.proofs.Common.{◌≡◌, ℕ, ◌+◌, ◌*◌, ◌^◌, ◌<◌, ◌≤◌, Bool, true, false, cond, not, ◌&&◌, eqb, List, [], ◌∷◌, length, get_or, drop, sym, refl, ap, ◌∙◌, subst, inl, inr, mul-le-mul, arith}
use Rattle.std.proofs.lemmas.List.{drop_more}
use Rattle.std.proofs.lemmas.Bool.{cases_eq, eq-eqb, ne_eqb}
use Rattle.std.specs.List.{AllByRecursion}
use Rattle.plan.specs.Rows.{Plan, Row, accesses, row}
use Rattle.plan.specs.Rules.{Kept, places_of, latency_of}
use Rattle.plan.proofs.Keeping.{few_banks}
use Rattle.arbiter.specs.Answers.{Accepts}
use Rattle.arbiter.specs.Counts.{counted, limit, sum_below}
use Rattle.arbiter.specs.Laws.{Lawful}
use Rattle.arbiter.specs.Meaning.{Model}
use Rattle.arbiter.proofs.Acceptance.{accepts}
use Rattle.arbiter.proofs.Sums.{sum_below_le}
use Rattle.date_check.specs.declared.dates.Dates.{Dates}
use Rattle.date_check.specs.Sound.{Fits, load, loads, meets, overlap, dated, services, share, work, worst}
use Rattle.date_check.proofs.Counting.{loads_length, loads_most}
use Rattle.date_check.proofs.Reading.{low_latency}
use Rattle.date_check.proofs.Sums.{sum_below_gap, sum_below_most, sum_below_once, sum_below_swap}

-- The latency of so many services.
pub latency_limit : (latency count : ℕ) → latency ≤ 64 → count ≤ 268431360 → latency * count ≤ 17179607040
latency_limit latency count low few = mul-le-mul low few

part : (b : Bool) (d : ℕ) → cond b d 0 ≤ d
part true d = omega arith
part false d = omega arith

module _ (p : Plan) (kept : Kept p) (met : ℕ → Bool) where
  -- What task k adds, at any place.
  added : ℕ → ℕ → ℕ
  added bank k = cond (met k) (accesses (row p.rows k) bank) 0

  -- No task has more than 65,535 accesses to a bank,
  pub load_limit : (n bank o : ℕ) → n ≤ length p.rows → sum_below n (share p.rows met bank o) ≤ n * 65535
  load_limit n bank o few =
      sum_below_most n 65535 (share p.rows met bank o)
      (λ k l. omega (arith, part (eqb (row p.rows k).place o && met k) (accesses (row p.rows k) bank), (kept.legal k (omega arith)).light bank))

  -- and there are at most 256.
  pub load_within : (bank o : ℕ) → load p.rows met bank o ≤ limit
  load_within bank o = omega (arith, load_limit (length p.rows) bank o (omega arith), kept.few)

  -- Own accesses and the loads of all places together.
  all_loads : (i bank w : ℕ) → i < length p.rows → met i ≡ false → accesses (row p.rows i) bank + sum_below w (load p.rows met bank) ≤ limit
  unfolding added
  all_loads i bank w l alone =
      let n = length p.rows in
      let each : (k : ℕ) → k < n → added bank k ≤ 65535 =
      λ k j. omega (arith, part (met k) (accesses (row p.rows k) bank), (kept.legal k j).light bank) in
      omega (
        arith,
        sum_below_swap w n (share p.rows met bank),
        sum_below_le n (λ k. sum_below w (λ o. share p.rows met bank o k)) (added bank) (λ k j. sum_below_once w (row p.rows k).place (accesses (row p.rows k) bank) (met k)),
        sum_below_gap n 65535 (added bank) i l (ap (λ b. cond b (accesses (row p.rows i) bank) 0) alone) each,
        (kept.legal i l).light bank,
        kept.few,
      )

  module _ {S : Type 0} (m : Model S) (laws : Lawful m) where
    -- Every bound that a worst time is made of is accepted,
    pub bound_accepted : (a : S) (i bank : ℕ) → i < length p.rows → places_of p.head ≤ m.width a → Accepts (m.width a) (row p.rows i).place (accesses (row p.rows i) bank) (loads p.rows met bank)
    bound_accepted a i bank l wide =
        accepts (m.width a) _ _ _
        record {
          known = omega (arith, (kept.legal i l).placed);
          full = loads_length p.rows met bank;
          few = omega (arith, (kept.legal i l).light bank);
          each = λ o. omega (arith, loads_most p.rows met bank o, load_within bank o);
        }

    -- and is at most all accesses to the bank.
    pub bound_limit : (a : S) (i bank : ℕ) → i < length p.rows → met i ≡ false → places_of p.head ≤ m.width a → m.bound a (row p.rows i).place (accesses (row p.rows i) bank) (loads p.rows met bank) ≤ limit
    bound_limit a i bank l alone wide =
        let s = (row p.rows i).place in
        let xs = loads p.rows met bank in
        let each : (o : ℕ) → o < m.width a → counted s xs o ≤ load p.rows met bank o =
        λ o j. elim (cases_eq o s) [ inl same ↦ rw (eq-eqb o s same) (omega arith) | inr apart ↦ rw (ne_eqb o s apart) (loads_most p.rows met bank o) ] in
        omega (
          arith,
          laws.at_most_all a s (accesses (row p.rows i) bank) xs (bound_accepted a i bank l wide),
          sum_below_le (m.width a) (counted s xs) (load p.rows met bank) each,
          all_loads i bank (m.width a) l alone,
        )

    -- The same of a row and counts that were read.
    module _ (a : S) (i bank : ℕ) (r : Row) (xs : List ℕ) (l : i < length p.rows) (wide : places_of p.head ≤ m.width a) (at : r ≡ row p.rows i) (full : xs ≡ loads p.rows met bank) where
      pub read_accepted : Accepts (m.width a) r.place (accesses r bank) xs
      read_accepted =
          subst (λ q. Accepts (m.width a) q.place (accesses q bank) xs) (sym at)
          (subst (λ ys. Accepts (m.width a) (row p.rows i).place (accesses (row p.rows i) bank) ys) (sym full) (bound_accepted a i bank l wide))

      pub read_bound : (n : ℕ) → n ≡ m.bound a r.place (accesses r bank) xs → n ≡ m.bound a (row p.rows i).place (accesses (row p.rows i) bank) (loads p.rows met bank)
      read_bound n e =
          e
          ∙ ap (λ q. m.bound a q.place (accesses q bank) xs) at
          ∙ ap (m.bound a (row p.rows i).place (accesses (row p.rows i) bank)) full

    -- The next bank, and those behind it.
    pub services_more : (i bank : ℕ) (arbiters : List S) (a : S) → bank < length arbiters → a ≡ get_or arbiters bank a → services m p.rows met i bank (drop bank arbiters) ≡ m.bound a (row p.rows i).place (accesses (row p.rows i) bank) (loads p.rows met bank) + services m p.rows met i (bank + 1) (drop (bank + 1) arbiters)
    services_more i bank arbiters a l e =
        ap (services m p.rows met i bank) (drop_more arbiters bank a l)
        ∙ ap (λ x. services m p.rows met i bank (x ∷ drop (bank + 1) arbiters)) (sym e)

    pub services_limit : (i bank : ℕ) (arbiters : List S) → i < length p.rows → met i ≡ false → AllByRecursion (λ a. places_of p.head ≤ m.width a) arbiters → services m p.rows met i bank arbiters ≤ length arbiters * limit
    services_limit i bank [] l alone wide = omega arith
    services_limit i bank (a ∷ rest) l alone wide = omega (arith, bound_limit a i bank l alone wide.0, services_limit i (bank + 1) rest l alone wide.1)

    -- At most 16 banks,
    pub services_few : (arbiters : List S) (i : ℕ) → length arbiters ≤ 16 → AllByRecursion (λ a. places_of p.head ≤ m.width a) arbiters → i < length p.rows → met i ≡ false → services m p.rows met i 0 arbiters ≤ 268431360
    services_few arbiters i few wide l alone = omega (arith, services_limit i 0 arbiters l alone wide)

    -- so no task takes 2^35 cycles or more.
    pub work_limit : (arbiters : List S) (i : ℕ) → length arbiters ≤ 16 → AllByRecursion (λ a. places_of p.head ≤ m.width a) arbiters → i < length p.rows → met i ≡ false → work m p arbiters i met < 2 ^ 35
    work_limit arbiters i few wide l alone =
        omega (arith, latency_limit (latency_of p.head) (services m p.rows met i 0 arbiters) (low_latency p.head kept.headed) (services_few arbiters i few wide l alone), (kept.legal i l).short)

-- No task meets itself.
pub meets_alone : (rows : List Row) (table : List Dates) (i : ℕ) → meets rows table i i ≡ false
meets_alone rows table i = ap (λ b. not b && overlap (dated table i) (dated table i)) (eq-eqb (row rows i).place (row rows i).place refl)

-- The worst time of a task, where plan, arbiters and table fit.
pub worst_limit : {S : Type 0} (m : Model S) (laws : Lawful m) (p : Plan) (kept : Kept p) (arbiters : List S) (table : List Dates) (i : ℕ) → Fits m p arbiters table → i < length p.rows → worst m p arbiters table i < 2 ^ 35
worst_limit m laws p kept arbiters table i fits l =
    work_limit p kept (meets p.rows table i) m laws arbiters i (omega (arith, fits.one_per_bank, few_banks p.head kept.headed)) fits.wide l (meets_alone p.rows table i)
