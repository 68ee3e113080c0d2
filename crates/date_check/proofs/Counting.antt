-- Adding up the loads row by row.
-- Assumes nothing.
use Rattle.std.proofs.Common.{◌≡◌, ℕ, ◌+◌, ◌<◌, ◌≤◌, Bool, true, false, cond, ◌&&◌, eqb, List, length, get_or, set, replicate, sym, refl, ap, ◌∙◌, inl, inr, add-one, arith}
use Rattle.std.proofs.lemmas.List.FromFn.{fill_by_all, get_or-map-range_with_len, length-map-range_with_len}
use Rattle.std.proofs.lemmas.List.{get_or_past, get_or-replicate, get_or-set_other, get_or-set_same, length-set}
use Rattle.std.proofs.lemmas.Bool.{cases_eq, cases_lt, eq-eqb, ne_eqb}
use Rattle.plan.specs.Rows.{Row, accesses, row}
use Rattle.arbiter.specs.Counts.{sum_below}
use Rattle.date_check.specs.Sound.{load, loads, share}

pub loads_length : (rows : List Row) (met : ℕ → Bool) (bank : ℕ) → length (loads rows met bank) ≡ 32
unfolding loads
loads_length rows met bank = length-map-range_with_len (load rows met bank) 0 32

pub loads_at : (rows : List Row) (met : ℕ → Bool) (bank o : ℕ) → o < 32 → get_or (loads rows met bank) o 0 ≡ load rows met bank o
unfolding loads
loads_at rows met bank o l = get_or-map-range_with_len (load rows met bank) 0 32 o o 0 l (omega arith)

pub loads_most : (rows : List Row) (met : ℕ → Bool) (bank o : ℕ) → get_or (loads rows met bank) o 0 ≤ load rows met bank o
loads_most rows met bank o =
    elim (cases_lt o 32) [
      | inl l ↦ omega (arith, loads_at rows met bank o l)
      | inr l ↦ omega (arith, get_or_past (loads rows met bank) o 0 (omega (arith, loads_length rows met bank)))
    ]

module _ (rows : List Row) (met : ℕ → Bool) (bank : ℕ) where
  -- The 32 counts after the rows below n.
  abbrev pub Counted : ℕ → List ℕ → Type 0
  Counted n xs = (length xs ≡ 32) × ((o : ℕ) → o < 32 → get_or xs o 0 ≡ sum_below n (share rows met bank o))

  pub counted_none : Counted 0 (replicate 32 0)
  counted_none = (refl, λ o l. get_or-replicate 32 o 0 0 l)

  pub counted_all : (xs : List ℕ) → Counted (length rows) xs → xs ≡ loads rows met bank
  unfolding loads
  counted_all xs h = fill_by_all (load rows met bank) xs 32 0 h.0 h.1

  more : (n : ℕ) (xs ys : List ℕ) → Counted n xs → length ys ≡ 32 → ((o : ℕ) → o < 32 → get_or ys o 0 ≡ share rows met bank o n + get_or xs o 0) → Counted (n + 1) ys
  more n xs ys h l each = (l, λ o k. each o k ∙ ap (λ x. share rows met bank o n + x) (h.1 o k) ∙ sym (ap (λ x. sum_below x (share rows met bank o)) (add-one n)))

  -- A row that is not met adds nothing.
  pub counted_apart : (n : ℕ) (xs : List ℕ) → Counted n xs → false ≡ met n → Counted (n + 1) xs
  counted_apart n xs h apart = more n xs xs h h.0 (λ o l. omega (arith, nothing (eqb (row rows n).place o) _ (accesses (row rows n) bank) (sym apart)))
    where
      nothing : (here b : Bool) (d : ℕ) → b ≡ false → cond (here && b) d 0 ≡ 0
      nothing true b d e = rw e
      nothing false b d e = refl

  -- A row that is met adds its accesses at its place.
  pub counted_met : (n : ℕ) (xs : List ℕ) (r : Row) → Counted n xs → true ≡ met n → r ≡ row rows n → r.place < 32 → Counted (n + 1) (set xs r.place (get_or xs r.place 0 + accesses r bank))
  counted_met n xs r h here at low = more n xs _ h (length-set xs r.place _ ∙ h.0) each
    where
      adds : (here b : Bool) (d : ℕ) → b ≡ true → cond (here && b) d 0 ≡ cond here d 0
      adds true b d e = rw e
      adds false b d e = refl

      shared : (o : ℕ) → share rows met bank o n ≡ cond (eqb r.place o) (accesses r bank) 0
      shared o = adds (eqb (row rows n).place o) _ (accesses (row rows n) bank) (sym here) ∙ ap (λ q. cond (eqb q.place o) (accesses q bank) 0) (sym at)

      each : (o : ℕ) → o < 32 → get_or (set xs r.place (get_or xs r.place 0 + accesses r bank)) o 0 ≡ share rows met bank o n + get_or xs o 0
      each o l =
          elim (cases_eq o r.place) [
            | inl same ↦ (let sum = get_or-set_same xs r.place (get_or xs r.place 0 + accesses r bank) 0 (omega (arith, h.0)) in
                let added : share rows met bank o n ≡ accesses r bank = shared o ∙ ap (λ b. cond b (accesses r bank) 0) (eq-eqb r.place o (sym same)) in
                omega (arith, ap (λ x. get_or (set xs r.place (get_or xs r.place 0 + accesses r bank)) x 0) same, ap (λ x. get_or xs x 0) same))
            | inr apart ↦ (let same = get_or-set_other xs r.place o (get_or xs r.place 0 + accesses r bank) 0 apart in
                let away : share rows met bank o n ≡ 0 = shared o ∙ ap (λ b. cond b (accesses r bank) 0) (ne_eqb r.place o (λ e. apart (sym e))) in
                omega arith)
          ]
