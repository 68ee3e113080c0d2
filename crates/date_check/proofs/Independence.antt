-- Soundness depends on the bounds of the arbiters and the tasks' rows of the table, and on nothing else of them.
-- Assumes nothing.
use Rattle.std.proofs.Common.{◌≡◌, ℕ, zero, suc, ◌+◌, ◌<◌, Bool, cond, not, ◌&&◌, eqb, List, [], ◌∷◌, length, sym, refl, ap, ◌∙◌, arith}
use Rattle.std.proofs.lemmas.List.{ext_get_or}
use Rattle.plan.specs.Rows.{Row, accesses, row}
use Rattle.plan.proofs.Waiting.{waits_below}
use Rattle.arbiter.specs.Counts.{sum_below}
use Rattle.arbiter.specs.Meaning.{Model}
use Rattle.date_check.specs.declared.dates.Dates.{Dates}
use Rattle.date_check.specs.Keeping.{AllKeep, SoundnessKeeps}
use Rattle.date_check.specs.Sound.{dated, loads, meets, overlap, services, share}
use Rattle.date_check.proofs.Counting.{loads_at, loads_length}

sum_below_same : (n : ℕ) (f g : ℕ → ℕ) → ((k : ℕ) → k < n → f k ≡ g k) → sum_below n f ≡ sum_below n g
sum_below_same zero f g h = refl
sum_below_same (suc n) f g h = omega (arith, h n (omega arith), sum_below_same n f g (λ k l. h k (omega arith)))

module _ {S : Type 0} (m : Model S) where
  services_keep : (rows : List Row) (met : ℕ → Bool) (i bank : ℕ) (before after : List S) → AllKeep m before after → services m rows met i bank after ≡ services m rows met i bank before
  services_keep rows met i bank [] [] h = refl
  services_keep rows met i bank [] (b ∷ ys) h = absurd h
  services_keep rows met i bank (a ∷ xs) [] h = absurd h
  services_keep rows met i bank (a ∷ xs) (b ∷ ys) h =
      omega (arith, h.0.bound (row rows i).place (accesses (row rows i) bank) (loads rows met bank), services_keep rows met i (bank + 1) xs ys h.1)

  module _ (rows : List Row) (table other : List Dates) (same : (k : ℕ) → k < length rows → dated other k ≡ dated table k) (i : ℕ) (l : i < length rows) where
    loads_same : (bank : ℕ) → loads rows (meets rows other i) bank ≡ loads rows (meets rows table i) bank
    loads_same bank =
        ext_get_or 0 (loads rows (meets rows other i) bank) (loads rows (meets rows table i) bank) (loads_length rows (meets rows other i) bank ∙ sym (loads_length rows (meets rows table i) bank))
        (λ o j.
        let low : o < 32 = omega (arith, loads_length rows (meets rows other i) bank) in
        loads_at rows (meets rows other i) bank o low ∙ sum_below_same (length rows) (share rows (meets rows other i) bank o) (share rows (meets rows table i) bank o) (λ k n. shares o k n) ∙ sym (loads_at rows (meets rows table i) bank o low))
      where
        shares : (o k : ℕ) → k < length rows → share rows (meets rows other i) bank o k ≡ share rows (meets rows table i) bank o k
        shares o k n =
            ap (λ d. cond (eqb (row rows k).place o && (not (eqb (row rows i).place (row rows k).place) && overlap d (dated other k))) (accesses (row rows k) bank) 0) (same i l)
            ∙ ap (λ d. cond (eqb (row rows k).place o && (not (eqb (row rows i).place (row rows k).place) && overlap (dated table i) d)) (accesses (row rows k) bank) 0) (same k n)

    services_same : (bank : ℕ) (arbiters : List S) → services m rows (meets rows other i) i bank arbiters ≡ services m rows (meets rows table i) i bank arbiters
    services_same bank [] = refl
    services_same bank (a ∷ rest) =
        omega (arith, ap (m.bound a (row rows i).place (accesses (row rows i) bank)) (loads_same bank), services_same (bank + 1) rest)

  pub soundness_keeps : SoundnessKeeps m
  soundness_keeps = record {
    states = λ p before after table keep sound. record {
      not_early = sound.not_early;
      in_order = sound.in_order;
      covered = λ i l. rw (services_keep p.rows (meets p.rows table i) i 0 before after keep) (sound.covered i l);
      in_period = sound.in_period;
    };
    rows = λ p arbiters table other kept same sound. record {
      not_early = λ i l. rw (same i l) (sound.not_early i l);
      in_order = λ i k l w. rw (same i l, same k (omega (arith, waits_below p i k kept l w))) (sound.in_order i k l w);
      covered = λ i l. rw (services_same p.rows table other same i l 0 arbiters, same i l) (sound.covered i l);
      in_period = λ i l. rw (same i l) (sound.in_period i l);
    };
  }
