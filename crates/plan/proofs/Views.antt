-- What the tasks of the program stand for, row by row.
-- Assumes nothing.
use Rattle.std.proofs.Common.{◌≡◌, ℕ, ◌+◌, ◌-◌, ◌<◌, Bool, true, false, cond, List, [], ◌∷◌, ◌++◌, map, length, get_or, set, vec_items, sum_by, Option, sym, refl, ap, ◌∙◌, arith}
use Rattle.std.proofs.lemmas.List.{get_or-map, length-map, map_push, map-set, set-get_or}
use Rattle.std.proofs.lemmas.List.Sums.{sum_by-cons}
use Rattle.plan.specs.declared.rows.Head.{Head}
use Rattle.plan.specs.declared.rows.Task.{Task}
use Rattle.plan.specs.Rows.{Row, new_row, plan_of, row, row_of}
use Rattle.plan.specs.Rules.{named, newest, with_after, with_named, with_newest, with_task}

-- The task that stands at i is row i.
pub row_at : (ts : List Task) (i : ℕ) (t : Task) → i < length ts → t ≡ get_or ts i t → row_of t ≡ row (map row_of ts) i
row_at ts i t l e = ap row_of e ∙ sym (get_or-map row_of ts i t (new_row 0 0 0) l)

-- One task more, or none.
pub task_tried : (h : Option Head) (ts us : List Task) (t : Task) (b : Bool) (place cycles earliest : ℕ) → row_of t ≡ new_row place cycles earliest → us ≡ cond b (ts ++ t ∷ []) ts → plan_of h us ≡ cond b (with_task (plan_of h ts) place cycles earliest) (plan_of h ts)
task_tried h ts us t true place cycles earliest e items =
    ap (plan_of h) items ∙ ap (λ rows. record { head = h; rows = rows }) (map_push row_of ts t ∙ ap (λ r. map row_of ts ++ r ∷ []) e)
task_tried h ts us t false place cycles earliest e items = ap (plan_of h) items

module _ (h : Option Head) (ts : List Task) (n : ℕ) (old new : Task) (all : n ≡ length ts) (some : 0 < n) (read : old ≡ get_or ts (n - 1) old) where
  -- The newest task changed.
  pub newest_changed : (r : Row → Row) → row_of new ≡ r (row_of old) → plan_of h (set ts (n - 1) new) ≡ with_newest (plan_of h ts) (r (newest (plan_of h ts)))
  newest_changed r e =
      let count : n - 1 ≡ length (map row_of ts) - 1 = omega (arith, length-map ts row_of) in
      let here : row_of old ≡ row (map row_of ts) (n - 1) = row_at ts (n - 1) old (omega arith) read in
      ap (λ rows. record { head = h; rows = rows })
      (map-set row_of ts (n - 1) new
      ∙ ap (set (map row_of ts) (n - 1)) (e ∙ ap r here)
      ∙ ap (λ i. set (map row_of ts) i (r (row (map row_of ts) i))) count)

  -- The newest task names one row more, or none.
  pub after_tried : (k : ℕ) (b : Bool) → row_of new ≡ cond b (with_named (row_of old) k) (row_of old) → plan_of h (set ts (n - 1) new) ≡ cond b (with_after (plan_of h ts) k) (plan_of h ts)
  after_tried k true e = newest_changed (λ r. with_named r k) e
  after_tried k false e = newest_changed (λ r. r) e ∙ ap (λ rows. record { head = h; rows = rows }) (set-get_or (map row_of ts) (length (map row_of ts) - 1) (new_row 0 0 0))

pub named_tried : (r : Row) (k : ℕ) (xs : List ℕ) (b : Bool) → xs ≡ cond b (r.after ++ k ∷ []) r.after → record { place = r.place; cycles = r.cycles; earliest = r.earliest; demands = r.demands; after = xs } ≡ cond b (with_named r k) r
named_tried r k xs true e = ap (λ ys. record { place = r.place; cycles = r.cycles; earliest = r.earliest; demands = r.demands; after = ys }) e
named_tried r k xs false e = ap (λ ys. record { place = r.place; cycles = r.cycles; earliest = r.earliest; demands = r.demands; after = ys }) e

-- The rows that are named, counted over the tasks.
pub named_tasks : (ts : List Task) → named (map row_of ts) ≡ sum_by (λ t. length (vec_items t.after)) ts
named_tasks [] = refl
named_tasks (t ∷ ts) =
    sum_by-cons (λ r. length r.after) (row_of t) (map row_of ts)
    ∙ ap (λ n. length (vec_items t.after) + n) (named_tasks ts)
    ∙ sym (sum_by-cons (λ x. length (vec_items x.after)) t ts)
