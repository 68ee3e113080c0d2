-- What a plan keeps, and that each row that is taken keeps it.
-- Assumes nothing.
use Rattle.std.proofs.Common.{◌≡◌, ℕ, zero, suc, ◌+◌, ◌-◌, ◌<◌, ◌≤◌, Bool, true, false, cond, not, ◌&&◌, eqb, ltb, leb, ◌⊎◌, List, [], ◌∷◌, ◌++◌, length, get_or, set, replicate, Some, None, Ok, Option, sym, refl, ◌∙◌, subst, inl, inr, ⊎_elim, arith, length-append, length-set}
use mathlib.Core.Logic.{∥∥₁_elim}
use native.Mathlib.Bridge.{le_prop}
use std.HLevel.{Π_prop}
use base.Stored.{Coded-set, coded_bool, coded_ℕ}
use Rattle.std.proofs.lemmas.List.{get_or_append_left, get_or_past, get_or_push, get_or-replicate, get_or-set_other, get_or-set_same}
use Rattle.std.proofs.lemmas.List.Sums.{sum_by_push, sum_by-set}
use Rattle.std.proofs.lemmas.Bool.{and_from, and_parts, both_ways, cases_eq, cases_lt, eqb-false, eqb-true, leb-true, ltb-true, not-true, or_cases, or_left, or_right}
use Rattle.std.proofs.lemmas.Bool.Decides.{nat_tests}
use Rattle.std.specs.Prelude.{is_none, is_some}
use Rattle.plan.specs.declared.rows.Head.{Head}
use Rattle.plan.specs.declared.rows.Refusal.{Refusal}
use Rattle.plan.specs.Rows.{Row, Plan, row, new_row, accesses}
use Rattle.plan.specs.Rules.{asked, after_refusal, banks_of, between, demand_refusal, distinct, head_refusal, judged, Kept, Legal, legal_head, legal_heading, member, named, newest, places_of, task_refusal, with_accesses, with_after, with_demand, with_head, with_named, with_newest, with_task}

legal_prop : (h : Option Head) (i : ℕ) (r : Row) → IsProp (Legal h i r)
legal_prop h i r p q = λ j. record {
  placed = le_prop p.placed q.placed j;
  some = le_prop p.some q.some j;
  short = le_prop p.short q.short j;
  soon = le_prop p.soon q.soon j;
  banked = Coded-set coded_ℕ _ _ p.banked q.banked j;
  light = Π_prop (λ b. le_prop) p.light q.light j;
  inside = Π_prop (λ b. Π_prop (λ l. Coded-set coded_ℕ _ _)) p.inside q.inside j;
  earlier = Π_prop (λ k. Π_prop (λ m. le_prop)) p.earlier q.earlier j;
  once = Coded-set coded_bool _ _ p.once q.once j;
}

kept_prop : (p : Plan) → IsProp (Kept p)
kept_prop p x y = λ j. record {
  headed = Coded-set coded_bool _ _ x.headed y.headed j;
  few = le_prop x.few y.few j;
  sparse = le_prop x.sparse y.sparse j;
  legal = Π_prop (λ i. Π_prop (λ l. legal_prop p.head i _)) x.legal y.legal j;
}

-- What a plan keeps is a fact, so it can be had from the invariant of its type.
pub known : (p : Plan) → ∥ Kept p ∥₁ → Kept p
known p k = ∥∥₁_elim k (kept_prop p) (λ x. x)

-- A question that went on was answered by yes.
passed : (b : Bool) (f : Refusal) (rest : Option Refusal) → asked b f rest ≡ None → (b ≡ true) × (rest ≡ None)
passed true f rest h = (refl, h)
passed false f rest h = let z : ◌≡◌ {A = ℕ} 0 1 = cc in absurd (omega arith)

pub accepted : (o : Option Refusal) → judged o ≡ Ok tt → o ≡ None
accepted None h = refl
accepted (Some f) h = let z : ◌≡◌ {A = ℕ} 0 1 = cc in absurd (omega arith)

-- What a demand or a named row finds when it is let pass.
pub demand_room : (p : Plan) (bank count : ℕ) → demand_refusal p bank count ≡ None → (0 < length p.rows) × (bank < banks_of p.head)
demand_room p bank count e =
    let a = passed (ltb 0 (length p.rows)) _ _ e in
    (ltb-true 0 (length p.rows) a.0, ltb-true bank (banks_of p.head) (passed (ltb bank (banks_of p.head)) _ _ a.1).0)

pub after_room : (p : Plan) (k : ℕ) → after_refusal p k ≡ None → 0 < length p.rows
after_room p k e = ltb-true 0 (length p.rows) (passed (ltb 0 (length p.rows)) _ _ e).0

-- A row that was tried, taken or not, keeps the plan.
pub kept_either : (b : Bool) (old new : Plan) → Kept old → Kept new → Kept (cond b new old)
kept_either true old new k l = l
kept_either false old new k l = k

pub few_banks : (o : Option Head) → legal_heading o ≡ true → banks_of o ≤ 16
few_banks None h = omega arith
few_banks (Some h) l = grind (arith, nat_tests)

placeless : (o : Option Head) (n : ℕ) → is_none o ≡ true → n < places_of o → ⊥
placeless None n h l = omega arith
placeless (Some h) n e l = let z : ◌≡◌ {A = ℕ} 0 1 = cc in omega arith

pub empty_kept : (h : Option Head) → legal_heading h ≡ true → Kept (record { head = h; rows = [] })
empty_kept h l = record { headed = l; few = omega arith; sparse = omega arith; legal = λ i l. absurd (omega arith) }

pub head_kept : (p : Plan) (h : Head) → Kept p → head_refusal p h ≡ None → Kept (with_head p h)
head_kept p h k e =
    let a = passed (is_none p.head) _ _ e in
    record {
      headed = (passed (legal_head h) _ _ a.1).0;
      few = k.few;
      sparse = k.sparse;
      legal = λ i l. absurd (placeless p.head _ a.0 (k.legal i l).placed);
    }

no_access : (place cycles earliest bank : ℕ) → accesses (new_row place cycles earliest) bank ≡ 0
no_access place cycles earliest bank =
    ⊎_elim (λ l. get_or-replicate 16 bank 0 0 l) (λ l. get_or_past (replicate 16 0) bank 0 l) (cases_lt bank 16)

-- one row more
legal_push : (h : Option Head) (rows : List Row) (r : Row) → ((i : ℕ) → i < length rows → Legal h i (row rows i)) → Legal h (length rows) r → (i : ℕ) → i < length (rows ++ r ∷ []) → Legal h i (row (rows ++ r ∷ []) i)
legal_push h rows r all new i l =
    ⊎_elim
    (λ below. subst (Legal h i) (sym (get_or_append_left rows (r ∷ []) _ i below)) (all i below))
    (λ above.
    let last : length rows ≡ i = omega (arith, length-append rows (r ∷ [])) in
    subst (λ n. Legal h n (row (rows ++ r ∷ []) n)) last (subst (Legal h (length rows)) (sym (get_or_push rows r _ (length rows) refl)) new))
    (cases_lt i (length rows))

-- one row changed
legal_set : (h : Option Head) (rows : List Row) (at : ℕ) (r : Row) → ((i : ℕ) → i < length rows → Legal h i (row rows i)) → Legal h at r → (i : ℕ) → i < length (set rows at r) → Legal h i (row (set rows at r) i)
legal_set h rows at r all new i l =
    let within : i < length rows = omega (arith, length-set rows at r) in
    ⊎_elim
    (λ same. subst (λ n. Legal h n (row (set rows at r) n)) (sym same) (subst (Legal h at) (sym (get_or-set_same rows at r _ (omega arith))) new))
    (λ other. subst (Legal h i) (sym (get_or-set_other rows at i r _ other)) (all i within))
    (cases_eq i at)

pub task_kept : (p : Plan) (place cycles earliest : ℕ) → Kept p → task_refusal p place cycles earliest ≡ None → Kept (with_task p place cycles earliest)
task_kept p place cycles earliest k e =
    let a = passed (is_some p.head) _ _ e in
    let b = passed (ltb place (places_of p.head)) _ _ a.1 in
    let c = passed (between 1 1000000 cycles && leb earliest 1000000000) _ _ b.1 in
    let d = passed (ltb (length p.rows) 256) _ _ c.1 in
    let times = and_parts _ _ c.0 in
    let range = and_parts _ _ times.0 in
    let r = new_row place cycles earliest in
    record {
      headed = k.headed;
      few = omega (arith, length-append p.rows (r ∷ []), ltb-true _ _ d.0);
      sparse = omega (arith, k.sparse, sum_by_push (λ x. length x.after) p.rows r);
      legal = legal_push p.head p.rows r k.legal (record {
        placed = ltb-true _ _ b.0;
        some = leb-true _ _ range.0;
        short = leb-true _ _ range.1;
        soon = leb-true _ _ times.1;
        banked = refl;
        light = λ bank. omega (arith, no_access place cycles earliest bank);
        inside = λ bank l. no_access place cycles earliest bank;
        earlier = λ n m. let z : ◌≡◌ {A = ℕ} 0 1 = cc in absurd (omega arith);
        once = refl;
      });
    }

light_set : (xs : List ℕ) (at o v most : ℕ) → get_or xs o 0 ≤ most → v ≤ most → get_or (set xs at v) o 0 ≤ most
light_set [] at o v most h l = h
light_set (x ∷ xs) zero zero v most h l = l
light_set (x ∷ xs) zero (suc o) v most h l = h
light_set (x ∷ xs) (suc at) zero v most h l = h
light_set (x ∷ xs) (suc at) (suc o) v most h l = light_set xs at o v most h l

-- The newest row may be changed to a legal one that names no more rows than there is room for.
newest_kept : (p : Plan) (r : Row) → Kept p → 0 < length p.rows → (Legal p.head (length p.rows - 1) (newest p) → Legal p.head (length p.rows - 1) r) → named p.rows + length r.after ≤ 2048 + length (newest p).after → Kept (with_newest p r)
newest_kept p r k some legal room =
    let at = length p.rows - 1 in
    let within : at < length p.rows = omega arith in
    record {
      headed = k.headed;
      few = omega (arith, k.few, length-set p.rows at r);
      sparse = omega (arith, room, sum_by-set (λ x. length x.after) p.rows at r (new_row 0 0 0) within);
      legal = legal_set p.head p.rows at r k.legal (legal (k.legal at within));
    }

pub demand_kept : (p : Plan) (bank count : ℕ) → Kept p → demand_refusal p bank count ≡ None → Kept (with_demand p bank count)
demand_kept p bank count k e =
    let a = passed (ltb 0 (length p.rows)) _ _ e in
    let b = passed (ltb bank (banks_of p.head)) _ _ a.1 in
    let c = passed (between 1 65535 count) _ _ b.1 in
    let r = newest p in
    let most : count ≤ 65535 = leb-true count 65535 (and_parts (leb 1 count) (leb count 65535) c.0).1 in
    let there : bank < banks_of p.head = ltb-true bank (banks_of p.head) b.0 in
    newest_kept p (with_accesses r bank count) k (ltb-true 0 (length p.rows) a.0)
    (λ old. record {
      placed = old.placed;
      some = old.some;
      short = old.short;
      soon = old.soon;
      banked = length-set r.demands bank count ∙ old.banked;
      light = λ o. light_set r.demands bank o count 65535 (old.light o) most;
      inside = λ o l. get_or-set_other r.demands bank o count 0 (λ q. omega arith) ∙ old.inside o l;
      earlier = old.earlier;
      once = old.once;
    })
    (omega (arith, k.sparse))

-- lists with one entry more
member_push : (k x : ℕ) (xs : List ℕ) → member k (xs ++ x ∷ []) ≡ true → (member k xs ≡ true) ⊎ (x ≡ k)
member_push k x [] h = inr (⊎_elim (λ e. eqb-true x k e) (λ e. let z : ◌≡◌ {A = ℕ} 0 1 = cc in absurd (omega arith)) (or_cases (eqb x k) false h))
member_push k x (y ∷ ys) h =
    ⊎_elim
    (λ e. inl (or_left (eqb y k) (member k ys) e))
    (λ e. ⊎_elim (λ m. inl (or_right (eqb y k) (member k ys) m)) inr (member_push k x ys e))
    (or_cases (eqb y k) (member k (ys ++ x ∷ [])) h)

distinct_push : (x : ℕ) (xs : List ℕ) → distinct xs ≡ true → member x xs ≡ false → distinct (xs ++ x ∷ []) ≡ true
distinct_push x [] d m = refl
distinct_push x (y ∷ ys) d m =
    let parts = and_parts (not (member y ys)) (distinct ys) d in
    let away : eqb y x ≡ false = grind (arith, nat_tests) in
    let rest : member x ys ≡ false = grind (arith, nat_tests) in
    and_from (not (member y (ys ++ x ∷ []))) (distinct (ys ++ x ∷ []))
    (absent (member y (ys ++ x ∷ [])) (λ t. ⊎_elim (λ in'. both_ways (member y ys) (not-true (member y ys) parts.0) in') (λ same. eqb-false y x away (sym same)) (member_push y x ys t)))
    (distinct_push x ys parts.1 rest)
  where
    absent : (b : Bool) → (b ≡ true → ⊥) → not b ≡ true
    absent true h = absurd (h refl)
    absent false h = refl

pub after_kept : (p : Plan) (n : ℕ) → Kept p → after_refusal p n ≡ None → Kept (with_after p n)
after_kept p n k e =
    let a = passed (ltb 0 (length p.rows)) _ _ e in
    let b = passed (ltb n (length p.rows - 1)) _ _ a.1 in
    let c = passed (not (member n (newest p).after)) _ _ b.1 in
    let d = passed (ltb (named p.rows) 2048) _ _ c.1 in
    let r = newest p in
    let below : n < length p.rows - 1 = ltb-true n (length p.rows - 1) b.0 in
    newest_kept p (with_named r n) k (ltb-true 0 (length p.rows) a.0)
    (λ old. record {
      placed = old.placed;
      some = old.some;
      short = old.short;
      soon = old.soon;
      banked = old.banked;
      light = old.light;
      inside = old.inside;
      earlier = λ o m. ⊎_elim (λ in'. old.earlier o in') (λ same. subst (λ x. x < length p.rows - 1) same below) (member_push o n r.after m);
      once = distinct_push n r.after old.once (not-true (member n r.after) c.0);
    })
    (omega (arith, length-append r.after (n ∷ []), ltb-true (named p.rows) 2048 d.0))
