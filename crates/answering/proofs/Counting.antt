-- What the rows of a sheet leave in a plan: as many tasks as names, and no head without a make.
-- Assumes nothing.
use Rattle.std.proofs.Common.{◌≡◌, ◌+◌, ◌-◌, List, [], ◌∷◌, length, Some, None, Ok, Err, fold, Option, Result, sym, refl, ap, ◌∙◌, arith, length-append, length-set}
use Rattle.plan.specs.Rows.{Plan, new_row}
use Rattle.plan.specs.Rules.{newest, with_accesses, with_named}
use Rattle.plan.specs.declared.rows.Refusal.{Refusal}
use Rattle.sheet.specs.Lines.{then}
use Rattle.sheet.specs.Rows.{Row, head, task, demand, dependency}
use Rattle.sheet.specs.declared.lines.Make.{Make}
use Rattle.loader.specs.Rows.{all_taken, granted, make_after, make_in, name_in, names_in, taken}

granted_ok : (o : Option Refusal) (p q : Plan) → granted o p ≡ Ok q → p ≡ q
granted_ok None p q e = cc
granted_ok (Some f) p q e = cc

-- A row adds a task exactly if it has a name.
one_named : (p q : Plan) (x : Row) → taken p x ≡ Ok q → length q.rows ≡ length p.rows + length (name_in x)
one_named p q (head make places banks latency period) e = omega (arith, ap (λ r. length r.rows) (granted_ok _ _ q e))
one_named p q (task place cycles earliest name) e = omega (arith, ap (λ r. length r.rows) (granted_ok _ _ q e), length-append p.rows (new_row place cycles earliest ∷ []))
one_named p q (demand bank count) e = omega (arith, ap (λ r. length r.rows) (granted_ok _ _ q e), length-set p.rows (length p.rows - 1) (with_accesses (newest p) bank count))
one_named p q (dependency row) e = omega (arith, ap (λ r. length r.rows) (granted_ok _ _ q e), length-set p.rows (length p.rows - 1) (with_named (newest p) row))

-- Only a head gives a plan a head.
headless : (p q : Plan) (x : Row) → taken p x ≡ Ok q → make_after None x ≡ None → q.head ≡ p.head
headless p q (head make places banks latency period) e m = cc
headless p q (task place cycles earliest name) e m = sym (ap (λ r. r.head) (granted_ok _ _ q e))
headless p q (demand bank count) e m = sym (ap (λ r. r.head) (granted_ok _ _ q e))
headless p q (dependency row) e m = sym (ap (λ r. r.head) (granted_ok _ _ q e))

-- The same of all rows of a sheet.
after : (xs : List Row) (p q : Plan) (x : Row) (t : Result Plan Refusal) → taken p x ≡ t → then t (λ r. all_taken r xs) ≡ Ok q → ((r : Plan) → all_taken r xs ≡ Ok q → length q.rows ≡ length r.rows + length (names_in xs)) → length q.rows ≡ length p.rows + length (names_in (x ∷ xs))
after xs p q x (Err f) e g more = cc
after xs p q x (Ok r) e g more = omega (arith, more r g, one_named p r x e, length-append (name_in x) (names_in xs))

pub all_named : (xs : List Row) (p q : Plan) → all_taken p xs ≡ Ok q → length q.rows ≡ length p.rows + length (names_in xs)
all_named [] p q e = let same : p ≡ q = cc in omega (arith, ap (λ r. length r.rows) same)
all_named (x ∷ xs) p q e = after xs p q x (taken p x) refl e (λ r g. all_named xs r q g)

-- A make that is known stays known.
made_stays : (xs : List Row) (m : Make) → fold make_after (Some m) xs ≡ None → ⊥
made_stays [] m e = cc
made_stays (head make places banks latency period ∷ xs) m e = made_stays xs make e
made_stays (task place cycles earliest name ∷ xs) m e = made_stays xs m e
made_stays (demand bank count ∷ xs) m e = made_stays xs m e
made_stays (dependency row ∷ xs) m e = made_stays xs m e

first_unmade : (x : Row) (xs : List Row) → fold make_after None (x ∷ xs) ≡ None → make_after None x ≡ None
first_unmade (head make places banks latency period) xs e = absurd (made_stays xs make e)
first_unmade (task place cycles earliest name) xs e = refl
first_unmade (demand bank count) xs e = refl
first_unmade (dependency row) xs e = refl

after_headless : (xs : List Row) (p q : Plan) (x : Row) (t : Result Plan Refusal) → taken p x ≡ t → then t (λ r. all_taken r xs) ≡ Ok q → make_after None x ≡ None → ((r : Plan) → all_taken r xs ≡ Ok q → q.head ≡ r.head) → q.head ≡ p.head
after_headless xs p q x (Err f) e g m more = cc
after_headless xs p q x (Ok r) e g m more = more r g ∙ headless p r x e m

pub all_headless : (xs : List Row) (p q : Plan) → all_taken p xs ≡ Ok q → make_in xs ≡ None → q.head ≡ p.head
all_headless [] p q e m = let same : p ≡ q = cc in sym (ap (λ r. r.head) same)
all_headless (x ∷ xs) p q e m =
    let first = first_unmade x xs m in
    after_headless xs p q x (taken p x) refl e first (λ r g. all_headless xs r q g (sym (ap (λ o. fold make_after o xs) first) ∙ m))
