-- The rows of a sheet make a plan that keeps its rules.
-- Assumes nothing.
use Rattle.std.proofs.Common.{◌≡◌, List, [], ◌∷◌, Some, None, Ok, Err, Option, Result, refl, subst}
use Rattle.plan.specs.Rows.{Plan}
use Rattle.plan.specs.Rules.{Kept, after_refusal, demand_refusal, head_refusal, task_refusal, with_after, with_demand, with_head, with_task}
use Rattle.plan.specs.declared.rows.Refusal.{Refusal}
use Rattle.plan.proofs.Keeping.{after_kept, demand_kept, empty_kept, head_kept, task_kept}
use Rattle.sheet.specs.Lines.{then}
use Rattle.sheet.specs.Rows.{Row, head, task, demand, dependency}
use Rattle.loader.specs.Rows.{all_taken, granted, head_of, taken}

granted_kept : (o : Option Refusal) (p q : Plan) → (o ≡ None → Kept p) → granted o p ≡ Ok q → Kept q
granted_kept None p q k e = let same : p ≡ q = cc in subst Kept same (k refl)
granted_kept (Some f) p q k e = cc

taken_kept : (p q : Plan) (x : Row) → Kept p → taken p x ≡ Ok q → Kept q
taken_kept p q (head make places banks latency period) k e = granted_kept (head_refusal p (head_of places banks latency period)) (with_head p (head_of places banks latency period)) q (head_kept p (head_of places banks latency period) k) e
taken_kept p q (task place cycles earliest name) k e = granted_kept (task_refusal p place cycles earliest) (with_task p place cycles earliest) q (task_kept p place cycles earliest k) e
taken_kept p q (demand bank count) k e = granted_kept (demand_refusal p bank count) (with_demand p bank count) q (demand_kept p bank count k) e
taken_kept p q (dependency row) k e = granted_kept (after_refusal p row) (with_after p row) q (after_kept p row k) e

after : (xs : List Row) (p q : Plan) (x : Row) (t : Result Plan Refusal) → Kept p → taken p x ≡ t → then t (λ r. all_taken r xs) ≡ Ok q → ((r : Plan) → Kept r → all_taken r xs ≡ Ok q → Kept q) → Kept q
after xs p q x (Err f) k e g more = cc
after xs p q x (Ok r) k e g more = more r (taken_kept p r x k e) g

all_kept : (xs : List Row) (p q : Plan) → Kept p → all_taken p xs ≡ Ok q → Kept q
all_kept [] p q k e = let same : p ≡ q = cc in subst Kept same k
all_kept (x ∷ xs) p q k e = after xs p q x (taken p x) k refl e (λ r h g. all_kept xs r q h g)

pub sheet_kept : (xs : List Row) (q : Plan) → all_taken (record { head = None; rows = [] }) xs ≡ Ok q → Kept q
sheet_kept xs q e = all_kept xs (record { head = None; rows = [] }) q (empty_kept None refl) e
