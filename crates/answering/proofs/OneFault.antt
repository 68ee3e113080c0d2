-- A sheet has one first fault, or none.
-- Assumes nothing.
use Rattle.std.proofs.Common.{◌≡◌, ℕ, zero, suc, ◌+◌, ◌<◌, ◌≤◌, List, [], ◌∷◌, length, take, None, Ok, Err, Result, sym, ap, ◌∙◌, inl, inr, arith}
use Rattle.std.proofs.lemmas.List.{get_or-take, length-take-le, take-take}
use Rattle.std.proofs.lemmas.Bool.{cases_lt}
use Rattle.plan.specs.Rows.{Plan}
use Rattle.plan.specs.declared.rows.Refusal.{Refusal}
use Rattle.sheet.specs.Lines.{then}
use Rattle.sheet.specs.Reading.{Reading}
use Rattle.sheet.specs.Rows.{Row, dependency}
use Rattle.loader.specs.declared.faults.LoadFault.{LoadFault}
use Rattle.loader.specs.Faults.{number_of, read_fault, row_fault}
use Rattle.loader.specs.Loading.{Stopped, Stops, refused, row_at, starved, unread}
use Rattle.loader.specs.Rows.{all_taken, taken}

stuck_after : (xs ys : List Row) (q : Plan) (f : Refusal) (t : Result Plan Refusal) → then t (λ p. all_taken p xs) ≡ Ok q → ((p : Plan) → all_taken p xs ≡ Ok q → all_taken p ys ≡ Err f) → then t (λ p. all_taken p ys) ≡ Err f
stuck_after xs ys q f (Err g) e more = cc
stuck_after xs ys q f (Ok p) e more = more p e

-- A row that is refused behind k others that are taken stops all rows.
stuck : (xs : List Row) (k : ℕ) (p q : Plan) (f : Refusal) → k < length xs → all_taken p (take k xs) ≡ Ok q → taken q (row_at xs k) ≡ Err f → all_taken p xs ≡ Err f
stuck [] k p q f l t r = absurd (omega arith)
stuck (x ∷ xs) zero p q f l t r = let same : p ≡ q = cc in ap (λ y. then (taken y x) (λ z. all_taken z xs)) same ∙ ap (λ y. then y (λ z. all_taken z xs)) r
stuck (x ∷ xs) (suc k) p q f l t r = stuck_after (take k xs) xs q f (taken p x) t (λ y e. stuck xs k y q f (omega arith) e r)

module _ (start : Plan) (sheet : Reading) where
  -- No rows beyond a refused one are taken.
  no_more : (k j : ℕ) (p q : Plan) (f : Refusal) → k < j → j ≤ length sheet.rows → all_taken start (take k sheet.rows) ≡ Ok p → taken p (row_at sheet.rows k) ≡ Err f → all_taken start (take j sheet.rows) ≡ Ok q → ⊥
  no_more k j p q f l h a r b =
      let e = stuck (take j sheet.rows) k start p f (omega (arith, length-take-le j sheet.rows h)) (ap (all_taken start) (take-take k j sheet.rows (omega arith)) ∙ a) (ap (taken p) (get_or-take j sheet.rows k (dependency 0) l) ∙ r) in
      cc

  refused_same : (k j : ℕ) (p q : Plan) (f g : Refusal) → k < length sheet.rows → j < length sheet.rows → all_taken start (take k sheet.rows) ≡ Ok p → taken p (row_at sheet.rows k) ≡ Err f → all_taken start (take j sheet.rows) ≡ Ok q → taken q (row_at sheet.rows j) ≡ Err g → row_fault (k + 1) f ≡ row_fault (j + 1) g
  refused_same k j p q f g l h a r b s =
      elim (cases_lt k j) [
        | inl less ↦ absurd (no_more k j p q f less (omega arith) a r b)
        | inr more ↦ elim (cases_lt j k) [
          | inl less ↦ absurd (no_more j k q p g less (omega arith) b s a)
          | inr most ↦
              let at : k ≡ j = omega arith in
              let plans : ◌≡◌ {A = Result Plan Refusal} (Ok p) (Ok q) = sym a ∙ ap (λ n. all_taken start (take n sheet.rows)) at ∙ b in
              let same : p ≡ q = cc in
              let answers : ◌≡◌ {A = Result Plan Refusal} (Err f) (Err g) = sym r ∙ ap (λ y. taken y (row_at sheet.rows k)) same ∙ ap (λ n. taken q (row_at sheet.rows n)) at ∙ s in
              let refusals : f ≡ g = cc in
              ap (λ n. row_fault (n + 1) f) at ∙ ap (row_fault (j + 1)) refusals
        ]
      ]

  stops_same : (k j : ℕ) (p q : Plan) {f g : LoadFault} → all_taken start (take k sheet.rows) ≡ Ok p → all_taken start (take j sheet.rows) ≡ Ok q → Stops sheet k p f → Stops sheet j q g → 1 ≤ number_of f.cause → 1 ≤ number_of g.cause → f ≡ g
  stops_same k j p q a b (unread e h n l) (unread d i m o) s t = let same : e ≡ d = cc in ap read_fault same
  stops_same k j p q a b (unread e h n l) (refused g i r) s t = absurd (no_more j k q p g (omega arith) (omega arith) b r a)
  stops_same k j p q a b (unread e h n l) (starved i grows) s t = absurd (omega arith)
  stops_same k j p q a b (refused f l r) (unread d i m o) s t = absurd (no_more k j p q f (omega arith) (omega arith) a r b)
  stops_same k j p q a b (refused f l r) (refused g i s) some more = refused_same k j p q f g l i a r b s
  stops_same k j p q a b (refused f l r) (starved i grows) s t = absurd (omega arith)
  stops_same k j p q a b (starved l grows) y s t = absurd (omega arith)

  pub faults_same : (f g : LoadFault) (p q : Plan) → Stopped start sheet f p → Stopped start sheet g q → 1 ≤ number_of f.cause → 1 ≤ number_of g.cause → f ≡ g
  faults_same f g p q x y s t = stops_same x.good y.good p q x.rows y.rows x.why y.why s t

  -- A sheet with a fault is not taken whole.
  stops_short : (k : ℕ) (p q : Plan) {f : LoadFault} → all_taken start (take k sheet.rows) ≡ Ok p → Stops sheet k p f → 1 ≤ number_of f.cause → sheet.fault ≡ None → all_taken start sheet.rows ≡ Ok q → ⊥
  stops_short k p q a (unread e h n l) s none all = cc
  stops_short k p q a (refused f l r) s none all = let e = stuck sheet.rows k start p f l a r in cc
  stops_short k p q a (starved l grows) s none all = omega arith

  pub not_both : (f : LoadFault) (p q : Plan) → Stopped start sheet f p → 1 ≤ number_of f.cause → sheet.fault ≡ None → all_taken start sheet.rows ≡ Ok q → ⊥
  not_both f p q x s none all = stops_short x.good p q x.rows x.why s none all
