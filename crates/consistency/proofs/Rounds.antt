-- The rounds are determined and end at the consistent dates; with the steps of a loop that goes through them.
use Rattle.std.proofs.Common.{◌≡◌, ℕ, zero, suc, ◌+◌, ◌-◌, ◌*◌, ◌<◌, ◌≤◌, not, eqb, ◌⊎◌, sym, refl, ◌∙◌, subst, inl, inr, add-one, arith}
use Rattle.std.proofs.lemmas.Bool.{cases_lt, not-true, not-false, eqb-true, eqb-false}
use Rattle.consistency.specs.System.{System, Lawful}
use Rattle.consistency.specs.Dates.{Table, Same, alone, SmallestResponses, Released, Round, Changed, Reached, first, then_round, Rounds}
use Rattle.consistency.proofs.Smallest.{smallest_below}
use Rattle.consistency.proofs.Responses.{responses_unique, responses_same}
use Rattle.consistency.proofs.Releases.{releases_exist, releases_unique, released_same}
use Rattle.consistency.proofs.Consistent.{round_exists}
use Rattle.consistency.proofs.Limit.{limit}

-- Only rows of tasks count.
pub reached_same : {y : System} {j : ℕ} {rel rel' : Table} → Same y rel rel' → Reached y j rel → Reached y j rel'
reached_same {y} {rel = rel} {rel' = rel'} same (first f) = first (released_same y rel (alone y) rel' (alone y) same (λ i h. refl) f)
reached_same {y} {rel = new} {rel' = new'} same (then_round {res = res} p r c) =
    then_round p
    (record { responses = r.responses; released = released_same y new res new' res same (λ i h. refl) r.released })
    (record { row = c.row; task = c.task; moved = λ e. c.moved (e ∙ sym (same c.row c.task)) })

-- One round further: the smallest responses for the releases reached, and the releases renewed from them, of which some differs.
pub reached_next : {y : System} {j : ℕ} {rel res new : Table} → Reached y j rel → SmallestResponses y rel res → Released y new res → Changed y rel new → Reached y (j + 1) new
reached_next {y} {j} {new = new} p g f c = subst (λ n. Reached y n new) (sym (add-one j)) (then_round p (record { responses = g; released = f }) c)

-- Some release differs, or none.
pub changed_or_same : (y : System) (old new : Table) → Changed y old new ⊎ Same y old new
changed_or_same y old new =
    elim (smallest_below (λ k. not (eqb (old k) (new k))) y.tasks) [
      | inl none ↦ inr (λ k h. eqb-true (old k) (new k) (not-false (eqb (old k) (new k)) (none k h)))
      | inr (k, h, found) ↦ inl (record { row = k; task = h; moved = eqb-false (old k) (new k) (not-true (eqb (old k) (new k)) found.holds) })
    ]

module _ (y : System) (l : Lawful y) where
  -- If none differs, that round was the last.
  pub reached_last : {j : ℕ} {rel res new : Table} → Reached y j rel → SmallestResponses y rel res → Released y new res → Same y rel new → Rounds y (j + 1) new res
  reached_last {j} {rel} {res} {new} p g f same = record { before = j; counted = add-one j; reached = reached_same same p; last = record { responses = responses_same y l rel res new res same (λ i h. refl) g; released = f } }

  -- The rounds are determined.
  round_unique : {rel res new rel' res' new' : Table} → Round y rel res new → Round y rel' res' new' → Same y rel rel' → Same y new new'
  round_unique {rel} {res} {new} {rel'} {res'} {new'} r r' same =
      releases_unique y new res new' res' r.released r'.released
      (responses_unique y l rel res res' r.responses (responses_same y l rel' res' rel res' (λ i h. sym (same i h)) (λ i h. refl) r'.responses))

  reached_unique : {j : ℕ} {rel rel' : Table} → Reached y j rel → Reached y j rel' → Same y rel rel'
  reached_unique (first {rel = rel} f) (first {rel = rel'} f') = releases_unique y rel (alone y) rel' (alone y) f f' (λ i h. refl)
  reached_unique (then_round p r c) (then_round p' r' c') = round_unique r r' (reached_unique p p')

  -- No round comes after one that changes nothing.
  no_further : {i j : ℕ} {rel res rel' : Table} → Reached y i rel → Round y rel res rel → Reached y j rel' → j ≤ i
  no_further p last (first f) = omega arith
  no_further {i = i} p last (then_round {j = j} {rel = old} p' r c) =
      elim (cases_lt j i) [
        | inl before ↦ before
        | inr after ↦
            let e : j ≡ i = omega (arith, no_further p last p') in
            let same = reached_unique p (subst (λ n. Reached y n old) e p') in
            absurd (c.moved (sym (same c.row c.task) ∙ round_unique last r same c.row c.task))
      ]

  pub count_unique : {count count' : ℕ} {rel res rel' res' : Table} → Rounds y count rel res → Rounds y count' rel' res' → count ≡ count'
  count_unique p q = omega (arith, p.counted, q.counted, no_further p.reached p.last q.reached, no_further q.reached q.last p.reached)

  -- The rounds end, since no more than the limit change a release.
  pub last_exists : (count : ℕ) × (rel : Table) × (res : Table) × Rounds y count rel res
  last_exists = let (rel, f) = releases_exist y (alone y) in go (suc (2 * (y.tasks - 1))) 0 rel (first f) (omega arith)
    where
      go : (left j : ℕ) (rel : Table) → Reached y j rel → 2 * (y.tasks - 1) < j + left → (count : ℕ) × (rel : Table) × (res : Table) × Rounds y count rel res
      go zero j rel p h = absurd (omega (arith, limit y l p))
      go (suc left) j rel p h =
          let (res, new, r) = round_exists y l rel in
          elim (changed_or_same y rel new) [
            | inl changed ↦ go left (j + 1) new (reached_next p r.responses r.released changed) (omega arith)
            | inr same ↦ (j + 1, new, res, reached_last p r.responses r.released same)
          ]

  pub count_limit : {count : ℕ} {rel res : Table} → 1 ≤ y.tasks → Rounds y count rel res → count ≤ 2 * y.tasks - 1
  count_limit some p = omega (arith, p.counted, limit y l p.reached)
