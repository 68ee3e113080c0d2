-- The bound covers the delay also where more accesses are allowed for than there are.
use Rattle.std.proofs.Common.{◌≡◌, ℕ, ◌<◌, ◌≤◌, false, cond, eqb, ltb, ◌≢◌, List, map, get_or, Option, ◌∙◌, inl, inr, arith}
use Rattle.std.proofs.lemmas.List.FromFn.{length-map-range_with_len, get_or-map-range_with_len}
use Rattle.std.proofs.lemmas.List.{get_or_past}
use Rattle.std.proofs.lemmas.Bool.{cases_eq, cases_lt, eq-eqb, ne_eqb, lt-ltb, le-ltb}
use Rattle.std.specs.List.{range_with_len}
use Rattle.arbiter.specs.Events.{Event, Trace, posts, delay}
use Rattle.arbiter.specs.Counts.{limit}
use Rattle.arbiter.specs.Answers.{Accepts}
use Rattle.arbiter.specs.Meaning.{Model}
use Rattle.arbiter.specs.Laws.{Lawful, Start, accesses}
use Rattle.arbiter.proofs.Acceptance.{accepts, acceptance}

-- A list of 32 entries by their index.
table : (ℕ → ℕ) → List ℕ
table f = map f (range_with_len 0 32)

table_at : (f : ℕ → ℕ) (o : ℕ) → o < 32 → get_or (table f) o 0 ≡ f o
unfolding table
table_at f o h = get_or-map-range_with_len f 0 32 o o 0 h (omega arith)

table_le : (f : ℕ → ℕ) (x : ℕ) → ((o : ℕ) → f o ≤ x) → (o : ℕ) → get_or (table f) o 0 ≤ x
unfolding table
table_le f x h o = elim (cases_lt o 32) [ inl i ↦ omega (arith, table_at f o i, h o) | inr i ↦ omega (arith, get_or_past (table f) o 0 (omega (arith, length-map-range_with_len f 0 32))) ]

-- The accesses g of the other sources below n.
abbrev exact : ℕ → ℕ → (ℕ → ℕ) → ℕ → ℕ
exact n s g o = cond (ltb o n) (cond (eqb o s) 0 (g o)) 0

exact_at : (n s : ℕ) (g : ℕ → ℕ) (o : ℕ) → o < n → o ≢ s → exact n s g o ≡ g o
exact_at n s g o i ne = rw (lt-ltb o n i, ne_eqb o s ne)

exact_le : (n s : ℕ) (g : ℕ → ℕ) (x : ℕ) → ((o : ℕ) → o < n → o ≢ s → g o ≤ x) → (o : ℕ) → exact n s g o ≤ x
exact_le n s g x h o =
    elim (cases_lt o n) [
      | inl i ↦ elim (cases_eq o s) [ inl e ↦ rw (lt-ltb o n i, eq-eqb o s e) (omega arith) | inr ne ↦ omega (arith, exact_at n s g o i ne, h o i ne) ]
      | inr i ↦ rw (le-ltb o n i) (omega arith)
    ]

pub covers_at_least : {S : Type 0} (m : Model S) (laws : Lawful m) (a b : S) (v u : Option ℕ) (es : List Event) (s own : ℕ) (xs : List ℕ) → Trace m.posted m.picked a v es b u → Start m s a v → posts s es ≤ own → Accepts (m.width a) s own xs → ((o : ℕ) → o < m.width a → o ≢ s → accesses m a v es o ≤ get_or xs o 0) → delay s false v es ≤ m.bound a s own xs
unfolding table
covers_at_least m laws a b v u es s own xs r st le ok count =
    let g : ℕ → ℕ = exact (m.width a) s (accesses m a v es) in
    let k = acceptance (m.width a) s own xs ok in
    let is : (o : ℕ) → o < m.width a → o ≢ s → get_or (table g) o 0 ≡ accesses m a v es o =
    λ o i ne. table_at g o (omega (arith, (laws.steps.width_limits a).1)) ∙ exact_at (m.width a) s (accesses m a v es) o i ne in
    let small : Accepts (m.width a) s (posts s es) (table g) =
    accepts (m.width a) s (posts s es) (table g)
    record { known = k.known; full = length-map-range_with_len g 0 32; few = omega (arith, k.few); each = table_le g limit (exact_le (m.width a) s (accesses m a v es) limit (λ o i ne. omega (arith, count o i ne, k.each o))) } in
    omega (arith, laws.covers a b v u es s (table g) r st small is, laws.monotone a s (posts s es) own (table g) xs small ok le (λ o i ne. omega (arith, is o i ne, count o i ne)))
