-- Where the bound of a layer is accepted, so is that of the source's side, and it is small.
use Rattle.std.proofs.Common.{◌≡◌, ℕ, zero, suc, ◌+◌, ◌-◌, ◌*◌, ◌<◌, ◌≤◌, Bool, cond, List, get_or, IfOk, Ok, Result, sym, ap, ◌∙◌, subst, inl, inr, arith}
use Rattle.std.proofs.lemmas.Bool.{cases_eq, cases_lt, eq-eqb, ne_eqb, lt-ltb, le-ltb}
use Rattle.std.specs.Result.{result_and}
use Rattle.arbiter.specs.declared.refusal.Refusal.{Refusal}
use Rattle.arbiter.specs.Counts.{sum_below, counted, limit, AreCounts}
use Rattle.arbiter.specs.Answers.{Accepts, accept_answer, bound_answer}
use Rattle.arbiter.specs.Meaning.{Model}
use Rattle.arbiter.specs.Laws.{Lawful}
use Rattle.arbiter.proofs.Acceptance.{within, accepts, acceptance}
use Rattle.layers.specs.declared.pair.Pair.{Pair}
use Rattle.layers.specs.Pairs.{pair_width}
use Rattle.layers.specs.Bounds.{shifted, side_bound}
use Rattle.layers.specs.Shifts.{shifted_at, shifted_length}
use Rattle.layers.specs.PairFacts.{past}

pub sum_limit : (n : ℕ) (f : ℕ → ℕ) → ((o : ℕ) → f o ≤ limit) → sum_below n f ≤ limit * n
sum_limit zero f h = omega arith
sum_limit (suc n) f h = omega (arith, h n, sum_limit n f h)

counted_limit : (s : ℕ) (xs : List ℕ) (o : ℕ) → get_or xs o 0 ≤ limit → counted s xs o ≤ limit
counted_limit s xs o h = elim (cases_eq o s) [ inl e ↦ rw (eq-eqb o s e) (omega arith) | inr ne ↦ rw (ne_eqb o s ne) h ]

pub bound_limit : {S : Type 0} (m : Model S) (laws : Lawful m) (a : S) (s own : ℕ) (xs : List ℕ) → Accepts (m.width a) s own xs → m.bound a s own xs ≤ 33 * limit
bound_limit m laws a s own xs h =
    let k = acceptance (m.width a) s own xs h in
    omega (arith, k.few, laws.at_most_all a s own xs h, laws.steps.width_limits a, sum_limit (m.width a) (counted s xs) (λ o. counted_limit s xs o (k.each o)))

-- What `accept` promised, at a width that it was told.
pub accepted : (w n s own : ℕ) (xs : List ℕ) (u : Unit {0}) → Ok u ≡ accept_answer w s own xs → w ≡ n → Accepts n s own xs
accepted w n s own xs u h e = sym (h ∙ ap (λ k. accept_answer k s own xs) e)

module _ {L R : Type 0} (l : Model L) (r : Model R) (ll : Lawful l) (rr : Lawful r) (a : Pair L R) (s own : ℕ) (xs : List ℕ) (ok : Accepts (pair_width l r a) s own xs) where
  pub source_below : s < pair_width l r a
  source_below = (acceptance (pair_width l r a) s own xs ok).known

  pub first_accepts : s < l.width a.first → Accepts (l.width a.first) s own xs
  first_accepts i =
      let k = acceptance (pair_width l r a) s own xs ok in
      accepts (l.width a.first) s own xs record { known = i; full = k.full; few = k.few; each = k.each }

  pub second_accepts : l.width a.first ≤ s → Accepts (r.width a.second) (s - l.width a.first) own (shifted (l.width a.first) xs)
  second_accepts i =
      let k = acceptance (pair_width l r a) s own xs ok in
      let n : ℕ = l.width a.first in
      accepts (r.width a.second) (s - n) own (shifted n xs) record {
        known = (past l r a s k.known i).1;
        full = shifted_length n xs (omega (arith, k.full, (ll.steps.width_limits a.first).1)) ∙ k.full;
        few = k.few;
        each = λ q. omega (arith, shifted_at n xs q, k.each (n + q));
      }

  side_limit : side_bound l r a s own xs ≤ 33 * limit
  side_limit = elim (cases_lt s (l.width a.first)) [
    | inl i ↦ rw (lt-ltb s (l.width a.first) i) (bound_limit l ll a.first s own xs (first_accepts i))
    | inr i ↦ rw (le-ltb s (l.width a.first) i) (bound_limit r rr a.second (s - l.width a.first) own (shifted (l.width a.first) xs) (second_accepts i))
  ]

  -- What the side of s answers is what the pair answers, and it is small, as are the counts.
  abbrev pub SideAnswer : Result ℕ Refusal → Type 0
  SideAnswer e = (e ≡ bound_answer (pair_width l r a) (side_bound l r a) s own xs) × IfOk e (λ b. (b ≤ 33 * limit) × AreCounts xs)

  side_answer : SideAnswer (Ok (side_bound l r a s own xs))
  side_answer =
      let k = acceptance (pair_width l r a) s own xs ok in
      (sym (ap (λ e. result_and e (Ok (side_bound l r a s own xs))) ok), (side_limit, record { full = k.full; within = within xs (λ o i. k.each o) }))

  -- The side's bound among both: the first's, or the second's.
  abbrev by_side : Bool → Result ℕ Refusal
  by_side b = Ok (cond b (l.bound a.first s own xs) (r.bound a.second (s - l.width a.first) own (shifted (l.width a.first) xs)))

  pub first_answer : s < l.width a.first → (e : Result ℕ Refusal) → e ≡ bound_answer (l.width a.first) (l.bound a.first) s own xs → SideAnswer e
  first_answer i e h =
      let is = h ∙ ap (λ x. result_and x (Ok (l.bound a.first s own xs))) (first_accepts i) ∙ ap by_side (sym (lt-ltb s (l.width a.first) i)) in
      subst SideAnswer (sym is) side_answer

  pub second_answer : l.width a.first ≤ s → (n : ℕ) (ys : List ℕ) (e : Result ℕ Refusal) → n ≡ l.width a.first → ys ≡ shifted n xs → e ≡ bound_answer (r.width a.second) (r.bound a.second) (s - n) own ys → SideAnswer e
  second_answer i n ys e w f h =
      let is = h
      ∙ ap (λ zs. bound_answer (r.width a.second) (r.bound a.second) (s - n) own zs) f
      ∙ ap (λ m. bound_answer (r.width a.second) (r.bound a.second) (s - m) own (shifted m xs)) w
      ∙ ap (λ x. result_and x (Ok (r.bound a.second (s - l.width a.first) own (shifted (l.width a.first) xs)))) (second_accepts i)
      ∙ ap by_side (sym (le-ltb s (l.width a.first) i)) in
      subst SideAnswer (sym is) side_answer
