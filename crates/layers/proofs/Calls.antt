-- What the calls of a pair answer.
use Rattle.std.proofs.Common.{◌≡◌, ℕ, ◌+◌, ◌-◌, ◌<◌, ◌≤◌, Bool, true, false, ◌&&◌, Some, None, Ok, Err, Option, Result, sym, refl, ap, ◌∙◌, subst, inl, inr, arith}
use Rattle.std.proofs.lemmas.Bool.{cases_lt, cases_Bool, both_ways, and_parts, and_cases, and_left}
use Rattle.arbiter.specs.declared.refusal.Refusal.{Refusal}
use Rattle.arbiter.specs.Answers.{someone, AfterPost, AfterPick}
use Rattle.arbiter.specs.Meaning.{Model}
use Rattle.arbiter.proofs.Someone.{someone_at, no_one, the_one, nobody_at}
use Rattle.layers.specs.declared.pair.Pair.{Pair}
use Rattle.layers.specs.Pairs.{fits, pair_width, pair_waiting, first_waits, second_waits, to_second, Drawn, AfterPairPost, AfterDraw}
use Rattle.layers.specs.Layers.{Formula, layer}
use Rattle.layers.specs.PairFacts.{width_fits, first_le, waits_first, waits_past, waits_second, Leads}

module _ {L R : Type 0} (l : Model L) (r : Model R) where
  pub anyone_first : (a : Pair L R) → first_waits l r a ≡ true → someone (pair_width l r a) (pair_waiting l r a) ≡ true
  anyone_first a h =
      let w = the_one (l.width a.first) (l.waiting a.first) h in
      someone_at (pair_width l r a) (pair_waiting l r a) w.0 (omega (arith, w.1, first_le l r a)) (waits_first l r a w.0 w.1 ∙ w.2)

  pub anyone_second : (a : Pair L R) → first_waits l r a ≡ false → second_waits l r a ≡ someone (pair_width l r a) (pair_waiting l r a)
  anyone_second a h = elim (cases_Bool (second_waits l r a)) [ inl e ↦ e ∙ sym (yes e) | inr e ↦ e ∙ sym (nobody e) ]
    where
      yes : second_waits l r a ≡ true → someone (pair_width l r a) (pair_waiting l r a) ≡ true
      yes e =
          let p = and_parts (fits l r a) (someone (r.width a.second) (r.waiting a.second)) e in
          let w = the_one (r.width a.second) (r.waiting a.second) p.1 in
          let n : ℕ = l.width a.first in
          let back : (n + w.0) - n ≡ w.0 = omega arith in
          someone_at (pair_width l r a) (pair_waiting l r a) (n + w.0) (omega (arith, w.1, width_fits l r a p.0)) (waits_second l r a (n + w.0) p.0 (omega arith) ∙ ap (r.waiting a.second) back ∙ w.2)

      none : (o : ℕ) → second_waits l r a ≡ false → o < pair_width l r a → pair_waiting l r a o ≡ false
      none o e i =
          elim (cases_lt o (l.width a.first)) [
            | inl k ↦ waits_first l r a o k ∙ nobody_at (l.width a.first) (l.waiting a.first) o h k
            | inr k ↦ waits_past l r a o k ∙ elim (and_cases (fits l r a) (someone (r.width a.second) (r.waiting a.second)) e) [
              | inl z ↦ and_left (fits l r a) (r.waiting a.second (o - l.width a.first)) z
              | inr z ↦ elim (cases_Bool (fits l r a)) [
                | inl f ↦ ap (λ x. x && r.waiting a.second (o - l.width a.first)) f ∙ nobody_at (r.width a.second) (r.waiting a.second) (o - l.width a.first) z (omega (arith, width_fits l r a f))
                | inr f ↦ and_left (fits l r a) (r.waiting a.second (o - l.width a.first)) f
              ]
            ]
          ]

      nobody : second_waits l r a ≡ false → someone (pair_width l r a) (pair_waiting l r a) ≡ false
      nobody e = no_one (pair_width l r a) (pair_waiting l r a) (λ o i. none o e i)

  pub posted_second : (a : Pair L R) (s : ℕ) (y : R) (e : Result (Unit {0}) Refusal) → fits l r a ≡ true → l.width a.first ≤ s → AfterPost r a.second (s - l.width a.first) y e → AfterPairPost l r a s record { first = a.first; second = y; latest = a.latest } e
  posted_second a s y (Ok u) f h p = to_second (s - l.width a.first) f (omega arith) p refl refl
  posted_second a s y (Err e) f h p = ap {B = Pair L R} (λ z. record { first = a.first; second = z; latest = a.latest }) p

-- A pick by the rule, from the side that it says.
module _ {L R : Type 0} (l : Model L) (r : Model R) (rule : Pair L R → Bool) (formula : Formula) (leads : Leads l r rule formula) where
  quiet : (a : Pair L R) → ((s : ℕ) → pair_waiting l r a s ≡ true → ⊥) → (s : ℕ) → pair_waiting l r a s ≡ false
  quiet a h s = elim (cases_Bool (pair_waiting l r a s)) [ inl e ↦ absurd (h s e) | inr e ↦ e ]

  pub picking : (a b : Pair L R) (e : Option ℕ) → AfterDraw l r (rule a) a b e → AfterPick (layer l r rule formula) a b e
  picking a b e h = go (rule a) refl e h
    where
      go : (c : Bool) → rule a ≡ c → (e : Option ℕ) → AfterDraw l r c a b e → AfterPick (layer l r rule formula) a b e
      go true x None d = (d.0, quiet a (λ s w. (let p = leads.to_first a s w x in both_ways (l.waiting a.first p.0) (d.1 p.0) p.1)))
      go false x None d = (d.0, quiet a (λ s w. (let p = leads.to_second a s w x in both_ways (r.waiting a.second p.0) (d.1 p.1 p.0) p.2)))
      go true x (Some s) d = subst (λ c. Drawn l r a s b c) (sym x) d
      go false x (Some s) d = subst (λ c. Drawn l r a s b c) (sym x) d
