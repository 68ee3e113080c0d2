use Rattle.std.proofs.Common.{◌≡◌, ℕ, ◌+◌, ◌-◌, ◌<◌, Bool, false, List, length, get_or, take, drop, sym, Some, None, Option, inl, inr, ◌∙◌, arith, rules}
use Rattle.std.proofs.lemmas.Bool.{cases_lt}
use Rattle.std.proofs.lemmas.Grind.{common_steps}
use Rattle.rings.specs.Kept.{Quiet}
use Rattle.rings.specs.Order.{First, FirstWaiting}
use Rattle.rings.specs.Ranks.{start_of, rank_cases}
use Rattle.rings.proofs.ring.Ring.next.Goals as goal

-- The first that waits from the start on is the first of all.
straight : (n : ℕ) (l : Option ℕ) (ws : List Bool) (k : ℕ) (back : List Bool) (i : ℕ) → Quiet ws n → k ≡ start_of l → back ≡ drop k ws → First (length back) None (λ o. get_or back o false) i → First n l (λ o. get_or ws o false) (k + i)
straight n l ws k back i q e y h = record {
  waited = grind (arith, common_steps);
  first = λ o w. elim (cases_lt o k) [ inl j ↦ omega (arith, rank_cases n l (k + i), rank_cases n l o, below) | inr j ↦ omega (arith, rank_cases n l (k + i), rank_cases n l o, h.first (o - k) (grind (arith, common_steps))) ];
}
  where
    below : k + i < n
    below = grind (arith, common_steps, q (k + i))

-- Where nobody waits from the start on, the first of those before it is the first of all.
wrapped : (n : ℕ) (l : Option ℕ) (ws : List Bool) (k : ℕ) (front back : List Bool) (r : Option ℕ) → k ≡ start_of l → front ≡ take k ws → back ≡ drop k ws → ((o : ℕ) → get_or back o false ≡ false) → FirstWaiting (length front) None (λ o. get_or front o false) r → FirstWaiting n l (λ o. get_or ws o false) r
wrapped n l ws k front back None e x y none h = λ o. elim (cases_lt o k) [ inl i ↦ grind (arith, common_steps, h o) | inr i ↦ grind (arith, common_steps, none (o - k)) ]
wrapped n l ws k front back (Some s) e x y none h = record {
  waited = grind (arith, common_steps);
  first = λ o w. elim (cases_lt o k) [ inl i ↦ omega (arith, rank_cases n l s, rank_cases n l o, h.first o (grind (arith, common_steps))) | inr i ↦ grind (arith, common_steps, none (o - k)) ];
}

-- From n on nobody waits, so that only the first n flags need to be looked at.
trimmed : (n : ℕ) (ws : List Bool) → Quiet ws n → (o : ℕ) → get_or (take n ws) o false ≡ get_or ws o false
trimmed n ws q o = elim (cases_lt o n) [ inl i ↦ grind (arith, common_steps) | inr i ↦ grind (arith, common_steps, q o) ]

widened : (n : ℕ) (l : Option ℕ) (ws : List Bool) (r : Option ℕ) → Quiet ws n → FirstWaiting n l (λ o. get_or (take n ws) o false) r → FirstWaiting n l (λ o. get_or ws o false) r
widened n l ws None q h = λ o. sym (trimmed n ws q o) ∙ h o
widened n l ws (Some s) q h = record { waited = sym (trimmed n ws q s) ∙ h.waited; first = λ o w. h.first o (trimmed n ws q o ∙ w) }

quiet : (n : ℕ) (ws : List Bool) → Quiet ws n → Quiet (take n ws) n
quiet n ws q o h = trimmed n ws q o ∙ q o h

pub returns-in-Some : goal.returns-in-Some
returns-in-Some c =
    let a = c.args.self.now in
    widened a.width a.last a.waiting (Some (c.map_or-start.result + c.in-Some.i)) a.quiet
    (straight a.width a.last (take a.width a.waiting) c.map_or-start.result _ c.in-Some.i (quiet a.width a.waiting a.quiet) (search rules) c.split_at.ensures.back c.in-Some.ensures)

pub returns-in-None : goal.returns-in-None
returns-in-None c =
    let a = c.args.self.now in
    widened a.width a.last a.waiting c.first_true-in-None.result a.quiet
    (wrapped a.width a.last (take a.width a.waiting) c.map_or-start.result _ _ c.first_true-in-None.result (search rules) c.split_at.ensures.front c.split_at.ensures.back c.in-None.ensures c.first_true-in-None.ensures)
