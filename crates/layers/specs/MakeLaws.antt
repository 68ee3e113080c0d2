-- The laws of alternation and precedence.
use Rattle.std.proofs.Common.{◌≡◌, ℕ, ◌+◌, ◌-◌, ◌<◌, ◌≤◌, true, false, not, ◌&&◌, sym, refl, ◌∙◌, inl, inr, arith}
use Rattle.std.proofs.lemmas.Bool.{cases_lt, both_ways, not-true, not-false, and_parts, and_from, and_cases}
use Rattle.arbiter.specs.Events.{posts, delay}
use Rattle.arbiter.specs.Counts.{others_sum}
use Rattle.arbiter.specs.Meaning.{Model}
use Rattle.arbiter.specs.Laws.{Lawful}
use Rattle.arbiter.proofs.HeldLaws.{held_lawful}
use Rattle.arbiter.proofs.Services.{idle_delay}
use Rattle.arbiter.proofs.Someone.{someone_at, the_one, nobody_at}
use Rattle.layers.specs.declared.pair.Pair.{Pair}
use Rattle.layers.specs.Pairs.{fits, pair_width, pair_waiting, is_first, first_waits, second_waits}
use Rattle.layers.specs.Layers.{layer}
use Rattle.layers.specs.Alone.{Alone}
use Rattle.layers.specs.declared.alternation.Alternation.{Alternation}
use Rattle.layers.specs.declared.precedence.Precedence.{Precedence}
use Rattle.layers.specs.Alternations.{alternating, alternates, alternation}
use Rattle.layers.specs.Precedences.{preceding, precedes, precedence}
use Rattle.layers.specs.Formulas.{low_cases, alternating_laws, preceding_laws}
use Rattle.layers.specs.LayerLaws.{steps, Turns, not_second, firsts, first_low, second_high, first_turning, second_turning, too_wide, layer_lawful}
use Rattle.layers.specs.PairFacts.{waits_first, waits_past, Leads}

module _ {L R : Type 0} (l : Model L) (r : Model R) (ll : Lawful l) (rr : Lawful r) where
  -- The rules lead to a side where somebody waits.
  first_none : (a : Pair L R) (s : ℕ) → first_waits l r a ≡ false → s < l.width a.first → pair_waiting l r a s ≡ false
  first_none a s e i = waits_first l r a s i ∙ nobody_at (l.width a.first) (l.waiting a.first) s e i

  pub second_one : (a : Pair L R) (s : ℕ) → pair_waiting l r a s ≡ true → l.width a.first ≤ s → second_waits l r a ≡ true
  second_one a s h i =
      let p = and_parts (fits l r a) (r.waiting a.second (s - l.width a.first)) (sym (waits_past l r a s i) ∙ h) in
      and_from (fits l r a) _ p.0 (someone_at (r.width a.second) (r.waiting a.second) (s - l.width a.first) (rr.steps.waiting_below a.second _ p.1) p.1)

  second_who : (a : Pair L R) → second_waits l r a ≡ true → (o : ℕ) × (fits l r a ≡ true) × (r.waiting a.second o ≡ true)
  second_who a h =
      let p = and_parts (fits l r a) _ h in
      let w = the_one (r.width a.second) (r.waiting a.second) p.1 in
      (w.0, p.0, w.2)

  first_who : (a : Pair L R) → first_waits l r a ≡ true → (o : ℕ) × (l.waiting a.first o ≡ true)
  first_who a h = let w = the_one (l.width a.first) (l.waiting a.first) h in (w.0, w.2)

  pub alternates_leads : Leads l r (alternates l r) alternating
  alternates_leads = record {
    to_first = λ a s h e. first_who a (and_parts (first_waits l r a) _ e).0;
    to_second = λ a s h e. second_who a (elim (and_cases (first_waits l r a) (not (is_first a.latest && second_waits l r a)) e) [
      | inl n ↦ elim (cases_lt s (l.width a.first)) [ inl i ↦ absurd (both_ways (pair_waiting l r a s) (first_none a s n i) h) | inr i ↦ second_one a s h i ]
      | inr n ↦ (and_parts (is_first a.latest) (second_waits l r a) (not-false (is_first a.latest && second_waits l r a) n)).1
    ]);
  }

  pub precedes_leads : Leads l r (precedes l r) preceding
  precedes_leads = record {
    to_first = λ a s h e. elim (cases_lt s (l.width a.first)) [ inl i ↦ (s, sym (waits_first l r a s i) ∙ h) | inr i ↦ absurd (both_ways (second_waits l r a) (not-true (second_waits l r a) e) (second_one a s h i)) ];
    to_second = λ a s h e. second_who a (not-false (second_waits l r a) e);
  }

  first_waiting : (a : Pair L R) (s : ℕ) → s < l.width a.first → pair_waiting l r a s ≡ true → first_waits l r a ≡ true
  first_waiting a s i h = someone_at (l.width a.first) (l.waiting a.first) s i (sym (waits_first l r a s i) ∙ h)

  alternates_turns : Turns l r (alternates l r) alternating ll rr alternates_leads
  alternates_turns = record {
    first_fair = λ a s e i w. elim (and_cases (first_waits l r a) (not (is_first a.latest && second_waits l r a)) e) [
      | inl z ↦ absurd (both_ways (first_waits l r a) z (first_waiting a s i w))
      | inr z ↦ not_second a.latest (and_parts (is_first a.latest) (second_waits l r a) (not-false (is_first a.latest && second_waits l r a) z)).0
    ];
    second_fair = λ a s e i w. elim (and_cases (is_first a.latest) (second_waits l r a) (not-true (is_first a.latest && second_waits l r a) (and_parts (first_waits l r a) (not (is_first a.latest && second_waits l r a)) e).1)) [
      | inl z ↦ z
      | inr z ↦ absurd (both_ways (second_waits l r a) z (second_one a s w i))
    ];
  }

  pub alternation_lawful : Lawful (layer l r (alternates l r) alternating)
  alternation_lawful =
      layer_lawful l r (alternates l r) alternating ll rr alternates_leads alternating_laws
      (first_turning l r (alternates l r) alternating ll rr alternates_leads alternates_turns)
      (second_turning l r (alternates l r) alternating ll rr alternates_leads alternates_turns)

  -- Without own accesses a low source has no delay.
  low_third : (own b t d : ℕ) → d ≤ b + t → (own ≡ 0 → d ≡ 0) → d ≤ preceding true own b t
  low_third own b t d h k = elim (low_cases own (b + t)) [ inl p ↦ omega (arith, k p.0) | inr p ↦ omega (arith, p.1) ]

  pub precedence_lawful : Lawful (layer l r (precedes l r) preceding)
  precedence_lawful =
      layer_lawful l r (precedes l r) preceding ll rr precedes_leads preceding_laws
      (λ a b v u es s xs i h. low_third (posts s es) (l.bound a.first s (posts s es) xs) (others_sum (firsts (l.width a.first)) (pair_width l r a) xs) (delay s false v es)
      (first_low l r (precedes l r) preceding ll rr precedes_leads a b v u es s xs i h)
      (λ z. idle_delay (layer l r (precedes l r) preceding) (steps l r (precedes l r) preceding ll rr precedes_leads) s h.1.idle h.1.other z h.0))
      (second_high l r (precedes l r) preceding ll rr precedes_leads (λ a b o s e i w. both_ways (second_waits l r a) (not-true (second_waits l r a) e) (second_one a s w i)))

  -- An alternation and a precedence of lawful sides are lawful.
  pub alternation_keeps : Lawful (alternation l r)
  alternation_keeps = held_lawful {T = Alternation L R} (λ a. a.pair) (λ p. record { pair = p }) (λ p. refl) (layer l r (alternates l r) alternating) alternation_lawful

  pub precedence_keeps : Lawful (precedence l r)
  precedence_keeps = held_lawful {T = Precedence L R} (λ a. a.pair) (λ p. record { pair = p }) (λ p. refl) (layer l r (precedes l r) preceding) precedence_lawful

  pub alternation_too_wide : (a : Pair L R) → 32 < l.width a.first + r.width a.second → Alone l (λ x. x.first) (layer l r (alternates l r) alternating) a
  alternation_too_wide = too_wide l r (alternates l r) alternating ll rr alternates_leads alternating_laws

  pub precedence_too_wide : (a : Pair L R) → 32 < l.width a.first + r.width a.second → Alone l (λ x. x.first) (layer l r (precedes l r) preceding) a
  precedence_too_wide = too_wide l r (precedes l r) preceding ll rr precedes_leads preceding_laws
