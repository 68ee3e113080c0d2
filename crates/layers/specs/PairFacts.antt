-- What the calls of a layer do, from what those of its sides do.
use Rattle.std.proofs.Common.{◌≡◌, ℕ, ◌+◌, ◌-◌, ◌<◌, ◌≤◌, Bool, true, false, cond, ◌&&◌, ltb, leb, ◌⊎◌, Some, None, Option, sym, refl, ap, ◌∙◌, subst, inl, inr, arith}
use Rattle.std.proofs.lemmas.Bool.{cases_lt, cases_Bool, lt-ltb, le-ltb, leb-true, and_parts}
use Rattle.std.specs.Option.{option_map}
use Rattle.arbiter.specs.Counts.{others_sum}
use Rattle.arbiter.specs.Meaning.{Model, Post, Pick, Keeps}
use Rattle.arbiter.specs.Laws.{Steps}
use Rattle.layers.specs.declared.pair.Side.{Side}
use Rattle.layers.specs.declared.pair.Side.TheVariants.{First, Second}
use Rattle.layers.specs.declared.pair.Pair.{Pair}
use Rattle.layers.specs.Pairs.{fits, pair_width, pair_waiting, last_of, pair_last, PairPosted, to_first, to_second, Drawn, from_first, from_second}
use Rattle.layers.specs.Bounds.{shifted, same_side}
use Rattle.layers.specs.Layers.{Formula, layer}

module _ {L R : Type 0} (l : Model L) (r : Model R) where
  pub width_fits : (a : Pair L R) → fits l r a ≡ true → pair_width l r a ≡ l.width a.first + r.width a.second
  width_fits a h = rw h

  pub width_first : (a : Pair L R) → fits l r a ≡ false → pair_width l r a ≡ l.width a.first
  width_first a h = rw h

  pub first_le : (a : Pair L R) → l.width a.first ≤ pair_width l r a
  first_le a = elim (cases_Bool (fits l r a)) [ inl h ↦ omega (arith, width_fits a h) | inr h ↦ omega (arith, width_first a h) ]

  pub pair_limits : Steps l → (a : Pair L R) → (1 ≤ pair_width l r a) × (pair_width l r a ≤ 32)
  pair_limits ll a =
      let w = ll.width_limits a.first in
      elim (cases_Bool (fits l r a)) [
        | inl h ↦ (omega (arith, width_fits a h), omega (arith, width_fits a h, leb-true (l.width a.first + r.width a.second) 32 h))
        | inr h ↦ (omega (arith, width_first a h), omega (arith, width_first a h))
      ]

  -- A source past the first side is one of the second.
  pub past : (a : Pair L R) (s : ℕ) → s < pair_width l r a → l.width a.first ≤ s → (fits l r a ≡ true) × (s - l.width a.first < r.width a.second)
  past a s h k = elim (cases_Bool (fits l r a)) [ inl e ↦ (e, omega (arith, width_fits a e)) | inr e ↦ absurd (omega (arith, width_first a e)) ]

  pub waits_first : (a : Pair L R) (s : ℕ) → s < l.width a.first → pair_waiting l r a s ≡ l.waiting a.first s
  waits_first a s h = rw (lt-ltb s (l.width a.first) h)

  pub waits_past : (a : Pair L R) (s : ℕ) → l.width a.first ≤ s → pair_waiting l r a s ≡ (fits l r a && r.waiting a.second (s - l.width a.first))
  waits_past a s h = rw (le-ltb s (l.width a.first) h)

  pub waits_second : (a : Pair L R) (s : ℕ) → fits l r a ≡ true → l.width a.first ≤ s → pair_waiting l r a s ≡ r.waiting a.second (s - l.width a.first)
  waits_second a s f h = waits_past a s h ∙ ap (λ b. b && r.waiting a.second (s - l.width a.first)) f

  -- Which side had the last pick.
  pub last_cases : (n : ℕ) (fit : Bool) (x y : Option ℕ) (t : Option Side) (s : ℕ) → last_of n fit x y t ≡ Some s → ((t ≡ Some First) × (x ≡ Some s)) ⊎ ((o : ℕ) × (t ≡ Some Second) × (fit ≡ true) × (s ≡ n + o) × (y ≡ Some o))
  last_cases n fit x y None s h = let z : ◌≡◌ {A = ℕ} 0 1 = cc in absurd (omega arith)
  last_cases n fit x y (Some First) s h = inl (refl, h)
  last_cases n false x y (Some Second) s h = let z : ◌≡◌ {A = ℕ} 0 1 = cc in absurd (omega arith)
  last_cases n true x None (Some Second) s h = let z : ◌≡◌ {A = ℕ} 0 1 = cc in absurd (omega arith)
  last_cases n true x (Some o) (Some Second) s h = inr (o, refl, refl, (let e : n + o ≡ s = cc in sym e), refl)

  -- Two pairs whose sides have the same widths and bounds.
  pub record Alike (a b : Pair L R) : Type 0 where
    pub first : Keeps l a.first b.first
    pub second : Keeps r a.second b.second

  same_keeps : {S : Type 0} (m : Model S) (a b : S) → b ≡ a → Keeps m a b
  same_keeps m a b e = record { width = ap m.width e; bound = λ s own xs. ap (λ x. m.bound x s own xs) e }

  pub alike_fits : (a b : Pair L R) → Alike a b → fits l r b ≡ fits l r a
  alike_fits a b k = ap (λ n. leb (n + r.width b.second) 32) k.first.width ∙ ap (λ n. leb (l.width a.first + n) 32) k.second.width

  alike_width : (a b : Pair L R) → Alike a b → pair_width l r b ≡ pair_width l r a
  alike_width a b k = ap (λ n. cond (leb (n + r.width b.second) 32) (n + r.width b.second) n) k.first.width ∙ ap (λ n. cond (leb (l.width a.first + n) 32) (l.width a.first + n) (l.width a.first)) k.second.width

  alike_waits : (a b : Pair L R) → Alike a b → (s : ℕ) → (s < l.width a.first → l.waiting b.first s ≡ l.waiting a.first s) → (l.width a.first ≤ s → r.waiting b.second (s - l.width a.first) ≡ r.waiting a.second (s - l.width a.first)) → pair_waiting l r b s ≡ pair_waiting l r a s
  alike_waits a b k s x y =
      elim (cases_lt s (l.width a.first)) [
        | inl h ↦ waits_first b s (omega (arith, k.first.width)) ∙ x h ∙ sym (waits_first a s h)
        | inr h ↦ waits_past b s (omega (arith, k.first.width)) ∙ ap (λ f. f && r.waiting b.second (s - l.width b.first)) (alike_fits a b k) ∙ ap (λ n. fits l r a && r.waiting b.second (s - n)) k.first.width ∙ ap (λ w. fits l r a && w) (y h) ∙ sym (waits_past a s h)
      ]

  alike_last : (a b : Pair L R) → Alike a b → l.last b.first ≡ l.last a.first → r.last b.second ≡ r.last a.second → b.latest ≡ a.latest → pair_last l r b ≡ pair_last l r a
  alike_last a b k x y t =
      ap (λ n. last_of n (fits l r b) (l.last b.first) (r.last b.second) b.latest) k.first.width
      ∙ ap (λ f. last_of (l.width a.first) f (l.last b.first) (r.last b.second) b.latest) (alike_fits a b k)
      ∙ ap (λ z. last_of (l.width a.first) (fits l r a) z (r.last b.second) b.latest) x
      ∙ ap (λ z. last_of (l.width a.first) (fits l r a) (l.last a.first) z b.latest) y
      ∙ ap (λ z. last_of (l.width a.first) (fits l r a) (l.last a.first) (r.last a.second) z) t

  module _ (rule : Pair L R → Bool) (formula : Formula) where
    abbrev m : Model (Pair L R)
    m = layer l r rule formula

    -- Where somebody waits, the rule leads to a side where somebody waits.
    pub record Leads : Type 0 where
      pub to_first : (a : Pair L R) (s : ℕ) → pair_waiting l r a s ≡ true → rule a ≡ true → (o : ℕ) × (l.waiting a.first o ≡ true)
      pub to_second : (a : Pair L R) (s : ℕ) → pair_waiting l r a s ≡ true → rule a ≡ false → (o : ℕ) × (fits l r a ≡ true) × (r.waiting a.second o ≡ true)

    alike_keeps : (a b : Pair L R) → Alike a b → Keeps (layer l r rule formula) a b
    alike_keeps a b k = record {
      width = alike_width a b k;
      bound = λ s own xs.
          let F : ℕ → ℕ → ℕ → ℕ → ℕ = λ n w x y. formula (ltb s n) own (cond (ltb s n) x y) (others_sum (same_side n s) w xs) in
          ap (λ n. F n (pair_width l r b) (l.bound b.first s own xs) (r.bound b.second (s - n) own (shifted n xs))) k.first.width
          ∙ ap (λ w. F (l.width a.first) w (l.bound b.first s own xs) (r.bound b.second (s - l.width a.first) own (shifted (l.width a.first) xs))) (alike_width a b k)
          ∙ ap (λ x. F (l.width a.first) (pair_width l r a) x (r.bound b.second (s - l.width a.first) own (shifted (l.width a.first) xs))) (k.first.bound s own xs)
          ∙ ap (λ y. F (l.width a.first) (pair_width l r a) (l.bound a.first s own xs) y) (k.second.bound (s - l.width a.first) own (shifted (l.width a.first) xs));
    }

    module _ (ll : Steps l) (rr : Steps r) (leads : Leads) where
      pub layer_inside : (a : Pair L R) (s : ℕ) → pair_waiting l r a s ≡ true → s < pair_width l r a
      layer_inside a s h =
          elim (cases_lt s (l.width a.first)) [
            | inl i ↦ omega (arith, first_le a)
            | inr i ↦ (let p = and_parts (fits l r a) (r.waiting a.second (s - l.width a.first)) (sym (waits_past a s i) ∙ h) in
                omega (arith, width_fits a p.0, rr.waiting_below a.second (s - l.width a.first) p.1))
          ]

      last_inside : (a : Pair L R) (s : ℕ) → pair_last l r a ≡ Some s → s < pair_width l r a
      last_inside a s h =
          elim (last_cases (l.width a.first) (fits l r a) (l.last a.first) (r.last a.second) a.latest s h) [
            | inl p ↦ omega (arith, first_le a, ll.last_below a.first s p.1)
            | inr p ↦ omega (arith, width_fits a p.2, p.3, rr.last_below a.second p.0 p.4)
          ]

      pub post_alike : (a b : Pair L R) (s : ℕ) → PairPosted l r a s b → Alike a b
      post_alike a b s (to_first i h e t) = record { first = ll.post_keeps a.first b.first s h; second = same_keeps r a.second b.second e }
      post_alike a b s (to_second o f i h e t) = record { first = same_keeps l a.first b.first e; second = rr.post_keeps a.second b.second o h }

      pub pick_alike : (a b : Pair L R) (s : ℕ) (c : Bool) → Drawn l r a s b c → Alike a b
      pick_alike a b s true (from_first h e t) = record { first = ll.pick_keeps a.first b.first s h; second = same_keeps r a.second b.second e }
      pick_alike a b s false (from_second o f i h e t) = record { first = same_keeps l a.first b.first e; second = rr.pick_keeps a.second b.second o h }

      post_shows : (a b : Pair L R) (s : ℕ) → PairPosted l r a s b → Post (layer l r rule formula) a s b
      post_shows a b s (to_first i h e t) =
          let k = ll.post_shows a.first b.first s h in
          let like = post_alike a b s (to_first i h e t) in
          record {
            known = omega (arith, first_le a);
            free = waits_first a s i ∙ k.free;
            now = waits_first b s (omega (arith, like.first.width)) ∙ k.now;
            others = λ o ne. alike_waits a b like o (λ x. k.others o ne) (λ x. ap (λ y. r.waiting y (o - l.width a.first)) e);
            same = alike_last a b like k.same (ap r.last e) t;
          }
      post_shows a b s (to_second q f i h e t) =
          let k = rr.post_shows a.second b.second q h in
          let like = post_alike a b s (to_second q f i h e t) in
          let back : s - l.width a.first ≡ q = omega arith in
          record {
            known = omega (arith, width_fits a f, k.known);
            free = waits_second a s f (omega arith) ∙ ap (r.waiting a.second) back ∙ k.free;
            now = waits_second b s (alike_fits a b like ∙ f) (omega (arith, like.first.width)) ∙ ap (λ n. r.waiting b.second (s - n)) like.first.width ∙ ap (r.waiting b.second) back ∙ k.now;
            others = λ o ne. alike_waits a b like o (λ x. ap (λ y. l.waiting y o) e) (λ x. k.others (o - l.width a.first) (omega arith));
            same = alike_last a b like (ap l.last e) k.same t;
          }

      pick_shows : (a b : Pair L R) (s : ℕ) (c : Bool) → Drawn l r a s b c → Pick (layer l r rule formula) a s b
      pick_shows a b s true (from_first h e t) =
          let k = ll.pick_shows a.first b.first s h in
          let like = pick_alike a b s true (from_first h e t) in
          let i : s < l.width a.first = ll.waiting_below a.first s k.waited in
          record {
            waited = waits_first a s i ∙ k.waited;
            gone = waits_first b s (omega (arith, like.first.width)) ∙ k.gone;
            others = λ o ne. alike_waits a b like o (λ x. k.others o ne) (λ x. ap (λ y. r.waiting y (o - l.width a.first)) e);
            now = ap (λ x. last_of (l.width b.first) (fits l r b) (l.last b.first) (r.last b.second) x) t ∙ k.now;
          }
      pick_shows a b s false (from_second q f i h e t) =
          let k = rr.pick_shows a.second b.second q h in
          let like = pick_alike a b s false (from_second q f i h e t) in
          let back : s - l.width a.first ≡ q = omega arith in
          let total : l.width b.first + q ≡ s = omega (arith, like.first.width) in
          record {
            waited = waits_second a s f (omega arith) ∙ ap (r.waiting a.second) back ∙ k.waited;
            gone = waits_second b s (alike_fits a b like ∙ f) (omega (arith, like.first.width)) ∙ ap (λ n. r.waiting b.second (s - n)) like.first.width ∙ ap (r.waiting b.second) back ∙ k.gone;
            others = λ o ne. alike_waits a b like o (λ x. ap (λ y. l.waiting y o) e) (λ x. k.others (o - l.width a.first) (omega arith));
            now = ap (λ x. last_of (l.width b.first) (fits l r b) (l.last b.first) (r.last b.second) x) t ∙ ap (λ x. cond x (option_map (λ o. l.width b.first + o) (r.last b.second)) None) (alike_fits a b like ∙ f) ∙ ap (option_map (λ o. l.width b.first + o)) k.now ∙ ap Some total;
          }

      picks : (a : Pair L R) (s : ℕ) → pair_waiting l r a s ≡ true → (o : ℕ) × (b : Pair L R) × Drawn l r a o b (rule a)
      picks a s h = elim (cases_Bool (rule a)) [ inl e ↦ left e | inr e ↦ right e ]
        where
          left : rule a ≡ true → (o : ℕ) × (b : Pair L R) × Drawn l r a o b (rule a)
          left e =
              let w = leads.to_first a s h e in
              let p = ll.pick_exists a.first w.0 w.1 in
              let b : Pair L R = record { first = p.1; second = a.second; latest = Some First } in
              (p.0, b, subst (λ c. Drawn l r a p.0 b c) (sym e) (from_first p.2 refl refl))

          right : rule a ≡ false → (o : ℕ) × (b : Pair L R) × Drawn l r a o b (rule a)
          right e =
              let w = leads.to_second a s h e in
              let p = rr.pick_exists a.second w.0 w.2 in
              let b : Pair L R = record { first = a.first; second = p.1; latest = Some Second } in
              (l.width a.first + p.0, b, subst (λ c. Drawn l r a (l.width a.first + p.0) b c) (sym e) (from_second p.0 w.1 refl p.2 refl refl))

      pub layer_steps : Steps (layer l r rule formula)
      layer_steps = record {
        width_limits = pair_limits ll;
        waiting_below = layer_inside;
        last_below = last_inside;
        post_shows = post_shows;
        pick_shows = λ a b s h. pick_shows a b s (rule a) h;
        post_keeps = λ a b s h. alike_keeps a b (post_alike a b s h);
        pick_keeps = λ a b s h. alike_keeps a b (pick_alike a b s (rule a) h);
        pick_exists = picks;
      }
