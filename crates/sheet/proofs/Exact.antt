-- A line is accepted exactly if it is the one way to write its row. Assumes nothing.
use Rattle.std.proofs.Common.{◌≡◌, ℕ, ◌+◌, ◌-◌, ◌*◌, ◌^◌, ◌<◌, ◌≤◌, Bool, true, false, cond, ◌&&◌, eqb, List, [], ◌∷◌, ◌++◌, length, get_or, take, drop, Some, None, Ok, Err, Option, Result, sym, refl, ap, ◌∙◌, subst, add-zero, arith, length-drop, length-take}
use Rattle.std.proofs.lemmas.List.{drop_at, drop-drop, drop_more, drop_all, get_or-drop, take-append-drop, take_at}
use Rattle.std.proofs.lemmas.Bool.{and_parts, cond_both, cond-true, eqb-true, eq-eqb, and_from}
use Rattle.std.proofs.lemmas.Bool.Decides.{nat_tests}
use Rattle.std.specs.Option.{ok_or}
use Rattle.sheet.specs.declared.faults.Cause.{Cause}
use Rattle.sheet.specs.declared.faults.Cause.TheVariants.{WrongLength, IllFormedField}
use Rattle.sheet.specs.declared.faults.Flaw.{Flaw}
use Rattle.sheet.specs.declared.lines.Make.{Make}
use Rattle.sheet.specs.declared.lines.Make.TheVariants.{Ring, Bostan}
use Rattle.sheet.specs.Columns.{justified, column}
use Rattle.sheet.specs.Fields.{number, named, name}
use Rattle.sheet.specs.Lines.{then, flaw, number_at, name_at, make_of, head_line, task_line, demand_line, dependency_line, sized, parsed}
use Rattle.sheet.specs.Rows.{Row, head, task, demand, dependency, make_number, GivesMake, written, Writable}
use Rattle.sheet.proofs.Justified.{length_column, number_column, column_number, length_name, name_justified, justified_name}

-- a chain of questions, all answered

then_ok : {A B E : Type 0} (r : Result A E) (k : A → Result B E) (x : B) → then r k ≡ Ok x → (a : A) × (r ≡ Ok a) × (k a ≡ Ok x)
then_ok (Ok a) k x e = (a, refl, e)
then_ok (Err f) k x e = absurd (let z : ◌≡◌ {A = ℕ} 0 1 = cc in omega arith)

then_go : {A B E : Type 0} (r : Result A E) (k : A → Result B E) (a : A) (x : B) → r ≡ Ok a → k a ≡ Ok x → then r k ≡ Ok x
then_go r k a x e f = ap (λ s. then s k) e ∙ f

ok_from_some : {A E : Type 0} (o : Option A) (f : E) (a : A) → ok_or o f ≡ Ok a → o ≡ Some a
ok_from_some (Some b) f a e = cc
ok_from_some None f a e = absurd (let z : ◌≡◌ {A = ℕ} 0 1 = cc in omega arith)

ok_then : {A E : Type 0} (b : Bool) (v x : A) (f : E) → cond b (Ok v) (Err f) ≡ Ok x → (b ≡ true) × (x ≡ v)
ok_then true v x f e = (refl, cc)
ok_then false v x f e = absurd (let z : ◌≡◌ {A = ℕ} 0 1 = cc in omega arith)

-- a line that ends after n bytes

sized_ends : (n : ℕ) (l m : List ℕ) → 1 ≤ n → sized n l ≡ Ok m → (m ≡ l) × (length l ≡ n) × (drop (n - 1) l ≡ 10 ∷ [])
sized_ends n l m h e =
    let p = ok_then (eqb (length l) n && eqb (get_or l (n - 1) 0) 10) l m (flaw WrongLength 1) e in
    let q = and_parts (eqb (length l) n) (eqb (get_or l (n - 1) 0) 10) p.0 in
    let s = eqb-true (length l) n q.0 in (
      p.1,
      s,
      drop_more l (n - 1) 0 (omega arith)
          ∙ (ap (λ b. b ∷ drop (n - 1 + 1) l) (eqb-true (get_or l (n - 1) 0) 10 q.1) ∙ ap (λ r. 10 ∷ r) (drop_all (n - 1 + 1) l (omega arith))),
    )

ends_sized : (n : ℕ) (l : List ℕ) → 1 ≤ n → drop (n - 1) l ≡ 10 ∷ [] → sized n l ≡ Ok l
ends_sized n l h e =
    let s : length l - (n - 1) ≡ 1 = sym (length-drop (n - 1) l) ∙ ap length e in
    let f : get_or l (n - 1 + 0) 0 ≡ 10 = sym (get_or-drop (n - 1) l 0 0) ∙ ap (λ r. get_or r 0 0) e in
    let g : get_or l (n - 1) 0 ≡ 10 = simp add-zero at f in
    cond-true (eqb (length l) n && eqb (get_or l (n - 1) 0) 10) (Ok l) (Err (flaw WrongLength 1)) (and_from _ _ (eq-eqb (length l) n (omega arith)) (eq-eqb (get_or l (n - 1) 0) 10 g))

-- a field of w bytes from i on

part : (i w : ℕ) (l : List ℕ) → drop i l ≡ take w (drop i l) ++ drop (i + w) l
part i w l = sym (take-append-drop w (drop i l)) ∙ ap (λ r. take w (drop i l) ++ r) (drop-drop w i l)

length_part : (i w : ℕ) (l : List ℕ) → i + w ≤ length l → length (take w (drop i l)) ≡ w
length_part i w l h = simp (length-take, length-drop) (omega arith)

part_is : (i w : ℕ) (l t rest : List ℕ) → length t ≡ w → drop i l ≡ t ++ rest → (take w (drop i l) ≡ t) × (drop (i + w) l ≡ rest)
part_is i w l t rest h e = (ap (take w) e ∙ take_at t rest w h, sym (drop-drop w i l) ∙ (ap (drop w) e ∙ drop_at t rest w h))

module _ (l : List ℕ) where
  number_there : (k n : ℕ) → 10 * k + 1 + 10 ≤ length l → number_at l k ≡ Ok n → (n < 10 ^ 10) × (drop (10 * k + 1) l ≡ column 10 n ++ drop (10 * k + 1 + 10) l)
  number_there k n fits e =
      let i = 10 * k + 1 in
      let p = column_number (take 10 (drop i l)) n (length_part i 10 l fits) (ok_from_some _ _ _ e) in
      (p.0, part i 10 l ∙ ap (λ f. f ++ drop (i + 10) l) p.1)

  number_read : (k n : ℕ) (rest : List ℕ) → n < 10 ^ 10 → drop (10 * k + 1) l ≡ column 10 n ++ rest → (number_at l k ≡ Ok n) × (drop (10 * k + 1 + 10) l ≡ rest)
  number_read k n rest small e =
      let p = part_is (10 * k + 1) 10 l (column 10 n) rest (length_column n small) e in
      (ap (λ f. ok_or (number f) (flaw IllFormedField (10 * k + 2))) p.0 ∙ ap (λ o. ok_or o (flaw IllFormedField (10 * k + 2))) (number_column n small), p.1)

  name_there : (bs : List ℕ) → 44 ≤ length l → name_at l ≡ Ok bs → (named bs ≡ true) × (drop 31 l ≡ (32 ∷ justified 12 bs) ++ drop 44 l)
  name_there bs fits e =
      let p = justified_name (take 13 (drop 31 l)) bs (length_part 31 13 l fits) (ok_from_some _ _ _ e) in
      (p.0, part 31 13 l ∙ ap (λ f. f ++ drop 44 l) p.1)

  name_read : (bs rest : List ℕ) → named bs ≡ true → drop 31 l ≡ (32 ∷ justified 12 bs) ++ rest → (name_at l ≡ Ok bs) × (drop 44 l ≡ rest)
  name_read bs rest good e =
      let p = part_is 31 13 l (32 ∷ justified 12 bs) rest (length_name bs good) e in
      (ap (λ f. ok_or (name f) (flaw IllFormedField 32)) p.0 ∙ ap (λ o. ok_or o (flaw IllFormedField 32)) (name_justified bs good), p.1)

-- makes

make_there : (n : ℕ) (m : Make) → make_of n ≡ Ok m → n ≡ make_number m
make_there n Ring e = grind (arith, nat_tests)
make_there n Bostan e = grind (arith, nat_tests)

make_read : (m : Make) → make_of (make_number m) ≡ Ok m
make_read Ring = refl
make_read Bostan = refl

pub no_make : (n : ℕ) (c : Cause) → GivesMake n (Err c) → make_of n ≡ Err (flaw c 1)
no_make n c (e, none) = let one = none Ring in let two = none Bostan in grind (arith, nat_tests)

pub make_small : (m : Make) → make_number m < 10 ^ 10
make_small Ring = omega arith
make_small Bostan = omega arith

-- the row of an accepted line

abbrev Exactly : List ℕ → Row → Type 0
Exactly l x = Writable x × (l ≡ written x)

exactly : (l : List ℕ) (x y : Row) → ◌≡◌ {A = Result Row Flaw} (Ok x) (Ok y) → Exactly l x → Exactly l y
exactly l x y e h = let P : Row → Type 0 = Exactly l in let q : x ≡ y = cc in subst P q h

module _ (l : List ℕ) (x : Row) where
  starts : (c : ℕ) → 0 < length l → get_or l 0 0 ≡ c → l ≡ c ∷ drop 1 l
  starts c h e = drop_more l 0 0 h ∙ ap (λ b. b ∷ drop 1 l) e

  dependency_exact : get_or l 0 0 ≡ 68 → length l ≡ 12 → drop 11 l ≡ 10 ∷ [] → dependency_line l ≡ Ok x → Exactly l x
  dependency_exact c n f e =
      let (row, e0, z) = then_ok (number_at l 0) _ x e in
      let (h0, d0) = number_there l 0 row (omega arith) e0 in
      exactly l (dependency row) x z (h0, starts 68 (omega arith) c ∙ ap (λ t. 68 ∷ t) (d0 ∙ ap (λ t. column 10 row ++ t) f))

  demand_exact : get_or l 0 0 ≡ 77 → length l ≡ 22 → drop 21 l ≡ 10 ∷ [] → demand_line l ≡ Ok x → Exactly l x
  demand_exact c n f e =
      let (bank, e0, z0) = then_ok (number_at l 0) _ x e in
      let (count, e1, z) = then_ok (number_at l 1) _ x z0 in
      let (h0, d0) = number_there l 0 bank (omega arith) e0 in
      let (h1, d1) = number_there l 1 count (omega arith) e1 in
      exactly l (demand bank count) x z ((h0, h1), starts 77 (omega arith) c ∙ ap (λ t. 77 ∷ t) (d0 ∙ ap (λ t. column 10 bank ++ t) (d1 ∙ ap (λ t. column 10 count ++ t) f)))

  task_exact : get_or l 0 0 ≡ 84 → length l ≡ 45 → drop 44 l ≡ 10 ∷ [] → task_line l ≡ Ok x → Exactly l x
  task_exact c n f e =
      let (place, e0, z0) = then_ok (number_at l 0) _ x e in
      let (cycles, e1, z1) = then_ok (number_at l 1) _ x z0 in
      let (earliest, e2, z2) = then_ok (number_at l 2) _ x z1 in
      let (bs, e3, z) = then_ok (name_at l) _ x z2 in
      let (h0, d0) = number_there l 0 place (omega arith) e0 in
      let (h1, d1) = number_there l 1 cycles (omega arith) e1 in
      let (h2, d2) = number_there l 2 earliest (omega arith) e2 in
      let (h3, d3) = name_there l bs (omega arith) e3 in
      exactly l (task place cycles earliest bs) x z (
        (h0, h1, h2, h3),
        starts 84 (omega arith) c
            ∙ ap (λ t. 84 ∷ t) (d0 ∙ ap (λ t. column 10 place ++ t) (d1 ∙ ap (λ t. column 10 cycles ++ t) (d2 ∙ ap (λ t. column 10 earliest ++ t) (d3 ∙ ap (λ t. (32 ∷ justified 12 bs) ++ t) f)))),
      )

  head_exact : get_or l 0 0 ≡ 67 → length l ≡ 52 → drop 51 l ≡ 10 ∷ [] → head_line l ≡ Ok x → Exactly l x
  head_exact c n f e =
      let (make, e0, z0) = then_ok (number_at l 0) _ x e in
      let (places, e1, z1) = then_ok (number_at l 1) _ x z0 in
      let (banks, e2, z2) = then_ok (number_at l 2) _ x z1 in
      let (latency, e3, z3) = then_ok (number_at l 3) _ x z2 in
      let (period, e4, z4) = then_ok (number_at l 4) _ x z3 in
      let (m, e5, z) = then_ok (make_of make) _ x z4 in
      let (h0, d0) = number_there l 0 make (omega arith) e0 in
      let (h1, d1) = number_there l 1 places (omega arith) e1 in
      let (h2, d2) = number_there l 2 banks (omega arith) e2 in
      let (h3, d3) = number_there l 3 latency (omega arith) e3 in
      let (h4, d4) = number_there l 4 period (omega arith) e4 in
      exactly l (head m places banks latency period) x z (
        (h1, h2, h3, h4),
        starts 67 (omega arith) c
            ∙ ap (λ t. 67 ∷ t)
            (d0 ∙ (ap (λ k. column 10 k ++ drop 11 l) (make_there make m e5) ∙ ap (λ t. column 10 (make_number m) ++ t)
            (d1 ∙ ap (λ t. column 10 places ++ t) (d2 ∙ ap (λ t. column 10 banks ++ t) (d3 ∙ ap (λ t. column 10 latency ++ t) (d4 ∙ ap (λ t. column 10 period ++ t) f)))))),
      )

  -- a line of n bytes with the letter c, and the questions of the letters after it
  letter_exact : (n c : ℕ) (fields : List ℕ → Result Row Flaw) (others : Result Row Flaw) → 1 ≤ n → (get_or l 0 0 ≡ c → length l ≡ n → drop (n - 1) l ≡ 10 ∷ [] → fields l ≡ Ok x → Exactly l x) → (others ≡ Ok x → Exactly l x) → cond (eqb (get_or l 0 0) c) (then (sized n l) fields) others ≡ Ok x → Exactly l x
  letter_exact n c fields others h here there =
      cond_both (eqb (get_or l 0 0) c) (then (sized n l) fields) others (λ r. r ≡ Ok x → Exactly l x)
      (λ t e.
      let (m, s, z) = then_ok (sized n l) fields x e in
      let (q, k, f) = sized_ends n l m h s in
      here (eqb-true (get_or l 0 0) c t) k f (ap fields (sym q) ∙ z))
      (λ _ e. there e)

  pub line_exact : parsed l ≡ Ok x → Exactly l x
  line_exact =
      letter_exact 52 67 head_line _ (omega arith) head_exact
      (letter_exact 45 84 task_line _ (omega arith) task_exact
      (letter_exact 22 77 demand_line _ (omega arith) demand_exact
      (letter_exact 12 68 dependency_line _ (omega arith) dependency_exact
      (λ e. absurd (let z : ◌≡◌ {A = ℕ} 0 1 = cc in omega arith)))))

-- the line of a row

pub written_read : (x : Row) → Writable x → parsed (written x) ≡ Ok x
written_read (dependency row) h =
    let l = written (dependency row) in
    let (r0, d0) = number_read l 0 row (10 ∷ []) h refl in
    then_go _ _ l _ (ends_sized 12 l (omega arith) d0) (then_go _ _ row _ r0 refl)
written_read (demand bank count) h =
    let l = written (demand bank count) in
    let (r0, d0) = number_read l 0 bank _ h.0 refl in
    let (r1, d1) = number_read l 1 count _ h.1 d0 in
    then_go _ _ l _ (ends_sized 22 l (omega arith) d1) (then_go _ _ bank _ r0 (then_go _ _ count _ r1 refl))
written_read (task place cycles earliest bs) h =
    let l = written (task place cycles earliest bs) in
    let (r0, d0) = number_read l 0 place _ h.0 refl in
    let (r1, d1) = number_read l 1 cycles _ h.1 d0 in
    let (r2, d2) = number_read l 2 earliest _ h.2 d1 in
    let (r3, d3) = name_read l bs _ h.3 d2 in
    then_go _ _ l _ (ends_sized 45 l (omega arith) d3) (then_go _ _ place _ r0 (then_go _ _ cycles _ r1 (then_go _ _ earliest _ r2 (then_go _ _ bs _ r3 refl))))
written_read (head m places banks latency period) h =
    let l = written (head m places banks latency period) in
    let (r0, d0) = number_read l 0 (make_number m) _ (make_small m) refl in
    let (r1, d1) = number_read l 1 places _ h.0 d0 in
    let (r2, d2) = number_read l 2 banks _ h.1 d1 in
    let (r3, d3) = number_read l 3 latency _ h.2 d2 in
    let (r4, d4) = number_read l 4 period _ h.3 d3 in
    then_go _ _ l _ (ends_sized 52 l (omega arith) d4)
    (then_go _ _ (make_number m) _ r0 (then_go _ _ places _ r1 (then_go _ _ banks _ r2 (then_go _ _ latency _ r3 (then_go _ _ period _ r4 (then_go _ _ m _ (make_read m) refl))))))
