-- The lines of a sheet: where the first one ends, and what a written line does to them. Assumes nothing.
use Rattle.std.proofs.Common.{◌≡◌, ℕ, zero, suc, ◌+◌, ◌^◌, ◌<◌, ◌≤◌, min, Bool, false, eqb, Some, None, Option, inl, inr, List, [], ◌∷◌, ◌++◌, length, get_or, take, drop, sym, refl, ap, ◌∙◌, subst, append_assoc, arith}
use Rattle.std.proofs.ByRecursion.{All-append}
use Rattle.std.proofs.lemmas.List.{append-nil, drop_all, drop_more, length-take-le, nil_from_length, take_all, take_at, take-append-drop, take_more}
use Rattle.std.proofs.lemmas.Bool.{cases_lt, cond-false, eqb-false, eqb-true, ne_eqb}
use Rattle.std.specs.Borrow.{Bor}
use Rattle.std.specs.List.{IsFirstMatchOrLen}
use Rattle.std.specs.Option.{MatchOption}
use Rattle.sheet.specs.Columns.{justified, column}
use Rattle.sheet.specs.Reading.{grown, lines}
use Rattle.sheet.specs.Rows.{Row, head, task, demand, dependency, make_number, written, Writable}
use Rattle.sheet.specs.Steps.{First}
use Rattle.sheet.proofs.Exact.{make_small}
use Rattle.sheet.proofs.Justified.{Unbroken, unbroken_column, unbroken_name}

-- bytes without a line feed, and then one

lines_grown : (b : ℕ) (bs : List ℕ) → (b ≡ 10 → ⊥) → lines (b ∷ bs) ≡ grown b (lines bs)
lines_grown b bs n = cond-false (eqb b 10) ((b ∷ []) ∷ lines bs) (grown b (lines bs)) (ne_eqb b 10 n)

lines_ended : (body rest : List ℕ) → Unbroken body → lines (body ++ (10 ∷ rest)) ≡ (body ++ (10 ∷ [])) ∷ lines rest
lines_ended [] rest h = refl
lines_ended (b ∷ bs) rest h = lines_grown b (bs ++ (10 ∷ rest)) h.0 ∙ ap (grown b) (lines_ended bs rest h.1)

lines_last : (body : List ℕ) → 0 < length body → Unbroken body → lines body ≡ body ∷ []
lines_last [] some h = absurd (omega arith)
lines_last (b ∷ []) some h = lines_grown b [] h.0
lines_last (b ∷ (c ∷ bs)) some h = lines_grown b (c ∷ bs) h.0 ∙ ap (grown b) (lines_last (c ∷ bs) (omega arith) h.1)

lines_found : (bs : List ℕ) (i : ℕ) → i < length bs → Unbroken (take i bs) → get_or bs i 0 ≡ 10 → lines bs ≡ take (i + 1) bs ∷ lines (drop (i + 1) bs)
lines_found bs i inside h e =
    let rest = drop (i + 1) bs in
    let s : bs ≡ take i bs ++ (10 ∷ rest) = sym (take-append-drop i bs) ∙ ap (λ r. take i bs ++ r) (drop_more bs i 0 inside ∙ ap (λ b. b ∷ rest) e) in
    let t : take (i + 1) bs ≡ take i bs ++ (10 ∷ []) = take_more bs i 0 inside ∙ ap (λ b. take i bs ++ (b ∷ [])) e in
    ap lines s ∙ (lines_ended (take i bs) rest h ∙ ap (λ l. l ∷ lines rest) (sym t))

-- the first line, cut off at its line feed or at the end

first_found : (bs l : List ℕ) (i : ℕ) → i < length bs → Unbroken (take i bs) → get_or bs i 0 ≡ 10 → l ≡ take (i + 1) bs → First bs l
first_found bs l i inside h e is =
    let n : length l ≡ i + 1 = ap length is ∙ length-take-le (i + 1) bs (omega arith) in
    record {
      cut = lines_found bs i inside h e ∙ (ap (λ k. k ∷ lines (drop (i + 1) bs)) (sym is) ∙ ap (λ k. l ∷ lines (drop k bs)) (sym n));
      whole = sym (take-append-drop (i + 1) bs) ∙ (ap (λ k. k ++ drop (i + 1) bs) (sym is) ∙ ap (λ k. l ++ drop k bs) (sym n));
      some = omega arith;
      inside = omega arith;
    }

first_last : (bs : List ℕ) (i : ℕ) → 0 < length bs → length bs ≤ i → Unbroken (take i bs) → First bs bs
first_last bs i some past h =
    let u : Unbroken bs = subst Unbroken (take_all i bs past) h in
    let none : drop (length bs) bs ≡ [] = drop_all (length bs) bs (omega arith) in
    record {
      cut = lines_last bs some u ∙ ap (λ r. bs ∷ lines r) (sym none);
      whole = sym (append-nil bs) ∙ ap (λ r. bs ++ r) (sym none);
      some = some;
      inside = omega arith;
    }

-- no byte before place i is a line feed
unbroken_before : (bs : List ℕ) (i : ℕ) → ((k : ℕ) → k < i → eqb (get_or bs k 0) 10 ≡ false) → i ≤ length bs → Unbroken (take i bs)
unbroken_before bs zero h le = tt
unbroken_before [] (suc i) h le = tt
unbroken_before (b ∷ bs) (suc i) h le = (eqb-false b 10 (h 0 (omega arith)), unbroken_before bs i (λ k l. h (suc k) (omega arith)) (omega arith))

-- the first part of a sheet that is cut behind each line feed
first_part : (bs l after : List ℕ) (i : ℕ) → bs ≡ l ++ after → length l ≡ min (i + 1) (length bs) → IsFirstMatchOrLen (λ b. eqb b 10) bs i → 0 < length bs → First bs l
first_part bs l after i whole size match some =
    let cut : l ≡ take (length l) bs = sym (ap (take (length l)) whole ∙ take_at l after (length l) refl) in
    elim (cases_lt i (length bs)) [
      | inl inside ↦
          let n : length l ≡ i + 1 = omega arith in
          first_found bs l i inside (unbroken_before bs i (λ k h. match.0 k 0 (omega arith) h) (omega arith)) (eqb-true (get_or bs i 0) 10 (match.1 inside 0)) (cut ∙ ap (λ k. take k bs) n)
      | inr past ↦
          let n : length l ≡ length bs = omega arith in
          let same : l ≡ bs = cut ∙ take_all (length l) bs (omega arith) in
          subst (First bs) (sym same) (first_last bs (length bs) some (omega arith) (unbroken_before bs (length bs) (λ k h. match.0 k 0 (omega arith) (omega arith)) (omega arith)))
    ]

-- what `split_inclusive` hands out first
pub first_parts : (bs rest after : List ℕ) (o : Option (Bor (List ℕ))) (same : Type 0) (computes stays : (ℕ → Bool) → Type 0) → rest ≡ bs → computes (λ b. eqb b 10) → MatchOption o ((length rest ≡ 0) × same) (λ x. (rest ≡ x.now ++ after) × ((i : ℕ) × (length x.now ≡ min (i + 1) (length rest)) × ((p : ℕ → Bool) → computes p → stays p × IsFirstMatchOrLen p rest i)) × (0 < length rest)) → MatchOption o (bs ≡ []) (λ l. First bs l.now)
first_parts bs rest after None same computes stays e by h = sym e ∙ nil_from_length rest h.0
first_parts bs rest after (Some l) same computes stays e by (whole, (i, size, match), some) =
    let P : List ℕ → Type 0 = λ r. First r l.now in
    subst P e (first_part rest l.now after i whole size (match (λ b. eqb b 10) by).1 some)

-- a written line ends with its one line feed

Ended : List ℕ → Type 0
Ended l = (body : List ℕ) × Unbroken body × (l ≡ body ++ (10 ∷ []))

line_feed : Ended (10 ∷ [])
unfolding Ended
line_feed = ([], tt, refl)

after : (field l : List ℕ) → Unbroken field → Ended l → Ended (field ++ l)
unfolding Ended
after field l h (body, u, e) =
    (field ++ body, All-append (λ b. b ≡ 10 → ⊥) field body h u, ap (λ r. field ++ r) e ∙ sym (append_assoc field body (10 ∷ [])))

letter : (c : ℕ) (l : List ℕ) → (c ≡ 10 → ⊥) → Ended l → Ended (c ∷ l)
letter c l h e = after (c ∷ []) l (h, tt) e

number : (n : ℕ) (l : List ℕ) → n < 10 ^ 10 → Ended l → Ended (column 10 n ++ l)
number n l h e = after (column 10 n) l (unbroken_column n h) e

written_ended : (x : Row) → Writable x → Ended (written x)
written_ended (dependency row) h = letter 68 _ (λ z. omega arith) (number row _ h line_feed)
written_ended (demand bank count) (h0, h1) = letter 77 _ (λ z. omega arith) (number bank _ h0 (number count _ h1 line_feed))
written_ended (task place cycles earliest bs) (h0, h1, h2, h3) =
    letter 84 _ (λ z. omega arith) (number place _ h0 (number cycles _ h1 (number earliest _ h2 (after (32 ∷ justified 12 bs) _ (unbroken_name bs h3) line_feed))))
written_ended (head m places banks latency period) (h1, h2, h3, h4) =
    letter 67 _ (λ z. omega arith)
    (number (make_number m) _ (make_small m) (number places _ h1 (number banks _ h2 (number latency _ h3 (number period _ h4 line_feed)))))

pub lines_written : (x : Row) (rest : List ℕ) → Writable x → lines (written x ++ rest) ≡ written x ∷ lines rest
unfolding Ended
lines_written x rest h =
    let (body, u, e) = written_ended x h in
    ap (λ l. lines (l ++ rest)) e ∙ (ap lines (append_assoc body (10 ∷ []) rest) ∙ (lines_ended body rest u ∙ ap (λ l. l ∷ lines rest) (sym e)))
