-- Reading and writing are inverse, by lines and by whole sheets. Assumes nothing.
use Rattle.std.proofs.Common.{◌≡◌, ℕ, ◌+◌, eqb, List, [], ◌∷◌, ◌++◌, Some, None, Ok, Err, Option, Result, sym, refl, ap, ◌∙◌, subst, arith}
use Rattle.std.proofs.lemmas.Bool.{cond_both}
use Rattle.std.specs.List.{flat_map, AllByRecursion}
use Rattle.sheet.specs.declared.faults.Fault.{Fault}
use Rattle.sheet.specs.declared.faults.Flaw.{Flaw}
use Rattle.sheet.specs.Laws.{Begins, Exact, Inverse}
use Rattle.sheet.specs.Lines.{parsed}
use Rattle.sheet.specs.Reading.{Reading, grown, lines, reading, continued, next_row, answer_after}
use Rattle.sheet.specs.Rows.{Row, written, Writable}
use Rattle.sheet.proofs.Exact.{line_exact, written_read}
use Rattle.sheet.proofs.Splits.{lines_written}

-- the lines of a sheet, one after another, are the sheet

joined_grown : (b : ℕ) (ls : List (List ℕ)) → flat_map (λ l. l) (grown b ls) ≡ b ∷ flat_map (λ l. l) ls
joined_grown b [] = refl
joined_grown b (l ∷ ls) = refl

joined_lines : (bs : List ℕ) → flat_map (λ l. l) (lines bs) ≡ bs
joined_lines [] = refl
joined_lines (b ∷ bs) =
    cond_both (eqb b 10) ((b ∷ []) ∷ lines bs) (grown b (lines bs)) (λ ls. flat_map (λ l. l) ls ≡ b ∷ bs)
    (λ _. ap (λ r. b ∷ r) (joined_lines bs))
    (λ _. joined_grown b (lines bs) ∙ ap (λ r. b ∷ r) (joined_lines bs))

-- rows that are read without a fault

Faultless : List (List ℕ) → Reading → Type 0
Faultless ls r = r.fault ≡ None → AllByRecursion Writable r.rows × (flat_map (λ l. l) ls ≡ flat_map written r.rows)

faultless_line : (n : ℕ) (l : List ℕ) (ls : List (List ℕ)) (rest : Reading) → Faultless ls rest → (r : Result Row Flaw) → parsed l ≡ r → Faultless (l ∷ ls) (continued (answer_after n r) rest)
unfolding Faultless
faultless_line n l ls rest h (Ok x) e none =
    let (w, f) = line_exact l x e in
    let (ws, g) = h none in
    ((w, ws), ap (λ k. k ++ flat_map (λ m. m) ls) f ∙ ap (λ r. written x ++ r) g)
faultless_line n l ls rest h (Err f) e none = absurd (let z : ◌≡◌ {A = ℕ} 0 1 = cc in omega arith)

faultless : (n : ℕ) (ls : List (List ℕ)) → Faultless ls (reading n ls)
unfolding Faultless
faultless n [] none = (tt, refl)
faultless n (l ∷ ls) none = faultless_line n l ls (reading (n + 1) ls) (faultless (n + 1) ls) (parsed l) refl none

written_sheet : (n : ℕ) (xs : List Row) → AllByRecursion Writable xs → reading n (lines (flat_map written xs)) ≡ record { rows = xs; fault = None }
written_sheet n [] h = refl
written_sheet n (x ∷ xs) (w, ws) =
    ap (reading n) (lines_written x (flat_map written xs) w)
    ∙ (ap (λ r. continued (answer_after n r) (reading (n + 1) (lines (flat_map written xs)))) (written_read x w)
    ∙ ap (continued (Ok (Some x))) (written_sheet (n + 1) xs ws))

row_answered : (n : ℕ) (r : Result Row Flaw) (x : Row) → answer_after n r ≡ Ok (Some x) → r ≡ Ok x
row_answered n (Ok y) x e = cc
row_answered n (Err f) x e = absurd (let z : ◌≡◌ {A = ℕ} 0 1 = cc in omega arith)

read_sheet : (bs : List ℕ) (xs : List Row) → reading 0 (lines bs) ≡ record { rows = xs; fault = None } → AllByRecursion Writable xs × (bs ≡ flat_map written xs)
unfolding Faultless
read_sheet bs xs e =
    let (w, f) = faultless 0 (lines bs) (ap (λ r. r.fault) e) in
    let P : List Row → Type 0 = λ ys. AllByRecursion Writable ys × (bs ≡ flat_map written ys) in
    subst P (ap (λ r. r.rows) e) (w, sym (joined_lines bs) ∙ f)

same_row : (x y : Row) → ◌≡◌ {A = Result Row Flaw} (Ok x) (Ok y) → x ≡ y
same_row x y e = cc

-- the next row, and a line that the bytes begin with

next_exact : (n : ℕ) (ls : List (List ℕ)) (x : Row) → next_row n ls ≡ Ok (Some x) → Writable x × Begins (flat_map (λ l. l) ls) x
next_exact n [] x e = absurd (let z : ◌≡◌ {A = ℕ} 0 1 = cc in omega arith)
next_exact n (l ∷ ls) x e =
    let (w, f) = line_exact l x (row_answered n (parsed l) x e) in
    (w, (flat_map (λ m. m) ls, ap (λ k. k ++ flat_map (λ m. m) ls) f))

begins_next : (n : ℕ) (bs : List ℕ) (x : Row) → Writable x → Begins bs x → next_row n (lines bs) ≡ Ok (Some x)
begins_next n bs x w (rest, e) = ap (λ t. next_row n (lines t)) e ∙ (ap (next_row n) (lines_written x rest w) ∙ ap (answer_after n) (written_read x w))

pub exact : (n : ℕ) (bs : List ℕ) (a : Result (Option Row) Fault) → a ≡ next_row n (lines bs) → Exact bs a
exact n bs a e x = (
  λ f. let P : List ℕ → Type 0 = λ t. Writable x × Begins t x in subst P (joined_lines bs) (next_exact n (lines bs) x (sym e ∙ f)),
  λ h. e ∙ begins_next n bs x h.0 h.1,
)

pub inverse : Inverse
inverse =
    record {
      line = λ l x. (line_exact l x, λ h. ap parsed h.1 ∙ written_read x h.0);
      distinct = λ x y w v e. same_row x y (sym (written_read x w) ∙ (ap parsed e ∙ written_read y v));
      sheet = λ bs xs. (read_sheet bs xs, λ h. ap (λ t. reading 0 (lines t)) h.1 ∙ written_sheet 0 xs h.0);
    }
