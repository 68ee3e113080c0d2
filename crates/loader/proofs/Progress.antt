-- How far the loading of a sheet has come, line by line.
-- Assumes nothing.
use Rattle.std.proofs.Common.{◌≡◌, ℕ, ◌+◌, ◌<◌, ◌≤◌, List, [], ◌∷◌, ◌++◌, length, take, drop, Some, None, Ok, Err, Option, Result, sym, refl, ap, ◌∙◌, subst, ⊎_elim, arith, length-drop}
use Rattle.std.proofs.lemmas.List.{drop_more, flat_map_more, take_all, take_more}
use Rattle.std.proofs.lemmas.List.Sums.{fold_push}
use Rattle.std.specs.Result.{IsErrAnd, MatchResult}
use Rattle.plan.specs.Rows.{Plan}
use Rattle.plan.specs.declared.rows.Refusal.{Refusal}
use Rattle.sheet.specs.Lines.{parsed, then}
use Rattle.sheet.specs.Place.{Moved, count, remaining}
use Rattle.sheet.specs.Reading.{Reading, answer_after, continued, fault_after, next_row, next_view}
use Rattle.sheet.specs.Rows.{Row, dependency, row_of}
use Rattle.sheet.specs.declared.faults.Fault.{Fault}
use Rattle.sheet.specs.declared.lines.Line.{Line}
use Rattle.sheet.specs.declared.reader.Sheet.{Sheet}
use Rattle.loader.specs.declared.noting.Loaded.{Loaded}
use Rattle.loader.specs.Faults.{read_fault, row_fault}
use Rattle.loader.specs.Loading.{Entered, Loads, Noted, Notes, row_at, Stopped, Stops, refused, starved, unread}
use Rattle.loader.specs.Rows.{Grows, all_taken, make_after, name_in, taken}

-- k rows of the sheet are taken, and the rest is what remains to be read.
pub record Progress (old : Plan) (sheet : Reading) (k : ℕ) (rest : Reading) (l : Loaded) (new : Plan) : Type 0 where
  pub some : k ≤ length sheet.rows
  pub rows : rest.rows ≡ drop k sheet.rows
  pub fault : rest.fault ≡ sheet.fault
  pub taken : all_taken old (take k sheet.rows) ≡ Ok new
  pub noted : Noted l (take k sheet.rows)

-- a row more at the end of those that were taken
then_push : (xs : List Row) (t : Result Plan Refusal) (x : Row) (q r : Plan) → then t (λ p. all_taken p xs) ≡ Ok q → taken q x ≡ Ok r → then t (λ p. all_taken p (xs ++ x ∷ [])) ≡ Ok r
then_push xs (Err f) x q r e g = let z : ◌≡◌ {A = ℕ} 0 1 = cc in absurd (omega arith)
then_push [] (Ok p) x q r e g = let same : p ≡ q = cc in ap (λ z. then (taken z x) (λ y. Ok y)) same ∙ ap (λ t. then t (λ y. Ok y)) g
then_push (y ∷ ys) (Ok p) x q r e g = then_push ys (taken p y) x q r e g

noted_push : (l m : Loaded) (xs : List Row) (x : Row) → Noted l xs → Notes l x m → Noted m (xs ++ x ∷ [])
noted_push l m xs x old new = record {
  make = new.make ∙ ap (λ o. make_after o x) old.make ∙ sym (fold_push make_after None xs x);
  names = new.names ∙ ap (λ ns. ns ++ name_in x) old.names ∙ flat_map_more name_in [] xs x;
}

module _ {old : Plan} {sheet : Reading} {k : ℕ} {rest : Reading} {l : Loaded} {new : Plan} (at : Progress old sheet k rest l new) where
  -- the next row of what remains is row k
  upcoming : (x : Row) (after : Reading) → rest ≡ continued (Ok (Some x)) after → (k < length sheet.rows) × (row_at sheet.rows k ≡ x) × (after.rows ≡ drop (k + 1) sheet.rows)
  upcoming x after e =
      let whole : drop k sheet.rows ≡ x ∷ after.rows = sym at.rows ∙ ap (λ r. r.rows) e in
      let more : k < length sheet.rows = omega (arith, length-drop k sheet.rows, ap length whole) in
      let cut : drop k sheet.rows ≡ row_at sheet.rows k ∷ drop (k + 1) sheet.rows = drop_more sheet.rows k (dependency 0) more in
      (more, cc, cc)

  pub stepped : (x : Row) (after : Reading) (m : Loaded) (next : Plan) → rest ≡ continued (Ok (Some x)) after → taken new x ≡ Ok next → Notes l x m → Progress old sheet (k + 1) after m next
  stepped x after m next e t n =
      let up = upcoming x after e in
      let one : take (k + 1) sheet.rows ≡ take k sheet.rows ++ x ∷ [] = take_more sheet.rows k (dependency 0) up.0 ∙ ap (λ y. take k sheet.rows ++ y ∷ []) up.1 in
      record {
        some = omega (arith, up.0);
        rows = up.2;
        fault = sym (ap (λ r. r.fault) e) ∙ at.fault;
        taken = ap (all_taken old) one ∙ then_push (take k sheet.rows) (Ok old) x new next at.taken t;
        noted = subst (Noted m) (sym one) (noted_push l m (take k sheet.rows) x at.noted n);
      }

  pub stopped : (x : Row) (after : Reading) (f : Refusal) (next : Plan) → rest ≡ continued (Ok (Some x)) after → Entered new x (Err f) next → Stopped old sheet (row_fault (k + 1) f) next
  stopped x after f next e t =
      let up = upcoming x after e in
      record {
        good = k;
        rows = at.taken ∙ ap Ok (sym t.0);
        why = ⊎_elim
            (λ r. refused f up.0 (ap (λ y. taken next y) up.1 ∙ ap (λ p. taken p x) t.0 ∙ r))
            (λ m. subst (λ g. Stops sheet k next (row_fault (k + 1) g)) (sym m.0) (starved up.0 (subst Grows (sym up.1) m.1)))
            t.1;
      }

  pub unreadable : (e : Fault) (after : Reading) → rest ≡ continued (Err e) after → e.line ≡ k + 1 → Stopped old sheet (read_fault e) new
  unreadable e after h line =
      let none : drop k sheet.rows ≡ [] = sym at.rows ∙ ap (λ r. r.rows) h in
      record {
        good = k;
        rows = at.taken;
        why = unread e (sym at.fault ∙ ap (λ r. r.fault) h) (omega (arith, length-drop k sheet.rows, ap length none, at.some)) line;
      }

  pub finished : (after : Reading) → rest ≡ continued (Ok None) after → Loads old sheet (Ok l) new
  finished after h =
      let none : drop k sheet.rows ≡ [] = sym at.rows ∙ ap (λ r. r.rows) h in
      let all : take k sheet.rows ≡ sheet.rows = take_all k sheet.rows (omega (arith, length-drop k sheet.rows, ap length none)) in (
        sym at.fault ∙ ap (λ r. r.fault) h,
        ap (all_taken old) (sym all) ∙ at.taken,
        subst (Noted l) all at.noted,
      )

-- the line that a sheet hands out, and what remains
pub handed_out : (s t : Sheet) (o : Option Line) (x : Line) → o ≡ Some x → Moved s (Ok o) t → remaining s ≡ continued (next_view (Ok o)) (remaining t) → (count t ≡ count s + 1) × (remaining s ≡ continued (Ok (Some (row_of x))) (remaining t))
handed_out s t o x e m r =
    let moved = subst (λ p. Moved s (Ok p) t) e m in
    (moved.1, r ∙ ap (λ p. continued (next_view (Ok p)) (remaining t)) e)

-- what a result says of the one before its error was mapped
abbrev Mapped : {T E D : Type 0} → (E → D → Type 0) → Result T E → Result T D → Type 0
Mapped post r m = MatchResult r (λ y. m ≡ Ok y) (λ e. IsErrAnd m (post e))

pub unmapped_ok : {T E D : Type 0} (post : E → D → Type 0) (r : Result T E) (m : Result T D) (x : T) → Mapped post r m → m ≡ Ok x → r ≡ Ok x
unmapped_ok post (Ok y) m x h e = let same : y ≡ x = cc in ap Ok same
unmapped_ok post (Err f) m x h e = absurd (let Q : Result _ _ → Type 0 = λ s. IsErrAnd s (post f) in subst Q e h)

pub unmapped_err : {T E D : Type 0} (post : E → D → Type 0) (r : Result T E) (m : Result T D) (d : D) → Mapped post r m → m ≡ Err d → (e : E) × (r ≡ Err e) × post e d
unmapped_err post (Ok y) m d h e = absurd (let z : ◌≡◌ {A = ℕ} 0 1 = cc in omega arith)
unmapped_err post (Err f) m d h e = (f, refl, let Q : Result _ _ → Type 0 = λ s. IsErrAnd s (post f) in subst Q e h)

-- the fault of the next line has the next line's number
pub line_number : (n : ℕ) (ls : List (List ℕ)) (e : Fault) → next_row n ls ≡ Err e → e.line ≡ n + 1
line_number n [] e h = let z : ◌≡◌ {A = ℕ} 0 1 = cc in absurd (omega arith)
line_number n (l ∷ ls) e h =
    (elim (parsed l) as (λ r. answer_after n r ≡ Err e → e.line ≡ n + 1) [
      | Ok x ↦ λ g. let z : ◌≡◌ {A = ℕ} 0 1 = cc in absurd (omega arith)
      | Err f ↦ λ g. let same : fault_after n f ≡ e = cc in sym (ap (λ x. x.line) same)
    ])
    h
