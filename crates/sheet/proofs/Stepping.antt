-- One line cut off a sheet: what it says, and what is left.
-- Assumes nothing.
use Rattle.std.proofs.Common.{◌≡◌, ℕ, ◌+◌, ◌-◌, ◌<◌, List, ◌++◌, length, take, drop, Ok, Result, sym, ap, ◌∙◌, subst, arith, length-drop}
use Rattle.std.proofs.lemmas.List.{drop-drop, take_all}
use Rattle.sheet.specs.declared.faults.Flaw.{Flaw}
use Rattle.sheet.specs.Laws.{Exact}
use Rattle.sheet.specs.Lines.{parsed}
use Rattle.sheet.specs.Reading.{answer_after, next_row}
use Rattle.sheet.specs.Rows.{Row, written}
use Rattle.sheet.specs.Steps.{First}
use Rattle.sheet.proofs.Exact.{line_exact}
use Rattle.sheet.proofs.Inverses.{exact}

-- l is the first line of the bytes from a place on
module _ (bs l : List ℕ) (at : ℕ) (first : First (take (length bs - at) (drop at bs)) l) where
  here : First (drop at bs) l
  here =
      let P : List ℕ → Type 0 = λ r. First r l in
      subst P (take_all (length bs - at) (drop at bs) (omega (arith, length-drop at bs))) first

  pub line_answer : (n : ℕ) (r : Result Row Flaw) → r ≡ parsed l → Exact (drop at bs) (answer_after n r)
  line_answer n r p = exact n (drop at bs) (answer_after n r) (ap (answer_after n) p ∙ ap (next_row n) (sym here.cut))

  pub line_passed : (x : Row) → Ok x ≡ parsed l → (drop at bs ≡ written x ++ drop (at + length l) bs) × (length (drop (at + length l) bs) < length (drop at bs))
  line_passed x p =
      let whole : drop at bs ≡ written x ++ drop (at + length l) bs =
      here.whole ∙ (ap (λ k. k ++ drop (length l) (drop at bs)) (line_exact l x (sym p)).1 ∙ ap (λ t. written x ++ t) (drop-drop (length l) at bs)) in
      let some = here.some in
      let size = here.inside in
      (whole, omega (arith, length-drop at bs, length-drop (at + length l) bs))
