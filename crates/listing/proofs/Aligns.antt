-- The lengths of lines whose numbers and names fit their columns.
use Rattle.std.proofs.Common.{◌≡◌, ℕ, ◌+◌, ◌*◌, ◌^◌, ◌<◌, ◌≤◌, List, [], ◌∷◌, length, Some, None, decimal, Option, ap, ◌∙◌, arith, length-append}
use Rattle.std.specs.List.{AllByRecursion}
use Rattle.std.proofs.lemmas.Fmt.{length-decimal-le}
use Rattle.std.proofs.lemmas.List.{length-replicate}
use Rattle.listing.specs.Aligned.{Aligned, RowAligned}
use Rattle.listing.specs.Listing.{row_line, row_lines, rounds_line, late, fault}
use Rattle.listing.specs.Memory.{Measured}
use Rattle.listing.specs.declared.answer.Answer.TheVariants.{Late, Fault}
use Rattle.listing.specs.declared.answer.Row.{Row}

pub few_digits : (n : ℕ) → n < 10 ^ 10 → length (decimal n) ≤ 10
few_digits n h = length-decimal-le 10 n (omega arith) h (omega arith)

aligned_row : (row : ℕ) (r : Row) → row < 10 ^ 10 → RowAligned r → length (row_line row r) ≡ 55
aligned_row row r few a =
    let release = few_digits r.release (omega (arith, a.0)) in
    let response = few_digits r.response (omega (arith, a.0)) in
    let finish = few_digits (r.release + r.response) a.0 in
    simp (length-append, length-replicate) (omega (arith, few_digits row few, a.1))

pub aligned_rows : (row : ℕ) (rows : List Row) → row + length rows ≤ 10 ^ 10 → AllByRecursion RowAligned rows → length (row_lines row rows) ≡ 55 * length rows
aligned_rows row [] few a = omega arith
aligned_rows row (r ∷ rs) few a =
    let rest = aligned_rows (row + 1) rs (omega arith) a.1 in
    length-append (row_line row r) (row_lines (row + 1) rs) ∙ omega (arith, aligned_row row r (omega arith) a.0)

pub aligned_rounds : (rounds : ℕ) → rounds < 2 ^ 32 → length (rounds_line rounds) ≡ 12
aligned_rounds rounds small = simp (length-append, length-replicate) (omega (arith, few_digits rounds (omega arith)))

pub aligned_late : (row finish : ℕ) → Aligned (Late row finish) → length (late row finish) ≡ 28
aligned_late row finish a =
    let digits = length-decimal-le 16 finish (omega arith) a.1 (omega arith) in
    simp (length-append, length-replicate) (omega (arith, few_digits row a.0))

pub aligned_fault : (number line col : ℕ) → number < 2 ^ 32 → Aligned (Fault number line col) → length (fault number line col) ≡ 32
aligned_fault number line col small a =
    simp (length-append, length-replicate) (omega (arith, few_digits number (omega arith), few_digits line a.0, few_digits col a.1))

-- a length of at most 64 bits is answered
pub measured_fits : (o : Option ℕ) (n k : ℕ) → Measured o n → n ≡ k → k < 2 ^ 64 → o ≡ Some k
measured_fits None n k c e fits = absurd (c (omega arith))
measured_fits (Some m) n k c e fits = ap Some (c.1 ∙ e)
