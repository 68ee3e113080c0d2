-- Dates and names joined row by row.
-- Assumes nothing.
use Rattle.std.proofs.Common.{◌≡◌, ℕ, List, map, length, sym, ap, ◌∙◌, Bor}
use Rattle.std.specs.Prelude.{zip}
use Rattle.std.proofs.lemmas.Simd.{map-map}
use Rattle.std.proofs.lemmas.Slice.Zip.{firsts-zip, seconds-zip}
use Rattle.date_check.specs.declared.dates.Dates.{Dates}
use Rattle.answering.specs.Listings.{RowsOf}
use Rattle.answering.specs.Rows.{named_row}

pub rows_joined : (dates : List Dates) (names : List (Bor (List ℕ))) → length names ≡ length dates
    → RowsOf dates (map (λ n. n.now) names) (map named_row (zip dates names))
rows_joined dates names same =
    let pairs = zip dates names in
    record {
      releases = map-map (λ r. r.release) named_row pairs ∙ sym (map-map (λ d. d.release) (λ (p : Dates × Bor (List ℕ)). p.0) pairs) ∙ ap (map (λ d. d.release)) (firsts-zip dates names same);
      responses = map-map (λ r. r.response) named_row pairs ∙ sym (map-map (λ d. d.response) (λ (p : Dates × Bor (List ℕ)). p.0) pairs) ∙ ap (map (λ d. d.response)) (firsts-zip dates names same);
      named = map-map (λ r. r.name.now) named_row pairs ∙ sym (map-map (λ n. n.now) (λ (p : Dates × Bor (List ℕ)). p.1) pairs) ∙ ap (map (λ n. n.now)) (seconds-zip dates names same);
    }
