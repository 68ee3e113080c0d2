use Rattle.std.proofs.Common.{◌≡◌, ◌++◌, ◌∙◌, ap, IfSome, take, ℕ, List, [], Option, Some, None}
use Rattle.std.specs.Option.{option_map}
use Rattle.request.proofs.reading.read_sheet.Goals as goal

-- What is read up to a limit is the start of what there is.
limited : (known : Option (List ℕ)) (limit : ℕ) (start read : List ℕ) → start ≡ [] → IfSome (option_map (take limit) known) (λ bytes. read ≡ start ++ bytes) → IfSome known (λ bytes. read ≡ take limit bytes)
limited None limit start read empty h = tt
limited (Some bytes) limit start read empty h = h ∙ ap (λ (s : List ℕ). s ++ take limit bytes) empty

pub returns : goal.returns
returns g c = simp (c.take.ensures.inner, c.take.ensures.limit) at (limited _ _ _ _ c.new-sheet.ensures.items c.in_ok-read_to_end.ensures.bytes)
