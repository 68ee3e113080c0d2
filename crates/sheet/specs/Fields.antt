-- What stands in a field of a line: a number or a name, after leading spaces.
use Rattle.std.specs.Prelude.{ℕ, Bool, cond, not, ◌&&◌, ◌||◌, List, [], ◌∷◌, length, Some, None, Option, ◌==◌, nat_le, nat_lt, slice_index}
use Rattle.std.specs.Str.Parse.{digits_value}
use Rattle.std.specs.Int.{is_in_range}
use Rattle.std.specs.List.{list_all}
use Rattle.std.specs.Str.{all_ascii_digits}

-- what follows the leading spaces
abbrev pub unpadded : List ℕ → List ℕ
unpadded [] = []
unpadded (b ∷ bs) = cond (b == 32) (unpadded bs) (b ∷ bs)

-- one digit or more, and a first 0 only alone
abbrev pub numeral : List ℕ → Bool
numeral ds = nat_lt 0 (length ds) && (all_ascii_digits ds && (not (slice_index ds 0 == 48) || length ds == 1))

-- the number in a field, none if the field is ill formed
abbrev pub number : List ℕ → Option ℕ
number field = cond (numeral (unpadded field)) (Some (digits_value 10 (unpadded field))) None

-- every byte is from 33 to 126
abbrev pub visible : List ℕ → Bool
visible bs = list_all (is_in_range 33 126) bs

-- 1 to 12 bytes from 33 to 126
abbrev pub named : List ℕ → Bool
named bs = (nat_lt 0 (length bs) && nat_le (length bs) 12) && visible bs

-- the name in a field, none if the field is ill formed
abbrev pub name : List ℕ → Option (List ℕ)
name field = cond (named (unpadded field)) (Some (unpadded field)) None
