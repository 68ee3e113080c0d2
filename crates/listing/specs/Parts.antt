-- The text of the parts of a line.
use Rattle.std.specs.Prelude.{ℕ, List, [], ◌∷◌, flat_map}
use Rattle.sheet.specs.Columns.{column, justified}
use Rattle.listing.specs.declared.parts.Part.{Part}
use Rattle.listing.specs.declared.parts.Part.TheVariants.{Byte, Text, Number}

abbrev pub text_of : Part → List ℕ
text_of (Byte b) = b ∷ []
text_of (Text width text) = justified width text.now
text_of (Number width n) = column width n

-- the parts of a line one behind the other
abbrev pub text_of_all : List Part → List ℕ
text_of_all parts = flat_map text_of parts
