-- What is printed of a byte: two digits to the base 16, behind a space.
use Rattle.std.specs.Prelude.{ℕ, ◌/◌, ◌%◌, false, List, [], ◌∷◌}
use Rattle.std.specs.Fmt.{digit_glyph}

abbrev pub printed_byte : ℕ → List ℕ
printed_byte b = 32 ∷ digit_glyph false (b / 16) ∷ digit_glyph false (b % 16) ∷ []
