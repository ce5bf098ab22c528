-- Hexadecimal digits in a fixed number, with leading zeros.
use Rattle.std.specs.Prelude.{ℕ, ◌/◌, ◌%◌, false, List, [], ◌∷◌, ◌++◌}
use Rattle.std.specs.Fmt.{digit_glyph}

abbrev pub two_digits : ℕ → List ℕ
two_digits n = digit_glyph false (n / 16) ∷ digit_glyph false (n % 16) ∷ []

abbrev pub four_digits : ℕ → List ℕ
four_digits n = two_digits (n / 256) ++ two_digits (n % 256)

abbrev pub eight_digits : ℕ → List ℕ
eight_digits n = four_digits (n / 65536) ++ four_digits (n % 65536)
