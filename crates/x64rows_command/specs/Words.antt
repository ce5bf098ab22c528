-- What a word of a command line writes.
use Rattle.std.specs.Prelude.{◌≡◌, ℕ, ℤ, List, pos, neg_ℤ, drop, if◌then◌else◌}
use Rattle.std.specs.Str.Parse.{IsNumeral, digits_value, starts_with_minus}

-- the word is decimal digits, one or more, that mean n
abbrev pub Writes : List ℕ → ℕ → Type 0
Writes word n = IsNumeral 10 word × (digits_value 10 word ≡ n)

abbrev pub without_minus : List ℕ → List ℕ
without_minus word = if starts_with_minus word then drop 1 word else word

abbrev pub signed_value : List ℕ → ℤ
signed_value word = if starts_with_minus word then neg_ℤ (pos (digits_value 10 (drop 1 word))) else pos (digits_value 10 word)

-- the word is a minus or none, and decimal digits, one or more, that mean d
abbrev pub WritesSigned : List ℕ → ℤ → Type 0
WritesSigned word d = IsNumeral 10 (without_minus word) × (signed_value word ≡ d)
