-- Texts of immediates.
use Rattle.std.specs.Prelude.{ℕ, nat_lt, Bool, true, false, List, ◌++◌, codes, ℤ}
use Rattle.std.specs.Fmt.{digits}
use Rattle.std.specs.Int.{cast_unsigned, w8, w16, w32, w64}
use Rattle.cax64_immediate.specs.declared.extension.Extension.{Extension}
use Rattle.cax64_immediate.specs.declared.extension.Extension.TheVariants.{None, SignExtendQuad, SignExtendLong, SignExtendWord}

-- `$0x` and the hexadecimal digits, in lower case and without leading zeros
abbrev pub imm_text : ℕ → List ℕ
imm_text n = codes "$0x" ++ digits 16 false n

-- an extension is none, or wider than an immediate of so many bits
abbrev pub fits_extension : ℕ → Extension → Bool
fits_extension bits None = true
fits_extension bits SignExtendQuad = nat_lt bits 64
fits_extension bits SignExtendLong = nat_lt bits 32
fits_extension bits SignExtendWord = nat_lt bits 16

-- The two's complement of a signed immediate, of its own width or of what it is extended to. What isn't wider than the
-- immediate extends nothing.
abbrev pub extended8 : Extension → ℤ → ℕ
extended8 None v = cast_unsigned w8 v
extended8 SignExtendQuad v = cast_unsigned w64 v
extended8 SignExtendLong v = cast_unsigned w32 v
extended8 SignExtendWord v = cast_unsigned w16 v

abbrev pub extended16 : Extension → ℤ → ℕ
extended16 None v = cast_unsigned w16 v
extended16 SignExtendQuad v = cast_unsigned w64 v
extended16 SignExtendLong v = cast_unsigned w32 v
extended16 SignExtendWord v = cast_unsigned w16 v

abbrev pub extended32 : Extension → ℤ → ℕ
extended32 None v = cast_unsigned w32 v
extended32 SignExtendQuad v = cast_unsigned w64 v
extended32 SignExtendLong v = cast_unsigned w32 v
extended32 SignExtendWord v = cast_unsigned w32 v
