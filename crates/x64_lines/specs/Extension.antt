use Rattle.std.specs.Prelude.{ℕ, Bool, true, Option, None, Some, slice_index_or}
use Rattle.x64_lines.specs.declared.extension.Extension.{Extension}
use Rattle.x64_lines.specs.declared.extension.Extension.TheVariants.{Sse, Sse2, Bmi1, Bmi2, Lzcnt, Popcnt, Avx, Cmpxchg16b}
use Rattle.x64_lines.specs.declared.extension.Extensions.{Extensions}
use Rattle.x64_lines.specs.declared.extension.TheConstants.{EXTENSIONS}

-- The extension that a line asks for.

abbrev pub extension_of : ℕ → Option Extension
extension_of number = slice_index_or EXTENSIONS number None

-- an extension is among these
abbrev pub has_extension : Extensions → Extension → Bool
has_extension these Sse = these.sse
has_extension these Sse2 = these.sse2
has_extension these Bmi1 = these.bmi1
has_extension these Bmi2 = these.bmi2
has_extension these Lzcnt = these.lzcnt
has_extension these Popcnt = these.popcnt
has_extension these Avx = these.avx
has_extension these Cmpxchg16b = these.cmpxchg16b

-- what is asked for is among them, if anything is
abbrev pub is_available_in : Extensions → Option Extension → Bool
is_available_in these None = true
is_available_in these (Some extension) = has_extension these extension
