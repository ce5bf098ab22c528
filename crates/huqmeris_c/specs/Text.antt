use Rattle.std.specs.Prelude.{◌≡◌, ◌≤◌, ◌<◌, ◌++◌, ◌⊎◌, ℕ, ℤ, true, false, Option, Some, None, List, [], codes, drop, length}
use Rattle.x64_plain.specs.declared.status.TheConstants.{HQ_FULL, HQ_OK}
use Rattle.huqmeris_c.specs.declared.status.TheConstants.{HQ_NO_MEMORY, HQ_NO_NAME}
use Rattle.x64_core.specs.View.{CoreView}
use Rattle.x64_lines.specs.declared.extension.Extension.{Extension}
use Rattle.x64_lines.specs.declared.extension.Extension.TheVariants as extension
use Rattle.x64_text.specs.Text.{nameable, text}

-- Texts that are handed out.

-- These bytes stand at the front, where there is room for them, and behind them all is as before; how many they are is told.
pub record HandedOut (bytes old new : List ℕ) (len : ℕ) (status : ℤ) : Type 0 where
  pub told : len ≡ length bytes
  pub fits : length bytes ≤ length old → (status ≡ HQ_OK) × (new ≡ bytes ++ drop (length bytes) old)
  pub full : length old < length bytes → (status ≡ HQ_FULL) × (new ≡ old)

-- An instruction's text is, where each of its registers has a name, if there was memory.
pub record FormattedAs (v : CoreView) (old new : List ℕ) (len len' : ℕ) (status : ℤ) : Type 0 where
  pub nameless : nameable v ≡ false → (status ≡ HQ_NO_NAME) × (new ≡ old) × (len' ≡ len)
  pub named : nameable v ≡ true → ((status ≡ HQ_NO_MEMORY) × (new ≡ old) × (len' ≡ len)) ⊎ HandedOut (text v) old new len' status

-- the name of an extension, as processors list it
abbrev pub extension_name : Option Extension → List ℕ
extension_name None = []
extension_name (Some extension.Sse) = codes "sse"
extension_name (Some extension.Sse2) = codes "sse2"
extension_name (Some extension.Bmi1) = codes "bmi1"
extension_name (Some extension.Bmi2) = codes "bmi2"
extension_name (Some extension.Lzcnt) = codes "lzcnt"
extension_name (Some extension.Popcnt) = codes "popcnt"
extension_name (Some extension.Avx) = codes "avx"
extension_name (Some extension.Cmpxchg16b) = codes "cmpxchg16b"
