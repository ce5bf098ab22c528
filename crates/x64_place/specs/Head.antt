use Rattle.std.specs.Prelude.{ℕ, ◌/◌, ◌%◌, ◌==◌, Bool, ◌&&◌, ◌||◌, if◌then◌else◌, Option, Some, None, List, ◌++◌}
use Rattle.std.specs.Int.{from_bool}
use Rattle.cax64_machine_code.specs.Len.{is_w1}
use Rattle.cax64_machine_code.specs.Line.{opcode_bytes}
use Rattle.cax64_machine_code.specs.Prefix.{Rex}
use Rattle.cax64_machine_code.specs.declared.line.Line.{Line}
use Rattle.cax64_prefix.specs.Rex.{rex_bytes}
use Rattle.cax64_table.specs.Numbers.{has_8bit, legacy_bytes_of}

-- What stands in front of the tail in a line without VEX, by four bits: R, whether a register that may be one of 8 bits has a
-- number of 4 to 7, X and B.

abbrev pub bit_at : ℕ → ℕ → Bool
bit_at bits unit = bits / unit % 2 == 1

abbrev pub rex_when : Bool → Bool → Bool → Bool → Bool → Bool → Option Rex
rex_when w uses_8bit r special x b = if w || (r || ((x || b) || (uses_8bit && special))) then Some (record { w = from_bool w; r = from_bool r; x = from_bool x; b = from_bool b }) else None

abbrev pub rex_for : Line → ℕ → Option Rex
rex_for line bits = rex_when (is_w1 line.w) (has_8bit line.tail) (bit_at bits 8) (bit_at bits 4) (bit_at bits 2) (bit_at bits 1)

abbrev pub head_of : Line → ℕ → List ℕ
head_of line bits = legacy_bytes_of line.prefix ++ (rex_bytes (rex_for line bits) ++ opcode_bytes line.opcode)
