use Rattle.std.specs.Prelude.{◌≡◌, ℕ, ◌+◌, ◌*◌, ◌/◌, ◌%◌, ◌==◌, ◌&&◌, ◌||◌, not, true, if◌then◌else◌, Option, Some, None}
use Rattle.std.specs.Int.{from_bool}
use Rattle.cax64_machine_code.specs.declared.line.LegacySet.{LegacySet}

-- A set of legacy prefixes as a number: F0, 66, F2 and F3 from bit 0 up.

abbrev pub set_number : LegacySet → ℕ
set_number set = from_bool set.lock + 2 * from_bool set.operand_size + 4 * from_bool set.repne + 8 * from_bool set.rep

-- the set of a number
unfoldable pub set_of : ℕ → LegacySet
set_of number = record { lock = number % 2 == 1; operand_size = number / 2 % 2 == 1; repne = number / 4 % 2 == 1; rep = number / 8 % 2 == 1 }

-- the number is that of a set
pub record IsSet (number : ℕ) : Type 0 where
  pub same : number ≡ set_number (set_of number)

-- the set with one more prefix, where this byte is one that may still come
abbrev pub added : LegacySet → ℕ → Option LegacySet
added seen byte =
    if (byte == 0xF0) && not seen.lock then Some (record seen { lock = true })
    else (if (byte == 0x66) && not seen.operand_size then Some (record seen { operand_size = true })
    else (if (byte == 0xF2) && not (seen.repne || seen.rep) then Some (record seen { repne = true })
    else (if (byte == 0xF3) && not (seen.repne || seen.rep) then Some (record seen { rep = true })
    else None)))
