use Rattle.std.specs.Prelude.{ℕ, ◌==◌, true, false, if◌then◌else◌, Option, Some, None, option_and_then, option_map, List, [], ◌∷◌}
use Rattle.std.specs.Borrow.{Bor}
use Rattle.cax64_machine_code.specs.declared.line.Opcode.{Opcode}

-- what is read at the front, and what follows it
abbrev pub behind : {A : Type 0} → Option (A × Bor (List ℕ)) → Option (A × List ℕ)
behind found = option_map (λ r. (r.0, r.1.now)) found

abbrev pub next_byte : List ℕ → Option (ℕ × List ℕ)
next_byte [] = None
next_byte (byte ∷ bytes) = Some (byte, bytes)

abbrev pub escaped_opcode : ℕ → Opcode
escaped_opcode byte = record { escape = true; byte = byte }

abbrev pub plain_opcode : ℕ → Opcode
plain_opcode byte = record { escape = false; byte = byte }

-- the opcode at the front, and what follows it
abbrev pub front_opcode : List ℕ → Option (Opcode × List ℕ)
front_opcode bytes =
    option_and_then
    (λ first. if first.0 == 0x0F then option_map (λ second. (escaped_opcode second.0, second.1)) (next_byte first.1)
    else Some (plain_opcode first.0, first.1))
    (next_byte bytes)
