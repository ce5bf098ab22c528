use Rattle.std.proofs.Common.{◌≡◌, ◌≤◌, ◌*◌, ap, arith, ℕ, List, [], ◌∷◌, Option, Some, None, length, length-append}
use Rattle.std.specs.Prelude.{replicate}
use Rattle.std.proofs.lemmas.List.{length-replicate}
use Rattle.cax64_encoder.specs.Nop.{nop_bytes}
use Rattle.cax64_operand.specs.declared.nop.Nop.{Nop}
use Rattle.cax64_operand.specs.declared.nop.Nop.TheVariants.{One, Two, Three, Four, Five, Six, Seven, Eight, Nine}
use Rattle.x64_code_buffer.proofs.Padded.{nines_length, padding_none, padding_one}
use Rattle.x64_code_buffer.specs.Padding.{if_any, nops_bytes, padding}
use Rattle.x64_code_buffer.proofs.laws.padding_is_shortest.Goals as goal

one_to_nine : (nop : Nop) → (1 ≤ length (nop_bytes nop)) × (length (nop_bytes nop) ≤ 9)
one_to_nine One = (omega arith, omega arith)
one_to_nine Two = (omega arith, omega arith)
one_to_nine Three = (omega arith, omega arith)
one_to_nine Four = (omega arith, omega arith)
one_to_nine Five = (omega arith, omega arith)
one_to_nine Six = (omega arith, omega arith)
one_to_nine Seven = (omega arith, omega arith)
one_to_nine Eight = (omega arith, omega arith)
one_to_nine Nine = (omega arith, omega arith)

at_most_nine : (nops : List Nop) → length (nops_bytes nops) ≤ 9 * length nops
at_most_nine [] = omega arith
at_most_nine (nop ∷ nops) = omega (arith, at_most_nine nops, (one_to_nine nop).1, length-append (nop_bytes nop) (nops_bytes nops))

by_rest : (nines : ℕ) (rest : Option Nop) (other : List Nop) → length (nops_bytes other) ≡ length (nops_bytes (padding nines rest)) → length (padding nines rest) ≤ length other
by_rest nines None other same =
    omega (arith, same, ap length (padding_none nines), nines_length nines, at_most_nine other, length-append (replicate nines Nine) (if_any None), length-replicate nines Nine)
by_rest nines (Some nop) other same =
    omega (arith, same, ap length (padding_one nines nop), length-append (nops_bytes (replicate nines Nine)) (nop_bytes nop), nines_length nines, (one_to_nine nop).0, at_most_nine other, length-append (replicate nines Nine) (if_any (Some nop)), length-replicate nines Nine)

pub returns : goal.returns
returns c nines rest other short same = by_rest nines rest other same
