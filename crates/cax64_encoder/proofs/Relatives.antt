use Rattle.std.proofs.Common.{◌≡◌, ℕ, Bool, true, refl, ap, sym, Option, Some, None, ℤ, pos, ◌-ℤ◌}
use Rattle.std.specs.Prelude.{◌&&◌, MatchOption}
use Rattle.cax64_address.specs.Address.{displaced_place}
use Rattle.cax64_address.specs.declared.amode.Amode.{Amode}
use Rattle.cax64_address.specs.declared.amode.Amode.TheVariants.{ImmReg, ImmRegRegShift, RipRelative}
use Rattle.cax64_machine_code.specs.Line.{imm_bytes}
use Rattle.cax64_machine_code.specs.Rows.{line_of}
use Rattle.cax64_machine_code.specs.declared.line.ImmField.{ImmField}
use Rattle.cax64_machine_code.specs.declared.row.Row.{Row}
use Rattle.cax64_operand.specs.Family.{Family}
use Rattle.cax64_operand.specs.Immediate.{imm_size}
use Rattle.cax64_operand.specs.OperandList.{list_of, nop_of}
use Rattle.cax64_operand.specs.Shape as shape
use Rattle.cax64_operand.specs.Shape.{imm_fits, imm_has_size, takes, tail_takes, vvvv_takes, register_count, rest_of}
use Rattle.cax64_operand.specs.Signature.{HasSignature}
use Rattle.cax64_operand.specs.declared.nop.Nop.{Nop}
use Rattle.cax64_operand.specs.declared.nop.Nop.TheVariants as nop
use Rattle.cax64_operand.specs.declared.operand.Operands.{Operands}
use Rattle.cax64_operand.proofs.Shapes.{has_shape}
use Rattle.cax64_encoder.specs.Meant.{imm_in, place_in, operands_meant, nop_or, meant_of}
use Rattle.cax64_encoder.specs.Nop.{nop_place}
use Rattle.cax64_encoder.specs.Place.{memory_in, displacement_in, place_read}
use Rattle.cax64_encoder.specs.Relative.{relative_in, unsettled, ReadsRelative}
use Rattle.cax64_encoder.specs.Role.{roles_of}
use Rattle.cax64_encoder.specs.declared.role.PlaceOperand.{PlaceOperand}
use Rattle.cax64_encoder.specs.declared.role.PlaceOperand.TheVariants.{NoPlace, Register, Memory}
use Rattle.cax64_encoder.proofs.Encodes.{imm_same}
use Rattle.cax64_encoder.proofs.Forms.{imm_is}

-- A relative operand is read as a relative place, and no other is.

both_true : (a b : Bool) → a && b ≡ true → (a ≡ true) × (b ≡ true)
both_true true b h = (refl, h)
both_true _ b h = cc

memory_relative : {M : Type 0} (enc : M → ℕ) (disp : ℤ) (at_end : ℕ) (field : ImmField) (amode : Amode M) → at_end ≡ imm_bytes field → relative_in (Some (displaced_place enc disp at_end amode)) ≡ unsettled (Some amode) field
memory_relative enc disp at_end field (ImmReg base simm32 trap) e = refl
memory_relative enc disp at_end field (ImmRegRegShift base index scale simm32 trap) e = refl
memory_relative enc disp at_end field (RipRelative target) e = ap (λ (n : ℕ). Some (pos 0 -ℤ pos n)) e

place_relative : {M : Type 0} (enc : M → ℕ) (disp : ℤ) (at_end : ℕ) (field : ImmField) (place : PlaceOperand M) → at_end ≡ imm_bytes field → relative_in (place_read enc disp at_end place) ≡ unsettled (memory_in place) field
place_relative enc disp at_end field NoPlace e = refl
place_relative enc disp at_end field (Register number) e = refl
place_relative enc disp at_end field (Memory amode) e = memory_relative enc disp at_end field amode e

nop_relative : (n : Nop) → relative_in (nop_place n) ≡ None
nop_relative nop.One = refl
nop_relative _ = refl

by_nop : {R A B C D E F : Type 0} (f : Family A B C D E F) (row : Row) (operands : Operands R A B C D E F) (offsets : ℕ → Option ℤ) (o : Option Nop) → MatchOption o (takes (line_of row) (list_of operands) ≡ true) (λ n. Unit {0})
    → ReadsRelative (nop_or row o (operands_meant f.read_gpr row (roles_of f (list_of operands)) offsets))
by_nop f row operands offsets None h =
    let line = line_of row in
    let list = list_of operands in
    let first = both_true (tail_takes line.tail (register_count list) (rest_of list)) _ h in
    let second = both_true (vvvv_takes line.prefix (register_count list)) (imm_fits line.imm (shape.imm_in list)) first.1 in
    let roles = roles_of f list in
    let fits : imm_fits line.imm (imm_in roles) ≡ true = rw (imm_is f list) second.1 in
    place_relative f.read_gpr.enc (displacement_in offsets (place_in roles)) (imm_size (imm_in roles)) line.imm (place_in roles) (sym (imm_same line.imm (imm_in roles) fits))
by_nop f row operands offsets (Some n) h = nop_relative n

shape_or_nop : {R A B C D E F : Type 0} (row : Row) (operands : Operands R A B C D E F) (o : Option Nop) (P : Nop → Type 0) → MatchOption o (takes (line_of row) (list_of operands) ≡ true) P → MatchOption o (takes (line_of row) (list_of operands) ≡ true) (λ n. Unit {0})
shape_or_nop row operands None P h = h
shape_or_nop row operands (Some n) P h = tt

pub meant_relative : {R A B C D E F : Type 0} (f : Family A B C D E F) (row : Row) (operands : Operands R A B C D E F) (offsets : ℕ → Option ℤ) → HasSignature row operands → ReadsRelative (meant_of f row operands offsets)
meant_relative f row operands offsets h = by_nop f row operands offsets (nop_of operands) (shape_or_nop row operands (nop_of operands) _ (has_shape row operands h))
