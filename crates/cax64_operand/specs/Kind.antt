use Rattle.std.specs.Prelude.{Bool, true, ◌&&◌, List, [], ◌∷◌}
use Rattle.cax64_operand.specs.Immediate.{imm_of, imm_in_range}
use Rattle.cax64_operand.specs.declared.immediate.Immediate.{Immediate}
use Rattle.cax64_operand.specs.declared.immediate.Immediate.TheVariants as immediate
use Rattle.cax64_operand.specs.declared.operand.Operand.{Operand}
use Rattle.cax64_operand.specs.declared.operand.Operand.TheVariants as operand
use Rattle.cax64_operand.specs.declared.kind.ImmediateKind.{ImmediateKind}
use Rattle.cax64_operand.specs.declared.kind.ImmediateKind.TheVariants.{Imm8, Imm16, Imm32, Simm8, Simm32, Distance8, Distance32, Predicate, VexPredicate}
use Rattle.cax64_operand.specs.declared.kind.OperandKind.{OperandKind}
use Rattle.cax64_operand.specs.declared.kind.OperandKind.TheVariants.{ReadGpr, ReadWriteGpr, WriteGpr, WriteTwoGprs, FixedReadGpr, FixedReadWriteGpr, ReadXmm, ReadWriteXmm, WriteXmm, ReadAmode, ReadGprMem, ReadWriteGprMem, ReadXmmMem, Imm}

-- the kind of an immediate: all but its value
abbrev pub kind_of_imm : Immediate → ImmediateKind
kind_of_imm (immediate.Imm8 v) = Imm8
kind_of_imm (immediate.Imm16 v) = Imm16
kind_of_imm (immediate.Imm32 v) = Imm32
kind_of_imm (immediate.Simm8 v extension) = Simm8 extension
kind_of_imm (immediate.Simm32 v extension) = Simm32 extension
kind_of_imm (immediate.Distance8 v) = Distance8
kind_of_imm (immediate.Distance32 v) = Distance32
kind_of_imm (immediate.Predicate v) = Predicate
kind_of_imm (immediate.VexPredicate v) = VexPredicate

-- the kind of an operand: all but its registers, its address or its value
abbrev pub kind_of : {R A B C D E F : Type 0} → Operand R A B C D E F → OperandKind
kind_of (operand.ReadGpr reg size) = ReadGpr size
kind_of (operand.ReadWriteGpr reg size) = ReadWriteGpr size
kind_of (operand.WriteGpr reg size) = WriteGpr size
kind_of (operand.WriteTwoGprs high low size) = WriteTwoGprs size
kind_of (operand.FixedReadGpr reg expected size) = FixedReadGpr expected size
kind_of (operand.FixedReadWriteGpr reg expected size) = FixedReadWriteGpr expected size
kind_of (operand.ReadXmm reg) = ReadXmm
kind_of (operand.ReadWriteXmm reg) = ReadWriteXmm
kind_of (operand.WriteXmm reg) = WriteXmm
kind_of (operand.ReadAmode amode) = ReadAmode
kind_of (operand.ReadGprMem place size) = ReadGprMem size
kind_of (operand.ReadWriteGprMem place size) = ReadWriteGprMem size
kind_of (operand.ReadXmmMem place) = ReadXmmMem
kind_of (operand.Imm imm) = Imm (kind_of_imm imm)

abbrev pub kinds_of : {R A B C D E F : Type 0} → List (Operand R A B C D E F) → List OperandKind
kinds_of [] = []
kinds_of (o ∷ later) = kind_of o ∷ kinds_of later

-- whether what an operand holds is within the range of its type; of a register or an address no type says more
abbrev pub is_in_range : {R A B C D E F : Type 0} → Operand R A B C D E F → Bool
is_in_range (operand.ReadGpr reg size) = true
is_in_range (operand.ReadWriteGpr reg size) = true
is_in_range (operand.WriteGpr reg size) = true
is_in_range (operand.WriteTwoGprs high low size) = true
is_in_range (operand.FixedReadGpr reg expected size) = true
is_in_range (operand.FixedReadWriteGpr reg expected size) = true
is_in_range (operand.ReadXmm reg) = true
is_in_range (operand.ReadWriteXmm reg) = true
is_in_range (operand.WriteXmm reg) = true
is_in_range (operand.ReadAmode amode) = true
is_in_range (operand.ReadGprMem place size) = true
is_in_range (operand.ReadWriteGprMem place size) = true
is_in_range (operand.ReadXmmMem place) = true
is_in_range (operand.Imm imm) = imm_in_range (imm_of imm)

-- whether each immediate is within the range of its type
abbrev pub imms_in_range : {R A B C D E F : Type 0} → List (Operand R A B C D E F) → Bool
imms_in_range [] = true
imms_in_range (o ∷ later) = is_in_range o && imms_in_range later
