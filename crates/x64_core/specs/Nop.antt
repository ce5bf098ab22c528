use Rattle.std.specs.Prelude.{ℕ, ◌==◌, if◌then◌else◌, None, ℤ, pos}
use Rattle.cax64_address.specs.declared.amode.Amode.{Amode}
use Rattle.cax64_address.specs.declared.amode.Amode.TheVariants.{ImmReg, ImmRegRegShift}
use Rattle.cax64_address.specs.declared.amode.Scale.TheVariants.{One}
use Rattle.cax64_encoder.specs.declared.role.PlaceOperand.{PlaceOperand}
use Rattle.cax64_encoder.specs.declared.role.PlaceOperand.TheVariants.{NoPlace, Memory}
use Rattle.cax64_machine_code.specs.declared.row.Row.{Row}
use Rattle.cax64_machine_code.specs.declared.row.Row.TheVariants.{nop_1b, nop_2b, nopl_rm, nopw_rm}
use Rattle.cax64_table.specs.Packed.{number_of}
use Rattle.x64_core.specs.View.{CoreView}

-- No-operations of one to nine bytes. From four bytes on memory has a displacement that isn't 0, since one of 0 would have no
-- byte: nothing is read there. (Intel SDM, volume 2, NOP.)

-- `displacement(%rax)`
abbrev pub at_rax : ℤ → Amode ℕ
at_rax displacement = ImmReg 0 (record { simm32 = displacement; offset = None }) None

-- `displacement(%rax,%rax)`
abbrev pub at_two_rax : ℤ → Amode ℕ
at_two_rax displacement = ImmRegRegShift 0 0 One displacement None

abbrev pub nop_with : Row → PlaceOperand ℕ → CoreView
nop_with row place = record { op = number_of row; reg = None; vvvv = None; place = place; imm = None }

-- the no-operation of so many bytes; of nine where there is none
abbrev pub nop_view : ℕ → CoreView
nop_view len =
    if len == 1 then nop_with nop_1b NoPlace
    else (if len == 2 then nop_with nop_2b NoPlace
    else (if len == 3 then nop_with nopl_rm (Memory (at_rax (pos 0)))
    else (if len == 4 then nop_with nopl_rm (Memory (at_rax (pos 1)))
    else (if len == 5 then nop_with nopl_rm (Memory (at_two_rax (pos 1)))
    else (if len == 6 then nop_with nopw_rm (Memory (at_two_rax (pos 1)))
    else (if len == 7 then nop_with nopl_rm (Memory (at_rax (pos 256)))
    else (if len == 8 then nop_with nopl_rm (Memory (at_two_rax (pos 256)))
    else nop_with nopw_rm (Memory (at_two_rax (pos 256))))))))))
