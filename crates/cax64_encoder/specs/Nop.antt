use Rattle.std.specs.Prelude.{ℕ, Option, Some, None, pos, List, [], ◌∷◌}
use Rattle.cax64_machine_code.specs.Reading.{Parts}
use Rattle.cax64_machine_code.specs.declared.reading.Place.{Place}
use Rattle.cax64_machine_code.specs.declared.reading.Place.TheVariants.{Mem}
use Rattle.cax64_machine_code.specs.declared.row.Row.{Row}
use Rattle.cax64_operand.specs.declared.nop.Nop.{Nop}
use Rattle.cax64_operand.specs.declared.nop.Nop.TheVariants.{One, Two, Three, Four, Five, Six, Seven, Eight, Nine}

-- No-operations, of one to nine bytes. (Intel SDM, volume 2, `NOP`, table 4-12.)

abbrev pub nop_bytes : Nop → List ℕ
nop_bytes One = 0x90 ∷ []
nop_bytes Two = 0x66 ∷ 0x90 ∷ []
nop_bytes Three = 0x0F ∷ 0x1F ∷ 0x00 ∷ []
nop_bytes Four = 0x0F ∷ 0x1F ∷ 0x40 ∷ 0x00 ∷ []
nop_bytes Five = 0x0F ∷ 0x1F ∷ 0x44 ∷ 0x00 ∷ 0x00 ∷ []
nop_bytes Six = 0x66 ∷ 0x0F ∷ 0x1F ∷ 0x44 ∷ 0x00 ∷ 0x00 ∷ []
nop_bytes Seven = 0x0F ∷ 0x1F ∷ 0x80 ∷ 0x00 ∷ 0x00 ∷ 0x00 ∷ 0x00 ∷ []
nop_bytes Eight = 0x0F ∷ 0x1F ∷ 0x84 ∷ 0x00 ∷ 0x00 ∷ 0x00 ∷ 0x00 ∷ 0x00 ∷ []
nop_bytes Nine = 0x66 ∷ 0x0F ∷ 0x1F ∷ 0x84 ∷ 0x00 ∷ 0x00 ∷ 0x00 ∷ 0x00 ∷ 0x00 ∷ []

-- the place of number 0 alone, and that of number 0 plus number 0
abbrev pub rax_alone : Option Place
rax_alone = Some (Mem (Some 0) None (pos 0))

abbrev pub rax_twice : Option Place
rax_twice = Some (Mem (Some 0) (Some (0, 1)) (pos 0))

abbrev pub nop_place : Nop → Option Place
nop_place One = None
nop_place Two = None
nop_place Three = rax_alone
nop_place Four = rax_alone
nop_place Five = rax_twice
nop_place Six = rax_twice
nop_place Seven = rax_alone
nop_place Eight = rax_twice
nop_place Nine = rax_twice

abbrev pub nop_parts : Row → Nop → Parts
nop_parts row nop = record { row = row; reg = None; vvvv = None; place = nop_place nop; imm = None }
