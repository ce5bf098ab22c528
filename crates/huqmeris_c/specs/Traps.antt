-- What assembled code tells of traps.
use Rattle.std.specs.Prelude.{ℕ, ◌+◌, Option, Some, None, List, [], ◌∷◌, ◌++◌}
use Rattle.cax64_address.specs.declared.amode.Amode.{Amode}
use Rattle.cax64_address.specs.declared.amode.Amode.TheVariants.{ImmReg, ImmRegRegShift, RipRelative}
use Rattle.cax64_encoder.specs.Notices.{trap_notice}
use Rattle.cax64_encoder.specs.Place.{memory_in}
use Rattle.cax64_machine_code.specs.ReadLine.{LineReading}
use Rattle.x64_plain.specs.declared.told.HqUse.{HqUse}
use Rattle.huqmeris_c.specs.Each.{uses_told}
use Rattle.x64_assemble.specs.declared.item.Item.{Item}
use Rattle.x64_assemble.specs.declared.item.Item.TheVariants as item
use Rattle.x64_core.specs.View.{core_view}
use Rattle.x64_core.specs.declared.instruction.Core.{Core}

-- the trap that a memory operand may raise, where its instruction begins after so many bytes
abbrev pub trap_told : Option (Amode ℕ) → ℕ → List HqUse
trap_told None at = []
trap_told (Some (ImmReg base simm32 trap)) at = uses_told (trap_notice trap at)
trap_told (Some (ImmRegRegShift base index scale simm32 trap)) at = uses_told (trap_notice trap at)
trap_told (Some (RipRelative goes_to)) at = []

-- the traps of a list that is read as these, of which the first begins after so many bytes
abbrev pub traps_told : List (Item Core) → ℕ → List LineReading → List HqUse
traps_told [] at readings = []
traps_told (item.Bind label ∷ items) at readings = traps_told items at readings
traps_told (item.Inst core ∷ items) at [] = []
traps_told (item.Inst core ∷ items) at (reading ∷ later) = trap_told (memory_in (core_view core).place) at ++ traps_told items (at + reading.length) later
traps_told (item.Jump jump label ∷ items) at [] = []
traps_told (item.Jump jump label ∷ items) at (reading ∷ later) = traps_told items (at + reading.length) later
