use Rattle.cax64_machine_code.specs.declared.line.Line.{Line}
use Rattle.cax64_table.specs.Packed.{unpacked}
use Rattle.cax64_table.specs.declared.entry.Entry.{Entry}

-- the line of an entry
abbrev pub entry_line : Entry → Line
entry_line e = unpacked e.packed
