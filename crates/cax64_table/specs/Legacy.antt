use Rattle.cax64_machine_code.specs.declared.line.LegacySet.{LegacySet}
use Rattle.cax64_table.specs.LegacyNumber.{set_of}
use Rattle.cax64_table.specs.declared.legacy.LegacyPrefixes.{LegacyPrefixes}

-- the prefixes that were seen
abbrev pub set_in : LegacyPrefixes → LegacySet
set_in seen = set_of seen.number
