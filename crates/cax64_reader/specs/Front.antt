use Rattle.cax64_machine_code.specs.Prefix.{Prefix}
use Rattle.cax64_table.specs.PrefixNumbers.{prefix_with}
use Rattle.cax64_reader.specs.declared.front.Front.{Front}

-- the prefix that is kept in a front
abbrev pub prefix_of : Front → Prefix
prefix_of front = prefix_with front.numbers front.has_rex front.r front.x front.b front.vvvv
