use Rattle.cax64_operand.specs.declared.task.ItsRow.{ItsRow}

-- what asks for the row alone
abbrev pub its_row : ItsRow
its_row = record {}
