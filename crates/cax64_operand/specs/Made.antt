use Rattle.cax64_operand.specs.declared.task.Made.{Made}

-- what gives itself back
abbrev pub made : {T : Type 0} → T → Made T
made value = record { made = value }
