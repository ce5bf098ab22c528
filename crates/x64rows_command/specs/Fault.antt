-- Exit statuses of faults and of runs.
use Rattle.std.specs.Prelude.{ℕ, Result, Ok, Err}
use Rattle.x64rows_command.specs.declared.fault.Fault.{Fault}
use Rattle.x64rows_command.specs.declared.fault.Fault.TheVariants.{Usage, NoMemory, Write}

abbrev pub status_of : Fault → ℕ
status_of Usage = 2
status_of NoMemory = 3
status_of Write = 4

abbrev pub end_status : Result (Unit {0}) Fault → ℕ
end_status (Ok done) = 0
end_status (Err fault) = status_of fault
