-- Where registers go.
use Rattle.std.specs.Prelude.{◌-◌, if◌then◌else◌, nat_lt, List, slice_index_or}
use Rattle.client.specs.declared.registers.Reg.{Reg}

-- One of the machine's stays. The virtual one of number 16 + n goes to the home at place n, and stays where there is none.
abbrev pub home_of : List Reg → Reg → Reg
home_of homes r = if nat_lt r.0 16 then r else slice_index_or homes (r.0 - 16) r
