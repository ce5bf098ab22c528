-- How many bytes the tail of a place has under a factor, which is 1 where there is none.
use Rattle.std.specs.Prelude.{ℕ, ◌+◌, ◌/◌, ◌%◌, Bool, ◌&&◌, ◌==◌, nat_lt, nat_le, if◌then◌else◌, Some, None, ℤ, pos, negsuc}
use Rattle.cax64_machine_code.specs.Len.{at_least_one, sib_len}
use Rattle.cax64_machine_code.specs.declared.reading.Place.{Place}
use Rattle.cax64_machine_code.specs.declared.reading.Place.TheVariants.{Reg, Mem, Rip}

-- some signed byte times the factor is the displacement. (Intel SDM, volume 2, 2.7.5.)
abbrev pub byte_holds : ℕ → ℤ → Bool
byte_holds factor (pos n) = (n % factor == 0) && nat_lt (n / factor) 128
byte_holds factor (negsuc n) = ((n + 1) % factor == 0) && nat_le ((n + 1) / factor) 128

-- a displacement of 0 needs no byte, one that a byte holds one, any other four
abbrev pub disp_len_under : ℕ → ℤ → ℕ
disp_len_under factor (pos n) = if n == 0 then 0 else (if byte_holds factor (pos n) then 1 else 4)
disp_len_under factor (negsuc n) = if byte_holds factor (negsuc n) then 1 else 4

-- The displacement beside a base: low bits 5 with mod 0 would mean no base. (Intel SDM, volume 2, tables 2-2 and 2-3.)
abbrev pub base_disp_len_under : ℕ → ℕ → ℤ → ℕ
base_disp_len_under factor base disp = if base % 8 == 5 then at_least_one (disp_len_under factor disp) else disp_len_under factor disp

-- ModR/M, a SIB byte where one is needed, and the displacement
abbrev pub least_tail_under : ℕ → Place → ℕ
least_tail_under factor (Reg view) = 1
least_tail_under factor (Mem None index disp) = 6
least_tail_under factor (Mem (Some base) index disp) = 1 + (sib_len base index + base_disp_len_under factor base disp)
least_tail_under factor (Rip disp) = 5
