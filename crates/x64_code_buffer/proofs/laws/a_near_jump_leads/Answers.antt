use Rattle.std.proofs.Common.{◌≡◌, ap, arith, ℕ, ◌+◌, ℤ, pos, ◌+ℤ◌, ◌-ℤ◌, Bool, true, false, Option, Some, None}
use Rattle.std.specs.Prelude.{IfSome, if◌then◌else◌, is_some}
use Rattle.std.proofs.lemmas.Int.{ints}
use Rattle.cax64_machine_code.specs.Address.{modulo_64_bits}
use Rattle.x64_code_buffer.specs.Jump.{fits_i8, short_row}
use Rattle.x64_code_buffer.specs.Laid.{led_to}
use Rattle.x64_code_buffer.proofs.laws.a_near_jump_leads.Goals as goal

by_tests : (there fits : Bool) (z : ℤ) (end : ℕ) (to : Option ℕ) → led_to (Some z) end ≡ to → IfSome (if there then (if fits then Some z else None) else None) (λ d. led_to (Some d) end ≡ to)
by_tests true true z end to h = h
by_tests true false z end to h = tt
by_tests false fits z end to h = tt

pub returns : goal.returns
returns c jump place here =
    let z = pos place -ℤ pos (here + 2) in
    let sum : pos (here + 2) +ℤ z ≡ pos place = omega (arith, ints) in
    by_tests (is_some (short_row jump)) (fits_i8 z) z (here + 2) (Some (modulo_64_bits (pos place))) (ap (λ (y : ℤ). Some (modulo_64_bits y)) sum)
