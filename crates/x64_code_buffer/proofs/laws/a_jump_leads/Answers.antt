use Rattle.std.proofs.Common.{◌≡◌, ap, arith, ℤ, pos, ◌+ℤ◌, ◌-ℤ◌, Some}
use Rattle.std.proofs.lemmas.Int.{ints}
use Rattle.cax64_machine_code.specs.Address.{modulo_64_bits}
use Rattle.x64_code_buffer.proofs.laws.a_jump_leads.Goals as goal

pub returns : goal.returns
returns c place end =
    let sum : pos end +ℤ (pos place -ℤ pos end) ≡ pos place = omega (arith, ints) in
    ap (λ (z : ℤ). Some (modulo_64_bits z)) sum
