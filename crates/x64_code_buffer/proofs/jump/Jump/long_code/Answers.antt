use Rattle.std.proofs.Common.{◌≡◌, ℤ, ◌∙◌, ap}
use Rattle.std.proofs.lemmas.Int.{to_z-of_z}
use Rattle.std.specs.Int.{cast_unsigned, w32}
use Rattle.x64_code_buffer.proofs.Jumping.{long_writes}
use Rattle.x64_code_buffer.proofs.jump.Jump.long_code.Goals as goal

pub returns : goal.returns
returns c =
    let word : c.cast_unsigned.result ≡ cast_unsigned w32 c.args.distance = c.cast_unsigned.ensures ∙ ap (λ (z : ℤ). cast_unsigned w32 z) (to_z-of_z w32 c.args.distance c.ranges.distance) in
    rw word (long_writes c.args.self c.args.target c.args.distance c.long_opcode.result c.ranges.distance c.long_opcode.ensures)
