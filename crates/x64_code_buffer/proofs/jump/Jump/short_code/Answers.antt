use Rattle.std.proofs.Common.{◌≡◌, ℕ, ℤ, List, [], ◌∷◌, ◌++◌, ◌∙◌, ap}
use Rattle.std.proofs.lemmas.Int.{to_z-of_z}
use Rattle.std.specs.Int.{cast_unsigned, w8}
use Rattle.x64_code_buffer.proofs.Jumping.{short_writes}
use Rattle.x64_code_buffer.proofs.jump.Jump.short_code.Goals as goal

pub returns : goal.returns
returns c =
    let byte : c.cast_unsigned.result ≡ cast_unsigned w8 c.args.distance = c.cast_unsigned.ensures ∙ ap (λ (z : ℤ). cast_unsigned w8 z) (to_z-of_z w8 c.args.distance c.ranges.distance) in
    let behind : c.one.result ≡ cast_unsigned w8 c.args.distance ∷ [] = c.one.ensures.bytes ∙ ap (λ (n : ℕ). n ∷ []) byte in
    let front : c.append.result ≡ c.short_opcode.result ∷ cast_unsigned w8 c.args.distance ∷ [] = c.append.ensures.bytes ∙ ap (λ (z : List ℕ). z ++ c.one.result) c.one-opcode.ensures.bytes ∙ ap (λ (z : List ℕ). c.short_opcode.result ∷ z) behind in
    short_writes c.args.self c.short_opcode.result c.args.distance c.append.result c.ranges.distance c.short_opcode.ensures front
