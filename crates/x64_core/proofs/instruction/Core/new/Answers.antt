use Rattle.std.proofs.Common.{◌≡◌, ◌∙◌, refl}
use Rattle.std.specs.Prelude.{is_some, option_map}
use Rattle.cax64_encoder.specs.ImmActions.{imm_named}
use Rattle.cax64_operand.specs.Immediate.{imm_value}
use Rattle.x64_lines.specs.Shape.{has_reg, has_vvvv, imm_field, shape_of}
use Rattle.x64_core.proofs.MadeOf.{view_by}
use Rattle.x64_core.proofs.Renames.{given, stands_as}
use Rattle.x64_core.proofs.instruction.Core.new.Goals as goal

pub returns-clause-view : goal.returns-clause-view
returns-clause-view c =
    let shape = shape_of c.args.op.number in
    let reg : has_reg shape.fields ≡ is_some c.args.reg = stands_as has_reg _ c.args.op.number _ _ _ c.shape-shape.ensures.is c.has_reg.ensures c.is_some.ensures c.if-not-agree.ensures in
    let vvvv : has_vvvv shape.fields ≡ is_some c.args.vvvv = stands_as has_vvvv _ c.args.op.number _ _ _ c.shape-shape.ensures.is c.has_vvvv.ensures c.is_some-2.ensures c.if-not-agree-2.ensures in
    let imm : option_map imm_value (imm_named (imm_field shape.imm) c.in_ok-word.word) ≡ c.args.imm = rw c.shape-shape.ensures.is at c.in_ok-word.ensures.value in
    rw c.numbers-place.ensures
    (view_by c.args.op shape.fields shape.imm c.unwrap_or.result c.unwrap_or-2.result c.args.place c.in_ok-word.word refl refl
    ∙ rw (c.unwrap_or.ensures, c.unwrap_or-2.ensures, given (has_reg shape.fields) c.args.reg reg, given (has_vvvv shape.fields) c.args.vvvv vvvv, imm) refl)
