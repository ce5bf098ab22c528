use Rattle.std.proofs.Common.{◌≡◌, ◌∙◌, ◌<◌, ◌^◌, sym, ap, subst, true, rules, FitsSigned, w32}
use Rattle.x64_plain.specs.Encodable.{IsImm}
use Rattle.x64_plain.specs.Named.{index_beside, offset_named}
use Rattle.x64_plain.specs.declared.place.HqPlace.{HqPlace}
use Rattle.x64_plain.proofs.Ready.{Ready, can_be, its_place, ready_of, taken, whole_place}
use Rattle.x64_plain.proofs.Views.{made_is}
use Rattle.x64_plain.proofs.inst.HqInst.encodable_core.Goals as goal
use Rattle.x64_core.specs.Fits.{core_fits}
use Rattle.x64_core.specs.Viewed.{viewed}
use Rattle.x64_lines.specs.declared.op.Op.{Op}
use Rattle.x64_lines.specs.declared.shapes.OpShape.{OpShape}

pub whole_numbers-place-requires-clause-whole : goal.whole_numbers-place-requires-clause-whole
whole_numbers-place-requires-clause-whole c =
    let small : FitsSigned w32 c.args.self.now.disp = search rules in
    let target : c.args.self.now.target < 2 ^ 32 = search rules in
    let f : Ready c.shape.result.fields c.unwrap-kind.result c.args.self.now × IsImm c.shape.result.imm c.args.self.now.imm = ready_of c.args.self.now c.shape.result c.unwrap-kind.result c.of_number-op.result.number small target c.requires c.of_number-op.ensures c.shape.ensures.is (rw c.unwrap-kind.ensures at c.kind_of.ensures.some) in
    rw c.settled_place.ensures (whole_place c.shape.result.fields c.unwrap-kind.result c.args.self.now f.0)

pub of_fitting-requires : goal.of_fitting-requires
of_fitting-requires c =
    let small : FitsSigned w32 c.args.self.now.disp = search rules in
    let target : c.args.self.now.target < 2 ^ 32 = search rules in
    let f : Ready c.shape.result.fields c.unwrap-kind.result c.args.self.now × IsImm c.shape.result.imm c.args.self.now.imm = ready_of c.args.self.now c.shape.result c.unwrap-kind.result c.of_number-op.result.number small target c.requires c.of_number-op.ensures c.shape.ensures.is (rw c.unwrap-kind.ensures at c.kind_of.ensures.some) in
    subst (λ (s : OpShape). core_fits s c.args.self.now.reg c.args.self.now.vvvv (viewed c.whole_numbers-place.result) c.imm_part-word.result ≡ true) c.shape.ensures.is
    (taken c.shape.result c.unwrap-kind.result c.args.self.now c.whole_numbers-place.result c.imm_part-word.result f.0 c.whole_numbers-place.ensures.kind (rw c.imm_part-word.ensures f.1.below))

pub returns-clause-is : goal.returns-clause-is
returns-clause-is c =
    let small : FitsSigned w32 c.args.self.now.disp = search rules in
    let target : c.args.self.now.target < 2 ^ 32 = search rules in
    let f : Ready c.shape.result.fields c.unwrap-kind.result c.args.self.now × IsImm c.shape.result.imm c.args.self.now.imm = ready_of c.args.self.now c.shape.result c.unwrap-kind.result c.of_number-op.result.number small target c.requires c.of_number-op.ensures c.shape.ensures.is (rw c.unwrap-kind.ensures at c.kind_of.ensures.some) in
    let own = c.of_fitting.ensures in
    made_is c.args.self.now c.of_fitting.result c.shape.result c.whole_numbers-place.result c.imm_part-word.result c.of_number-op.result.number c.settled_place.result
    c.of_number-op.ensures c.shape.ensures.is (c.settled_place.ensures ∙ its_place _ _ _ f.0) c.whole_numbers-place.ensures.is (λ _. rw c.imm_part-word.ensures f.1.back) (sym f.0.reserved)
    (ap (λ (op : Op). op.number) own.op) own.numbers.0 own.numbers.1 own.place own.numbers.2

pub returns-clause-encodable : goal.returns-clause-encodable
returns-clause-encodable c =
    let small : FitsSigned w32 c.args.self.now.disp = search rules in
    let target : c.args.self.now.target < 2 ^ 32 = search rules in
    let f : Ready c.shape.result.fields c.unwrap-kind.result c.args.self.now × IsImm c.shape.result.imm c.args.self.now.imm = ready_of c.args.self.now c.shape.result c.unwrap-kind.result c.of_number-op.result.number small target c.requires c.of_number-op.ensures c.shape.ensures.is (rw c.unwrap-kind.ensures at c.kind_of.ensures.some) in
    let own = c.of_fitting.ensures in
    let place = c.whole_numbers-place.ensures in
    can_be c.shape.result.fields c.unwrap-kind.result c.args.self.now c.of_fitting.result c.whole_numbers-place.result f.0 own.numbers.0 own.numbers.1 own.place place.kind
    (place.base ∙ ap (λ (s : HqPlace). s.base) c.settled_place.ensures)
    (place.index ∙ ap (λ (s : HqPlace). index_beside c.unwrap-kind.result s.index) c.settled_place.ensures)
    (place.offset ∙ ap (λ (s : HqPlace). offset_named s.has_offset s.offset) c.settled_place.ensures)
