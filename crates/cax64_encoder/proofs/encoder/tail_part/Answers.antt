use Rattle.std.proofs.Common.{◌≡◌, ◌+◌, ◌*◌, ◌%◌, w32}
use Rattle.std.proofs.lemmas.Int.{to_z-of_z}
use Rattle.cax64_encoder.specs.Code.{tail_actions}
use Rattle.cax64_encoder.proofs.TailParts.{register_place_tail, base_place_tail, base_place_length}
use Rattle.cax64_encoder.proofs.Numbers.{index_marked}
use Rattle.cax64_encoder.proofs.encoder.tail_part.Goals as goal

pub returns-in-Some-clause-length : goal.returns-in-Some-clause-length
returns-in-Some-clause-length c = rw (c.if-not-place.false, c.in-Some.is, c.relative_part.ensures.actions) (c.relative_tail.ensures.length 1)

pub returns-then-place-clause-tail : goal.returns-then-place-clause-tail
returns-then-place-clause-tail c =
    let byte : c.encode_modrm.result ≡ 3 * 64 + c.args.reg % 8 * 8 + c.args.place.now.base % 8 = c.encode_modrm.ensures in
    rw c.register_part.ensures.actions (register_place_tail c.args.place.now c.requires.numbered c.if-not-place.false c.in_default.is c.if-place.true c.args.displacement c.args.bytes_at_end c.args.reg c.encode_modrm.result byte)

pub base_part-requires-clause-has_index : goal.base_part-requires-clause-has_index
base_part-requires-clause-has_index c = index_marked c.args.place.now c.requires.numbered c.if-not-place.false c.in_default.is c.requires.place c.if-place.false c.args.displacement c.args.bytes_at_end

pub returns-clause-tail : goal.returns-clause-tail
returns-clause-tail c =
    base_place_tail c.args.place.now c.requires.numbered c.requires.place c.if-not-place.false c.in_default.is c.if-place.false _ c.args.displacement c.args.bytes_at_end c.args.reg (rw (to_z-of_z w32 c.args.displacement c.ranges.displacement) at c.base_part.ensures.tail)

pub returns-clause-length : goal.returns-clause-length
returns-clause-length c =
    base_place_length c.args.place.now c.requires.numbered c.requires.place c.if-not-place.false c.in_default.is c.if-place.false (tail_actions c.base_part.result) c.args.displacement c.args.bytes_at_end (rw (to_z-of_z w32 c.args.displacement c.ranges.displacement) at c.base_part.ensures.length)
