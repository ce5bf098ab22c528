use Rattle.std.proofs.Common.{◌≡◌, ◌+◌, ◌*◌, ◌%◌, ◌<◌, arith, w32}
use Rattle.std.proofs.lemmas.Int.{to_z-of_z}
use Rattle.cax64_address.specs.Address.{scale_number}
use Rattle.x64_place.proofs.Tailed.{part_found}
use Rattle.x64_place.proofs.tails.tail_part.Goals as goal

pub returns-clause-tail : goal.returns-clause-tail
returns-clause-tail c =
    let p = c.args.place.now in
    let scale : scale_number p.scale < 4 = omega (arith, c.enc.ensures.number, c.enc.ensures.below) in
    let sib : c.encode_modrm-sib.result ≡ scale_number p.scale * 64 + p.index % 8 * 8 + p.base % 8 = rw c.enc.ensures.number at c.encode_modrm-sib.ensures in
    part_found p c.args.reg c.cast_unsigned-word.result c.encode_modrm-sib.result c.args.bytes_at_end c.width_of_word-width.result c.args.displacement _ _ _ c.requires.non_rsp c.requires.index c.requires.reg scale c.ranges.bytes_at_end.fits c.ranges.displacement
    (rw (to_z-of_z w32 c.args.displacement c.ranges.displacement) at c.cast_unsigned-word.ensures) c.width_of_word-width.ensures.is sib c.front.ensures.bytes c.relative.ensures c.long.ensures
