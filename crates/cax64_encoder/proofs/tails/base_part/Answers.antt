use Rattle.std.proofs.Common.{◌≡◌, ◌+◌, ◌*◌, ◌%◌, ◌<◌, arith, w32}
use Rattle.std.proofs.lemmas.Int.{to_z-of_z}
use Rattle.cax64_address.specs.Address.{scale_number}
use Rattle.cax64_encoder.proofs.LookedUp.{looked_up, looked_up_front}
use Rattle.cax64_encoder.proofs.tails.base_part.Goals as goal

pub overflow_add-front-3 : goal.overflow_add-front-3
overflow_add-front-3 c =
    let scale : scale_number c.args.scale < 4 = omega (arith, c.enc.ensures.number, c.enc.ensures.below) in
    let sib : c.encode_modrm.result ≡ scale_number c.args.scale * 64 + c.args.index % 8 * 8 + c.args.base % 8 = rw c.enc.ensures.number at c.encode_modrm.ensures in
    let word = rw (to_z-of_z w32 c.args.displacement c.ranges.displacement) at c.cast_unsigned-word.ensures in
    let f = looked_up_front c.args.reg c.args.base c.args.index (scale_number c.args.scale) c.cast_unsigned-word.result c.args.has_index c.encode_modrm.result c.args.displacement c.requires.has_index c.requires.reg scale c.ranges.displacement word sib in
    rw (c.entry.ensures, c.from.ensures, c.from-sib.ensures) (omega (arith, f.fits))

pub of_word-requires-clause-below : goal.of_word-requires-clause-below
of_word-requires-clause-below c =
    let scale : scale_number c.args.scale < 4 = omega (arith, c.enc.ensures.number, c.enc.ensures.below) in
    let sib : c.encode_modrm.result ≡ scale_number c.args.scale * 64 + c.args.index % 8 * 8 + c.args.base % 8 = rw c.enc.ensures.number at c.encode_modrm.ensures in
    let word = rw (to_z-of_z w32 c.args.displacement c.ranges.displacement) at c.cast_unsigned-word.ensures in
    let f = looked_up_front c.args.reg c.args.base c.args.index (scale_number c.args.scale) c.cast_unsigned-word.result c.args.has_index c.encode_modrm.result c.args.displacement c.requires.has_index c.requires.reg scale c.ranges.displacement word sib in
    rw (c.from-2.ensures, c.entry.ensures, c.from.ensures, c.from-sib.ensures) f.below

pub returns-clause-tail : goal.returns-clause-tail
returns-clause-tail c =
    let scale : scale_number c.args.scale < 4 = omega (arith, c.enc.ensures.number, c.enc.ensures.below) in
    let sib : c.encode_modrm.result ≡ scale_number c.args.scale * 64 + c.args.index % 8 * 8 + c.args.base % 8 = rw c.enc.ensures.number at c.encode_modrm.ensures in
    let word = rw (to_z-of_z w32 c.args.displacement c.ranges.displacement) at c.cast_unsigned-word.ensures in
    let f = looked_up_front c.args.reg c.args.base c.args.index (scale_number c.args.scale) c.cast_unsigned-word.result c.args.has_index c.encode_modrm.result c.args.displacement c.requires.has_index c.requires.reg scale c.ranges.displacement word sib in
    let front = rw (c.from-2.ensures, c.entry.ensures, c.from.ensures, c.from-sib.ensures, f.bytes) at c.of_word.ensures.bytes in
    rw c.long.ensures (looked_up c.args.reg c.args.base c.args.index (scale_number c.args.scale) c.cast_unsigned-word.result c.args.has_index c.encode_modrm.result c.args.displacement c.requires.has_index c.requires.reg scale c.ranges.displacement word sib c.of_word.result front).tail

pub returns-clause-bytes : goal.returns-clause-bytes
returns-clause-bytes c =
    let scale : scale_number c.args.scale < 4 = omega (arith, c.enc.ensures.number, c.enc.ensures.below) in
    let sib : c.encode_modrm.result ≡ scale_number c.args.scale * 64 + c.args.index % 8 * 8 + c.args.base % 8 = rw c.enc.ensures.number at c.encode_modrm.ensures in
    let word = rw (to_z-of_z w32 c.args.displacement c.ranges.displacement) at c.cast_unsigned-word.ensures in
    let f = looked_up_front c.args.reg c.args.base c.args.index (scale_number c.args.scale) c.cast_unsigned-word.result c.args.has_index c.encode_modrm.result c.args.displacement c.requires.has_index c.requires.reg scale c.ranges.displacement word sib in
    let front = rw (c.from-2.ensures, c.entry.ensures, c.from.ensures, c.from-sib.ensures, f.bytes) at c.of_word.ensures.bytes in
    rw c.long.ensures (looked_up c.args.reg c.args.base c.args.index (scale_number c.args.scale) c.cast_unsigned-word.result c.args.has_index c.encode_modrm.result c.args.displacement c.requires.has_index c.requires.reg scale c.ranges.displacement word sib c.of_word.result front).bytes

pub returns-clause-length : goal.returns-clause-length
returns-clause-length c =
    let scale : scale_number c.args.scale < 4 = omega (arith, c.enc.ensures.number, c.enc.ensures.below) in
    let sib : c.encode_modrm.result ≡ scale_number c.args.scale * 64 + c.args.index % 8 * 8 + c.args.base % 8 = rw c.enc.ensures.number at c.encode_modrm.ensures in
    let word = rw (to_z-of_z w32 c.args.displacement c.ranges.displacement) at c.cast_unsigned-word.ensures in
    let f = looked_up_front c.args.reg c.args.base c.args.index (scale_number c.args.scale) c.cast_unsigned-word.result c.args.has_index c.encode_modrm.result c.args.displacement c.requires.has_index c.requires.reg scale c.ranges.displacement word sib in
    let front = rw (c.from-2.ensures, c.entry.ensures, c.from.ensures, c.from-sib.ensures, f.bytes) at c.of_word.ensures.bytes in
    rw c.long.ensures (looked_up c.args.reg c.args.base c.args.index (scale_number c.args.scale) c.cast_unsigned-word.result c.args.has_index c.encode_modrm.result c.args.displacement c.requires.has_index c.requires.reg scale c.ranges.displacement word sib c.of_word.result front).length
