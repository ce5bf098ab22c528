use Rattle.std.proofs.Common.{◌≡◌, ◌+◌, ◌*◌, ◌%◌, arith, refl, w32, not}
use Rattle.std.specs.Int.{cast_unsigned}
use Rattle.std.specs.Prelude.{bit_and, ◌==◌, ◌||◌, if◌then◌else◌}
use Rattle.std.proofs.lemmas.Int.{to_z-of_z}
use Rattle.std.proofs.lemmas.Nat.{and_mask}
use Rattle.cax64_address.specs.Address.{scale_number}
use Rattle.cax64_address.proofs.MemoryTails.{short, long, tailed}
use Rattle.cax64_address.proofs.memory.memory_tail.Goals as goal
use Rattle.cax64_address.proofs.memory.memory_tail.Goals.{then-has_sib, else-has_sib}

pub returns-then-is_byte-clause-tail : goal.returns-then-is_byte-clause-tail
returns-then-is_byte-clause-tail c =
    let low : bit_and c.args.base 7 ≡ c.args.base % 8 = omega (arith, and_mask c.args.base 3) in
    let word : c.cast_unsigned-word.result ≡ cast_unsigned w32 c.args.displacement = rw (to_z-of_z w32 c.args.displacement c.ranges.displacement) at c.cast_unsigned-word.ensures in
    let field = short c.args.base (bit_and c.args.base 7) c.cast_unsigned-word.result c.args.displacement low c.ranges.displacement word c.if-is_byte.true _ _ refl refl in
    let rm : c.if-has_sib.rm ≡ (if not (c.args.index == 4) || (bit_and c.args.base 7 == 4) then 4 else bit_and c.args.base 7) = elim c.if-has_sib.branch [
      | then-has_sib w ↦ rw w.if-has_sib.true w.rm-is
      | else-has_sib w ↦ rw w.if-has_sib.false w.rm-is
    ] in
    let modrm : c.encode_modrm.result ≡ (c.from.result + 2 * c.from-2.result) * 64 + c.args.reg * 8 + c.if-has_sib.rm = c.encode_modrm.ensures in
    let sib : c.encode_modrm-2.result ≡ scale_number c.args.scale * 64 + c.args.index % 8 * 8 + bit_and c.args.base 7 = omega (arith, and_mask c.args.index 3) in
    (tailed c.args.reg c.args.base c.args.index (scale_number c.args.scale) _ c.if-has_sib.rm _ _ (bit_and c.args.base 7) c.args.displacement _ low c.requires.reg field (rw (c.from.ensures, c.from-2.ensures) at modrm) rm sib).tail

pub returns-then-is_byte-clause-length : goal.returns-then-is_byte-clause-length
returns-then-is_byte-clause-length c =
    let low : bit_and c.args.base 7 ≡ c.args.base % 8 = omega (arith, and_mask c.args.base 3) in
    let word : c.cast_unsigned-word.result ≡ cast_unsigned w32 c.args.displacement = rw (to_z-of_z w32 c.args.displacement c.ranges.displacement) at c.cast_unsigned-word.ensures in
    let field = short c.args.base (bit_and c.args.base 7) c.cast_unsigned-word.result c.args.displacement low c.ranges.displacement word c.if-is_byte.true _ _ refl refl in
    let rm : c.if-has_sib.rm ≡ (if not (c.args.index == 4) || (bit_and c.args.base 7 == 4) then 4 else bit_and c.args.base 7) = elim c.if-has_sib.branch [
      | then-has_sib w ↦ rw w.if-has_sib.true w.rm-is
      | else-has_sib w ↦ rw w.if-has_sib.false w.rm-is
    ] in
    let modrm : c.encode_modrm.result ≡ (c.from.result + 2 * c.from-2.result) * 64 + c.args.reg * 8 + c.if-has_sib.rm = c.encode_modrm.ensures in
    let sib : c.encode_modrm-2.result ≡ scale_number c.args.scale * 64 + c.args.index % 8 * 8 + bit_and c.args.base 7 = omega (arith, and_mask c.args.index 3) in
    (tailed c.args.reg c.args.base c.args.index (scale_number c.args.scale) _ c.if-has_sib.rm _ _ (bit_and c.args.base 7) c.args.displacement _ low c.requires.reg field (rw (c.from.ensures, c.from-2.ensures) at modrm) rm sib).length

pub returns-else-is_byte-clause-tail : goal.returns-else-is_byte-clause-tail
returns-else-is_byte-clause-tail c =
    let low : bit_and c.args.base 7 ≡ c.args.base % 8 = omega (arith, and_mask c.args.base 3) in
    let word : c.cast_unsigned-word.result ≡ cast_unsigned w32 c.args.displacement = rw (to_z-of_z w32 c.args.displacement c.ranges.displacement) at c.cast_unsigned-word.ensures in
    let field = long c.args.base (bit_and c.args.base 7) c.cast_unsigned-word.result c.args.displacement low c.ranges.displacement word c.if-is_byte.false _ _ refl refl in
    let rm : c.if-has_sib.rm ≡ (if not (c.args.index == 4) || (bit_and c.args.base 7 == 4) then 4 else bit_and c.args.base 7) = elim c.if-has_sib.branch [
      | then-has_sib w ↦ rw w.if-has_sib.true w.rm-is
      | else-has_sib w ↦ rw w.if-has_sib.false w.rm-is
    ] in
    let modrm : c.encode_modrm.result ≡ (c.from.result + 2 * c.from-2.result) * 64 + c.args.reg * 8 + c.if-has_sib.rm = c.encode_modrm.ensures in
    let sib : c.encode_modrm-2.result ≡ scale_number c.args.scale * 64 + c.args.index % 8 * 8 + bit_and c.args.base 7 = omega (arith, and_mask c.args.index 3) in
    (tailed c.args.reg c.args.base c.args.index (scale_number c.args.scale) _ c.if-has_sib.rm _ _ (bit_and c.args.base 7) c.args.displacement _ low c.requires.reg field (rw (c.from.ensures, c.from-2.ensures) at modrm) rm sib).tail

pub returns-else-is_byte-clause-length : goal.returns-else-is_byte-clause-length
returns-else-is_byte-clause-length c =
    let low : bit_and c.args.base 7 ≡ c.args.base % 8 = omega (arith, and_mask c.args.base 3) in
    let word : c.cast_unsigned-word.result ≡ cast_unsigned w32 c.args.displacement = rw (to_z-of_z w32 c.args.displacement c.ranges.displacement) at c.cast_unsigned-word.ensures in
    let field = long c.args.base (bit_and c.args.base 7) c.cast_unsigned-word.result c.args.displacement low c.ranges.displacement word c.if-is_byte.false _ _ refl refl in
    let rm : c.if-has_sib.rm ≡ (if not (c.args.index == 4) || (bit_and c.args.base 7 == 4) then 4 else bit_and c.args.base 7) = elim c.if-has_sib.branch [
      | then-has_sib w ↦ rw w.if-has_sib.true w.rm-is
      | else-has_sib w ↦ rw w.if-has_sib.false w.rm-is
    ] in
    let modrm : c.encode_modrm.result ≡ (c.from.result + 2 * c.from-2.result) * 64 + c.args.reg * 8 + c.if-has_sib.rm = c.encode_modrm.ensures in
    let sib : c.encode_modrm-2.result ≡ scale_number c.args.scale * 64 + c.args.index % 8 * 8 + bit_and c.args.base 7 = omega (arith, and_mask c.args.index 3) in
    (tailed c.args.reg c.args.base c.args.index (scale_number c.args.scale) _ c.if-has_sib.rm _ _ (bit_and c.args.base 7) c.args.displacement _ low c.requires.reg field (rw (c.from.ensures, c.from-2.ensures) at modrm) rm sib).length
