use Rattle.std.proofs.Common.{◌≡◌, ◌+◌, ◌*◌, ◌%◌, ◌^◌, ◌<◌, arith, w32}
use Rattle.std.proofs.lemmas.Int.{to_z-of_z}
use Rattle.std.proofs.lemmas.Nat.{and_mask}
use Rattle.cax64_address.specs.Address.{scale_number}
use Rattle.cax64_address.specs.Displacement.{GivesBack, IsClassOf, factor_of, mode_of}
use Rattle.cax64_address.proofs.Emits.{Chosen, chosen_five, chosen_other, emits_index, parts}
use Rattle.cax64_address.proofs.TailBytes.{sib_bytes}
use Rattle.cax64_address.proofs.TailLengths.{index_length, some_factor}
use Rattle.cax64_address.proofs.tail.index_tail.Goals as goal
use Rattle.cax64_address.proofs.tail.index_tail.Goals.{then-low_base-eq5, else-low_base-eq5}

pub returns-clause-shortest : goal.returns-clause-shortest
returns-clause-shortest c =
    let class : IsClassOf (factor_of c.args.evex_scaling) c.args.displacement c.new-disp.result = rw (to_z-of_z w32 c.args.displacement c.ranges.displacement) at c.new-disp.ensures.class in
    let back : GivesBack (factor_of c.args.evex_scaling) c.args.displacement c.new-disp.result = rw (to_z-of_z w32 c.args.displacement c.ranges.displacement) at c.new-disp.ensures.gives_back in
    let byte : c.encode_modrm.result ≡ mode_of c.if-low_base-eq5.disp * 64 + c.args.reg * 8 + 4 = omega arith in
    let sib : c.encode_modrm-2.result ≡ scale_number c.args.scale * 64 + c.args.index % 8 * 8 + c.args.base % 8 = omega (arith, and_mask c.args.index 3, and_mask c.args.base 3) in
    let chosen : Chosen (factor_of c.args.evex_scaling) c.args.base c.args.displacement c.new-disp.result c.if-low_base-eq5.disp = elim c.if-low_base-eq5.branch [
      | then-low_base-eq5 w ↦ rw (w.disp-is, w.force_immediate.ensures) (chosen_five _ _ _ _ class back (omega (arith, and_mask c.args.base 3)))
      | else-low_base-eq5 w ↦ rw w.disp-is (chosen_other _ _ _ _ class back (omega (arith, and_mask c.args.base 3)))
    ] in
    rw (parts c.if-low_base-eq5.disp c.byte.ensures c.long.ensures) (emits_index _ _ _ _ _ _ _ _ _ _ chosen c.requires.reg c.requires.non_rsp byte sib).shortest

pub returns-clause-tail : goal.returns-clause-tail
returns-clause-tail c =
    let class : IsClassOf (factor_of c.args.evex_scaling) c.args.displacement c.new-disp.result = rw (to_z-of_z w32 c.args.displacement c.ranges.displacement) at c.new-disp.ensures.class in
    let back : GivesBack (factor_of c.args.evex_scaling) c.args.displacement c.new-disp.result = rw (to_z-of_z w32 c.args.displacement c.ranges.displacement) at c.new-disp.ensures.gives_back in
    let byte : c.encode_modrm.result ≡ mode_of c.if-low_base-eq5.disp * 64 + c.args.reg * 8 + 4 = omega arith in
    let sib : c.encode_modrm-2.result ≡ scale_number c.args.scale * 64 + c.args.index % 8 * 8 + c.args.base % 8 = omega (arith, and_mask c.args.index 3, and_mask c.args.base 3) in
    let chosen : Chosen (factor_of c.args.evex_scaling) c.args.base c.args.displacement c.new-disp.result c.if-low_base-eq5.disp = elim c.if-low_base-eq5.branch [
      | then-low_base-eq5 w ↦ rw (w.disp-is, w.force_immediate.ensures) (chosen_five _ _ _ _ class back (omega (arith, and_mask c.args.base 3)))
      | else-low_base-eq5 w ↦ rw w.disp-is (chosen_other _ _ _ _ class back (omega (arith, and_mask c.args.base 3)))
    ] in
    rw (parts c.if-low_base-eq5.disp c.byte.ensures c.long.ensures) (emits_index _ _ _ _ _ _ _ _ _ _ chosen c.requires.reg c.requires.non_rsp byte sib)

pub returns-clause-bytes : goal.returns-clause-bytes
returns-clause-bytes c =
    let class : IsClassOf (factor_of c.args.evex_scaling) c.args.displacement c.new-disp.result = rw (to_z-of_z w32 c.args.displacement c.ranges.displacement) at c.new-disp.ensures.class in
    let back : GivesBack (factor_of c.args.evex_scaling) c.args.displacement c.new-disp.result = rw (to_z-of_z w32 c.args.displacement c.ranges.displacement) at c.new-disp.ensures.gives_back in
    let byte : c.encode_modrm.result ≡ mode_of c.if-low_base-eq5.disp * 64 + c.args.reg * 8 + 4 = omega arith in
    let sib : c.encode_modrm-2.result ≡ scale_number c.args.scale * 64 + c.args.index % 8 * 8 + c.args.base % 8 = omega (arith, and_mask c.args.index 3, and_mask c.args.base 3) in
    let chosen : Chosen (factor_of c.args.evex_scaling) c.args.base c.args.displacement c.new-disp.result c.if-low_base-eq5.disp = elim c.if-low_base-eq5.branch [
      | then-low_base-eq5 w ↦ rw (w.disp-is, w.force_immediate.ensures) (chosen_five _ _ _ _ class back (omega (arith, and_mask c.args.base 3)))
      | else-low_base-eq5 w ↦ rw w.disp-is (chosen_other _ _ _ _ class back (omega (arith, and_mask c.args.base 3)))
    ] in
    let four : 4 < 8 = omega arith in
    let small : c.encode_modrm-2.result < 256 = omega arith in
    sib_bytes _ _ _ _ _ _ _ _ _ (parts c.if-low_base-eq5.disp c.byte.ensures c.long.ensures) chosen c.requires.reg four byte small

pub returns-clause-length : goal.returns-clause-length
returns-clause-length c =
    let class : IsClassOf (factor_of c.args.evex_scaling) c.args.displacement c.new-disp.result = rw (to_z-of_z w32 c.args.displacement c.ranges.displacement) at c.new-disp.ensures.class in
    let back : GivesBack (factor_of c.args.evex_scaling) c.args.displacement c.new-disp.result = rw (to_z-of_z w32 c.args.displacement c.ranges.displacement) at c.new-disp.ensures.gives_back in
    let chosen : Chosen (factor_of c.args.evex_scaling) c.args.base c.args.displacement c.new-disp.result c.if-low_base-eq5.disp = elim c.if-low_base-eq5.branch [
      | then-low_base-eq5 w ↦ rw (w.disp-is, w.force_immediate.ensures) (chosen_five _ _ _ _ class back (omega (arith, and_mask c.args.base 3)))
      | else-low_base-eq5 w ↦ rw w.disp-is (chosen_other _ _ _ _ class back (omega (arith, and_mask c.args.base 3)))
    ] in
    rw (parts c.if-low_base-eq5.disp c.byte.ensures c.long.ensures) (index_length _ _ (c.args.index, 2 ^ scale_number c.args.scale) _ _ _ (some_factor c.args.evex_scaling c.requires.factor) chosen)
