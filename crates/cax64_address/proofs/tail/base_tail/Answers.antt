use Rattle.std.proofs.Common.{◌≡◌, ◌≢◌, ◌+◌, ◌*◌, ◌%◌, ◌<◌, arith, refl, w32}
use Rattle.std.proofs.lemmas.Int.{to_z-of_z}
use Rattle.std.proofs.lemmas.Nat.{and_mask}
use Rattle.cax64_address.specs.Displacement.{GivesBack, IsClassOf, factor_of, mode_of}
use Rattle.cax64_address.proofs.Emits.{Chosen, chosen_five, chosen_other, emits_base, emits_stack, parts}
use Rattle.cax64_address.proofs.TailBytes.{base_bytes, sib_bytes}
use Rattle.cax64_address.proofs.TailLengths.{base_length, stack_length, some_factor}
use Rattle.cax64_address.proofs.tail.base_tail.Goals as goal
use Rattle.cax64_address.proofs.tail.base_tail.Goals.{then-low-eq5, else-low-eq5}

pub returns-then-low-eq4-clause-tail : goal.returns-then-low-eq4-clause-tail
returns-then-low-eq4-clause-tail c =
    let class : IsClassOf (factor_of c.args.evex_scaling) c.args.displacement c.new-disp.result = rw (to_z-of_z w32 c.args.displacement c.ranges.displacement) at c.new-disp.ensures.class in
    let back : GivesBack (factor_of c.args.evex_scaling) c.args.displacement c.new-disp.result = rw (to_z-of_z w32 c.args.displacement c.ranges.displacement) at c.new-disp.ensures.gives_back in
    let low : c.args.base % 8 ≡ 4 = omega (arith, and_mask c.args.base 3) in
    let byte : c.encode_modrm.result ≡ mode_of c.new-disp.result * 64 + c.args.reg * 8 + 4 = omega arith in
    rw (parts c.new-disp.result c.byte.ensures c.long.ensures) (emits_stack _ _ _ 0 _ _ _ _ _ (chosen_other _ _ _ _ class back (λ e. omega arith)) c.requires.reg byte refl low)

pub returns-then-low-eq4-clause-bytes : goal.returns-then-low-eq4-clause-bytes
returns-then-low-eq4-clause-bytes c =
    let class : IsClassOf (factor_of c.args.evex_scaling) c.args.displacement c.new-disp.result = rw (to_z-of_z w32 c.args.displacement c.ranges.displacement) at c.new-disp.ensures.class in
    let back : GivesBack (factor_of c.args.evex_scaling) c.args.displacement c.new-disp.result = rw (to_z-of_z w32 c.args.displacement c.ranges.displacement) at c.new-disp.ensures.gives_back in
    let low : c.args.base % 8 ≡ 4 = omega (arith, and_mask c.args.base 3) in
    let byte : c.encode_modrm.result ≡ mode_of c.new-disp.result * 64 + c.args.reg * 8 + 4 = omega arith in
    let four : 4 < 8 = omega arith in
    let small : 36 < 256 = omega arith in
    let not_five : c.args.base % 8 ≢ 5 = omega (arith, low) in
    sib_bytes _ _ _ _ _ _ _ _ _ (parts c.new-disp.result c.byte.ensures c.long.ensures) (chosen_other _ _ _ _ class back not_five) c.requires.reg four byte small

pub returns-clause-tail : goal.returns-clause-tail
returns-clause-tail c =
    let class : IsClassOf (factor_of c.args.evex_scaling) c.args.displacement c.new-disp.result = rw (to_z-of_z w32 c.args.displacement c.ranges.displacement) at c.new-disp.ensures.class in
    let back : GivesBack (factor_of c.args.evex_scaling) c.args.displacement c.new-disp.result = rw (to_z-of_z w32 c.args.displacement c.ranges.displacement) at c.new-disp.ensures.gives_back in
    let not_four : c.args.base % 8 ≢ 4 = omega (arith, and_mask c.args.base 3) in
    let byte : c.encode_modrm-2.result ≡ mode_of c.if-low-eq5.disp * 64 + c.args.reg * 8 + c.args.base % 8 = omega (arith, and_mask c.args.base 3) in
    let chosen : Chosen (factor_of c.args.evex_scaling) c.args.base c.args.displacement c.new-disp.result c.if-low-eq5.disp = elim c.if-low-eq5.branch [
      | then-low-eq5 w ↦ rw (w.disp-is, w.force_immediate.ensures) (chosen_five _ _ _ _ class back (omega (arith, and_mask c.args.base 3)))
      | else-low-eq5 w ↦ rw w.disp-is (chosen_other _ _ _ _ class back (omega (arith, and_mask c.args.base 3)))
    ] in
    rw (parts c.if-low-eq5.disp c.byte-2.ensures c.long-2.ensures) (emits_base _ _ _ _ _ _ _ chosen c.requires.reg byte not_four)

pub returns-clause-bytes : goal.returns-clause-bytes
returns-clause-bytes c =
    let class : IsClassOf (factor_of c.args.evex_scaling) c.args.displacement c.new-disp.result = rw (to_z-of_z w32 c.args.displacement c.ranges.displacement) at c.new-disp.ensures.class in
    let back : GivesBack (factor_of c.args.evex_scaling) c.args.displacement c.new-disp.result = rw (to_z-of_z w32 c.args.displacement c.ranges.displacement) at c.new-disp.ensures.gives_back in
    let not_four : c.args.base % 8 ≢ 4 = omega (arith, and_mask c.args.base 3) in
    let byte : c.encode_modrm-2.result ≡ mode_of c.if-low-eq5.disp * 64 + c.args.reg * 8 + c.args.base % 8 = omega (arith, and_mask c.args.base 3) in
    let chosen : Chosen (factor_of c.args.evex_scaling) c.args.base c.args.displacement c.new-disp.result c.if-low-eq5.disp = elim c.if-low-eq5.branch [
      | then-low-eq5 w ↦ rw (w.disp-is, w.force_immediate.ensures) (chosen_five _ _ _ _ class back (omega (arith, and_mask c.args.base 3)))
      | else-low-eq5 w ↦ rw w.disp-is (chosen_other _ _ _ _ class back (omega (arith, and_mask c.args.base 3)))
    ] in
    let small : c.args.base % 8 < 8 = omega arith in
    base_bytes _ _ _ _ _ _ _ _ (parts c.if-low-eq5.disp c.byte-2.ensures c.long-2.ensures) chosen c.requires.reg small byte

pub returns-then-low-eq4-clause-length : goal.returns-then-low-eq4-clause-length
returns-then-low-eq4-clause-length c =
    let class : IsClassOf (factor_of c.args.evex_scaling) c.args.displacement c.new-disp.result = rw (to_z-of_z w32 c.args.displacement c.ranges.displacement) at c.new-disp.ensures.class in
    let back : GivesBack (factor_of c.args.evex_scaling) c.args.displacement c.new-disp.result = rw (to_z-of_z w32 c.args.displacement c.ranges.displacement) at c.new-disp.ensures.gives_back in
    let low : c.args.base % 8 ≡ 4 = omega (arith, and_mask c.args.base 3) in
    let not_five : c.args.base % 8 ≢ 5 = omega (arith, low) in
    rw (parts c.new-disp.result c.byte.ensures c.long.ensures) (stack_length _ _ _ _ _ (some_factor c.args.evex_scaling c.requires.factor) (chosen_other _ _ _ _ class back not_five) low)

pub returns-clause-length : goal.returns-clause-length
returns-clause-length c =
    let class : IsClassOf (factor_of c.args.evex_scaling) c.args.displacement c.new-disp.result = rw (to_z-of_z w32 c.args.displacement c.ranges.displacement) at c.new-disp.ensures.class in
    let back : GivesBack (factor_of c.args.evex_scaling) c.args.displacement c.new-disp.result = rw (to_z-of_z w32 c.args.displacement c.ranges.displacement) at c.new-disp.ensures.gives_back in
    let not_four : c.args.base % 8 ≢ 4 = omega (arith, and_mask c.args.base 3) in
    let chosen : Chosen (factor_of c.args.evex_scaling) c.args.base c.args.displacement c.new-disp.result c.if-low-eq5.disp = elim c.if-low-eq5.branch [
      | then-low-eq5 w ↦ rw (w.disp-is, w.force_immediate.ensures) (chosen_five _ _ _ _ class back (omega (arith, and_mask c.args.base 3)))
      | else-low-eq5 w ↦ rw w.disp-is (chosen_other _ _ _ _ class back (omega (arith, and_mask c.args.base 3)))
    ] in
    rw (parts c.if-low-eq5.disp c.byte-2.ensures c.long-2.ensures) (base_length _ _ _ _ _ (some_factor c.args.evex_scaling c.requires.factor) chosen not_four)
