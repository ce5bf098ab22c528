use Rattle.std.proofs.Common.{◌≡◌, ◌∙◌, ◌^◌, Some, None, w32, length}
use Rattle.std.proofs.lemmas.Int.{to_z-of_z}
use Rattle.cax64_machine_code.specs.declared.reading.Place.{Place}
use Rattle.cax64_machine_code.specs.declared.reading.Place.TheVariants.{Mem}
use Rattle.cax64_sink.specs.Run.{all_bytes}
use Rattle.cax64_address.specs.Address.{scale_number}
use Rattle.cax64_address.specs.Displacement.{factor_of}
use Rattle.cax64_address.specs.Emitted.{tail_actions}
use Rattle.cax64_address.specs.Length.{least_tail_under}
use Rattle.cax64_address.proofs.TailLengths.{without_factor}
use Rattle.cax64_address.proofs.tail.tail_of.Goals as goal

pub returns-in-ImmReg-clause-length : goal.returns-in-ImmReg-clause-length
returns-in-ImmReg-clause-length g c none =
    let place : Place = Mem (Some c.enc.result) None c.args.displacement in
    let count : length (all_bytes (tail_actions c.base_tail.result)) ≡ least_tail_under (factor_of c.args.evex_scaling) place = rw (to_z-of_z w32 c.args.displacement c.ranges.displacement) at c.base_tail.ensures.length in
    rw (c.in-ImmReg.is, ← c.enc.ensures) (count ∙ without_factor c.args.evex_scaling place none)

pub returns-in-ImmRegRegShift-clause-length : goal.returns-in-ImmRegRegShift-clause-length
returns-in-ImmRegRegShift-clause-length g c none =
    let place : Place = Mem (Some c.enc-in-ImmRegRegShift.result) (Some (c.enc-in-ImmRegRegShift-2.result, 2 ^ scale_number c.in-ImmRegRegShift.scale)) c.args.displacement in
    let count : length (all_bytes (tail_actions c.index_tail.result)) ≡ least_tail_under (factor_of c.args.evex_scaling) place = rw (to_z-of_z w32 c.args.displacement c.ranges.displacement) at c.index_tail.ensures.length in
    rw (c.in-ImmRegRegShift.is, ← c.enc-in-ImmRegRegShift.ensures) (count ∙ without_factor c.args.evex_scaling place none)

pub returns-in-RipRelative-clause-tail : goal.returns-in-RipRelative-clause-tail
returns-in-RipRelative-clause-tail g c = rw c.in-RipRelative.is (c.relative_tail.ensures.tail (factor_of c.args.evex_scaling))

pub returns-in-RipRelative-clause-count : goal.returns-in-RipRelative-clause-count
returns-in-RipRelative-clause-count g c = rw c.in-RipRelative.is (c.relative_tail.ensures.length (factor_of c.args.evex_scaling))

pub returns-in-RipRelative-clause-length : goal.returns-in-RipRelative-clause-length
returns-in-RipRelative-clause-length g c none = rw c.in-RipRelative.is (c.relative_tail.ensures.length 1)
