use Rattle.std.proofs.Common.{◌≡◌, ◌∙◌, ap, length, w32, arith, List}
use Rattle.std.proofs.lemmas.Int.{to_z-of_z}
use Rattle.cax64_address.specs.Emitted.{target_actions}
use Rattle.cax64_machine_code.specs.Len.{tail_len}
use Rattle.cax64_machine_code.specs.Line.{imm_bytes, opcode_bytes}
use Rattle.cax64_table.specs.EntryLine.{entry_line}
use Rattle.cax64_table.proofs.EntryFacts.{entry_is_line, entry_imm_len}
use Rattle.cax64_operand.specs.Immediate.{imm_size}
use Rattle.cax64_sink.specs.Call.{Action}
use Rattle.cax64_sink.specs.Puts.{puts}
use Rattle.cax64_sink.specs.Rest.{long_actions, word_actions}
use Rattle.cax64_sink.specs.Run.{all_bytes}
use Rattle.cax64_sink.proofs.PutRuns.{all_bytes-puts, all_notices-puts}
use Rattle.cax64_encoder.specs.Code.{tail_actions}
use Rattle.cax64_encoder.specs.Encodes.{TailPartOf}
use Rattle.cax64_encoder.specs.ImmActions.{optional_imm_actions}
use Rattle.cax64_encoder.specs.Numbered.{plain, form_named}
use Rattle.cax64_encoder.specs.Place.{place_read}
use Rattle.cax64_encoder.specs.Prefix.{reg_number, register_number, PrefixFor}
use Rattle.cax64_encoder.specs.Real.{trap_in}
use Rattle.cax64_encoder.proofs.Fronts.{code_is, head_few, head_some}
use Rattle.cax64_encoder.proofs.Lengths.{line_is}
use Rattle.cax64_encoder.proofs.Numbers.{numbers_are, imm_put, imm_fit}
use Rattle.cax64_encoder.proofs.Whole.{encodes, line_same, place_real, bare_is, vvvv_fit, reg_below, digit_or_register, imm_sized_as}
use Rattle.cax64_encoder.proofs.encoder.code_by_entry.Goals as goal

pub head-head-requires-clause-vvvv_fits : goal.head-head-requires-clause-vvvv_fits
head-head-requires-clause-vvvv_fits c = vvvv_fit (entry_line c.args.entry) (form_named (entry_line c.args.entry) c.args.form.now) c.requires.fits

pub head-head-requires-clause-bare : goal.head-head-requires-clause-bare
head-head-requires-clause-bare c = rw c.register_number-register.ensures.number (bare_is (entry_line c.args.entry) (form_named (entry_line c.args.entry) c.args.form.now) c.requires.fits)

pub tail_part-tail-requires-clause-reg : goal.tail_part-tail-requires-clause-reg
tail_part-tail-requires-clause-reg c = rw (c.register_number-register.ensures.number, c.digit.ensures.value, digit_or_register (entry_line c.args.entry) (form_named (entry_line c.args.entry) c.args.form.now) c.requires.fits) (reg_below plain.settled plain.enc (entry_line c.args.entry) (form_named (entry_line c.args.entry) c.args.form.now) (entry_is_line c.args.entry) c.requires.real)

pub tail_part-tail-requires-clause-place : goal.tail_part-tail-requires-clause-place
tail_part-tail-requires-clause-place c = place_real plain.settled plain.enc (form_named (entry_line c.args.entry) c.args.form.now) c.requires.real

pub append-requires-clause-few : goal.append-requires-clause-few
append-requires-clause-few c =
    let few = head_few (entry_line c.args.entry) c.head-head.ensures.pre c.head-head.result _ (entry_is_line c.args.entry) c.head-head.ensures.prefix.size c.head-head.ensures.is in
    omega (arith, few)

pub append-requires-clause-room : goal.append-requires-clause-room
append-requires-clause-room c =
    let few = head_few (entry_line c.args.entry) c.head-head.ensures.pre c.head-head.result _ (entry_is_line c.args.entry) c.head-head.ensures.prefix.size c.head-head.ensures.is in
    omega (arith, few, c.tail_part-tail.ensures.few)

pub returns-clause-encodes : goal.returns-clause-encodes
returns-clause-encodes c =
    let form = form_named (entry_line c.args.entry) c.args.form.now in
    let prefix : PrefixFor plain.enc (entry_line c.args.entry) (register_number form.reg) form.vvvv form.place (all_bytes (puts c.head-head.ensures.pre)) = rw (all_bytes-puts c.head-head.ensures.pre) (rw c.register_number-register.ensures.number at c.head-head.ensures.prefix) in
    let tail : TailPartOf plain.enc c.args.displacement (imm_size form.imm) (reg_number (entry_line c.args.entry).tail form.reg) form.place (tail_actions c.tail_part-tail.result) = rw (c.register_number-register.ensures.number, c.digit.ensures.value, digit_or_register (entry_line c.args.entry) form c.requires.fits, c.imm_len-imm_len.ensures, imm_sized_as (entry_line c.args.entry) form c.requires.fits, to_z-of_z w32 c.args.displacement c.ranges.displacement) at c.tail_part-tail.ensures.tail in
    let front = rw c.head-head.ensures.is at c.append.ensures.bytes in
    let imm : word_actions c.imm_len-imm_len.result c.args.form.now.imm ≡ optional_imm_actions form.imm = rw c.imm_len-imm_len.ensures (ap (word_actions (imm_bytes (entry_line c.args.entry).imm)) c.requires.imm ∙ imm_put (entry_line c.args.entry).imm form.imm (imm_fit (entry_line c.args.entry) form c.requires.fits)) in
    let is = code_is c.args.form.now.place.trap (trap_in form.place) c.head-head.ensures.pre (opcode_bytes (entry_line c.args.entry).opcode) c.tail_part-tail.result.front c.append.result (target_actions c.tail_part-tail.result.target) (long_actions c.tail_part-tail.result.long) (word_actions c.imm_len-imm_len.result c.args.form.now.imm) (optional_imm_actions form.imm) imm (numbers_are c.args.form.now.place c.requires.numbered).trap front in
    line_same _ _ _ _ is (encodes plain.enc (entry_line c.args.entry) form c.args.displacement (puts c.head-head.ensures.pre) (tail_actions c.tail_part-tail.result) (entry_is_line c.args.entry) c.requires.fits prefix (all_notices-puts c.head-head.ensures.pre) tail c.tail_part-tail.ensures.bytes)

pub returns-clause-length : goal.returns-clause-length
returns-clause-length c =
    let form = form_named (entry_line c.args.entry) c.args.form.now in
    let prefix : PrefixFor plain.enc (entry_line c.args.entry) (register_number form.reg) form.vvvv form.place (all_bytes (puts c.head-head.ensures.pre)) = rw (all_bytes-puts c.head-head.ensures.pre) (rw c.register_number-register.ensures.number at c.head-head.ensures.prefix) in
    let tail : length (all_bytes (tail_actions c.tail_part-tail.result)) ≡ tail_len (place_read plain.enc c.args.displacement (imm_size form.imm) form.place) = rw (c.imm_len-imm_len.ensures, imm_sized_as (entry_line c.args.entry) form c.requires.fits, to_z-of_z w32 c.args.displacement c.ranges.displacement) at c.tail_part-tail.ensures.length in
    let front = rw c.head-head.ensures.is at c.append.ensures.bytes in
    let imm : word_actions c.imm_len-imm_len.result c.args.form.now.imm ≡ optional_imm_actions form.imm = rw c.imm_len-imm_len.ensures (ap (word_actions (imm_bytes (entry_line c.args.entry).imm)) c.requires.imm ∙ imm_put (entry_line c.args.entry).imm form.imm (imm_fit (entry_line c.args.entry) form c.requires.fits)) in
    let is = code_is c.args.form.now.place.trap (trap_in form.place) c.head-head.ensures.pre (opcode_bytes (entry_line c.args.entry).opcode) c.tail_part-tail.result.front c.append.result (target_actions c.tail_part-tail.result.target) (long_actions c.tail_part-tail.result.long) (word_actions c.imm_len-imm_len.result c.args.form.now.imm) (optional_imm_actions form.imm) imm (numbers_are c.args.form.now.place c.requires.numbered).trap front in
    ap (λ (acts : List Action). length (all_bytes acts)) is ∙ (line_is plain.enc (entry_line c.args.entry) form c.args.displacement (trap_in form.place) (puts c.head-head.ensures.pre) (tail_actions c.tail_part-tail.result) (entry_is_line c.args.entry) c.requires.fits prefix.length tail)

pub returns-clause-is : goal.returns-clause-is
returns-clause-is c =
    record {
      front = omega (arith, c.append.ensures.length, head_some c.head-head.ensures.pre c.head-head.result _ c.head-head.ensures.is);
      imm_len = rw c.imm_len-imm_len.ensures (entry_imm_len c.args.entry);
    }
