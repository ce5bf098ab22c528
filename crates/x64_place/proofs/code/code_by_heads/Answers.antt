use Rattle.std.proofs.Common.{◌≡◌, ℕ, ◌+◌, ◌∙◌, ap, length, w32, arith, List}
use Rattle.std.proofs.lemmas.Bool.{and_parts}
use Rattle.std.proofs.lemmas.Int.{to_z-of_z}
use Rattle.cax64_address.specs.Emitted.{target_actions}
use Rattle.cax64_machine_code.specs.Len.{tail_len}
use Rattle.cax64_machine_code.specs.Line.{imm_bytes, opcode_bytes}
use Rattle.cax64_table.specs.EntryLine.{entry_line}
use Rattle.cax64_operand.specs.Immediate.{imm_size}
use Rattle.cax64_sink.specs.Call.{Action}
use Rattle.cax64_sink.specs.Puts.{puts}
use Rattle.cax64_sink.specs.Rest.{long_actions, word_actions}
use Rattle.cax64_sink.specs.Run.{all_bytes}
use Rattle.cax64_sink.proofs.PutRuns.{all_bytes-puts, all_notices-puts}
use Rattle.cax64_table.specs.Numbers.{has_register, has_vvvv}
use Rattle.cax64_encoder.specs.Code.{tail_actions}
use Rattle.cax64_encoder.specs.Encodes.{TailPartOf}
use Rattle.cax64_encoder.specs.Form.{tail_fits}
use Rattle.cax64_encoder.specs.ImmActions.{optional_imm_actions}
use Rattle.cax64_encoder.specs.Numbered.{plain, form_named}
use Rattle.cax64_encoder.specs.Place.{place_read}
use Rattle.cax64_encoder.specs.Prefix.{reg_number, register_number, PrefixFor}
use Rattle.cax64_encoder.specs.Real.{trap_in}
use Rattle.cax64_encoder.proofs.Fronts.{code_is, head_few, head_some}
use Rattle.cax64_encoder.proofs.Lengths.{line_is}
use Rattle.cax64_encoder.proofs.Numbers.{numbers_are, numbers_below, imm_put, imm_fit}
use Rattle.cax64_table.proofs.EntryFacts.{entry_imm_len, entry_is_line}
use Rattle.cax64_encoder.proofs.Whole.{bare_is, vvvv_fit, digit_or_register, imm_sized_as, encodes, line_same}
use Rattle.x64_place.specs.Code.{placed_form}
use Rattle.x64_place.specs.Operand.{placed}
use Rattle.x64_place.proofs.CodeParts.{number_when, real_when, real_parts, index_not_four, bare_reg, low_reg}
use Rattle.x64_place.proofs.HeadParts.{is_numbered, named_is}
use Rattle.x64_place.proofs.code.code_by_heads.Goals as goal

pub tail_part-tail-requires-clause-base : goal.tail_part-tail-requires-clause-base
tail_part-tail-requires-clause-base c = (numbers_below (placed c.args.place.now) (is_numbered c.args.place.now) (real_parts (placed_form (entry_line c.args.entry) c.args.reg c.args.vvvv c.args.place.now c.args.imm) c.requires.real).place).0

pub tail_part-tail-requires-clause-index : goal.tail_part-tail-requires-clause-index
tail_part-tail-requires-clause-index c = (numbers_below (placed c.args.place.now) (is_numbered c.args.place.now) (real_parts (placed_form (entry_line c.args.entry) c.args.reg c.args.vvvv c.args.place.now c.args.imm) c.requires.real).place).1

pub tail_part-tail-requires-clause-non_rsp : goal.tail_part-tail-requires-clause-non_rsp
tail_part-tail-requires-clause-non_rsp c = index_not_four c.args.place.now (real_parts (placed_form (entry_line c.args.entry) c.args.reg c.args.vvvv c.args.place.now c.args.imm) c.requires.real).place

pub tail_part-tail-requires-clause-bare : goal.tail_part-tail-requires-clause-bare
tail_part-tail-requires-clause-bare c =
    let line = entry_line c.args.entry in
    let form = form_named line (placed_form (entry_line c.args.entry) c.args.reg c.args.vvvv c.args.place.now c.args.imm) in
    bare_reg line.tail form.reg c.args.place.now c.args.reg c.digit.result (and_parts (tail_fits line.tail form.reg form.place) _ c.requires.fits).0 c.requires.reg c.digit.ensures.value

pub head-head-requires-clause-reg : goal.head-head-requires-clause-reg
head-head-requires-clause-reg c = real_when (has_register (entry_line c.args.entry).tail) c.args.reg c.requires.reg (real_parts (placed_form (entry_line c.args.entry) c.args.reg c.args.vvvv c.args.place.now c.args.imm) c.requires.real).reg

pub head-head-requires-clause-vvvv : goal.head-head-requires-clause-vvvv
head-head-requires-clause-vvvv c = real_when (has_vvvv (entry_line c.args.entry).prefix) c.args.vvvv c.requires.vvvv (real_parts (placed_form (entry_line c.args.entry) c.args.reg c.args.vvvv c.args.place.now c.args.imm) c.requires.real).vvvv

pub head-head-requires-clause-place : goal.head-head-requires-clause-place
head-head-requires-clause-place c = (real_parts (placed_form (entry_line c.args.entry) c.args.reg c.args.vvvv c.args.place.now c.args.imm) c.requires.real).place

pub head-head-requires-clause-vvvv_fits : goal.head-head-requires-clause-vvvv_fits
head-head-requires-clause-vvvv_fits c = vvvv_fit (entry_line c.args.entry) (form_named (entry_line c.args.entry) (placed_form (entry_line c.args.entry) c.args.reg c.args.vvvv c.args.place.now c.args.imm)) c.requires.fits

pub head-head-requires-clause-bare : goal.head-head-requires-clause-bare
head-head-requires-clause-bare c =
    let is = number_when (has_register (entry_line c.args.entry).tail) c.args.reg c.requires.reg in
    let bare = bare_is (entry_line c.args.entry) (form_named (entry_line c.args.entry) (placed_form (entry_line c.args.entry) c.args.reg c.args.vvvv c.args.place.now c.args.imm)) c.requires.fits in
    rw (← is) at bare

pub append-requires-clause-few : goal.append-requires-clause-few
append-requires-clause-few c =
    let line = entry_line c.args.entry in
    let few = head_few line c.head-head.ensures.pre c.head-head.result line.opcode (entry_is_line c.args.entry) c.head-head.ensures.prefix.size c.head-head.ensures.is in
    omega (arith, few)

pub append-requires-clause-room : goal.append-requires-clause-room
append-requires-clause-room c =
    let line = entry_line c.args.entry in
    let few = head_few line c.head-head.ensures.pre c.head-head.result line.opcode (entry_is_line c.args.entry) c.head-head.ensures.prefix.size c.head-head.ensures.is in
    omega (arith, few, c.tail_part-tail.ensures.few)

pub returns-clause-encodes : goal.returns-clause-encodes
returns-clause-encodes c =
    let line = entry_line c.args.entry in
    let numbers = (placed_form (entry_line c.args.entry) c.args.reg c.args.vvvv c.args.place.now c.args.imm) in
    let form = form_named line numbers in
    let reg = number_when (has_register line.tail) c.args.reg c.requires.reg in
    let prefix : PrefixFor plain.enc line (register_number form.reg) form.vvvv form.place (all_bytes (puts c.head-head.ensures.pre)) = rw (all_bytes-puts c.head-head.ensures.pre) (rw reg at c.head-head.ensures.prefix) in
    let part = rw (to_z-of_z w32 c.args.displacement c.ranges.displacement, ← named_is c.args.place.now) at c.tail_part-tail.ensures.tail in
    let whole : c.args.reg + c.digit.result ≡ reg_number line.tail form.reg = ap (λ (n : ℕ). n + c.digit.result) reg ∙ ap (λ (n : ℕ). register_number form.reg + n) c.digit.ensures.value ∙ digit_or_register line form c.requires.fits in
    let sized : c.imm_len-imm_len.result ≡ imm_size form.imm = c.imm_len-imm_len.ensures ∙ imm_sized_as line form c.requires.fits in
    let tail : TailPartOf plain.enc c.args.displacement (imm_size form.imm) (reg_number line.tail form.reg) form.place (tail_actions c.tail_part-tail.result) = rw (← whole, ← sized) (low_reg form.place c.args.displacement c.imm_len-imm_len.result (c.args.reg + c.digit.result) _ part.part) in
    let front = rw c.head-head.ensures.is at c.append.ensures.bytes in
    let imm : word_actions c.imm_len-imm_len.result c.args.imm ≡ optional_imm_actions form.imm = rw c.imm_len-imm_len.ensures (ap (word_actions (imm_bytes line.imm)) c.requires.imm ∙ imm_put line.imm form.imm (imm_fit line form c.requires.fits)) in
    let is = code_is c.args.place.now.trap (trap_in form.place) c.head-head.ensures.pre (opcode_bytes line.opcode) c.tail_part-tail.result.front c.append.result (target_actions c.tail_part-tail.result.target) (long_actions c.tail_part-tail.result.long) (word_actions c.imm_len-imm_len.result c.args.imm) (optional_imm_actions form.imm) imm (numbers_are numbers.place (is_numbered c.args.place.now)).trap front in
    line_same _ _ _ _ is (encodes plain.enc line form c.args.displacement (puts c.head-head.ensures.pre) (tail_actions c.tail_part-tail.result) (entry_is_line c.args.entry) c.requires.fits prefix (all_notices-puts c.head-head.ensures.pre) tail part.bytes)

pub returns-clause-length : goal.returns-clause-length
returns-clause-length c =
    let line = entry_line c.args.entry in
    let numbers = (placed_form (entry_line c.args.entry) c.args.reg c.args.vvvv c.args.place.now c.args.imm) in
    let form = form_named line numbers in
    let reg = number_when (has_register line.tail) c.args.reg c.requires.reg in
    let prefix : PrefixFor plain.enc line (register_number form.reg) form.vvvv form.place (all_bytes (puts c.head-head.ensures.pre)) = rw (all_bytes-puts c.head-head.ensures.pre) (rw reg at c.head-head.ensures.prefix) in
    let part = rw (to_z-of_z w32 c.args.displacement c.ranges.displacement, ← named_is c.args.place.now) at c.tail_part-tail.ensures.tail in
    let sized : c.imm_len-imm_len.result ≡ imm_size form.imm = c.imm_len-imm_len.ensures ∙ imm_sized_as line form c.requires.fits in
    let tail : length (all_bytes (tail_actions c.tail_part-tail.result)) ≡ tail_len (place_read plain.enc c.args.displacement (imm_size form.imm) form.place) = rw (← sized) part.length in
    let front = rw c.head-head.ensures.is at c.append.ensures.bytes in
    let imm : word_actions c.imm_len-imm_len.result c.args.imm ≡ optional_imm_actions form.imm = rw c.imm_len-imm_len.ensures (ap (word_actions (imm_bytes line.imm)) c.requires.imm ∙ imm_put line.imm form.imm (imm_fit line form c.requires.fits)) in
    let is = code_is c.args.place.now.trap (trap_in form.place) c.head-head.ensures.pre (opcode_bytes line.opcode) c.tail_part-tail.result.front c.append.result (target_actions c.tail_part-tail.result.target) (long_actions c.tail_part-tail.result.long) (word_actions c.imm_len-imm_len.result c.args.imm) (optional_imm_actions form.imm) imm (numbers_are numbers.place (is_numbered c.args.place.now)).trap front in
    ap (λ (acts : List Action). length (all_bytes acts)) is ∙ line_is plain.enc line form c.args.displacement (trap_in form.place) (puts c.head-head.ensures.pre) (tail_actions c.tail_part-tail.result) (entry_is_line c.args.entry) c.requires.fits prefix.length tail

pub returns-clause-is : goal.returns-clause-is
returns-clause-is c =
    let line = entry_line c.args.entry in
    let some = head_some c.head-head.ensures.pre c.head-head.result line.opcode c.head-head.ensures.is in
    record {
      front = omega (arith, some, c.append.ensures.length);
      imm_len = rw c.imm_len-imm_len.ensures (entry_imm_len c.args.entry);
    }
