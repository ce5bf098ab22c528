use Rattle.std.proofs.Common.{◌≡◌, ◌∙◌, ap, sym, length, FitsSigned, w32, rules, None}
use Rattle.std.proofs.lemmas.Int.{to_z-of_z}
use Rattle.cax64_machine_code.specs.Len.{len_of}
use Rattle.cax64_machine_code.specs.Rows.{line_of}
use Rattle.cax64_operand.specs.Family.{family_of, numbering}
use Rattle.cax64_operand.specs.NopRow.{nop_row}
use Rattle.cax64_operand.specs.OperandList.{list_of, nop_of}
use Rattle.cax64_sink.specs.Run.{all_bytes}
use Rattle.cax64_encoder.specs.Code.{code_actions}
use Rattle.cax64_encoder.specs.Encodes.{EncodesParts, form_parts}
use Rattle.cax64_encoder.specs.Form.{form_of}
use Rattle.cax64_encoder.specs.Numbered.{numbered_form, plain, place_named, form_named}
use Rattle.cax64_encoder.specs.Place.{memory_in, displacement_in}
use Rattle.cax64_encoder.specs.declared.content.Content.{Content}
use Rattle.cax64_encoder.proofs.Encodable.{nop_is, fits_row, is_real, is_addressable, encodes_form}
use Rattle.cax64_encoder.proofs.Nops.{nop_encodes}
use Rattle.cax64_encoder.proofs.Numbers.{numbered_of, fits_of, imm_of, offset_of, displacement_of, real_of, encodes_of, length_of}
use Rattle.cax64_encoder.proofs.encoder.code_for.Goals as goal

pub returns-in-Some-clause-encodes : goal.returns-in-Some-clause-encodes
returns-in-Some-clause-encodes g c o given =
    let is = nop_is o c.in-Some.nop (sym (ap (λ (content : Content). content.nop) given.kept) ∙ c.in-Some.is) in
    let own : c.args.row ≡ nop_row c.in-Some.nop = rw is at given.signature in
    rw (is, c.nop_code.ensures.actions) (nop_encodes g.row.R-ReadGpr.Denot c.args.row c.in-Some.nop own)

pub value-displacement-requires : goal.value-displacement-requires
value-displacement-requires g c =
    let f = family_of (numbering g.R.ReadGpr.AsReg.settled g.R.ReadGpr.AsReg.enc) (numbering g.R.ReadWriteGpr.AsReg.settled g.R.ReadWriteGpr.AsReg.enc) (numbering g.R.WriteGpr.AsReg.settled g.R.WriteGpr.AsReg.enc) (numbering g.R.ReadXmm.AsReg.settled g.R.ReadXmm.AsReg.enc) (numbering g.R.ReadWriteXmm.AsReg.settled g.R.ReadWriteXmm.AsReg.enc) (numbering g.R.WriteXmm.AsReg.settled g.R.WriteXmm.AsReg.enc) g.R.WriteGpr.PartialEq.eq in
    let o = c.requires.0 in
    let given = c.requires.1 in
    let none : nop_of o ≡ None = sym (ap (λ (content : Content). content.nop) given.kept) ∙ c.in-None.is in
    let form = form_of f (list_of o) in
    let is : c.args.content.now.form ≡ numbered_form f.read_gpr form = ap (λ (content : Content). content.form) given.kept in
    let offsets = (g.S.CodeSink.state c.args.sink.now).offsets in
    offset_of f.read_gpr _ form is offsets (is_addressable f c.args.row o none g.met.R.WriteGpr.AsReg.same offsets given.can)

pub code_by_row-requires-clause-fits : goal.code_by_row-requires-clause-fits
code_by_row-requires-clause-fits g c =
    let f = family_of (numbering g.R.ReadGpr.AsReg.settled g.R.ReadGpr.AsReg.enc) (numbering g.R.ReadWriteGpr.AsReg.settled g.R.ReadWriteGpr.AsReg.enc) (numbering g.R.WriteGpr.AsReg.settled g.R.WriteGpr.AsReg.enc) (numbering g.R.ReadXmm.AsReg.settled g.R.ReadXmm.AsReg.enc) (numbering g.R.ReadWriteXmm.AsReg.settled g.R.ReadWriteXmm.AsReg.enc) (numbering g.R.WriteXmm.AsReg.settled g.R.WriteXmm.AsReg.enc) g.R.WriteGpr.PartialEq.eq in
    let o = c.requires.0 in
    let given = c.requires.1 in
    let none : nop_of o ≡ None = sym (ap (λ (content : Content). content.nop) given.kept) ∙ c.in-None.is in
    let form = form_of f (list_of o) in
    let is : c.args.content.now.form ≡ numbered_form f.read_gpr form = ap (λ (content : Content). content.form) given.kept in
    let offsets = (g.S.CodeSink.state c.args.sink.now).offsets in
    fits_of f.read_gpr _ form is (line_of c.args.row) (fits_row f c.args.row o none given.signature)

pub code_by_row-requires-clause-imm : goal.code_by_row-requires-clause-imm
code_by_row-requires-clause-imm g c =
    let f = family_of (numbering g.R.ReadGpr.AsReg.settled g.R.ReadGpr.AsReg.enc) (numbering g.R.ReadWriteGpr.AsReg.settled g.R.ReadWriteGpr.AsReg.enc) (numbering g.R.WriteGpr.AsReg.settled g.R.WriteGpr.AsReg.enc) (numbering g.R.ReadXmm.AsReg.settled g.R.ReadXmm.AsReg.enc) (numbering g.R.ReadWriteXmm.AsReg.settled g.R.ReadWriteXmm.AsReg.enc) (numbering g.R.WriteXmm.AsReg.settled g.R.WriteXmm.AsReg.enc) g.R.WriteGpr.PartialEq.eq in
    let o = c.requires.0 in
    let given = c.requires.1 in
    let none : nop_of o ≡ None = sym (ap (λ (content : Content). content.nop) given.kept) ∙ c.in-None.is in
    let form = form_of f (list_of o) in
    let is : c.args.content.now.form ≡ numbered_form f.read_gpr form = ap (λ (content : Content). content.form) given.kept in
    let offsets = (g.S.CodeSink.state c.args.sink.now).offsets in
    imm_of f.read_gpr _ form is (line_of c.args.row) (fits_row f c.args.row o none given.signature)

pub code_by_row-requires-clause-numbered : goal.code_by_row-requires-clause-numbered
code_by_row-requires-clause-numbered g c =
    let f = family_of (numbering g.R.ReadGpr.AsReg.settled g.R.ReadGpr.AsReg.enc) (numbering g.R.ReadWriteGpr.AsReg.settled g.R.ReadWriteGpr.AsReg.enc) (numbering g.R.WriteGpr.AsReg.settled g.R.WriteGpr.AsReg.enc) (numbering g.R.ReadXmm.AsReg.settled g.R.ReadXmm.AsReg.enc) (numbering g.R.ReadWriteXmm.AsReg.settled g.R.ReadWriteXmm.AsReg.enc) (numbering g.R.WriteXmm.AsReg.settled g.R.WriteXmm.AsReg.enc) g.R.WriteGpr.PartialEq.eq in
    let o = c.requires.0 in
    let given = c.requires.1 in
    let none : nop_of o ≡ None = sym (ap (λ (content : Content). content.nop) given.kept) ∙ c.in-None.is in
    let form = form_of f (list_of o) in
    let is : c.args.content.now.form ≡ numbered_form f.read_gpr form = ap (λ (content : Content). content.form) given.kept in
    let offsets = (g.S.CodeSink.state c.args.sink.now).offsets in
    numbered_of f.read_gpr _ form is

pub code_by_row-requires-clause-real : goal.code_by_row-requires-clause-real
code_by_row-requires-clause-real g c =
    let f = family_of (numbering g.R.ReadGpr.AsReg.settled g.R.ReadGpr.AsReg.enc) (numbering g.R.ReadWriteGpr.AsReg.settled g.R.ReadWriteGpr.AsReg.enc) (numbering g.R.WriteGpr.AsReg.settled g.R.WriteGpr.AsReg.enc) (numbering g.R.ReadXmm.AsReg.settled g.R.ReadXmm.AsReg.enc) (numbering g.R.ReadWriteXmm.AsReg.settled g.R.ReadWriteXmm.AsReg.enc) (numbering g.R.WriteXmm.AsReg.settled g.R.WriteXmm.AsReg.enc) g.R.WriteGpr.PartialEq.eq in
    let o = c.requires.0 in
    let given = c.requires.1 in
    let none : nop_of o ≡ None = sym (ap (λ (content : Content). content.nop) given.kept) ∙ c.in-None.is in
    let form = form_of f (list_of o) in
    let is : c.args.content.now.form ≡ numbered_form f.read_gpr form = ap (λ (content : Content). content.form) given.kept in
    let offsets = (g.S.CodeSink.state c.args.sink.now).offsets in
    real_of f.read_gpr _ form is (is_real f c.args.row o none g.met.R.WriteGpr.AsReg.same offsets given.can)

pub returns-in-None-clause-encodes : goal.returns-in-None-clause-encodes
returns-in-None-clause-encodes g c o given =
    let f = family_of (numbering g.R.ReadGpr.AsReg.settled g.R.ReadGpr.AsReg.enc) (numbering g.R.ReadWriteGpr.AsReg.settled g.R.ReadWriteGpr.AsReg.enc) (numbering g.R.WriteGpr.AsReg.settled g.R.WriteGpr.AsReg.enc) (numbering g.R.ReadXmm.AsReg.settled g.R.ReadXmm.AsReg.enc) (numbering g.R.ReadWriteXmm.AsReg.settled g.R.ReadWriteXmm.AsReg.enc) (numbering g.R.WriteXmm.AsReg.settled g.R.WriteXmm.AsReg.enc) g.R.WriteGpr.PartialEq.eq in
    let row = c.args.row in
    let none : nop_of o ≡ None = sym (ap (λ (content : Content). content.nop) given.kept) ∙ c.in-None.is in
    let form = form_of f (list_of o) in
    let is : c.args.content.now.form ≡ numbered_form f.read_gpr form = ap (λ (content : Content). content.form) given.kept in
    let offsets = (g.S.CodeSink.state c.args.sink.now).offsets in
    let real = is_real f row o none g.met.R.WriteGpr.AsReg.same offsets given.can in
    let shape = fits_row f row o none given.signature in
    let small : FitsSigned w32 c.value-displacement.result = search rules in
    let displaced = to_z-of_z w32 c.value-displacement.result small ∙ c.value-displacement.ensures ∙ displacement_of f.read_gpr _ form is offsets in
    let written : EncodesParts (form_parts plain.enc row (displacement_in offsets form.place) (form_named (line_of row) c.args.content.now.form)) (memory_in (place_named c.args.content.now.form.place)) (code_actions c.code_by_row.result) = rw displaced at c.code_by_row.ensures.encodes in
    let size : length (all_bytes (code_actions c.code_by_row.result)) ≡ len_of (form_parts plain.enc row (displacement_in offsets form.place) (form_named (line_of row) c.args.content.now.form)) = rw displaced at c.code_by_row.ensures.length in
    encodes_form f row o none offsets _ (encodes_of f.read_gpr _ form is (line_of row) shape real row (displacement_in offsets form.place) _ written) (length_of f.read_gpr _ form is (line_of row) shape real row (displacement_in offsets form.place) _ size)
