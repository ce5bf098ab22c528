use Rattle.std.proofs.Common.{◌≡◌, ◌∙◌, refl, subst, length, w32}
use Rattle.std.proofs.lemmas.Int.{to_z-of_z}
use Rattle.cax64_machine_code.specs.Len.{line_len}
use Rattle.cax64_machine_code.specs.Rows.{line_of}
use Rattle.cax64_machine_code.specs.declared.line.Line.{Line}
use Rattle.cax64_sink.specs.Run.{all_bytes}
use Rattle.cax64_encoder.specs.Code.{code_actions}
use Rattle.cax64_encoder.specs.EncodesLine.{EncodesLine, line_form_parts}
use Rattle.cax64_encoder.specs.Numbered.{plain, form_named, place_named}
use Rattle.cax64_encoder.specs.Place.{memory_in}
use Rattle.cax64_encoder.proofs.Lengths.{len_alike}
use Rattle.cax64_encoder.proofs.Whole.{row_encodes}
use Rattle.cax64_encoder.proofs.encoder.code_by_row.Goals as goal

pub returns-clause-encodes : goal.returns-clause-encodes
returns-clause-encodes c =
    let line = line_of c.args.row in
    let form = form_named line c.args.form.now in
    row_encodes c.args.row (line_form_parts plain.enc line c.args.displacement form) (memory_in (place_named c.args.form.now.place)) (code_actions c.code_by_entry.result) refl
    (subst (λ (l : Line). EncodesLine (line_form_parts plain.enc l c.args.displacement (form_named l c.args.form.now)) (memory_in (place_named c.args.form.now.place)) (code_actions c.code_by_entry.result)) c.of_row.ensures (rw (to_z-of_z w32 c.args.displacement c.ranges.displacement) at c.code_by_entry.ensures.encodes))

pub returns-clause-length : goal.returns-clause-length
returns-clause-length c =
    let line = line_of c.args.row in
    subst (λ (l : Line). length (all_bytes (code_actions c.code_by_entry.result)) ≡ line_len l (line_form_parts plain.enc l c.args.displacement (form_named l c.args.form.now))) c.of_row.ensures (rw (to_z-of_z w32 c.args.displacement c.ranges.displacement) at c.code_by_entry.ensures.length)
    ∙ len_alike c.args.row line (line_form_parts plain.enc line c.args.displacement (form_named line c.args.form.now))
