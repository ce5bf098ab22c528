use Rattle.std.proofs.Common.{◌∙◌, ap, Err}
use Rattle.huqmeris_c.proofs.Begun.{has_items, put_refused}
use Rattle.huqmeris_c.proofs.Behind.{none_behind}
use Rattle.x64_assemble.specs.declared.errors.LayoutError.{LayoutError}
use Rattle.x64_code_buffer.specs.Buffer.{buffer_state, label_count, places_of}
use Rattle.huqmeris_c.proofs.assemble.put_code.Goals as goal

pub returns-in-Ok-clause-put : goal.returns-in-Ok-clause-put
returns-in-Ok-clause-put c = λ code makes.
    none_behind (label_count c.args.buffer.now) code (buffer_state c.assemble.new.buffer) (places_of c.assemble.new.buffer)
    (has_items code c.args.list.now c.args.buffer.now (buffer_state c.assemble.new.buffer) (places_of c.assemble.new.buffer) makes c.requires c.in-Ok.ensures.assembled c.in-Ok.ensures.tested)

pub returns-clause-refused : goal.returns-clause-refused
returns-clause-refused c = λ code makes few.
    put_refused code c.args.list.now c.told_of.result.number c.told_of.result.status c.in-Err.error c.args.buffer.now makes c.requires few c.in-Err.ensures.first (λ is. c.assemble.ensures.many.0 (c.in-Err.is ∙ ap (λ (e : LayoutError). Err e) is)) c.told_of.ensures
