use Rattle.cax64_table.specs.EntryLine.{entry_line}
use Rattle.cax64_encoder.proofs.LineRuns.{add_gets}
use Rattle.cax64_encoder.proofs.worked.encode_add.Goals as goal

pub returns-in-Some-clause-gets : goal.returns-in-Some-clause-gets
returns-in-Some-clause-gets g c = add_gets (entry_line c.in-Some.entry) c.of_register.result _ _ c.encode_entry.result c.in-Some.ensures.line c.of_register.ensures c.encode_entry.ensures.adds
