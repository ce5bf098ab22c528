use Rattle.std.proofs.Common.{w32}
use Rattle.std.proofs.lemmas.Int.{to_z-of_z}
use Rattle.cax64_sink.proofs.Ends.{ran_keeps}
use Rattle.cax64_encoder.proofs.Instructions.{run_error}
use Rattle.cax64_encoder.proofs.LineRuns.{line_adds, line_leaves, line_enough}
use Rattle.cax64_encoder.proofs.encoder.encode_entry.Goals as goal

pub returns-clause-adds : goal.returns-clause-adds
returns-clause-adds g c =
    let displacement = to_z-of_z w32 c.args.displacement c.ranges.displacement in
    line_adds c.put.result (rw displacement at c.code_by_entry.ensures.encodes) (rw displacement at c.code_by_entry.ensures.length) c.put.ensures.run

pub returns-clause-leaves : goal.returns-clause-leaves
returns-clause-leaves g c =
    let displacement = to_z-of_z w32 c.args.displacement c.ranges.displacement in
    line_leaves c.put.result (rw displacement at c.code_by_entry.ensures.encodes) (rw displacement at c.code_by_entry.ensures.length) c.put.ensures.run

pub returns-clause-error : goal.returns-clause-error
returns-clause-error g c = run_error c.put.result c.put.ensures.run

pub returns-clause-keeps : goal.returns-clause-keeps
returns-clause-keeps g c = ran_keeps c.put.ensures.run

pub returns-clause-enough : goal.returns-clause-enough
returns-clause-enough g c = line_enough c.code_by_entry.ensures.encodes c.put.ensures.run
