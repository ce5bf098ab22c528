use Rattle.cax64_sink.proofs.Ends.{ran_keeps}
use Rattle.cax64_encoder.proofs.Instructions.{run_error}
use Rattle.cax64_encoder.proofs.LineRuns.{line_leaves, line_enough}
use Rattle.x64_core.specs.View.{core_view}
use Rattle.x64_core.proofs.Runs.{core_adds, core_front, core_room, core_bytes_fall, core_notices_fall}
use Rattle.x64_core.proofs.instruction.Core.encode.Goals as goal

pub returns-clause-adds : goal.returns-clause-adds
returns-clause-adds g c = core_adds c.args.self.now c.put.result c.code.ensures.encodes c.code.ensures.length c.put.ensures.run

pub returns-clause-leaves : goal.returns-clause-leaves
returns-clause-leaves g c = line_leaves c.put.result c.code.ensures.encodes c.code.ensures.length c.put.ensures.run

pub returns-clause-front : goal.returns-clause-front
returns-clause-front g c = core_front (core_view c.args.self.now) _ _ c.put.result (core_adds c.args.self.now c.put.result c.code.ensures.encodes c.code.ensures.length c.put.ensures.run) (line_leaves c.put.result c.code.ensures.encodes c.code.ensures.length c.put.ensures.run)

pub returns-clause-error : goal.returns-clause-error
returns-clause-error g c = run_error c.put.result c.put.ensures.run

pub returns-clause-keeps : goal.returns-clause-keeps
returns-clause-keeps g c = ran_keeps c.put.ensures.run

pub returns-clause-enough : goal.returns-clause-enough
returns-clause-enough g c = line_enough c.code.ensures.encodes c.put.ensures.run

pub returns-clause-room : goal.returns-clause-room
returns-clause-room g c = core_room c.code.ensures.encodes c.code.ensures.length c.put.ensures.run

pub returns-clause-byte_room : goal.returns-clause-byte_room
returns-clause-byte_room g c = core_bytes_fall c.code.ensures.length c.put.ensures.run

pub returns-clause-notice_room : goal.returns-clause-notice_room
returns-clause-notice_room g c = core_notices_fall c.code.ensures.encodes c.put.ensures.run
