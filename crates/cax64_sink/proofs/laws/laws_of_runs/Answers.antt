use Rattle.cax64_sink.proofs.Runs.{ran_bytes, ran_notices, ran_error}
use Rattle.cax64_sink.proofs.Ends.{ran_keeps}
use Rattle.cax64_sink.proofs.Refusals.{ran_refusal}
use Rattle.cax64_sink.proofs.Results.{ran_no_memory, ran_full}
use Rattle.cax64_sink.proofs.Rooms.{ran_succeeds, ran_byte_room, ran_notice_room}
use Rattle.cax64_sink.proofs.laws.laws_of_runs.Goals as goal

pub returns-clause-bytes : goal.returns-clause-bytes
returns-clause-bytes c = λ acts s t r h is. ran_bytes h is

pub returns-clause-notices : goal.returns-clause-notices
returns-clause-notices c = λ acts s t r h is. ran_notices h is

pub returns-clause-refusal : goal.returns-clause-refusal
returns-clause-refusal c = λ acts s t r h e is. ran_refusal h is

pub returns-clause-errors : goal.returns-clause-errors
returns-clause-errors c = λ acts s t r h e is. ran_error h is

pub returns-clause-no_memory : goal.returns-clause-no_memory
returns-clause-no_memory c = λ acts s t r h e alone is. ran_no_memory h alone is

pub returns-clause-full : goal.returns-clause-full
returns-clause-full c = λ acts s t r h e alone is. ran_full h alone is

pub returns-clause-keep : goal.returns-clause-keep
returns-clause-keep c = λ acts s t r h. ran_keeps h

pub returns-clause-succeed : goal.returns-clause-succeed
returns-clause-succeed c = λ acts s t r h bytes notices. ran_succeeds h bytes notices

pub returns-clause-rooms : goal.returns-clause-rooms
returns-clause-rooms c = λ acts s t r h. (ran_byte_room h, ran_notice_room h)
