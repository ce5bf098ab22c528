use Rattle.std.proofs.Common.{◌≡◌, refl, ap, length, subst, Result, Ok, Err}
use Rattle.std.specs.Prelude.{OnErr, OnOk}
use Rattle.cax64_encoder.specs.EncodeError.{NotRefused, OnFault}
use Rattle.cax64_encoder.specs.declared.error.EncodeError.{EncodeError}
use Rattle.cax64_encoder.specs.declared.error.EncodeError.TheVariants.{Fault, Sink}
use Rattle.cax64_machine_code.specs.Reading.{PartsOf}
use Rattle.cax64_machine_code.specs.declared.line.Line.{Line}
use Rattle.cax64_sink.specs.Recorder.{recorder_state}
use Rattle.cax64_sink.specs.Sink.{State}
use Rattle.x64_code_buffer.specs.Buffer.{places_of}
use Rattle.x64_code_buffer.specs.Laid.{LaidOn, whole, whole_pieces}
use Rattle.x64_code_buffer.proofs.Filling.{stays_both, stays_as, few_bytes, few_notices, if_ok, meant_laid}
use Rattle.x64_code_buffer.proofs.Pieces.{filled_is_laid, laid_on_is_filled_on}
use Rattle.x64_code_buffer.proofs.buffer.CodeBuffer.push_checked.Goals as goal

if_both : {E P Q S : Type 0} (r : Result (Unit {0}) E) → (P → Q → S) → OnOk r P → OnOk r Q → OnOk r S
if_both (Ok tt) f p q = f p q
if_both (Err e) f p q = tt

-- where nothing is refused, an error is a fault
fault_alone : {P Q : Type 0} (r : Result (Unit {0}) EncodeError) → (P → Q) → NotRefused r → OnFault r P → OnErr r Q
fault_alone (Ok tt) f taken h = tt
fault_alone (Err (Fault why)) f taken h = f h
fault_alone (Err (Sink why)) f taken h = absurd taken

pub returns-then-has_room-clause-laid : goal.returns-then-has_room-clause-laid
returns-then-has_room-clause-laid g c pieces h =
    let s : State = recorder_state c.args.self.now.recorder in
    let t : State = recorder_state c.encode_checked.new.sink in
    let places = places_of c.args.self.now in
    if_both c.encode_checked.result (λ relative adds. meant_laid (g.I.Encode.line_meant c.args.inst.now s.offsets) pieces s t places places refl (λ target. refl) relative h (g.met.I.Encode.adds_meant c.args.inst.now s t adds)) c.encode_checked.ensures.relative c.encode_checked.ensures.adds

pub returns-then-has_room-clause-filled : goal.returns-then-has_room-clause-filled
returns-then-has_room-clause-filled g c meant is readings h =
    let s : State = recorder_state c.args.self.now.recorder in
    let t : State = recorder_state c.encode_checked.new.sink in
    let places = places_of c.args.self.now in
    if_ok c.encode_checked.result (λ (l : LaidOn whole (g.I.Encode.line_meant c.args.inst.now s.offsets).parts (whole_pieces readings) t places). laid_on_is_filled_on meant readings t places (subst (λ (p : PartsOf Line). LaidOn whole p (whole_pieces readings) t places) is l)) (returns-then-has_room-clause-laid g c (whole_pieces readings) (filled_is_laid readings (length s.bytes) s places h))

pub returns-then-has_room-clause-most_bytes : goal.returns-then-has_room-clause-most_bytes
returns-then-has_room-clause-most_bytes g c =
    let s : State = recorder_state c.args.self.now.recorder in
    let t : State = recorder_state c.encode_checked.new.sink in
    if_ok c.encode_checked.result (λ a. few_bytes (g.I.Encode.line_meant c.args.inst.now s.offsets) s t (g.met.I.Encode.adds_meant c.args.inst.now s t a)) c.encode_checked.ensures.adds

pub returns-then-has_room-clause-most_notices : goal.returns-then-has_room-clause-most_notices
returns-then-has_room-clause-most_notices g c = few_notices (g.I.Encode.line_meant c.args.inst.now (recorder_state c.args.self.now.recorder).offsets).memory

pub returns-then-has_room-clause-refused : goal.returns-then-has_room-clause-refused
returns-then-has_room-clause-refused g c =
    let s = recorder_state c.args.self.now.recorder in
    let t = recorder_state c.encode_checked.new.sink in
    let places = places_of c.args.self.now in
    fault_alone c.encode_checked.result (λ (same : c.encode_checked.new.sink ≡ c.args.self.now.recorder). stays_both _ _ (λ pieces n h.
    stays_as pieces n s t places places (ap (λ r. (recorder_state r).bytes) same) (ap (λ r. (recorder_state r).notices) same) (λ target. refl) h))
    (c.encode_checked.ensures.enough (c.if-has_room.ensures.bytes refl) (c.if-has_room.ensures.notices refl)) c.encode_checked.ensures.unchanged
