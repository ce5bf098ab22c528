use Rattle.std.proofs.Common.{◌≡◌, ◌≤◌, ℕ, refl, sym, ap, ◌∙◌, arith, List, length, Result, Ok, Err, Option, Some, None}
use Rattle.std.specs.Prelude.{OnOk, OnErr, IsOk, Contains}
use Rattle.std.proofs.lemmas.List.Elements.{Contains-get_or}
use Rattle.cax64_address.specs.declared.amode.Amode.{Amode}
use Rattle.cax64_address.specs.declared.amode.Amode.TheVariants.{ImmReg, ImmRegRegShift, RipRelative}
use Rattle.cax64_encoder.specs.AddsLine.{AddsLine}
use Rattle.cax64_encoder.specs.EncodesLine.{EncodesLine, line_notices_of}
use Rattle.cax64_encoder.specs.Notices.{memory_notices}
use Rattle.cax64_encoder.proofs.LineRuns.{line_adds}
use Rattle.cax64_machine_code.specs.Reading.{PartsOf}
use Rattle.cax64_machine_code.specs.ReadLine.{LineReading}
use Rattle.cax64_machine_code.specs.Sequence.{IsFront}
use Rattle.cax64_machine_code.specs.declared.line.Line.{Line}
use Rattle.cax64_machine_code.proofs.ReadLine.{contained, line_reads}
use Rattle.cax64_shortest.proofs.Whole.{line_string_least}
use Rattle.cax64_sink.specs.Call.{Action}
use Rattle.cax64_sink.specs.Room.{HasRoom, FallsBy}
use Rattle.cax64_sink.specs.Run.{Ran, all_bytes, byte_total, notice_total}
use Rattle.cax64_sink.specs.Sink.{State}
use Rattle.cax64_sink.specs.declared.SinkError.{SinkError}
use Rattle.cax64_sink.proofs.Rooms.{ran_succeeds, ran_byte_room, ran_notice_room, size_is_length, notes_is_length}
use Rattle.x64_core.specs.Adds.{AddsCore, LeavesCore}
use Rattle.x64_core.specs.Core.{core_meant, core_len}
use Rattle.x64_lines.specs.Line.{core_line, no_line}
use Rattle.x64_lines.specs.Lines.{core_lines}
use Rattle.x64_core.specs.View.{CoreView, core_view}
use Rattle.x64_core.specs.declared.instruction.Core.{Core}
use Rattle.x64_lines.proofs.Table.{lines_apart, op_below, so_many}

-- A run of the actions that write an instruction of the core.

pub is_there : (c : Core) → Contains core_lines (core_line c.op.number)
is_there c = Contains-get_or core_lines c.op.number no_line (omega (arith, so_many, op_below c.op))

pub core_adds : (c : Core) {acts : List Action} {s t : State} (r : Result (Unit {0}) SinkError) → EncodesLine (core_meant (core_view c) s.offsets).parts (core_meant (core_view c) s.offsets).memory acts → length (all_bytes acts) ≡ core_len s.offsets (core_view c) → Ran acts s t r → OnOk r (AddsCore (core_view c) s t)
core_adds c {acts} {s} {t} (Ok tt) h len run =
    let m = core_meant (core_view c) s.offsets in
    let adds : AddsLine m.parts m.memory s t = line_adds (Ok tt) h len run in
    record {
      line = adds;
      alone = λ rest. line_reads core_lines (core_line c.op.number) _ adds.reads.reading lines_apart (contained core_lines (core_line c.op.number) (is_there c)) (adds.reads.reads rest);
      shortest = λ bytes reading are_bytes read same. rw adds.length (line_string_least (core_line c.op.number) m.parts bytes reading are_bytes read same);
    }
core_adds c (Err e) h len run = tt

-- the old bytes stay in front
pub core_front : (v : CoreView) (s t : State) (r : Result (Unit {0}) SinkError) → OnOk r (AddsCore v s t) → OnErr r (LeavesCore v s t) → IsFront s.bytes t.bytes
core_front v s t (Ok tt) adds leaves = record { rest = adds.line.added; whole = sym adds.line.bytes }
core_front v s t (Err e) adds leaves = record { rest = leaves.left; whole = sym leaves.bytes }

-- Rooms.

notices_counted : (memory : Option (Amode ℕ)) (at : ℕ) (reading : LineReading) → length (line_notices_of memory at reading) ≡ memory_notices memory
notices_counted None at reading = refl
notices_counted (Some (ImmReg base simm32 None)) at reading = refl
notices_counted (Some (ImmReg base simm32 (Some code))) at reading = refl
notices_counted (Some (ImmRegRegShift base index scale simm32 None)) at reading = refl
notices_counted (Some (ImmRegRegShift base index scale simm32 (Some code))) at reading = refl
notices_counted (Some (RipRelative target)) at reading = refl

bytes_are : (acts : List Action) {n : ℕ} → length (all_bytes acts) ≡ n → byte_total acts ≡ n
bytes_are acts len = size_is_length acts ∙ len

notices_are : {parts : PartsOf Line} {memory : Option (Amode ℕ)} {acts : List Action} → EncodesLine parts memory acts → notice_total acts ≡ memory_notices memory
notices_are {parts} {memory} {acts} h = notes_is_length acts 0 ∙ ap length (h.notices 0) ∙ notices_counted memory 0 h.reads.reading

pub core_room : {parts : PartsOf Line} {memory : Option (Amode ℕ)} {acts : List Action} {n : ℕ} {s t : State} {r : Result (Unit {0}) SinkError} → EncodesLine parts memory acts → length (all_bytes acts) ≡ n → Ran acts s t r → HasRoom s.byte_room n → HasRoom s.notice_room (memory_notices memory) → IsOk r
core_room {acts = acts} h len run bytes told = ran_succeeds run (rw (bytes_are acts len) bytes) (rw (notices_are h) told)

pub core_bytes_fall : {acts : List Action} {n : ℕ} {s t : State} {r : Result (Unit {0}) SinkError} → length (all_bytes acts) ≡ n → Ran acts s t r → FallsBy s.byte_room t.byte_room n
core_bytes_fall {acts = acts} len run k room = ran_byte_room run k (rw (bytes_are acts len) room)

pub core_notices_fall : {parts : PartsOf Line} {memory : Option (Amode ℕ)} {acts : List Action} {s t : State} {r : Result (Unit {0}) SinkError} → EncodesLine parts memory acts → Ran acts s t r → FallsBy s.notice_room t.notice_room (memory_notices memory)
core_notices_fall h run k room = ran_notice_room run k (rw (notices_are h) room)

-- its bytes are one to thirteen
pub core_least : {parts : PartsOf Line} {memory : Option (Amode ℕ)} {acts : List Action} {n : ℕ} → EncodesLine parts memory acts → length (all_bytes acts) ≡ n → 1 ≤ n
core_least h len = omega (arith, len, h.reads.length, h.reads.least)

pub core_most : {parts : PartsOf Line} {memory : Option (Amode ℕ)} {acts : List Action} {n : ℕ} → EncodesLine parts memory acts → length (all_bytes acts) ≡ n → n ≤ 13
core_most h len = omega (arith, len, h.reads.length, h.reads.most)
