use Rattle.std.proofs.Common.{◌≡◌, ◌*◌, ◌%◌, ◌^◌, ◌∙◌, arith, ap, refl, ℕ, List, length}
use Rattle.cax64_sink.specs.Recorder.{recorder_state}
use Rattle.x64_code_buffer.specs.Buffer.{buffer_state, places_of}
use Rattle.x64_code_buffer.specs.Padding.{missing_to, nops_bytes}
use Rattle.x64_code_buffer.proofs.Filling.{stays_as, stays_both}
use Rattle.x64_code_buffer.proofs.Padded.{Aligned, aligned_by_padding, filled_up, laid_up, least_power, shifted}
use Rattle.x64_code_buffer.specs.Laid.{whole_pieces}
use Rattle.x64_code_buffer.proofs.Pieces.{filled_is_laid, laid_is_filled}
use Rattle.x64_code_buffer.proofs.Putting.{falls_more, no_ok, stays_put}
use Rattle.x64_code_buffer.proofs.buffer.CodeBuffer.align.Goals as goal

pub missing_to-missing-requires : goal.missing_to-missing-requires
missing_to-missing-requires g c = rw (shifted c.from.result c.args.power c.from.ensures c.requires) (least_power c.args.power)

pub put_padding-requires : goal.put_padding-requires
put_padding-requires g c = c.in_ok-reserve.ensures.room_for_bytes

pub returns-in_err-reserve-clause-nearest : goal.returns-in_err-reserve-clause-nearest
returns-in_err-reserve-clause-nearest g c =
    let same : length (buffer_state c.reserve.new.self).bytes ≡ length (buffer_state c.args.self.now).bytes = ap length c.reserve.ensures.as_before.bytes in
    omega (arith, same, least_power c.args.power)

pub returns-in_err-reserve-clause-multiple : goal.returns-in_err-reserve-clause-multiple
returns-in_err-reserve-clause-multiple g c = no_ok _ c.from_residual.result c.from_residual.ensures.0

pub returns-in_err-reserve-clause-adds : goal.returns-in_err-reserve-clause-adds
returns-in_err-reserve-clause-adds g c = no_ok _ c.from_residual.result c.from_residual.ensures.0

pub returns-in_err-reserve-clause-byte_room : goal.returns-in_err-reserve-clause-byte_room
returns-in_err-reserve-clause-byte_room g c =
    let s = buffer_state c.args.self.now in
    falls_more s.byte_room (buffer_state c.reserve.new.self).byte_room (missing_to (length s.bytes) (2 ^ c.args.power)) c.reserve.ensures.as_before.byte_room

pub returns-in_err-reserve-clause-filled : goal.returns-in_err-reserve-clause-filled
returns-in_err-reserve-clause-filled g c readings h = no_ok _ c.from_residual.result c.from_residual.ensures.0

pub returns-in_err-reserve-clause-laid : goal.returns-in_err-reserve-clause-laid
returns-in_err-reserve-clause-laid g c pieces h = no_ok _ c.from_residual.result c.from_residual.ensures.0

pub returns-in_err-reserve-clause-stays : goal.returns-in_err-reserve-clause-stays
returns-in_err-reserve-clause-stays g c = c.reserve.ensures.filled

pub returns : goal.returns
returns g c =
    let s = buffer_state c.args.self.now in
    let u = buffer_state c.reserve.new.self in
    let t = recorder_state c.put_padding.new.recorder in
    let size = 2 ^ c.args.power in
    let n = length s.bytes in
    let old = places_of c.args.self.now in
    let new = places_of c.reserve.new.self in
    let is : c.missing_to-missing.result ≡ missing_to (length s.bytes) size =
    c.missing_to-missing.ensures
    ∙ ap (λ (z : List ℕ). missing_to (length z) ((1 * 2 ^ c.from.result) % 18446744073709551616)) c.bytes.ensures
    ∙ ap (missing_to (length s.bytes)) (shifted c.from.result c.args.power c.from.ensures c.requires) in
    let p : Aligned size s t = aligned_by_padding size c.missing_to-missing.result s u t c.reserve.ensures.as_before c.reserve.ensures.keeps c.put_padding.ensures is (least_power c.args.power) in
    record {
      multiple = p.multiple;
      nearest = p.nearest;
      adds = p.adds;
      unchanged = tt;
      error = tt;
      enough = λ room. refl;
      byte_room = p.byte_room;
      notice_room = p.puts.notice_room;
      keeps = p.puts.keeps;
      labels = c.reserve.ensures.labels;
      label_room = c.reserve.ensures.label_room;
      places = c.reserve.ensures.places;
      filled = λ readings h. filled_up p.nops readings s t new p.puts.bytes p.puts.notices (laid_is_filled readings n s new (stays_as (whole_pieces readings) n s s old new refl refl c.reserve.ensures.places (filled_is_laid readings n s old h)));
      laid = λ pieces h. laid_up p.nops pieces s t new p.puts.bytes p.puts.notices (stays_as pieces n s s old new refl refl c.reserve.ensures.places h);
      stays = stays_both _ _ (λ pieces k h. stays_put (nops_bytes p.nops) pieces k s t old new p.puts c.reserve.ensures.places h);
    }
