use Rattle.std.proofs.Common.{◌≡◌, arith, ap, subst, sym, ℕ, ◌/◌, ◌%◌, List, ◌++◌, Some, None, length, length-append}
use Rattle.std.specs.Prelude.{replicate}
use Rattle.cax64_encoder.specs.Nop.{nop_bytes}
use Rattle.cax64_operand.specs.declared.nop.Nop.TheVariants.{Nine}
use Rattle.cax64_sink.specs.Recorder.{recorder_state}
use Rattle.x64_code_buffer.proofs.Padded.{nines_length, padding_none, padding_one}
use Rattle.x64_code_buffer.proofs.Putting.{puts_on, room_left}
use Rattle.x64_code_buffer.specs.Padding.{nops_bytes, padding}
use Rattle.x64_code_buffer.specs.Put.{PutsBytes}
use Rattle.x64_code_buffer.proofs.align.put_padding.Goals as goal

pub put_nines-requires : goal.put_nines-requires
put_nines-requires g c = omega (arith, c.requires)

pub put_nop-requires : goal.put_nop-requires
put_nop-requires g c =
    let n = c.args.len / 9 in
    room_left (nops_bytes (replicate n Nine)) (recorder_state c.args.recorder.now) (recorder_state c.put_nines.new.recorder) c.args.len (length (nop_bytes c.in-Some.nop)) c.put_nines.ensures c.requires (omega (arith, nines_length n, c.in-Some.ensures))

pub returns-in-Some : goal.returns-in-Some
returns-in-Some g c =
    let s = recorder_state c.args.recorder.now in
    let u = recorder_state c.put_nines.new.recorder in
    let t = recorder_state c.put_nop.new.recorder in
    let n = c.args.len / 9 in
    let nop = c.in-Some.nop in
    let size : length (nop_bytes nop) ≡ c.args.len % 9 = c.in-Some.ensures in
    let all : nops_bytes (padding n (Some nop)) ≡ nops_bytes (replicate n Nine) ++ nop_bytes nop = padding_one n nop in
    record {
      nines = n;
      rest = Some nop;
      short = omega (arith, size);
      puts = subst (λ (z : List ℕ). PutsBytes z s t) (sym all) (puts_on (nops_bytes (replicate n Nine)) (nop_bytes nop) s u t c.put_nines.ensures c.put_nop.ensures);
      len_is = omega (arith, ap length all, length-append (nops_bytes (replicate n Nine)) (nop_bytes nop), nines_length n, size);
    }

pub returns-in_default : goal.returns-in_default
returns-in_default g c =
    let s = recorder_state c.args.recorder.now in
    let u = recorder_state c.put_nines.new.recorder in
    let n = c.args.len / 9 in
    let none : c.args.len % 9 ≡ 0 = c.in_default.ensures in
    let all : nops_bytes (padding n None) ≡ nops_bytes (replicate n Nine) = padding_none n in
    record {
      nines = n;
      rest = None;
      short = tt;
      puts = subst (λ (z : List ℕ). PutsBytes z s u) (sym all) c.put_nines.ensures;
      len_is = omega (arith, ap length all, nines_length n, none);
    }
