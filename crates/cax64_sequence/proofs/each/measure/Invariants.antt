use Rattle.std.proofs.Common.{◌≡◌, ◌*◌, ◌≤◌, take}
use Rattle.cax64_sequence.specs.Each.{each_len, each_notice_count}
use Rattle.cax64_sequence.proofs.each.measure.Given as goal

abbrev pub invariant-loop-inst : goal.invariant-loop-inst
invariant-loop-inst g l =
    let state = g.S.CodeSink.state l.sink in
    record {
      bytes : l.bytes ≡ each_len state g.I.Encode.line_meant (take l.inst-index l.insts);
      notices : l.notices ≡ each_notice_count state g.I.Encode.line_meant (take l.inst-index l.insts);
      most : l.bytes ≤ 13 * l.inst-index;
      most_notices : l.notices ≤ l.inst-index;
    }
