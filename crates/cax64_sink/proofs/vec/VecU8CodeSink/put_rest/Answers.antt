use Rattle.std.proofs.Common.{◌≡◌, ◌≤◌, ◌+◌, ◌-◌, length, take, w64, rules}
use Rattle.std.specs.Int.{to_le_bytes}
use Rattle.std.specs.Prelude.{vec_len, vec_capacity, ◌++◌}
use Rattle.cax64_sink.specs.Run.{all_bytes}
use Rattle.cax64_sink.specs.Rest.{long_actions}
use Rattle.cax64_sink.proofs.Rests.{rest_at_once}
use Rattle.cax64_sink.proofs.vec.VecU8CodeSink.put_rest.Goals as goal

pub returns-clause-run : goal.returns-clause-run
returns-clause-run g c =
    let v = c.args.self.now in
    let u = c.extend_from_slice.new.self in
    let w = c.truncate.new.self in
    let word = to_le_bytes w64 c.rest_word.result in
    let n = c.from-count.result in
    let size : n ≡ length (all_bytes (long_actions c.args.long)) + c.args.imm_len = search rules in
    let room : 8 ≤ vec_capacity v - vec_len v = search rules in
    let added : u.items ≡ v.items ++ word = search rules in
    let cut : w.items ≡ take (vec_len v + n) u.items = search rules in
    let grown : vec_capacity v ≤ vec_capacity w = search rules in
    rest_at_once v u w c.args.long c.args.imm c.args.imm_len word n c.requires size c.rest_word.ensures room added cut grown
