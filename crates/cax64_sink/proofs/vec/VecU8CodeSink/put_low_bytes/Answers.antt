use Rattle.std.proofs.Common.{◌≡◌, ◌≤◌, ◌+◌, ◌-◌, length, take, w64, rules}
use Rattle.std.specs.Int.{to_le_bytes}
use Rattle.std.specs.Prelude.{vec_len, vec_capacity, ◌++◌}
use Rattle.cax64_sink.proofs.PutRuns.{vec_at_once}
use Rattle.cax64_sink.proofs.vec.VecU8CodeSink.put_low_bytes.Goals as goal

pub returns-clause-run : goal.returns-clause-run
returns-clause-run g c =
    let v = c.args.self.now in
    let u = c.extend_from_slice.new.self in
    let w = c.truncate.new.self in
    let word = to_le_bytes w64 c.args.word in
    let room : length word ≤ vec_capacity v - vec_len v = search rules in
    let added : u.items ≡ v.items ++ word = search rules in
    let cut : w.items ≡ take (vec_len v + c.args.count) u.items = search rules in
    let grown : vec_capacity v ≤ vec_capacity w = search rules in
    vec_at_once v u w word c.args.count c.requires.least c.requires.most room added cut grown
