use Rattle.std.proofs.Common.{◌≡◌, ◌≤◌, ◌+◌, ◌-◌, ◌++◌, length, take, w64, rules}
use Rattle.std.specs.Int.{to_le_bytes}
use Rattle.cax64_sink.proofs.PutRuns.{fixed_at_once}
use Rattle.cax64_sink.proofs.fixed_sink.FixedSinkCodeSink.put_low_bytes.Goals as goal

pub returns-clause-run : goal.returns-clause-run
returns-clause-run g c =
    let s = c.args.self.now in
    let u = c.append.new.self in
    let word = to_le_bytes w64 c.args.word in
    let room : length word ≤ g.row.N - s.len = search rules in
    let whole : length (take s.len s.held) ≡ s.len = search rules in
    let added : take (s.len + length word) u.held ≡ take s.len s.held ++ word = search rules in
    rw c.from.ensures (fixed_at_once g.row.N s.len s.held u.held word c.args.count c.requires.least c.requires.most room whole added)
