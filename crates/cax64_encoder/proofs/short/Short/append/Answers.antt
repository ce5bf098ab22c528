use Rattle.std.proofs.Common.{◌<◌, ◌≤◌, ◌+◌, ◌∙◌, ap, length, arith}
use Rattle.std.proofs.lemmas.List.{length-append}
use Rattle.cax64_sink.proofs.LowBytes.{word_shifted, both_fit, both_below, view_append, view_length}
use Rattle.cax64_encoder.proofs.short.Short.append.Goals as goal

pub overflow_add-result : goal.overflow_add-result
overflow_add-result c =
    let l = c.self.inside.len in
    let m = c.behind.inside.len in
    let few : l < 8 = rw (← c.self.view_is, view_length l c.self.inside.word c.self.invariant.0) at c.requires.few in
    let room : l + m ≤ 8 = rw (← c.self.view_is, ← c.behind.view_is, view_length l c.self.inside.word c.self.invariant.0, view_length m c.behind.inside.word c.behind.invariant.0) at c.requires.room in
    let is = word_shifted l m c.behind.inside.word c.from.result few room c.behind.invariant.1 c.from.ensures in
    let sum = both_fit l m c.self.inside.word c.behind.inside.word room c.self.invariant.1 c.behind.invariant.1 in
    rw is (omega (arith, sum))

pub invariant_of-result : goal.invariant_of-result
invariant_of-result c =
    let l = c.self.inside.len in
    let m = c.behind.inside.len in
    let few : l < 8 = rw (← c.self.view_is, view_length l c.self.inside.word c.self.invariant.0) at c.requires.few in
    let room : l + m ≤ 8 = rw (← c.self.view_is, ← c.behind.view_is, view_length l c.self.inside.word c.self.invariant.0, view_length m c.behind.inside.word c.behind.invariant.0) at c.requires.room in
    let is = word_shifted l m c.behind.inside.word c.from.result few room c.behind.invariant.1 c.from.ensures in
    (room, rw is (both_below l m c.self.inside.word c.behind.inside.word c.self.invariant.1 c.behind.invariant.1))

pub returns-clause-bytes : goal.returns-clause-bytes
returns-clause-bytes c =
    let l = c.self.inside.len in
    let m = c.behind.inside.len in
    let few : l < 8 = rw (← c.self.view_is, view_length l c.self.inside.word c.self.invariant.0) at c.requires.few in
    let room : l + m ≤ 8 = rw (← c.self.view_is, ← c.behind.view_is, view_length l c.self.inside.word c.self.invariant.0, view_length m c.behind.inside.word c.behind.invariant.0) at c.requires.room in
    let is = word_shifted l m c.behind.inside.word c.from.result few room c.behind.invariant.1 c.from.ensures in
    rw (is, ← c.self.view_is, ← c.behind.view_is) (view_append l m c.self.inside.word c.behind.inside.word room c.self.invariant.1 c.behind.invariant.1)

pub returns-clause-length : goal.returns-clause-length
returns-clause-length c =
    ap length (returns-clause-bytes c) ∙ length-append c.args.self c.args.behind
