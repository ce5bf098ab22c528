use Rattle.std.proofs.Common.{◌≡◌, ◌<◌, ◌^◌, arith, refl}
use Rattle.std.specs.Prelude.{unwrap_or}
use Rattle.cax64_sink.proofs.LowBytes.{both_fit, view_length}
use Rattle.cax64_encoder.proofs.Shorts.{behind_is, behind_word}
use Rattle.cax64_encoder.proofs.short.Short.behind.Goals as goal
use Rattle.cax64_encoder.proofs.short.Short.behind.Goals.{then-stands, else-stands}

pub overflow_mul-further : goal.overflow_mul-further
overflow_mul-further c =
    let l = c.self.inside.len in
    let few : l < 8 = rw (← c.self.view_is, view_length l c.self.inside.word c.self.invariant.0) at c.requires.room in
    let fit = both_fit 1 l 0 c.self.inside.word (omega (arith, few)) (omega arith) c.self.invariant.1 in
    omega (arith, fit)

pub overflow_add-further : goal.overflow_add-further
overflow_add-further c =
    let l = c.self.inside.len in
    let few : l < 8 = rw (← c.self.view_is, view_length l c.self.inside.word c.self.invariant.0) at c.requires.room in
    let below : c.from.result < 256 ^ 1 = omega (arith, c.from.ensures, c.unwrap_or.type_inv) in
    let fit = both_fit 1 l c.from.result c.self.inside.word (omega (arith, few)) below c.self.invariant.1 in
    omega (arith, fit)

pub returns-clause-bytes : goal.returns-clause-bytes
returns-clause-bytes c =
    let l = c.self.inside.len in
    let w = c.self.inside.word in
    let few : l < 8 = rw (← c.self.view_is, view_length l w c.self.invariant.0) at c.requires.room in
    let below : unwrap_or c.args.byte 0 < 256 = rw c.unwrap_or.ensures at c.unwrap_or.type_inv in
    let word : c.if-stands.result ≡ behind_word c.args.byte w = elim c.if-stands.branch [ then-stands t ↦ rw (t.result-is, c.from.ensures, c.unwrap_or.ensures, ← c.is_some-stands.ensures, t.if-stands.true) refl | else-stands t ↦ rw (t.result-is, ← c.is_some-stands.ensures, t.if-stands.false) refl ] in
    rw (← c.self.view_is, word, c.from-2.ensures, c.is_some-stands.ensures) (behind_is c.args.byte l w below few c.self.invariant.1)
