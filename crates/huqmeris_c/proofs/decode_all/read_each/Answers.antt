use Rattle.std.proofs.Common.{◌≡◌, ◌∙◌, ◌<◌, ◌≤◌, ap, refl, sym, arith, drop, length, subst, ℕ}
use Rattle.std.proofs.lemmas.List.{get_or-set_same}
use Rattle.x64_plain.specs.declared.reading.HqReading.{HqReading}
use Rattle.huqmeris_c.proofs.Turns.{next, none_yet, read_at}
use Rattle.huqmeris_c.proofs.decode_all.read_each.Goals as goal

pub loop-i-init : goal.loop-i-init
loop-i-init c = record { turn = none_yet c.args.bytes.now; others = refl; end = omega arith }

pub loop-i-preserved : goal.loop-i-preserved
loop-i-preserved c =
    let place : c.loop-i.i < length c.loop-i.out = omega (arith, c.loop-i-test.true, c.loop-i.auto.out) in
    let f = read_at c.loop-i.at c.args.bytes.now c.read.result _ c.read.new.out c.read.ensures c.if-not-read.false in
    let count : c.from-at.result ≡ c.read.new.out.length = c.from-at.ensures ∙ ap (λ (p : HqReading). p.length) (get_or-set_same c.loop-i.out c.loop-i.i c.read.new.out _ place) in
    next c.args.bytes.now c.args.out.now c.loop-i.out c.loop-i.at c.loop-i.i c.from-at.result c.read.new.out c.loop-i.invariant place f.0 count
    (subst (λ (n : ℕ). n ≤ length (drop c.loop-i.at c.args.bytes.now)) (sym count) f.1)
