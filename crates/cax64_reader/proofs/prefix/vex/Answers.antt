use Rattle.std.proofs.Common.{refl}
use Rattle.cax64_reader.proofs.Prefixes.{vex_behind, not_equal, is_four}
use Rattle.cax64_reader.proofs.prefix.vex.Goals as goal

pub returns-in_err-second : goal.returns-in_err-second
returns-in_err-second c = rw (c.from_residual.ensures, vex_behind c.args.first c.args.rest.now, ← c.in_err-second.ensures) refl

pub returns-then-first-eq197 : goal.returns-then-first-eq197
returns-then-first-eq197 c = rw (vex_behind c.args.first c.args.rest.now, ← c.in_ok-second.ensures, c.if-first-eq197.true, c.two_byte.ensures) refl

pub returns-in_err-third : goal.returns-in_err-third
returns-in_err-third c = rw (c.from_residual-in_err-third.ensures, vex_behind c.args.first c.args.rest.now, ← c.in_ok-second.ensures, not_equal c.args.first 0xC5 c.if-first-eq197.false, ← c.in_err-third.ensures) refl

pub returns-then-is_map : goal.returns-then-is_map
returns-then-is_map c = rw (vex_behind c.args.first c.args.rest.now, ← c.in_ok-second.ensures, not_equal c.args.first 0xC5 c.if-first-eq197.false, ← c.in_ok-third.ensures, is_four c.args.first c.requires c.if-first-eq197.false, ← c.is_map.ensures, c.if-is_map.true, c.three_byte.ensures) refl

pub returns : goal.returns
returns c = rw (vex_behind c.args.first c.args.rest.now, ← c.in_ok-second.ensures, not_equal c.args.first 0xC5 c.if-first-eq197.false, ← c.in_ok-third.ensures, is_four c.args.first c.requires c.if-first-eq197.false, ← c.is_map.ensures, c.if-is_map.false) refl
