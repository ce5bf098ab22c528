use Rattle.std.proofs.Common.{◌≡◌, ◌++◌, ◌∙◌, arith, refl, sym, true, false, Some}
use Rattle.std.proofs.lemmas.List.{append_assoc}
use Rattle.std.specs.Int.{from_bool}
use Rattle.std.specs.Prelude.{IsSome, IsTrue, ◌↔◌}
use Rattle.cax64_machine_code.specs.Line.{opcode_bytes, w_matches}
use Rattle.cax64_table.specs.EntryLine.{entry_line}
use Rattle.cax64_table.proofs.EntryFacts.{entry_is_line}
use Rattle.cax64_prefix.specs.Rex.{rex_bytes}
use Rattle.cax64_prefix.proofs.Prefixes.{legacy_bytes}
use Rattle.cax64_encoder.specs.Numbered.{plain, place_named}
use Rattle.cax64_encoder.specs.Prefix.{rex_stands}
use Rattle.cax64_table.specs.Numbers.{has_8bit, is_vex}
use Rattle.cax64_encoder.specs.ByteWhen.{byte_of}
use Rattle.cax64_encoder.proofs.Fronts.{byte_few, last_prefix, opcode_few}
use Rattle.cax64_encoder.proofs.Lines.{line_facts, w_fits, w_zero}
use Rattle.cax64_encoder.proofs.Numbers.{numbers_are, numbers_below}
use Rattle.cax64_encoder.proofs.PrefixParts.{LegacyIs, legacy_is, VexIs, vex_is, legacy_for, vex_for, vex_length}
use Rattle.cax64_encoder.proofs.encoder.head.Goals as goal

pub rex_of-rex-requires-clause-base : goal.rex_of-rex-requires-clause-base
rex_of-rex-requires-clause-base c = (numbers_below c.args.place.now c.requires.numbered c.requires.place).0

pub rex_of-rex-requires-clause-index : goal.rex_of-rex-requires-clause-index
rex_of-rex-requires-clause-index c = (numbers_below c.args.place.now c.requires.numbered c.requires.place).1

pub three_op-prefix-requires-clause-map_low : goal.three_op-prefix-requires-clause-map_low
three_op-prefix-requires-clause-map_low c =
    let line = entry_line c.args.entry in
    let is : is_vex line.prefix ≡ true = sym c.is_vex.ensures ∙ c.if-is_vex.true in
    (vex_is line c.pp.result c.map.result c.l.result (entry_is_line c.args.entry) is c.pp.ensures.is c.map.ensures.is c.l.ensures.is).map_least

pub returns-then-is_vex : goal.returns-then-is_vex
returns-then-is_vex c =
    let line = entry_line c.args.entry in
    let is : is_vex line.prefix ≡ true = sym c.is_vex.ensures ∙ c.if-is_vex.true in
    let vex : VexIs line.prefix c.pp.result c.map.result c.l.result = vex_is line c.pp.result c.map.result c.l.result (entry_is_line c.args.entry) is c.pp.ensures.is c.map.ensures.is c.l.ensures.is in
    let place = numbers_are c.args.place.now c.requires.numbered in
    let facts = line_facts line (entry_is_line c.args.entry) in
    let matches : w_matches line.w (from_bool c.w-w.result) ≡ true = rw c.w-w.ensures (w_fits line.w facts.w) in
    let prefix = vex_for plain.enc line c.args.reg _ (place_named c.args.place.now) c.pp.result c.map.result c.l.result vex.field c.w-w.result c.register_number.result (Some c.args.place.now.base, Some c.args.place.now.index) c.three_op-prefix.result c.three_op-prefix.ensures.bytes
    vex.is (entry_is_line c.args.entry) c.requires.vvvv_fits matches c.register_number.ensures.number place.b place.x c.w-w.ensures c.three_op-prefix.ensures.reads c.three_op-prefix.ensures.two_bytes in
    record { pre = c.vex.result; prefix = rw c.vex.ensures prefix; is = rw (c.append.ensures.bytes, c.opcode-opcode.ensures) refl }

pub returns : goal.returns
returns c =
    let line = entry_line c.args.entry in
    let none : is_vex line.prefix ≡ false = sym c.is_vex.ensures ∙ c.if-is_vex.false in
    let legacy : LegacyIs line.prefix = legacy_is line.prefix none in
    let place = numbers_are c.args.place.now c.requires.numbered in
    let named = place_named c.args.place.now in
    let facts = line_facts line (entry_is_line c.args.entry) in
    let matches : w_matches line.w (from_bool c.w-w.result) ≡ true = rw c.w-w.ensures (w_fits line.w facts.w) in
    let flag : c.uses_8bit.result ≡ has_8bit line.tail = c.uses_8bit.ensures none in
    let stands : IsSome c.rex_of-rex.result ↔ IsTrue (rex_stands plain.enc c.w-w.result (has_8bit line.tail) c.args.reg named) = rw (flag, place.high, place.special) at c.rex_of-rex.ensures.stands in
    let bytes : c.legacy.result ++ byte_of c.byte.result ≡ legacy_bytes legacy.set ++ rex_bytes c.rex_of-rex.result = rw (c.legacy.ensures.bytes, legacy.bytes, c.byte.ensures, last_prefix c.rex_of-rex.result) refl in
    record {
      pre = c.legacy.result ++ byte_of c.byte.result;
      prefix = rw bytes (legacy_for plain.settled plain.enc line c.args.reg _ named legacy.set legacy.rexed c.w-w.result c.rex_of-rex.result
          legacy.is (entry_is_line c.args.entry) c.requires.reg c.requires.place c.requires.vvvv_fits c.requires.bare matches (λ zero. c.w-w.ensures ∙ w_zero line.w zero) c.w-w.ensures (rw (place.x, place.b) at c.rex_of-rex.ensures.bits) stands);
      is = rw (c.append-2.ensures.bytes, c.behind.ensures.bytes, c.opcode-opcode.ensures) (sym (append_assoc c.legacy.result (byte_of c.byte.result) (opcode_bytes line.opcode)));
    }

pub behind-requires : goal.behind-requires
behind-requires c = rw c.opcode-opcode.ensures (omega (arith, opcode_few (entry_line c.args.entry).opcode))

pub append-requires-clause-room : goal.append-requires-clause-room
append-requires-clause-room c = rw (c.vex.ensures, c.opcode-opcode.ensures) (omega (arith, vex_length c.three_op-prefix.result, opcode_few (entry_line c.args.entry).opcode))

pub append-requires-2-clause-room : goal.append-requires-2-clause-room
append-requires-2-clause-room c =
    rw (c.behind.ensures.length, c.opcode-opcode.ensures) (omega (arith, c.legacy.ensures.few, byte_few c.byte.result, opcode_few (entry_line c.args.entry).opcode))

pub three_op-prefix-requires-clause-base : goal.three_op-prefix-requires-clause-base
three_op-prefix-requires-clause-base c = (numbers_below c.args.place.now c.requires.numbered c.requires.place).0

pub three_op-prefix-requires-clause-index : goal.three_op-prefix-requires-clause-index
three_op-prefix-requires-clause-index c = (numbers_below c.args.place.now c.requires.numbered c.requires.place).1
