use Rattle.std.proofs.Common.{◌≡◌, refl, true, false, Bool, ℕ, Some}
use Rattle.std.specs.Int.{from_bool}
use Rattle.std.specs.Prelude.{option_map, unwrap_or}
use Rattle.cax64_machine_code.specs.Line.{w_matches}
use Rattle.cax64_prefix.specs.Vex.{vex_bytes}
use Rattle.cax64_table.specs.Numbers.{has_vvvv}
use Rattle.cax64_encoder.specs.Number.{number_value}
use Rattle.cax64_encoder.specs.Numbered.{plain, place_named}
use Rattle.cax64_encoder.specs.declared.number.Number.TheVariants.{Settled}
use Rattle.cax64_encoder.proofs.Lines.{line_facts, w_fits}
use Rattle.cax64_encoder.proofs.Numbers.{numbers_are}
use Rattle.cax64_encoder.proofs.PrefixParts.{VexIs, vex_is, vex_for}
use Rattle.cax64_table.proofs.EntryFacts.{entry_is_line}
use Rattle.cax64_table.specs.EntryLine.{entry_line}
use Rattle.x64_place.specs.Operand.{placed}
use Rattle.x64_place.specs.When.{when}
use Rattle.x64_place.proofs.HeadParts.{is_numbered}
use Rattle.x64_place.proofs.code.vex_head.Goals as goal

pub three_op-prefix-requires-clause-map_low : goal.three_op-prefix-requires-clause-map_low
three_op-prefix-requires-clause-map_low c =
    (vex_is (entry_line c.args.entry) c.pp.result c.map.result c.l.result (entry_is_line c.args.entry) c.requires.vex c.pp.ensures.is c.map.ensures.is c.l.ensures.is).map_least

vvvv_number : (present : Bool) (vvvv : ℕ) → (present ≡ false → vvvv ≡ 0) → vvvv ≡ unwrap_or (option_map number_value (option_map Settled (when present vvvv))) 0
vvvv_number true vvvv h = refl
vvvv_number false vvvv h = h refl

pub returns : goal.returns
returns c =
    let line = entry_line c.args.entry in
    let vex : VexIs line.prefix c.pp.result c.map.result c.l.result = vex_is line c.pp.result c.map.result c.l.result (entry_is_line c.args.entry) c.requires.vex c.pp.ensures.is c.map.ensures.is c.l.ensures.is in
    let place = numbers_are (placed c.args.place.now) (is_numbered c.args.place.now) in
    let facts = line_facts line (entry_is_line c.args.entry) in
    let matches : w_matches line.w (from_bool c.w.result) ≡ true = rw c.w.ensures (w_fits line.w facts.w) in
    record {
      pre = vex_bytes c.three_op-prefix.result;
      is = rw (c.append.ensures.bytes, c.vex.ensures, c.of_word.ensures.bytes, c.opcode-opcode.ensures.bytes) refl;
      prefix = vex_for plain.enc line c.args.reg _ (place_named (placed c.args.place.now)) c.pp.result c.map.result c.l.result vex.field c.w.result c.args.vvvv (Some c.args.place.now.base, Some c.args.place.now.index) c.three_op-prefix.result c.three_op-prefix.ensures.bytes
          vex.is (entry_is_line c.args.entry) c.requires.vvvv_fits matches (vvvv_number (has_vvvv line.prefix) c.args.vvvv c.requires.absent) place.b place.x c.w.ensures c.three_op-prefix.ensures.reads c.three_op-prefix.ensures.two_bytes;
    }
