use Rattle.std.proofs.Common.{◌-◌, ◌/◌, ◌%◌, arith, refl}
use Rattle.std.specs.Int.{from_bool}
use Rattle.cax64_table.proofs.Again.{vex_again}
use Rattle.cax64_reader.proofs.Fronts.{with_vex_are}
use Rattle.cax64_reader.proofs.prefix.with_vex.Goals as goal

pub invariant_of-result : goal.invariant_of-result
invariant_of-result c = record {
  meant = with_vex_are c.vex.result (c.args.last % 4) c.args.map (c.args.last / 4 % 2) (15 - c.args.last / 8 % 16) c.args.w c.args.r c.args.x c.args.b (omega arith) c.requires
      (c.vex.ensures (record { w = from_bool c.args.w; r = from_bool c.args.r; x = from_bool c.args.x; b = from_bool c.args.b; vvvv = 15 - c.args.last / 8 % 16; l = c.args.last / 4 % 2; pp = c.args.last % 4; map = c.args.map }) refl refl refl refl);
}

pub returns : goal.returns
returns c =
    vex_again c.vex.result (c.args.last % 4) c.args.map (c.args.last / 4 % 2) (15 - c.args.last / 8 % 16) c.args.w c.args.r c.args.x c.args.b (omega arith) c.requires
    (c.vex.ensures (record { w = from_bool c.args.w; r = from_bool c.args.r; x = from_bool c.args.x; b = from_bool c.args.b; vvvv = 15 - c.args.last / 8 % 16; l = c.args.last / 4 % 2; pp = c.args.last % 4; map = c.args.map }) refl refl refl refl)
