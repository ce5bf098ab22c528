use Rattle.std.specs.Prelude.{◌*◌, ◌/◌, ◌%◌, bit_or}
use Rattle.std.specs.Int.{from_bool}
use Rattle.std.proofs.Common.{◌∙◌, ap}
use Rattle.x64_place.proofs.Special.{placed_special}
use Rattle.x64_place.proofs.code.special.Goals as goal

pub returns-clause-is : goal.returns-clause-is
returns-clause-is c = ap (λ n. bit_or c.args.reg (c.args.place.now.base * n) / 4 % 2) (c.from.ensures ∙ ap from_bool c.is_register.ensures) ∙ placed_special c.args.place.now.kind c.args.reg c.args.place.now.base
