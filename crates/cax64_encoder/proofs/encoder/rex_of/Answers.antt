use Rattle.std.proofs.Common.{◌≡◌, Bool, true, false, refl}
use Rattle.std.specs.Prelude.{◌||◌, ◌&&◌, nat_le, IsSome, IsTrue, ◌↔◌}
use Rattle.cax64_prefix.specs.Rex.{is_special_if_8bit}
use Rattle.cax64_encoder.proofs.encoder.rex_of.Goals as goal

one_of_five : (w r x b m : Bool) → ((((w || r) || x) || b) || m) ≡ (w || (r || ((x || b) || m)))
one_of_five true r x b m = refl
one_of_five false true x b m = refl
one_of_five false false true b m = refl
one_of_five false false false b m = refl

pub returns-clause-stands : goal.returns-clause-stands
returns-clause-stands c =
    let special = c.args.uses_8bit && (is_special_if_8bit c.args.reg || is_special_if_8bit c.args.place.now.register) in
    let stands : IsSome c.of_registers.result ↔ IsTrue ((((c.args.w || nat_le 8 c.args.reg) || nat_le 8 c.args.place.now.index) || nat_le 8 c.args.place.now.base) || special) = rw (c.is_special_if_8bit.ensures, c.is_special_if_8bit-2.ensures) at c.of_registers.ensures.stands in
    rw (← one_of_five c.args.w (nat_le 8 c.args.reg) (nat_le 8 c.args.place.now.index) (nat_le 8 c.args.place.now.base) special) stands
