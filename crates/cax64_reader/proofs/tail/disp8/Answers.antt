use Rattle.std.proofs.Common.{refl}
use Rattle.cax64_reader.proofs.Numbers.{byte_below, number_one, widened}
use Rattle.cax64_reader.proofs.tail.disp8.Goals as goal

pub returns-in_err-n : goal.returns-in_err-n
returns-in_err-n c = rw (c.from_residual.ensures, number_one c.args.bytes.now, ← c.in_err-n.ensures) refl

pub returns : goal.returns
returns c =
    let b = byte_below c.args.bytes.now c.in_ok-n.n c.in_ok-n.rest.now c.type_inv.bytes c.in_ok-n.ensures in
    let e = widened c.in_ok-n.n c.cast_signed.result c.from.result b c.cast_signed.ensures c.from.ensures in
    rw (number_one c.args.bytes.now, ← c.in_ok-n.ensures, e) refl
