use Rattle.std.proofs.Common.{◌/◌}
use Rattle.std.specs.Int.{from_bool}
use Rattle.cax64_prefix.proofs.RexBits.{are_bits, rex_joined}
use Rattle.cax64_prefix.proofs.rex.rex_byte.Goals as goal

pub returns : goal.returns
returns c =
    let a = c.args in let q = c.requires in
    rw c.from-w.ensures (rex_joined (record { w = from_bool a.w_bit; r = a.enc_reg / 8; x = a.enc_index / 8; b = a.enc_base / 8 }) (are_bits a.w_bit a.enc_reg a.enc_index a.enc_base q.reg q.index q.base))
