use Rattle.std.proofs.Common.{◌≡◌, ◌∙◌, ap, arith}
use Rattle.std.specs.Int.{from_bool}
use Rattle.std.specs.Prelude.{is_some}
use Rattle.cax64_encoder.proofs.Counted.{counted}
use Rattle.cax64_encoder.proofs.code.Code.len.Goals as goal

pub returns : goal.returns
returns c =
    let long : c.from.result ≡ from_bool (is_some c.args.self.now.long) = c.from.ensures ∙ ap from_bool c.is_some.ensures in
    omega (arith, counted c.args.self.now c.requires.is.imm_len, c.len.ensures.is, long)
