use Rattle.std.proofs.Common.{◌≡◌, ◌+◌, ◌*◌, ◌<◌, arith}
use Rattle.cax64_address.proofs.Emits.{emits_relative, negated}
use Rattle.cax64_address.proofs.TailBytes.{relative_bytes}
use Rattle.cax64_address.proofs.tail.relative_tail.Goals as goal

pub returns-clause-tail : goal.returns-clause-tail
returns-clause-tail c factor =
    let last : c.args.bytes_at_end < 256 = omega arith in
    let byte : c.encode_modrm.result ≡ c.args.reg * 8 + 5 = omega arith in
    emits_relative factor _ _ _ _ _ c.requires last byte (negated _ _ _ last c.from.ensures c.cast_unsigned-word.ensures)

pub returns-clause-bytes : goal.returns-clause-bytes
returns-clause-bytes c =
    let byte : c.encode_modrm.result ≡ c.args.reg * 8 + 5 = omega arith in
    relative_bytes _ _ _ c.args.target c.requires byte
