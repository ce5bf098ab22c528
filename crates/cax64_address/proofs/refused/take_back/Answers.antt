use Rattle.std.proofs.Common.{string_bytes, rules}
use Rattle.std.proofs.lemmas.Str.{IsCharBoundary-from_take, IsUtf8-string_bytes}
use Rattle.cax64_address.proofs.refused.take_back.Goals as goal

pub truncate-requires : goal.truncate-requires
truncate-requires g c = λ h. let b = IsCharBoundary-from_take (string_bytes c.args.out.now) c.args.len (IsUtf8-string_bytes c.args.out.now) (search rules) c.requires in (b.0, λ _. b.1)
