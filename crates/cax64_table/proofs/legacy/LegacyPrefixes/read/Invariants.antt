use Rattle.std.proofs.Common.{◌≡◌, length}
use Rattle.cax64_machine_code.specs.Prefix.{no_legacy, legacy_at}
use Rattle.cax64_table.specs.LegacyNumber.{set_of, IsSet}
use Rattle.cax64_table.proofs.legacy.LegacyPrefixes.read.Given as goal

abbrev pub invariant-loop-byte : goal.invariant-loop-byte
invariant-loop-byte l = (legacy_at (set_of l.number) l.rest ≡ legacy_at no_legacy l.fn.bytes) × IsSet l.number

abbrev pub decreases-loop-byte : goal.decreases-loop-byte
decreases-loop-byte l = length l.rest
