use Rattle.std.proofs.Common.{◌∙◌, ap, refl}
use Rattle.cax64_machine_code.specs.Prefix.{no_legacy, legacy_at}
use Rattle.cax64_table.proofs.Seen.{legacy_none, legacy_more, legacy_last}
use Rattle.cax64_table.proofs.Sets.{empty, is_set}
use Rattle.cax64_table.specs.LegacyNumber.{set_of}
use Rattle.cax64_table.proofs.legacy.LegacyPrefixes.read.Goals as goal
use Rattle.cax64_table.proofs.legacy.LegacyPrefixes.read.Goals.{in-Some+in_default-with_prefix, in_default}

pub loop-byte-init : goal.loop-byte-init
loop-byte-init c = (ap (λ set. legacy_at set c.args.bytes.now) empty, is_set 0 no_legacy refl)

pub loop-byte-preserved : goal.loop-byte-preserved
loop-byte-preserved c = (
  legacy_more (set_of c.loop-byte.number) (set_of c.in-Some-with_prefix.more) c.in-Some.byte c.loop-byte.rest.now c.in-Some.behind.now c.in-Some.ensures c.in-Some-with_prefix.ensures.is
      ∙ c.loop-byte.invariant.0,
  c.in-Some-with_prefix.ensures.fits,
)

pub returns : goal.returns
returns c = elim c.match-next.branch [
  | in-Some+in_default-with_prefix w ↦ legacy_last (set_of c.loop-byte.number) w.in-Some.byte c.loop-byte.rest.now w.in-Some.behind.now w.in-Some.ensures w.in_default-with_prefix.ensures.is ∙ c.loop-byte.invariant.0
  | in_default w ↦ legacy_none (set_of c.loop-byte.number) c.loop-byte.rest.now w.in_default.ensures ∙ c.loop-byte.invariant.0
]
