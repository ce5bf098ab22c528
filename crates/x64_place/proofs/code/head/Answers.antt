use Rattle.std.proofs.Common.{◌∙◌, sym}
use Rattle.cax64_table.proofs.EntryFacts.{entry_is_line}
use Rattle.cax64_table.specs.EntryLine.{entry_line}
use Rattle.cax64_encoder.proofs.Numbers.{numbers_below}
use Rattle.x64_place.specs.Operand.{placed}
use Rattle.x64_place.proofs.HeadParts.{is_numbered, looked_up}
use Rattle.x64_place.proofs.Heads.{held_head}
use Rattle.x64_place.proofs.code.head.Goals as goal

pub high_bits-high-requires-clause-index : goal.high_bits-high-requires-clause-index
high_bits-high-requires-clause-index c = (numbers_below (placed c.args.place.now) (is_numbered c.args.place.now) c.requires.place).1

pub high_bits-high-requires-clause-base : goal.high_bits-high-requires-clause-base
high_bits-high-requires-clause-base c = (numbers_below (placed c.args.place.now) (is_numbered c.args.place.now) c.requires.place).0

pub legacy_head-requires-clause-few : goal.legacy_head-requires-clause-few
legacy_head-requires-clause-few c = (held_head (entry_line c.args.entry) c.args.heads.now c.high_bits-high.result c.special.result c.requires.heads (sym c.is_vex.ensures ∙ c.if-is_vex.false) c.high_bits-high.ensures.below c.special.ensures.below).few

pub legacy_head-requires-clause-below : goal.legacy_head-requires-clause-below
legacy_head-requires-clause-below c = (held_head (entry_line c.args.entry) c.args.heads.now c.high_bits-high.result c.special.result c.requires.heads (sym c.is_vex.ensures ∙ c.if-is_vex.false) c.high_bits-high.ensures.below c.special.ensures.below).below

pub returns : goal.returns
returns c = looked_up (entry_line c.args.entry) c.args.place.now c.args.reg _ c.args.heads.now c.high_bits-high.result c.special.result _ (entry_is_line c.args.entry) (sym c.is_vex.ensures ∙ c.if-is_vex.false) c.requires.reg c.requires.place c.requires.vvvv_fits c.requires.bare c.requires.heads c.high_bits-high.ensures.is c.special.ensures.is c.high_bits-high.ensures.below c.special.ensures.below c.legacy_head.ensures
