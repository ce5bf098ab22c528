use Rattle.std.proofs.Common.{[], ◌∷◌, ◌∙◌, sym}
use Rattle.std.proofs.lemmas.Bool.{and_parts}
use Rattle.cax64_machine_code.specs.Prefix.{is_no_legacy, begins_vex}
use Rattle.cax64_table.specs.Legacy.{set_in}
use Rattle.cax64_reader.proofs.Prefixes.{prefix_at_end, prefix_with_rex, prefix_without_rex, prefix_with_vex}
use Rattle.cax64_reader.proofs.prefix.read_front.Goals as goal

pub returns-in_default : goal.returns-in_default
returns-in_default c = rw c.without_rex.ensures (prefix_at_end (set_in c.read.result.0) c.args.bytes.now c.read.result.1.now c.read.ensures c.in_default.ensures)

pub returns-then-first-eq4 : goal.returns-then-first-eq4
returns-then-first-eq4 c = rw c.with_rex.ensures (prefix_with_rex (set_in c.read.result.0) c.args.bytes.now c.read.result.1.now c.in-Some.first c.in-Some.behind.now c.read.ensures c.in-Some.ensures c.if-first-eq4.true)

pub vex-requires : goal.vex-requires
vex-requires c = (and_parts (is_no_legacy (set_in c.read.result.0)) (begins_vex (c.in-Some.first ∷ [])) (sym c.begins_with_vex.ensures ∙ c.if-begins_with_vex.true)).1

pub returns-then-begins_with_vex : goal.returns-then-begins_with_vex
returns-then-begins_with_vex c = c.vex.ensures ∙ prefix_with_vex (set_in c.read.result.0) c.args.bytes.now c.read.result.1.now c.in-Some.first c.in-Some.behind.now c.read.ensures c.in-Some.ensures (sym c.begins_with_vex.ensures ∙ c.if-begins_with_vex.true)

pub returns : goal.returns
returns c = rw c.without_rex-2.ensures (prefix_without_rex (set_in c.read.result.0) c.args.bytes.now c.read.result.1.now c.in-Some.first c.in-Some.behind.now c.read.ensures c.in-Some.ensures c.if-first-eq4.false (sym c.begins_with_vex.ensures ∙ c.if-begins_with_vex.false))
