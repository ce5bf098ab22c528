use Rattle.std.proofs.Common.{◌∙◌, FitsSigned, w64, ap, ℤ, rules}
use Rattle.std.proofs.lemmas.Int.{to_z-of_z}
use Rattle.x64_plain.specs.NamedReading.{imm_named}
use Rattle.x64_plain.proofs.Readings.{read_all}
use Rattle.x64_plain.proofs.reading.HqReading.named.Goals as goal

pub returns-clause-some : goal.returns-clause-some
returns-clause-some c =
    let small : FitsSigned w64 c.args.self.now.imm = search rules in
    λ r h. read_all c.in_ok-op.op c.args.self.now c.part.result c.view_named.result c.number_named.result c.named.result c.imm_named.result c.view_named.ensures c.number_named.ensures c.named.ensures c.part.ensures (c.imm_named.ensures ∙ ap (λ (z : ℤ). imm_named c.args.self.now.has_imm z) (to_z-of_z w64 c.args.self.now.imm small)) c.in_ok-op.ensures.found r h
