use Rattle.std.proofs.Common.{inl, inr, refl, ap, rules, FitsSigned, w32}
use Rattle.std.proofs.lemmas.Int.{to_z-of_z}
use Rattle.huqmeris_c.proofs.Opened.{none_unbound, unbound_at}
use Rattle.huqmeris_c.specs.declared.progress.HqDone.{HqDone}
use Rattle.x64_code_buffer.specs.Buffer.{places_of}
use Rattle.huqmeris_c.proofs.assemble.unfinished.Goals as goal

pub returns-in-Some : goal.returns-in-Some
returns-in-Some c = inl (refl, unbound_at c.args.items.now (places_of c.args.buffer.now) c.in-Some.number c.requires.places c.in-Some.ensures.open, ap (λ (d : HqDone). record d { items = c.in-Some.number }) c.requires.nothing)

pub returns-in-None : goal.returns-in-None
returns-in-None c =
    let small : FitsSigned w32 c.args.why = search rules in
    inr (to_z-of_z w32 c.args.why small, none_unbound c.args.items.now (places_of c.args.buffer.now) c.requires.places c.in-None.ensures.none, c.requires.nothing)
