use Rattle.std.proofs.Common.{ℤ, refl, sym, subst, arith, rules, get_or, FitsSigned, w32}
use Rattle.std.proofs.lemmas.Int.{to_z-of_z}
use Rattle.huqmeris_c.specs.Each.{IsRefused}
use Rattle.huqmeris_c.proofs.Listing.{measured_more, none_measured, stopped}
use Rattle.huqmeris_c.proofs.Plainly.{no_inst}
use Rattle.huqmeris_c.proofs.encode_all.measure.Goals as goal

pub loop-i-init : goal.loop-i-init
loop-i-init c = none_measured

pub loop-i-preserved : goal.loop-i-preserved
loop-i-preserved c = measured_more c.args.insts.now no_inst c.loop-i.bytes c.loop-i.uses c.loop-i.i c.in-Ok.room.bytes c.in-Ok.room.notices c.from-bytes.result c.from-uses.result c.loop-i.invariant (search arith) c.in-Ok.ensures.size c.from-bytes.ensures c.from-uses.ensures

pub returns-in-Err-clause-stopped : goal.returns-in-Err-clause-stopped
returns-in-Err-clause-stopped c =
    let small : FitsSigned w32 c.in-Err.status = search rules in
    let refused : IsRefused (get_or c.args.insts.now c.loop-i.i no_inst) c.in-Err.status = c.in-Err.ensures.refused in
    stopped c.args.insts.now no_inst c.loop-i.bytes c.loop-i.uses c.loop-i.i _ _ c.loop-i.invariant (search arith) (subst (λ (z : ℤ). IsRefused (get_or c.args.insts.now c.loop-i.i no_inst) z) (sym (to_z-of_z w32 c.in-Err.status small)) refused) refl refl refl
