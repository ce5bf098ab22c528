use Rattle.cax64_address.proofs.Emitted.{fixed_fits, room_for_any}
use Rattle.cax64_address.proofs.laws.emit_to_fixed_sink.Goals as goal

pub returns-clause-fits : goal.returns-clause-fits
returns-clause-fits g c =
    let call = c.emit_modrm_sib_disp in
    fixed_fits c.args.sink.now call.new.sink call.result call.ensures.adds
    (λ u bytes tail fits. call.ensures.room (room_for_any _ _ u (call.ensures.least u bytes tail) fits) tt)
