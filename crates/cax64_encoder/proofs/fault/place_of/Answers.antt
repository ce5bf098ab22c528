use Rattle.std.proofs.Common.{refl}
use Rattle.cax64_encoder.proofs.Forms.{place_then}
use Rattle.cax64_encoder.proofs.fault.place_of.Goals as goal

pub returns-in-Four : goal.returns-in-Four
returns-in-Four g c =
    rw c.in-Four.is (place_then _ _ c.role_of-in-Four-3.ensures (place_then _ _ c.role_of-in-Four-4.ensures (place_then _ _ c.role_of-in-Four.ensures (place_then _ _ c.role_of-in-Four-2.ensures refl c.place_or-in-Four.ensures) c.place_or-later-in-Four.ensures) c.place_or-in-Four-2.ensures) c.place_or-in-Four-3.ensures)

pub returns-in-Five : goal.returns-in-Five
returns-in-Five g c =
    rw c.in-Five.is (place_then _ _ c.role_of-in-Five-4.ensures (place_then _ _ c.role_of-in-Five-5.ensures (place_then _ _ c.role_of-in-Five-2.ensures (place_then _ _ c.role_of-in-Five-3.ensures (place_then _ _ c.role_of-in-Five.ensures refl c.place_or-last.ensures) c.place_or-in-Five.ensures) c.place_or-later-in-Five.ensures) c.place_or-in-Five-2.ensures) c.place_or-in-Five-3.ensures)
