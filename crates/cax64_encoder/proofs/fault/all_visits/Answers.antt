use Rattle.std.proofs.Common.{refl}
use Rattle.cax64_operand.specs.Family.{numbering}
use Rattle.cax64_encoder.proofs.Walk.{pair_of}
use Rattle.cax64_encoder.proofs.fault.all_visits.Goals as goal

pub returns-in-Two : goal.returns-in-Two
returns-in-Two g c =
    let n = numbering g.R.ReadGpr.AsReg.settled g.R.ReadGpr.AsReg.enc in
    rw c.in-Two.is (pair_of n _ _ _ _ _ _ c.role_of-in-Two.ensures c.visits_of-a0-in-Two.ensures (pair_of n _ _ _ _ _ _ c.role_of-in-Two-2.ensures c.visits_of-b0.ensures refl))

pub returns-in-Three : goal.returns-in-Three
returns-in-Three g c =
    let n = numbering g.R.ReadGpr.AsReg.settled g.R.ReadGpr.AsReg.enc in
    rw c.in-Three.is (pair_of n _ _ _ _ _ _ c.role_of-in-Three.ensures c.visits_of-a0-in-Three.ensures (pair_of n _ _ _ _ _ _ c.role_of-in-Three-2.ensures c.visits_of-b0-in-Three.ensures (pair_of n _ _ _ _ _ _ c.role_of-in-Three-3.ensures c.visits_of-c0.ensures refl)))

pub returns-in-Four : goal.returns-in-Four
returns-in-Four g c =
    let n = numbering g.R.ReadGpr.AsReg.settled g.R.ReadGpr.AsReg.enc in
    rw c.in-Four.is (pair_of n _ _ _ _ _ _ c.role_of-in-Four.ensures c.visits_of-a0-in-Four.ensures (pair_of n _ _ _ _ _ _ c.role_of-in-Four-2.ensures c.visits_of-b0-in-Four.ensures (pair_of n _ _ _ _ _ _ c.role_of-in-Four-3.ensures c.visits_of-c0-in-Four.ensures (pair_of n _ _ _ _ _ _ c.role_of-in-Four-4.ensures c.visits_of-d0.ensures refl))))

pub returns-in-Five : goal.returns-in-Five
returns-in-Five g c =
    let n = numbering g.R.ReadGpr.AsReg.settled g.R.ReadGpr.AsReg.enc in
    rw c.in-Five.is (pair_of n _ _ _ _ _ _ c.role_of-in-Five.ensures c.visits_of-a0-in-Five.ensures (pair_of n _ _ _ _ _ _ c.role_of-in-Five-2.ensures c.visits_of-b0-in-Five.ensures (pair_of n _ _ _ _ _ _ c.role_of-in-Five-3.ensures c.visits_of-c0-in-Five.ensures (pair_of n _ _ _ _ _ _ c.role_of-in-Five-4.ensures c.visits_of-d0-in-Five.ensures (pair_of n _ _ _ _ _ _ c.role_of-in-Five-5.ensures c.visits_of-e0.ensures refl)))))
