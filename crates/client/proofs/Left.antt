use Rattle.std.proofs.Common.{◌≡◌, ℕ, ◌+◌, ◌≤◌, arith, Result, Ok, Err}
use Rattle.std.specs.Prelude.{OnOk}
use Rattle.cranelift_assembler_x64.specs.Room.{Room, HasRoom, FallsBy, endless, count}

-- Room for so many more has room for fewer.
pub fewer : (s : Room) (k room : ℕ) → k ≤ room → HasRoom s room → HasRoom s k
fewer endless k room few h = tt
fewer (count m) k room few h = omega arith

-- What is left of the room once so much of it is taken.
pub left : (s t : Room) (taken k room : ℕ) → FallsBy s t taken → k + taken ≤ room → HasRoom s room → HasRoom t k
left s t taken k room falls few h = falls k (fewer s (k + taken) room few h)

pub given_ok : {E P : Type 0} (r : Result (Unit {0}) E) (v : Unit {0}) → r ≡ Ok v → OnOk r P → P
given_ok (Ok tt) v is h = h
given_ok (Err e) v is h = cc
