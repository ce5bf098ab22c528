use Rattle.std.proofs.Common.{◌≡◌, ℕ, ◌+◌, ◌≤◌, arith, refl, ◌∙◌, Result, Ok, Err}
use Rattle.std.specs.Prelude.{IfErr, OnOk, OnErr, IsOk}
use Rattle.cax64_sink.specs.Keeps.{Keeps}
use Rattle.cax64_sink.specs.Room.{Room, HasRoom, FallsBy}
use Rattle.cax64_sink.specs.Sink.{State}
use Rattle.cax64_sink.proofs.Rooms.{less_room}

-- Calls one behind another.

pub keeps_on : {s u t : State} → Keeps s u → Keeps u t → Keeps s t
keeps_on h k = record { offsets = k.offsets ∙ h.offsets; records = k.records ∙ h.records; answers = k.answers ∙ h.answers }

pub keeps_self : (s : State) → Keeps s s
keeps_self s = record { offsets = refl; records = refl; answers = refl }

-- a call behind others lowers a room by its own part more
pub falls_on : (old mid new : Room) (n m both : ℕ) → both ≡ n + m → FallsBy old mid n → FallsBy mid new m → FallsBy old new both
falls_on old mid new n m both e h k count room =
    let more : count + both ≡ (count + m) + n = omega arith in
    k count (h (count + m) (rw more at room))

pub falls_zero : (room : Room) → FallsBy room room 0
falls_zero room count h = less_room room (count + 0) count (omega arith) h

-- what is left of a room for more than has been taken
pub room_left : (old now : Room) (taken more all : ℕ) → taken + more ≤ all → FallsBy old now taken → HasRoom old all → HasRoom now more
room_left old now taken more all h falls room = falls more (less_room old all (more + taken) (omega arith) room)

pub err_is_no_ok : {E : Type 0} (e : E) → IsOk {T = Unit {0}} (Err e) → ⊥
err_is_no_ok e h = cc

-- a room that falls by less falls by no more than all
pub falls_less : (old new : Room) (n all : ℕ) → n ≤ all → FallsBy old new n → FallsBy old new all
falls_less old new n all h falls count room = falls count (less_room old (count + all) (count + n) (omega arith) room)

-- An Ok and an Err.

pub from_ok : {E P : Type 0} (r : Result (Unit {0}) E) → IsOk r → OnOk r P → P
from_ok (Ok u) ok h = h
from_ok (Err e) ok h = absurd (err_is_no_ok e ok)

-- what is said of an Ok and of an Err, where there is an Ok
pub on_ok : {E P : Type 0} (r : Result (Unit {0}) E) → P → OnOk r P
on_ok (Ok u) h = h
on_ok (Err e) h = tt

pub no_err : {E : Type 0} (P : Type 0) (r : Result (Unit {0}) E) → IsOk r → OnErr r P
no_err P (Ok u) ok = tt
no_err P (Err e) ok = absurd (err_is_no_ok e ok)

pub never_err : {E : Type 0} (P : E → Type 0) (r : Result (Unit {0}) E) → IsOk r → IfErr r P
never_err P (Ok u) ok = tt
never_err P (Err e) ok = absurd (err_is_no_ok e ok)
