use Rattle.std.proofs.Common.{◌≡◌, ℕ, ◌+◌, ◌*◌, ◌%◌, ◌^◌, ◌<◌, arith, bit_or, Bool, true, false}
use Rattle.std.specs.Int.{from_bool}
use Rattle.std.proofs.lemmas.Nat.{or_shifted}

-- A field joined by bits to fields above it is added to them. Each byte of each prefix is put together so.
pub joined : (above field h k : ℕ) → above ≡ h * 2 ^ k → field < 2 ^ k → bit_or above field ≡ above + field
joined above field h k e below = rw e (or_shifted h k field below)

pub bool_below : (b : Bool) → from_bool b < 2
bool_below true = omega arith
bool_below false = omega arith

-- R4', B4 and the opcode map of an EVEX prefix
pub map_joined : (r4 b4 mmm : ℕ) → r4 < 2 → b4 < 2 → mmm < 8 → bit_or (bit_or (r4 * 16 % 256) (b4 * 8 % 256)) mmm ≡ r4 * 16 + b4 * 8 + mmm
map_joined r4 b4 mmm hr hb hm =
    let r = r4 * 16 % 256 in
    let b = b4 * 8 % 256 in
    let e1 : bit_or r b ≡ r + b = joined r b r4 4 (omega arith) (omega arith) in
    let e2 : bit_or (r + b) mmm ≡ r + b + mmm = joined (r + b) mmm (2 * r4 + b4) 3 (omega arith) (omega arith) in
    rw (e1, e2) (omega arith)
