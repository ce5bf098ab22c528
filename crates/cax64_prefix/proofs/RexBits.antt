use Rattle.std.proofs.Common.{Bool, Option, ◌≡◌, ◌≢◌, ℕ, ◌+◌, ◌*◌, ◌/◌, ◌%◌, ◌<◌, arith, refl, bit_or, true, false, List, [], ◌∷◌, Some, None}
use Rattle.std.specs.Prelude.{IfSome, ◌==◌}
use Rattle.std.proofs.lemmas.Bool.Decides.{nat_tests}
use Rattle.std.specs.Int.{from_bool}
use Rattle.cax64_machine_code.specs.Prefix.{rex_bits, Rex, rex_of, rex_at}
use Rattle.cax64_prefix.specs.Rex.{rex_byte, begins_rex, RexReadsBack}
use Rattle.cax64_prefix.proofs.Bits.{joined, bool_below}

-- each bit is 0 or 1
pub record AreBits (rex : Rex) : Type 0 where
  pub w : rex.w < 2
  pub r : rex.r < 2
  pub x : rex.x < 2
  pub b : rex.b < 2

pub rex_joined : (rex : Rex) → AreBits rex → bit_or (bit_or (bit_or (bit_or 64 (rex.w * 8 % 256)) (rex.r * 4 % 256)) (rex.x * 2 % 256)) rex.b ≡ rex_byte rex
rex_joined rex h =
    let w = rex.w * 8 % 256 in
    let r = rex.r * 4 % 256 in
    let x = rex.x * 2 % 256 in
    let hw = h.w in let hr = h.r in let hx = h.x in let hb = h.b in
    let e1 : bit_or 64 w ≡ 64 + w = joined 64 w 1 6 (omega arith) (omega arith) in
    let e2 : bit_or (64 + w) r ≡ 64 + w + r = joined (64 + w) r (8 + rex.w) 3 (omega arith) (omega arith) in
    let e3 : bit_or (64 + w + r) x ≡ 64 + w + r + x = joined (64 + w + r) x (16 + 2 * rex.w + rex.r) 2 (omega arith) (omega arith) in
    let e4 : bit_or (64 + w + r + x) rex.b ≡ 64 + w + r + x + rex.b = joined (64 + w + r + x) rex.b (32 + 4 * rex.w + 2 * rex.r + rex.x) 1 (omega arith) (omega arith) in
    rw (e1, e2, e3, e4) (omega arith)

-- the bits are read from their byte
pub rex_of-rex_byte : (rex : Rex) → AreBits rex → rex_of (rex_byte rex) ≡ rex
rex_of-rex_byte rex h =
    let hw = h.w in let hr = h.r in let hx = h.x in let hb = h.b in
    let w : rex_byte rex / 8 % 2 ≡ rex.w = omega arith in
    let r : rex_byte rex / 4 % 2 ≡ rex.r = omega arith in
    let x : rex_byte rex / 2 % 2 ≡ rex.x = omega arith in
    let b : rex_byte rex % 2 ≡ rex.b = omega arith in
    rw (w, r, x, b) refl

pub rex_byte_above : (rex : Rex) → AreBits rex → rex_byte rex / 16 ≡ 4
rex_byte_above rex h = let hw = h.w in let hr = h.r in let hx = h.x in let hb = h.b in omega arith

pub equal : (a b : ℕ) → a ≡ b → (a == b) ≡ true
equal a b h = grind (arith, nat_tests)

pub apart : (a b : ℕ) → a ≢ b → (a == b) ≡ false
apart a b h = grind (arith, nat_tests)

-- a REX byte is read from the front, whatever follows
pub rex_at-some : (rex : Rex) (rest : List ℕ) → AreBits rex → rex_at (rex_byte rex ∷ rest) ≡ (Some rex, rest)
unfolding rex_at
rex_at-some rex rest h = rw (equal (rex_byte rex / 16) 4 (rex_byte_above rex h), rex_of-rex_byte rex h) refl

pub rex_at-none : (rest : List ℕ) → begins_rex rest ≡ false → rex_at rest ≡ (None, rest)
unfolding rex_at
rex_at-none [] h = refl
rex_at-none (byte ∷ rest) h = rw h refl

pub none_reads_back : RexReadsBack None
none_reads_back = record { reads = λ rest h. rex_at-none rest h }

pub some_reads_back : (rex : Rex) → AreBits rex → RexReadsBack (Some rex)
some_reads_back rex h = record { reads = λ rest _. rex_at-some rex rest h }

-- the bits of any byte are bits
pub bits_of_byte : (byte : ℕ) → AreBits (rex_of byte)
bits_of_byte byte = record { w = omega arith; r = omega arith; x = omega arith; b = omega arith }

-- the bits of W and of three registers
pub are_bits : (w : Bool) (reg index base : ℕ) → reg < 16 → index < 16 → base < 16 → AreBits (record { w = from_bool w; r = reg / 8; x = index / 8; b = base / 8 })
are_bits w reg index base r x b = record { w = bool_below w; r = omega arith; x = omega arith; b = omega arith }

pub some_are_bits : (rex : Option Rex) (bits : Rex) → rex_bits rex ≡ bits → AreBits bits → IfSome rex AreBits
some_are_bits None bits is h = tt
some_are_bits (Some rex) bits is h = rw is h
