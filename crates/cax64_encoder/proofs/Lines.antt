use Rattle.std.proofs.Common.{◌≡◌, ◌≢◌, ℕ, ◌+◌, ◌/◌, arith, Bool, true, false, refl, Option, Some, None}
use Rattle.std.specs.Prelude.{◌==◌, ◌&&◌, ◌||◌, not, nat_lt, nat_le}
use Rattle.std.specs.Int.{from_bool}
use Rattle.std.proofs.lemmas.Bool.{and_parts}
use Rattle.std.proofs.lemmas.Bool.Decides.{nat_tests}
use Rattle.cax64_prefix.proofs.Prefixes.{IsPlain}
use Rattle.cax64_machine_code.specs.Len.{opcode_len, is_w1}
use Rattle.cax64_machine_code.specs.Line.{imm_bytes, w_matches}
use Rattle.cax64_machine_code.specs.declared.line.Line.{Line}
use Rattle.cax64_table.specs.Entry.{is_plain, first_byte, is_prefix_field, is_w, is_w0, has_tail, is_digit, prefix_size, tail_size, is_8bit_once, is_line}
use Rattle.cax64_table.specs.Numbers.{has_8bit, is_vex}

neither : (a b : Bool) → not (a || b) ≡ true → (a ≡ false) × (not b ≡ true)
neither true b h = cc
neither false b h = (refl, h)

not_false : (a : Bool) → not a ≡ true → a ≡ false
not_false true h = cc
not_false false h = refl

unequal : (a b : ℕ) → (a == b) ≡ false → a ≢ b
unequal a b h = grind (arith, nat_tests)

-- a byte that begins no prefix, as the prefixes are read
pub plain_byte : (c : ℕ) → is_plain c ≡ true → IsPlain c
plain_byte c h =
    let p1 = neither (c == 0xF0) _ h in
    let p2 = neither (c == 0x66) _ p1.1 in
    let p3 = neither (c == 0xF2) _ p2.1 in
    let p4 = neither (c == 0xF3) _ p3.1 in
    let p5 = neither (c / 16 == 4) _ p4.1 in
    let p6 = neither (c == 0xC4) _ p5.1 in
    record {
      legacy = record { lock = unequal c 0xF0 p1.0; operand_size = unequal c 0x66 p2.0; repne = unequal c 0xF2 p3.0; rep = unequal c 0xF3 p4.0 };
      rex = unequal (c / 16) 4 p5.0;
      vex_three = unequal c 0xC4 p6.0;
      vex_two = unequal c 0xC5 (not_false (c == 0xC5) p6.1);
    }

-- what is tested of a line
pub record LineFacts (line : Line) : Type 0 where
  pub plain : is_plain (first_byte line.opcode) ≡ true
  pub byte : nat_lt line.opcode.byte 256 ≡ true
  pub prefix : is_prefix_field line.prefix line.opcode line.tail ≡ true
  pub w : is_w line.w ≡ true
  pub bare_w : (has_tail line.tail || is_w0 line.w) ≡ true
  pub digit : is_digit line.tail ≡ true
  pub once : is_8bit_once line.tail ≡ true
  pub vex_8bit : not (is_vex line.prefix && has_8bit line.tail) ≡ true
  pub front : nat_le (prefix_size line.prefix) 3 ≡ true
  pub size : nat_le (prefix_size line.prefix + (opcode_len line.opcode + (tail_size line.tail + imm_bytes line.imm))) 13 ≡ true

pub line_facts : (line : Line) → is_line line ≡ true → LineFacts line
line_facts line h =
    let p0 = and_parts (is_plain (first_byte line.opcode)) _ h in
    let p1 = and_parts (nat_lt line.opcode.byte 256) _ p0.1 in
    let p2 = and_parts (is_prefix_field line.prefix line.opcode line.tail) _ p1.1 in
    let p3 = and_parts (is_w line.w) _ p2.1 in
    let p4 = and_parts (has_tail line.tail || is_w0 line.w) _ p3.1 in
    let p5 = and_parts (is_digit line.tail) _ p4.1 in
    let p6 = and_parts (is_8bit_once line.tail) _ p5.1 in
    let p7 = and_parts (not (is_vex line.prefix && has_8bit line.tail)) _ p6.1 in
    let p8 = and_parts (nat_le (prefix_size line.prefix) 3) _ p7.1 in
    record { plain = p0.0; byte = p1.0; prefix = p2.0; w = p3.0; bare_w = p4.0; digit = p5.0; once = p6.0; vex_8bit = p7.0; front = p8.0; size = p8.1 }

-- the bit W of a row; 0 is written where either is read

one_fits : (w : ℕ) (one : Bool) → (w == 1) ≡ one → nat_lt w 2 ≡ true → (w == from_bool one) ≡ true
one_fits w true e h = e
one_fits w false e h = grind (arith, nat_tests)

pub w_fits : (w : Option ℕ) → is_w w ≡ true → w_matches w (from_bool (is_w1 w)) ≡ true
w_fits None h = refl
w_fits (Some w) h = one_fits w (w == 1) refl h

zero_only : (w : ℕ) → (w == 0) ≡ true → (w == 1) ≡ false
zero_only w h = grind (arith, nat_tests)

pub w_zero : (w : Option ℕ) → is_w0 w ≡ true → is_w1 w ≡ false
w_zero None h = refl
w_zero (Some w) h = zero_only w h
