use Rattle.std.proofs.Common.{◌≡◌, ℕ, ◌+◌, ◌*◌, ◌/◌, ◌%◌, ◌<◌, arith, refl, ap, Bool, true, false, Option, Some}
use Rattle.std.specs.Prelude.{◌==◌, ◌||◌}
use Rattle.std.specs.Int.{from_bool}
use Rattle.cax64_machine_code.specs.Prefix.{no_legacy}
use Rattle.cax64_machine_code.specs.declared.line.LegacySet.{LegacySet}
use Rattle.cax64_table.specs.LegacyNumber.{set_number, set_of, added, IsSet}

-- A set of legacy prefixes and its number.

bits : (a b c d : Bool) → set_of (set_number (record { lock = a; operand_size = b; repne = c; rep = d })) ≡ record { lock = a; operand_size = b; repne = c; rep = d }
unfolding set_of
bits true true true true = refl
bits true true true false = refl
bits true true false true = refl
bits true true false false = refl
bits true false true true = refl
bits true false true false = refl
bits true false false true = refl
bits true false false false = refl
bits false true true true = refl
bits false true true false = refl
bits false true false true = refl
bits false true false false = refl
bits false false true true = refl
bits false false true false = refl
bits false false false true = refl
bits false false false false = refl

-- the set of a set's number is that set
pub set_again : (set : LegacySet) → set_of (set_number set) ≡ set
set_again set = bits set.lock set.operand_size set.repne set.rep

pub set_is : (low : ℕ) (set : LegacySet) → low ≡ set_number set → set_of low ≡ set
set_is low set e = rw e (set_again set)

pub is_set : (low : ℕ) (set : LegacySet) → low ≡ set_number set → IsSet low
is_set low set e = record { same = rw (set_is low set e) e }

pub empty : set_of 0 ≡ no_legacy
unfolding set_of
empty = refl

-- the bits of a number are its prefixes

one_or_not : (n : ℕ) (t : Bool) → from_bool t ≡ n → (n == 1) ≡ t
one_or_not n true e = rw (← e) refl
one_or_not n false e = rw (← e) refl

pub lock_is : (low : ℕ) (t : Bool) → from_bool t ≡ low % 2 → (set_of low).lock ≡ t
unfolding set_of
lock_is low t e = one_or_not (low % 2) t e

pub operand_size_is : (low : ℕ) (t : Bool) → from_bool t ≡ low / 2 % 2 → (set_of low).operand_size ≡ t
unfolding set_of
operand_size_is low t e = one_or_not (low / 2 % 2) t e

no_repeat : (low a b : ℕ) (c d : Bool) → low ≡ a + 2 * b + 4 * from_bool c + 8 * from_bool d → low < 4 → c || d ≡ false
no_repeat low a b false false e h = refl
no_repeat low a b false true e h = absurd (omega arith)
no_repeat low a b true false e h = absurd (omega arith)
no_repeat low a b true true e h = absurd (omega arith)

-- no repeat prefix has been seen
pub repeats_not : (low : ℕ) → IsSet low → low < 4 → (set_of low).repne || (set_of low).rep ≡ false
repeats_not low s h = no_repeat low (from_bool (set_of low).lock) (from_bool (set_of low).operand_size) (set_of low).repne (set_of low).rep s.same h

-- the numbers of the sets with one prefix more

pub lock_more : (low : ℕ) → IsSet low → (set_of low).lock ≡ false → low + 1 ≡ set_number (record (set_of low) { lock = true })
lock_more low s e = let l : from_bool (set_of low).lock ≡ 0 = ap from_bool e in let h = s.same in omega arith

pub operand_size_more : (low : ℕ) → IsSet low → (set_of low).operand_size ≡ false → low + 2 ≡ set_number (record (set_of low) { operand_size = true })
operand_size_more low s e = let l : from_bool (set_of low).operand_size ≡ 0 = ap from_bool e in let h = s.same in omega arith

first_not : (a b : Bool) → a || b ≡ false → from_bool a ≡ 0
first_not true b e = cc
first_not false b e = refl

second_not : (a b : Bool) → a || b ≡ false → from_bool b ≡ 0
second_not true b e = cc
second_not false true e = cc
second_not false false e = refl

pub repne_more : (low : ℕ) → IsSet low → (set_of low).repne || (set_of low).rep ≡ false → low + 4 ≡ set_number (record (set_of low) { repne = true })
repne_more low s e = let l = first_not (set_of low).repne (set_of low).rep e in let h = s.same in omega arith

pub rep_more : (low : ℕ) → IsSet low → (set_of low).repne || (set_of low).rep ≡ false → low + 8 ≡ set_number (record (set_of low) { rep = true })
rep_more low s e = let l = second_not (set_of low).repne (set_of low).rep e in let h = s.same in omega arith

-- a byte that is a prefix that may still come

pub added_lock : (low byte : ℕ) → IsSet low → byte ≡ 0xF0 → (set_of low).lock ≡ false → ◌≡◌ {A = Option LegacySet} (Some (set_of (low + 1))) (added (set_of low) byte)
added_lock low byte s e f = rw (e, set_is (low + 1) (record (set_of low) { lock = true }) (lock_more low s f), f) refl

pub added_operand_size : (low byte : ℕ) → IsSet low → byte ≡ 0x66 → (set_of low).operand_size ≡ false → ◌≡◌ {A = Option LegacySet} (Some (set_of (low + 2))) (added (set_of low) byte)
added_operand_size low byte s e f = rw (e, set_is (low + 2) (record (set_of low) { operand_size = true }) (operand_size_more low s f), f) refl

pub added_repne : (low byte : ℕ) → IsSet low → byte ≡ 0xF2 → low < 4 → ◌≡◌ {A = Option LegacySet} (Some (set_of (low + 4))) (added (set_of low) byte)
added_repne low byte s e h = let f = repeats_not low s h in rw (e, set_is (low + 4) (record (set_of low) { repne = true }) (repne_more low s f), f) refl

pub added_rep : (low byte : ℕ) → IsSet low → byte ≡ 0xF3 → low < 4 → ◌≡◌ {A = Option LegacySet} (Some (set_of (low + 8))) (added (set_of low) byte)
added_rep low byte s e h = let f = repeats_not low s h in rw (e, set_is (low + 8) (record (set_of low) { rep = true }) (rep_more low s f), f) refl
