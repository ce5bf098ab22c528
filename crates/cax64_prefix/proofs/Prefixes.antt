use Rattle.std.proofs.Common.{◌≡◌, ◌≢◌, ℕ, ◌/◌, arith, List, [], ◌∷◌, ◌++◌, Bool, true, false, Option, Some, None, refl, ap}
use Rattle.std.proofs.lemmas.Bool.Decides.{nat_tests}
use Rattle.std.specs.Prelude.{not, ◌==◌, ◌&&◌, ◌||◌, if◌then◌else◌, ◌↔◌, IsTrue, IsSome, IfSome}
use Rattle.cax64_machine_code.specs.Prefix.{Vex, rex_bits, no_legacy, legacy_at, Rex, legacy_prefix, vex_prefix, prefix_at}
use Rattle.cax64_machine_code.specs.declared.line.LegacySet.{LegacySet}
use Rattle.cax64_prefix.specs.declared.vex.VexPrefix.{VexPrefix}
use Rattle.cax64_prefix.specs.declared.vex.VexPrefix.TheVariants.{TwoByte, ThreeByte}
use Rattle.cax64_prefix.specs.Vex.{VexReadsAs, vex_bytes}
use Rattle.cax64_prefix.specs.Rex.{rex_byte, rex_bytes}
use Rattle.cax64_prefix.proofs.RexBits.{AreBits, apart, rex_at-some, rex_at-none, rex_byte_above}

-- the bytes of a set of legacy prefixes, in the order in which they are put
abbrev pub legacy_bytes : LegacySet → List ℕ
legacy_bytes l = (if l.lock then 0xF0 ∷ [] else []) ++ ((if l.operand_size then 0x66 ∷ [] else []) ++ ((if l.repne then 0xF2 ∷ [] else []) ++ (if l.rep then 0xF3 ∷ [] else [])))

-- a byte that is no legacy prefix
pub record IsNoLegacyByte (c : ℕ) : Type 0 where
  pub lock : c ≢ 0xF0
  pub operand_size : c ≢ 0x66
  pub repne : c ≢ 0xF2
  pub rep : c ≢ 0xF3

-- a byte that begins no prefix
pub record IsPlain (c : ℕ) : Type 0 where
  pub legacy : IsNoLegacyByte c
  pub rex : c / 16 ≢ 4
  pub vex_three : c ≢ 0xC4
  pub vex_two : c ≢ 0xC5

-- a test of that
abbrev pub is_plain : ℕ → Bool
is_plain c = not ((c == 0xF0) || ((c == 0x66) || ((c == 0xF2) || ((c == 0xF3) || ((c / 16 == 4) || ((c == 0xC4) || (c == 0xC5)))))))

not_one : (c byte : ℕ) → c ≡ byte → is_plain c ≡ true → is_plain byte ≡ true
not_one c byte e h = rw e at h

pub plain_is : (c : ℕ) → is_plain c ≡ true → IsPlain c
plain_is c h = record {
  legacy = record { lock = λ e. (let bad : false ≡ true = not_one c 0xF0 e h in cc); operand_size = λ e. (let bad : false ≡ true = not_one c 0x66 e h in cc); repne = λ e. (let bad : false ≡ true = not_one c 0xF2 e h in cc); rep = λ e. (let bad : false ≡ true = not_one c 0xF3 e h in cc) };
  rex = λ e. grind (arith, nat_tests);
  vex_three = λ e. (let bad : false ≡ true = not_one c 0xC4 e h in cc);
  vex_two = λ e. (let bad : false ≡ true = not_one c 0xC5 e h in cc);
}

stops : (seen : LegacySet) (c : ℕ) (rest : List ℕ) → IsNoLegacyByte c → legacy_at seen (c ∷ rest) ≡ (seen, c ∷ rest)
unfolding legacy_at
stops seen c rest h = rw (apart c 0xF0 h.lock, apart c 0x66 h.operand_size, apart c 0xF2 h.repne, apart c 0xF3 h.rep) refl

legacy_by_parts : (lock operand_size repne rep : Bool) (c : ℕ) (rest : List ℕ) → (repne && rep) ≡ false → IsNoLegacyByte c → legacy_at no_legacy (legacy_bytes (record { lock = lock; operand_size = operand_size; repne = repne; rep = rep }) ++ (c ∷ rest)) ≡ (record { lock = lock; operand_size = operand_size; repne = repne; rep = rep }, c ∷ rest)
unfolding legacy_at
legacy_by_parts true true false false c rest n h = stops _ c rest h
legacy_by_parts true true true false c rest n h = stops _ c rest h
legacy_by_parts true true false true c rest n h = stops _ c rest h
legacy_by_parts true false false false c rest n h = stops _ c rest h
legacy_by_parts true false true false c rest n h = stops _ c rest h
legacy_by_parts true false false true c rest n h = stops _ c rest h
legacy_by_parts false true false false c rest n h = stops _ c rest h
legacy_by_parts false true true false c rest n h = stops _ c rest h
legacy_by_parts false true false true c rest n h = stops _ c rest h
legacy_by_parts false false false false c rest n h = stops _ c rest h
legacy_by_parts false false true false c rest n h = stops _ c rest h
legacy_by_parts false false false true c rest n h = stops _ c rest h
legacy_by_parts true true true true c rest n h = cc
legacy_by_parts true false true true c rest n h = cc
legacy_by_parts false true true true c rest n h = cc
legacy_by_parts false false true true c rest n h = cc

-- a set of legacy prefixes is read back before any other byte
pub legacy_back : (l : LegacySet) (c : ℕ) (rest : List ℕ) → (l.repne && l.rep) ≡ false → IsNoLegacyByte c → legacy_at no_legacy (legacy_bytes l ++ (c ∷ rest)) ≡ (l, c ∷ rest)
legacy_back l c rest n h = legacy_by_parts l.lock l.operand_size l.repne l.rep c rest n h

and_false : (b : Bool) → (b && false) ≡ false
and_false true = refl
and_false false = refl

no_vex : (c : ℕ) → c ≢ 0xC4 → c ≢ 0xC5 → ((c == 0xC4) || (c == 0xC5)) ≡ false
no_vex c three two = rw (apart c 0xC4 three, apart c 0xC5 two) refl

above_is_no_legacy : (c : ℕ) → c / 16 ≡ 4 → IsNoLegacyByte c
above_is_no_legacy c h = record { lock = λ e. omega arith; operand_size = λ e. omega arith; repne = λ e. omega arith; rep = λ e. omega arith }

-- legacy prefixes, a REX byte, and whatever follows
pub prefix_with_rex : (l : LegacySet) (rex : Rex) (rest : List ℕ) → (l.repne && l.rep) ≡ false → AreBits rex → prefix_at (legacy_bytes l ++ (rex_byte rex ∷ rest)) ≡ Some (legacy_prefix l (Some rex), rest)
unfolding prefix_at
prefix_with_rex l rex rest n h =
    let above : rex_byte rex / 16 ≡ 4 = rex_byte_above rex h in
    let v : ((rex_byte rex == 0xC4) || (rex_byte rex == 0xC5)) ≡ false = no_vex (rex_byte rex) (λ e. omega arith) (λ e. omega arith) in
    rw (legacy_back l (rex_byte rex) rest n (above_is_no_legacy (rex_byte rex) above), v, and_false, rex_at-some rex rest h) refl

-- legacy prefixes, and a byte that begins no other prefix
pub prefix_without_rex : (l : LegacySet) (c : ℕ) (rest : List ℕ) → (l.repne && l.rep) ≡ false → IsPlain c → prefix_at (legacy_bytes l ++ (c ∷ rest)) ≡ Some (legacy_prefix l None, c ∷ rest)
unfolding prefix_at
prefix_without_rex l c rest n h =
    rw (legacy_back l c rest n h.legacy, no_vex c h.vex_three h.vex_two, and_false, rex_at-none (c ∷ rest) (apart (c / 16) 4 h.rex)) refl

-- legacy prefixes, a REX byte or none, and a byte that begins no prefix
pub prefix_back : (l : LegacySet) (rex : Option Rex) (c : ℕ) (rest : List ℕ) → (l.repne && l.rep) ≡ false → IfSome rex AreBits → IsPlain c → prefix_at (legacy_bytes l ++ (rex_bytes rex ++ (c ∷ rest))) ≡ Some (legacy_prefix l rex, c ∷ rest)
prefix_back l None c rest n b h = prefix_without_rex l c rest n h
prefix_back l (Some rex) c rest n b h = prefix_with_rex l rex (c ∷ rest) n b

-- a VEX prefix is read back, whatever follows
pub prefix_vex : (prefix : VexPrefix) (vex : Vex) (rest : List ℕ) → VexReadsAs vex (vex_bytes prefix) → prefix_at (vex_bytes prefix ++ rest) ≡ Some (vex_prefix vex, rest)
unfolding prefix_at legacy_at
prefix_vex (TwoByte last) vex rest h = rw (h.reads rest) refl
prefix_vex (ThreeByte second last) vex rest h = rw (h.reads rest) refl

-- a REX prefix of which bits are known, and whether its byte stands
pub rex_is : (rex : Option Rex) (bits : Rex) (stands : Bool) → rex_bits rex ≡ bits → (IsSome rex ↔ IsTrue stands) → rex ≡ (if stands then Some bits else None)
rex_is None bits true is h = let bad : false ≡ true = h.1 refl in cc
rex_is None bits false is h = refl
rex_is (Some rex) bits true is h = ap Some is
rex_is (Some rex) bits false is h = let bad : false ≡ true = h.0 refl in cc
