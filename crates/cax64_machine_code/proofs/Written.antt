use Rattle.std.proofs.Common.{◌≡◌, ℕ, ◌-◌, arith, List, [], ◌∷◌, ◌++◌, Bool, true, false, Some, None, Option, refl, ℤ, ◌∙◌, ap, sym, length}
use Rattle.std.specs.Prelude.{◌==◌, ◌&&◌, if◌then◌else◌}
use Rattle.std.proofs.lemmas.Bool.Decides.{nat_tests}
use Rattle.std.proofs.lemmas.List.{length-append}
use Rattle.std.proofs.lemmas.Option.{same_Some}
use Rattle.cax64_machine_code.specs.Fields.{reg_of, rm_of, mod_of}
use Rattle.cax64_machine_code.specs.Tail.{Tail, IsTail, read_tail, sib_at, displaced}
use Rattle.cax64_machine_code.specs.Prefix.{Prefix, prefix_at}
use Rattle.cax64_machine_code.specs.Line.{opcode_bytes, prefix_matches, after, digit_matches}
use Rattle.cax64_machine_code.specs.Reading.{imm_at, matched_at}
use Rattle.cax64_machine_code.specs.declared.line.Line.{Line}
use Rattle.cax64_machine_code.specs.declared.line.RegField.{RegField}
use Rattle.cax64_machine_code.specs.declared.line.PlaceField.{PlaceField}
use Rattle.cax64_machine_code.specs.declared.line.ImmField.{ImmField}
use Rattle.cax64_machine_code.specs.declared.line.RegField.TheVariants.{Digit, Register8, Register}
use Rattle.cax64_machine_code.specs.declared.line.TailField.TheVariants.{NoTail, Modrm}
use Rattle.cax64_machine_code.specs.declared.reading.Place.{Place}

-- how the parts of an instruction, put one behind the other, are found again

itself : (a : ℕ) → (a == a) ≡ true
itself a = grind (arith, nat_tests)

-- a prefix that reads back before an opcode
pub record IsPrefix (p : Prefix) (first : ℕ) (bytes : List ℕ) : Type 0 where
  pub reads : (rest : List ℕ) → prefix_at (bytes ++ (first ∷ rest)) ≡ Some (p, first ∷ rest)

-- an immediate that reads back, whatever follows
pub record IsImm (field : ImmField) (value : Option ℤ) (bytes : List ℕ) : Type 0 where
  pub reads : (rest : List ℕ) → imm_at field (bytes ++ rest) ≡ Some (value, rest)

pub after_back : (opcode rest : List ℕ) → after opcode (opcode ++ rest) ≡ Some rest
unfolding after
after_back [] rest = refl
after_back (c ∷ opcode) rest = rw (itself c) (after_back opcode rest)

first_of : List ℕ → ℕ
first_of [] = 0
first_of (c ∷ bytes) = c

-- an opcode and what stands behind it, where the digit is there
pub matched : (line : Line) (p : Prefix) (rest : List ℕ) → prefix_matches line p ≡ true → digit_matches line.tail rest ≡ true → matched_at line p (opcode_bytes line.opcode ++ rest) ≡ Some rest
matched line p rest hp hd = rw (hp, after_back (opcode_bytes line.opcode) rest, hd) refl

choose : {X : Type 0} (P : Type 0) (t : Bool) (a b r : X) → (a ≡ r → P) → (b ≡ r → P) → (if t then a else b) ≡ r → P
choose P true a b r f g h = f h
choose P false a b r f g h = g h

displaced_reg : (reg : ℕ) (place : ℤ → Place) (o : Option (ℤ × List ℕ)) (t : Tail) → displaced reg place o ≡ Some t → t.reg ≡ reg
displaced_reg reg place None t h = cc
displaced_reg reg place (Some d) t h = sym (ap (λ (z : Tail). z.reg) (same_Some _ _ h))

sib_reg : (x b n mode reg : ℕ) (bytes : List ℕ) (t : Tail) → sib_at x b n mode reg bytes ≡ Some t → t.reg ≡ reg
unfolding sib_at
sib_reg x b n mode reg [] t h = cc
sib_reg x b n mode reg (sib ∷ bytes) t h = choose (t.reg ≡ reg) _ _ _ (Some t) (displaced_reg reg _ _ t) (displaced_reg reg _ _ t) h

-- the reg field of a tail is that of its first byte
tail_reg : (x b n m : ℕ) (bytes : List ℕ) (t : Tail) → read_tail x b n (m ∷ bytes) ≡ Some t → t.reg ≡ reg_of m
unfolding read_tail
tail_reg x b n m bytes t h =
    choose (t.reg ≡ reg_of m) (mod_of m == 3) _ _ (Some t) (λ e. sym (ap (λ (z : Tail). z.reg) (same_Some _ _ e)))
    (choose (t.reg ≡ reg_of m) (rm_of m == 4) _ _ (Some t) (sib_reg x b n (mod_of m) (reg_of m) bytes t)
    (choose (t.reg ≡ reg_of m) ((rm_of m == 5) && (mod_of m == 0)) _ _ (Some t) (displaced_reg (reg_of m) _ _ t) (displaced_reg (reg_of m) _ _ t))) h

no_tail : (x b n reg : ℕ) (place : Place) → IsTail x b n reg place [] → ⊥
unfolding read_tail
no_tail x b n reg place h = let e = h.reads [] in cc

-- the reg field is the row's digit, if the row has one
abbrev pub DigitIs : RegField → ℕ → Type 0
DigitIs (Digit d) reg = reg ≡ d
DigitIs Register8 reg = Unit {0}
DigitIs Register reg = Unit {0}

digit_there : (field : RegField) (place_field : PlaceField) (x b n reg : ℕ) (place : Place) (t rest : List ℕ) → IsTail x b n reg place t → DigitIs field reg → digit_matches (Modrm field place_field) (t ++ rest) ≡ true
digit_there field place_field x b n reg place [] rest h d = absurd (no_tail x b n reg place h)
digit_there (Digit k) place_field x b n reg place (m ∷ t) rest h d =
    let r : reg ≡ reg_of m = tail_reg x b n m (t ++ rest) _ (h.reads rest) in
    let e : reg_of m ≡ k = sym r ∙ d in
    rw e (itself k)
digit_there Register8 place_field x b n reg place (m ∷ t) rest h d = refl
digit_there Register place_field x b n reg place (m ∷ t) rest h d = refl

pub bare_matches : (line : Line) (rest : List ℕ) → line.tail ≡ NoTail → digit_matches line.tail rest ≡ true
bare_matches line rest e = rw e refl

-- the opcode, with its first byte in front
pub record BeginsWith (first : ℕ) (opcode : List ℕ) : Type 0 where
  pub more : List ℕ
  pub is : opcode ≡ first ∷ more

pub prefixed : (p : Prefix) (first : ℕ) (pre opcode rest : List ℕ) → IsPrefix p first pre → BeginsWith first opcode → prefix_at (pre ++ (opcode ++ rest)) ≡ Some (p, opcode ++ rest)
prefixed p first pre opcode rest h o = rw o.is (h.reads (o.more ++ rest))

pub tail_length : (t rest : List ℕ) → length (t ++ rest) - length rest ≡ length t
tail_length t rest = omega (arith, length-append t rest)

pub tail_matches : (line : Line) (field : RegField) (place_field : PlaceField) (x b n reg : ℕ) (place : Place) (t rest : List ℕ) → line.tail ≡ Modrm field place_field → IsTail x b n reg place t → DigitIs field reg → digit_matches line.tail (t ++ rest) ≡ true
tail_matches line field place_field x b n reg place t rest e h d = rw e (digit_there field place_field x b n reg place t rest h d)
