use Rattle.std.proofs.Common.{◌≡◌, ℕ, ◌+◌, ◌-◌, ◌*◌, ◌<◌, ◌^◌, arith, List, [], ◌∷◌, Bool, true, false, Some, None, Option, refl, ℤ}
use Rattle.std.specs.Prelude.{◌==◌, ◌&&◌, not, nat_le, if◌then◌else◌}
use Rattle.std.proofs.lemmas.Bool.Decides.{nat_tests}
use Rattle.std.proofs.lemmas.Option.{same_Some}
use Rattle.cax64_machine_code.specs.Fields.{reg_of, rm_of, mod_of, base_of, index_of, scale_of}
use Rattle.cax64_machine_code.specs.Len.{number_in, is_high, reg_is_high, base_is_high, index_is_high, place_is_high, is_4_to_7, is_special, reg_is_special, place_is_special}
use Rattle.cax64_machine_code.specs.Prefix.{Prefix, has_rex, r_of}
use Rattle.cax64_machine_code.specs.Reading.{view_of, reg_view, place_at}
use Rattle.cax64_machine_code.specs.Tail.{Tail, read_tail, sib_at, disp_at, disp32_at, displaced, scaled_index}
use Rattle.cax64_machine_code.specs.declared.line.PlaceField.{PlaceField}
use Rattle.cax64_machine_code.specs.declared.line.PlaceField.TheVariants.{Memory, RegisterOrMemory, Register8OrMemory}
use Rattle.cax64_machine_code.specs.declared.line.RegField.{RegField}
use Rattle.cax64_machine_code.specs.declared.line.RegField.TheVariants.{Digit, Register8, Register}
use Rattle.cax64_machine_code.specs.declared.line.TailField.TheVariants.{Modrm}
use Rattle.cax64_machine_code.specs.declared.reading.Place.{Place}
use Rattle.cax64_machine_code.specs.declared.reading.Place.TheVariants.{Reg, Mem, Rip}
use Rattle.cax64_machine_code.specs.declared.reading.RegView.TheVariants.{Low, High}
use Rattle.cax64_machine_code.proofs.NoShorter.{displaced_is}
use Rattle.cax64_shortest.proofs.PrefixLength.{choose}

-- the numbers that are read where a prefix has no bit 3 of them, and no REX byte stands

not_high : (n : ℕ) → n < 8 → is_high n ≡ false
not_high n h = grind (arith, nat_tests)

-- a place as a tail names it, with numbers below 8
abbrev pub IsLow : Place → Type 0
IsLow (Reg (Low number)) = number < 8
IsLow (Reg (High number)) = ⊥
IsLow (Mem base index disp) = (base_is_high base ≡ false) × (index_is_high index ≡ false)
IsLow (Rip disp) = Unit {0}

low_number : (low b : ℕ) → b ≡ 0 → low < 8 → low + 8 * b < 8
low_number low b e h = omega (arith, e, h)

index_low : (x sib : ℕ) → x ≡ 0 → index_is_high (scaled_index x sib) ≡ false
index_low x sib e = by_test ((index_of sib == 4) && (x == 0))
  where
    by_test : (t : Bool) → index_is_high (if t then None else Some (index_of sib + 8 * x, 2 ^ scale_of sib)) ≡ false
    by_test true = refl
    by_test false = not_high (index_of sib + 8 * x) (low_number (index_of sib) x e (omega arith))

displaced_low : (reg : ℕ) (place : ℤ → Place) (o : Option (ℤ × List ℕ)) (t : Tail) → ((disp : ℤ) → IsLow (place disp)) → displaced reg place o ≡ Some t → IsLow t.place
displaced_low reg place o t low h = let d = displaced_is reg place o t h in rw d.tail (low d.disp)

sib_low : (x b mode reg : ℕ) (bytes : List ℕ) (t : Tail) → x ≡ 0 → b ≡ 0 → sib_at x b 1 mode reg bytes ≡ Some t → IsLow t.place
unfolding sib_at
sib_low x b mode reg [] t hx hb h = cc
sib_low x b mode reg (sib ∷ bytes) t hx hb h =
    choose ((base_of sib == 5) && (mode == 0)) _ _ _
    (λ _ e. displaced_low reg (Mem None (scaled_index x sib)) (disp32_at bytes) t (λ disp. (refl, index_low x sib hx)) e)
    (λ e. displaced_low reg (Mem (Some (base_of sib + 8 * b)) (scaled_index x sib)) (disp_at mode 1 bytes) t (λ disp. (not_high (base_of sib + 8 * b) (low_number (base_of sib) b hb (omega arith)), index_low x sib hx)) e) h

register_low : (modrm b : ℕ) (bytes : List ℕ) (t : Tail) → b ≡ 0 → ◌≡◌ {A = Option Tail} (Some (record { reg = reg_of modrm; place = Reg (Low (rm_of modrm + 8 * b)); rest = bytes })) (Some t) → IsLow t.place
register_low modrm b bytes t hb h =
    let e : record { reg = reg_of modrm; place = Reg (Low (rm_of modrm + 8 * b)); rest = bytes } ≡ t = same_Some _ _ h in
    rw (← e) (low_number (rm_of modrm) b hb (omega arith))

-- under X and B of 0 a tail names numbers below 8
pub tail_low : (x b : ℕ) (bytes : List ℕ) (t : Tail) → x ≡ 0 → b ≡ 0 → read_tail x b 1 bytes ≡ Some t → IsLow t.place
unfolding read_tail
tail_low x b [] t hx hb h = cc
tail_low x b (modrm ∷ bytes) t hx hb h =
    choose (mod_of modrm == 3) _ _ _ (λ _ e. register_low modrm b bytes t hb e)
    (choose (rm_of modrm == 4) _ _ _ (λ _ e. sib_low x b (mod_of modrm) (reg_of modrm) bytes t hx hb e)
    (choose ((rm_of modrm == 5) && (mod_of modrm == 0)) _ _ _ (λ _ e. displaced_low (reg_of modrm) Rip (disp32_at bytes) t (λ disp. tt) e)
    (λ e. displaced_low (reg_of modrm) (Mem (Some (rm_of modrm + 8 * b)) None) (disp_at (mod_of modrm) 1 bytes) t (λ disp. (not_high (rm_of modrm + 8 * b) (low_number (rm_of modrm) b hb (omega arith)), refl)) e))) h

displaced_reg : (modrm : ℕ) (place : ℤ → Place) (o : Option (ℤ × List ℕ)) (t : Tail) → displaced (reg_of modrm) place o ≡ Some t → t.reg < 8
displaced_reg modrm place o t h = let d = displaced_is (reg_of modrm) place o t h in rw d.tail (omega arith)

sib_reg : (x b mode modrm : ℕ) (bytes : List ℕ) (t : Tail) → sib_at x b 1 mode (reg_of modrm) bytes ≡ Some t → t.reg < 8
unfolding sib_at
sib_reg x b mode modrm [] t h = cc
sib_reg x b mode modrm (sib ∷ bytes) t h =
    choose ((base_of sib == 5) && (mode == 0)) _ _ _
    (λ _ e. displaced_reg modrm _ (disp32_at bytes) t e)
    (λ e. displaced_reg modrm _ (disp_at mode 1 bytes) t e) h

register_reg : (modrm b : ℕ) (bytes : List ℕ) (t : Tail) → ◌≡◌ {A = Option Tail} (Some (record { reg = reg_of modrm; place = Reg (Low (rm_of modrm + 8 * b)); rest = bytes })) (Some t) → t.reg < 8
register_reg modrm b bytes t h =
    let e : record { reg = reg_of modrm; place = Reg (Low (rm_of modrm + 8 * b)); rest = bytes } ≡ t = same_Some _ _ h in
    rw (← e) (omega arith)

-- the reg field is below 8
pub tail_reg : (x b : ℕ) (bytes : List ℕ) (t : Tail) → read_tail x b 1 bytes ≡ Some t → t.reg < 8
unfolding read_tail
tail_reg x b [] t h = cc
tail_reg x b (modrm ∷ bytes) t h =
    choose (mod_of modrm == 3) _ _ _ (λ _ e. register_reg modrm b bytes t e)
    (choose (rm_of modrm == 4) _ _ _ (λ _ e. sib_reg x b (mod_of modrm) modrm bytes t e)
    (choose ((rm_of modrm == 5) && (mod_of modrm == 0)) _ _ _ (λ _ e. displaced_reg modrm Rip (disp32_at bytes) t e)
    (λ e. displaced_reg modrm (Mem (Some (rm_of modrm + 8 * b)) None) (disp_at (mod_of modrm) 1 bytes) t e))) h

-- a number below 8 is read as a register of a number below 8
view_low : (eight rex : Bool) (n : ℕ) → n < 8 → is_high (number_in (view_of eight rex n)) ≡ false
view_low eight rex n h = by_test (eight && (not rex && (nat_le 4 n && nat_le n 7)))
  where
    by_test : (t : Bool) → is_high (number_in (if t then High (n - 4) else Low n)) ≡ false
    by_test true = not_high (n - 4 + 4) (omega (arith, h))
    by_test false = not_high n h

-- without a REX byte numbers 4 to 7 of an 8-bit operand are read as other registers
view_plain : (rex : Bool) (n : ℕ) → rex ≡ false → is_special (view_of true rex n) ≡ false
view_plain true n h = cc
view_plain false n h = by_test (is_4_to_7 n) refl
  where
    by_test : (t : Bool) → is_4_to_7 n ≡ t → is_special (if t then High (n - 4) else Low n) ≡ false
    by_test true e = refl
    by_test false e = e

pub reg_low : (field : RegField) (p : Prefix) (reg : ℕ) → reg < 8 → r_of p ≡ 0 → reg_is_high (reg_view field p reg) ≡ false
reg_low (Digit d) p reg h e = refl
reg_low Register8 p reg h e = view_low true (has_rex p) (reg + 8 * r_of p) (low_number reg (r_of p) e h)
reg_low Register p reg h e = view_low false (has_rex p) (reg + 8 * r_of p) (low_number reg (r_of p) e h)

pub reg_plain : (field : RegField) (place : PlaceField) (p : Prefix) (reg : ℕ) → has_rex p ≡ false → reg_is_special (Modrm field place) (reg_view field p reg) ≡ false
reg_plain (Digit d) place p reg h = refl
reg_plain Register8 place p reg h = view_plain (has_rex p) (reg + 8 * r_of p) h
reg_plain Register place p reg h = refl

pub place_low : (field : PlaceField) (p : Prefix) (named place : Place) → IsLow named → place_at field p named ≡ Some place → place_is_high (Some place) ≡ false
place_low Memory p (Reg view) place low h = cc
place_low RegisterOrMemory p (Reg (Low n)) place low h = rw (← same_Some _ _ h) (not_high n low)
place_low RegisterOrMemory p (Reg (High n)) place low h = absurd low
place_low Register8OrMemory p (Reg (Low n)) place low h = rw (← same_Some _ _ h) (view_low true (has_rex p) n low)
place_low Register8OrMemory p (Reg (High n)) place low h = absurd low
place_low field p (Mem base index disp) place low h = rw (← same_Some _ _ h, low.1, low.0) refl
place_low field p (Rip disp) place low h = rw (← same_Some _ _ h) refl

pub place_plain : (reg : RegField) (field : PlaceField) (p : Prefix) (named place : Place) → has_rex p ≡ false → place_at field p named ≡ Some place → place_is_special (Modrm reg field) (Some place) ≡ false
place_plain reg Memory p named place rex h = refl
place_plain reg RegisterOrMemory p named place rex h = refl
place_plain reg Register8OrMemory p (Reg (Low n)) place rex h = rw (← same_Some _ _ h) (view_plain (has_rex p) n rex)
place_plain reg Register8OrMemory p (Reg (High n)) place rex h = rw (← same_Some _ _ h) refl
place_plain reg Register8OrMemory p (Mem base index disp) place rex h = rw (← same_Some _ _ h) refl
place_plain reg Register8OrMemory p (Rip disp) place rex h = rw (← same_Some _ _ h) refl
