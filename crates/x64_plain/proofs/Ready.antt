use Rattle.std.proofs.Common.{◌≡◌, ◌∙◌, ◌+◌, ◌*◌, ℕ, refl, sym, ap, subst, arith, Bool, true, false, None, ℤ, pos, FitsSigned, w32}
use Rattle.std.proofs.lemmas.Bool.{and_parts}
use Rattle.std.proofs.lemmas.Bool.Decides.{nat_tests}
use Rattle.std.proofs.lemmas.Int.{to_z-of_z}
use Rattle.std.proofs.lemmas.Nat.{and_mask}
use Rattle.std.proofs.lemmas.Nat.Bits.{and_high_mask}
use Rattle.std.specs.Prelude.{◌==◌, ◌||◌, ◌&&◌, ◌^◌, ◌/◌, ◌%◌, ◌<◌, bit_and, if◌then◌else◌, not, nat_le, nat_lt, slice_index_or, IsTrue}
use Rattle.std.specs.Int.{cast_signed, cast_unsigned}
use Rattle.cax64_encoder.specs.Fault.{all_met, late_offset_fits}
use Rattle.cax64_encoder.specs.Numbered as numbered
use Rattle.cax64_encoder.specs.Place.{memory_in}
use Rattle.cax64_encoder.specs.Real.{place_is_real}
use Rattle.cax64_machine_code.specs.Line.{imm_bytes}
use Rattle.x64_place.specs.Kind.{has_base, has_index}
use Rattle.x64_place.specs.Operand as flat
use Rattle.x64_place.specs.Place.{is_zero}
use Rattle.x64_place.specs.Tail.{kind_number}
use Rattle.x64_place.specs.declared.place.FlatPlace.{FlatPlace}
use Rattle.x64_place.specs.declared.place.PlaceKind.{PlaceKind}
use Rattle.x64_place.specs.declared.place.PlaceKind.TheVariants.{Absent, Register, Base, BaseAndIndex, Label, Constant, NoTarget}
use Rattle.x64_plain.specs.Encodable.{IsImm, IsReady, absent, fields_number, is_ready, is_within, limits_of, limits_where, most, settled_place, takes}
use Rattle.x64_plain.specs.Named.{has_displacement, has_offset, has_target, index_beside, is_whole}
use Rattle.x64_plain.specs.Plain.{place_of}
use Rattle.x64_plain.specs.declared.encodable.Limits.{Limits}
use Rattle.x64_plain.specs.declared.encodable.TheConstants.{LIMITS}
use Rattle.x64_plain.specs.declared.inst.HqInst.{HqInst}
use Rattle.x64_core.specs.Core.{is_encodable, visited_of}
use Rattle.x64_core.specs.Fits.{core_fits, place_fits}
use Rattle.x64_lines.specs.Shape.{has_reg, has_vvvv, imm_field, shape_of}
use Rattle.x64_core.specs.View.{core_view, place_operand}
use Rattle.x64_core.specs.Viewed.{viewed, viewed_by}
use Rattle.x64_core.specs.declared.instruction.Core.{Core}
use Rattle.x64_lines.specs.declared.shapes.OpFields.{OpFields}
use Rattle.x64_lines.specs.declared.shapes.OpFields.TheVariants.{Bare, Rm, Mem, RegRm, RegMem, RegVvvvRm}
use Rattle.x64_lines.specs.declared.shapes.OpShape.{OpShape}
use Rattle.x64_core.proofs.Reals.{met_is}

-- The table has the largest numbers.

found : (f : OpFields) (k : PlaceKind) (d : Limits) → slice_index_or LIMITS (fields_number f * 8 + kind_number k) d ≡ limits_of f k
found Bare Absent d = refl
found Bare Register d = refl
found Bare Base d = refl
found Bare BaseAndIndex d = refl
found Bare Label d = refl
found Bare Constant d = refl
found Bare NoTarget d = refl
found Rm Absent d = refl
found Rm Register d = refl
found Rm Base d = refl
found Rm BaseAndIndex d = refl
found Rm Label d = refl
found Rm Constant d = refl
found Rm NoTarget d = refl
found Mem Absent d = refl
found Mem Register d = refl
found Mem Base d = refl
found Mem BaseAndIndex d = refl
found Mem Label d = refl
found Mem Constant d = refl
found Mem NoTarget d = refl
found RegRm Absent d = refl
found RegRm Register d = refl
found RegRm Base d = refl
found RegRm BaseAndIndex d = refl
found RegRm Label d = refl
found RegRm Constant d = refl
found RegRm NoTarget d = refl
found RegMem Absent d = refl
found RegMem Register d = refl
found RegMem Base d = refl
found RegMem BaseAndIndex d = refl
found RegMem Label d = refl
found RegMem Constant d = refl
found RegMem NoTarget d = refl
found RegVvvvRm Absent d = refl
found RegVvvvRm Register d = refl
found RegVvvvRm Base d = refl
found RegVvvvRm BaseAndIndex d = refl
found RegVvvvRm Label d = refl
found RegVvvvRm Constant d = refl
found RegVvvvRm NoTarget d = refl

pub ready_is : (f : OpFields) (k : PlaceKind) (i : HqInst) (d : Limits) (m n : ℕ) → m ≡ fields_number f → n ≡ i.place → kind_number k ≡ i.place → is_within (slice_index_or LIMITS (m * 8 + n) d) i ≡ is_ready f k i
ready_is f k i d m n e h own = rw (e, h ∙ sym own) (ap (λ (l : Limits). is_within l i) (found f k d))

-- What the largest numbers say.

lacks : (b : Bool) (n m : ℕ) → nat_le n (most b m) ≡ true → (b || (n == 0)) ≡ true
lacks true n m h = refl
lacks false n m h = grind (arith, nat_tests, h)

below : (b : Bool) (n m k : ℕ) → k ≡ m + 1 → nat_le n (most b m) ≡ true → nat_lt n k ≡ true
below true n m k e h = grind (arith, nat_tests, h, e)
below false n m k e h = grind (arith, nat_tests, h, e)

zero_is : (n : ℕ) → nat_le n 0 ≡ true → n ≡ 0
zero_is n h = grind (arith, nat_tests, h)

-- what a word of two has where the bits of one of them are 0

low_part : (d t : ℕ) → d < 2 ^ 32 → (d + t * 2 ^ 32) % 2 ^ 32 ≡ d
low_part d t h = omega (arith, h)

high_part : (d t : ℕ) → d < 2 ^ 32 → (d + t * 2 ^ 32) / 2 ^ 32 ≡ t
high_part d t h = omega (arith, h)

whole_part : (d t : ℕ) → d < 2 ^ 32 → t < 2 ^ 32 → (d + t * 2 ^ 32) % 2 ^ 64 ≡ d + t * 2 ^ 32
whole_part d t h k = omega (arith, h, k)

no_words : (a b : Bool) (d t : ℕ) → d < 2 ^ 32 → t < 2 ^ 32 → bit_and (d + t * 2 ^ 32) (absent a + absent b * 2 ^ 32) ≡ 0 → ((a || (d == 0)) ≡ true) × ((b || (t == 0)) ≡ true)
no_words true true d t h k e = (refl, refl)
no_words false true d t h k e =
    let none : d ≡ 0 = sym (low_part d t h) ∙ sym (and_mask (d + t * 2 ^ 32) 32) ∙ e in
    (rw none refl, refl)
no_words true false d t h k e =
    let fits : d + t * 2 ^ 32 < 2 ^ 64 = omega (arith, h, k) in
    let high : (d + t * 2 ^ 32) / 2 ^ 32 * 2 ^ 32 ≡ 0 = sym (and_high_mask 64 32 (omega arith) (d + t * 2 ^ 32) fits) ∙ e in
    let part : t * 2 ^ 32 ≡ 0 = ap (λ (n : ℕ). n * 2 ^ 32) (sym (high_part d t h)) ∙ high in
    let none : t ≡ 0 = omega (arith, part) in
    (refl, rw none refl)
no_words false false d t h k e =
    let both : d + t * 2 ^ 32 ≡ 0 = sym (whole_part d t h k) ∙ sym (and_mask (d + t * 2 ^ 32) 64) ∙ e in
    let none : d ≡ 0 = omega (arith, both) in
    let nothing : t ≡ 0 = omega (arith, both) in
    (rw none refl, rw nothing refl)

zero_disp : (b : Bool) (z : ℤ) → FitsSigned w32 z → (b || (cast_unsigned w32 z == 0)) ≡ true → (b || is_zero z) ≡ true
zero_disp true z fits h = refl
zero_disp false z fits h =
    let none : cast_unsigned w32 z ≡ 0 = grind (arith, nat_tests, h) in
    let is : pos 0 ≡ z = sym (ap (λ (n : ℕ). cast_signed w32 n) none) ∙ to_z-of_z w32 z fits in
    subst (λ (y : ℤ). is_zero y ≡ true) is refl

-- Integers that are within them are those of an instruction that can be encoded.

pub record Ready (f : OpFields) (k : PlaceKind) (i : HqInst) : Type 0 where
  pub taken : takes f k ≡ true
  pub reg : (has_reg f || (i.reg == 0)) ≡ true
  pub reg_below : nat_lt i.reg 16 ≡ true
  pub vvvv : (has_vvvv f || (i.vvvv == 0)) ≡ true
  pub vvvv_below : nat_lt i.vvvv 16 ≡ true
  pub base : (has_base k || (i.base == 0)) ≡ true
  pub base_below : nat_lt i.base 16 ≡ true
  pub index : (has_index k || (i.index == 0)) ≡ true
  pub index_below : nat_lt i.index 16 ≡ true
  pub no_rsp : not (i.index == 4) ≡ true
  pub scale : (has_index k || (i.scale == 0)) ≡ true
  pub scale_below : nat_lt i.scale 4 ≡ true
  pub trap : (has_displacement k || (i.trap == 0)) ≡ true
  pub no_offset : i.has_offset ≡ 0
  pub no_key : i.offset ≡ 0
  pub reserved : i.reserved ≡ 0
  pub disp : (has_displacement k || is_zero i.disp) ≡ true
  pub target : (has_target k || (i.target == 0)) ≡ true

record Parts (l : Limits) (i : HqInst) : Type 0 where
  reg : nat_le i.reg l.reg ≡ true
  vvvv : nat_le i.vvvv l.vvvv ≡ true
  base : nat_le i.base l.base ≡ true
  index : nat_le i.index l.index ≡ true
  scale : nat_le i.scale l.scale ≡ true
  trap : nat_le i.trap l.trap ≡ true
  has_offset : nat_le i.has_offset l.has_offset ≡ true
  offset : nat_le i.offset l.offset ≡ true
  reserved : nat_lt i.reserved l.reserved ≡ true
  no_rsp : not (i.index == 4) ≡ true
  words : (bit_and (cast_unsigned w32 i.disp + i.target * 2 ^ 32) l.absent == 0) ≡ true

parts : (l : Limits) (i : HqInst) → is_within l i ≡ true → Parts l i
parts l i h =
    let a1 = nat_le i.reg l.reg && nat_le i.vvvv l.vvvv in
    let a2 = a1 && nat_le i.base l.base in
    let a3 = a2 && nat_le i.index l.index in
    let a4 = a3 && nat_le i.scale l.scale in
    let a5 = a4 && nat_le i.trap l.trap in
    let a6 = a5 && nat_le i.has_offset l.has_offset in
    let a7 = a6 && nat_le i.offset l.offset in
    let a8 = a7 && nat_lt i.reserved l.reserved in
    let a9 = a8 && not (i.index == 4) in
    let p10 = and_parts a9 (bit_and (cast_unsigned w32 i.disp + i.target * 2 ^ 32) l.absent == 0) h in
    let p9 = and_parts a8 (not (i.index == 4)) p10.0 in
    let p8 = and_parts a7 (nat_lt i.reserved l.reserved) p9.0 in
    let p7 = and_parts a6 (nat_le i.offset l.offset) p8.0 in
    let p6 = and_parts a5 (nat_le i.has_offset l.has_offset) p7.0 in
    let p5 = and_parts a4 (nat_le i.trap l.trap) p6.0 in
    let p4 = and_parts a3 (nat_le i.scale l.scale) p5.0 in
    let p3 = and_parts a2 (nat_le i.index l.index) p4.0 in
    let p2 = and_parts a1 (nat_le i.base l.base) p3.0 in
    let p1 = and_parts (nat_le i.reg l.reg) (nat_le i.vvvv l.vvvv) p2.0 in
    record { reg = p1.0; vvvv = p1.1; base = p2.1; index = p3.1; scale = p4.1; trap = p5.1; has_offset = p6.1; offset = p7.1; reserved = p8.1; no_rsp = p9.1; words = p10.1 }

word_fits : (v : ℤ) → FitsSigned w32 v → cast_unsigned w32 v < 2 ^ 32
word_fits v h = grind (arith, h)

two_words : (k : PlaceKind) (i : HqInst) → FitsSigned w32 i.disp → i.target < 2 ^ 32 → (bit_and (cast_unsigned w32 i.disp + i.target * 2 ^ 32) (absent (has_displacement k) + absent (has_target k) * 2 ^ 32) == 0) ≡ true → ((has_displacement k || (cast_unsigned w32 i.disp == 0)) ≡ true) × ((has_target k || (i.target == 0)) ≡ true)
two_words k i fits small h = no_words (has_displacement k) (has_target k) (cast_unsigned w32 i.disp) i.target (word_fits i.disp fits) small (grind (arith, nat_tests, h))

ready_by : (t : Bool) (f : OpFields) (k : PlaceKind) (i : HqInst) → FitsSigned w32 i.disp → i.target < 2 ^ 32 → takes f k ≡ t → Parts (limits_where t f k) i → Ready f k i
ready_by true f k i fits small e p = record {
  taken = e;
  reg = lacks (has_reg f) i.reg 15 p.reg;
  reg_below = below (has_reg f) i.reg 15 16 refl p.reg;
  vvvv = lacks (has_vvvv f) i.vvvv 15 p.vvvv;
  vvvv_below = below (has_vvvv f) i.vvvv 15 16 refl p.vvvv;
  base = lacks (has_base k) i.base 15 p.base;
  base_below = below (has_base k) i.base 15 16 refl p.base;
  index = lacks (has_index k) i.index 15 p.index;
  index_below = below (has_index k) i.index 15 16 refl p.index;
  no_rsp = p.no_rsp;
  scale = lacks (has_index k) i.scale 3 p.scale;
  scale_below = below (has_index k) i.scale 3 4 refl p.scale;
  trap = lacks (has_displacement k) i.trap 255 p.trap;
  no_offset = zero_is i.has_offset p.has_offset;
  no_key = zero_is i.offset p.offset;
  reserved = let r : nat_lt i.reserved 1 ≡ true = p.reserved in grind (arith, nat_tests, r);
  disp = zero_disp (has_displacement k) i.disp fits (two_words k i fits small p.words).0;
  target = (two_words k i fits small p.words).1;
}
ready_by false f k i fits small e p = let r : nat_lt i.reserved 0 ≡ true = p.reserved in absurd (grind (arith, nat_tests, r))

pub ready : (f : OpFields) (k : PlaceKind) (i : HqInst) → FitsSigned w32 i.disp → i.target < 2 ^ 32 → is_ready f k i ≡ true → Ready f k i
ready f k i fits small h = ready_by (takes f k) f k i fits small refl (parts (limits_of f k) i h)

both : (a b : Bool) → a ≡ true → b ≡ true → (a && b) ≡ true
both true b h k = k
both false b h k = cc

or_true : (b : Bool) → (b || true) ≡ true
or_true true = refl
or_true false = refl

-- its place
pub whole_place : (f : OpFields) (k : PlaceKind) (i : HqInst) → Ready f k i → is_whole k (settled_place i) ≡ true
whole_place f k i r = both _ _ (both _ _ (both _ _ (both _ _ (both _ _ (both _ _ (both _ _ (both _ _ (both _ _ (both _ _ r.base r.index) r.scale) r.scale_below) r.trap) (or_true (has_offset k))) refl) refl) r.disp) r.target) refl

pub its_place : (f : OpFields) (k : PlaceKind) (i : HqInst) → Ready f k i → settled_place i ≡ place_of i
its_place f k i r = rw (r.no_offset, r.no_key) refl

fits_by : (f : OpFields) (k : PlaceKind) (d : FlatPlace) → place_fits f (viewed_by k d) ≡ takes f k
fits_by f Absent d = refl
fits_by f Register d = refl
fits_by f Base d = refl
fits_by f BaseAndIndex d = refl
fits_by f Label d = refl
fits_by f Constant d = refl
fits_by f NoTarget d = refl

-- its line takes it
pub taken : (s : OpShape) (k : PlaceKind) (i : HqInst) (d : FlatPlace) (word : ℕ) → Ready s.fields k i → d.kind ≡ k → nat_lt word (256 ^ imm_bytes (imm_field s.imm)) ≡ true → core_fits s i.reg i.vvvv (viewed d) word ≡ true
taken s k i d word r e w = both _ _ (ap (λ (j : PlaceKind). place_fits s.fields (viewed_by j d)) e ∙ fits_by s.fields k d ∙ r.taken) (both _ _ w (both _ _ r.reg r.vvvv))

real_by : (k : PlaceKind) (d : FlatPlace) → nat_lt d.base 16 ≡ true → nat_lt d.index 16 ≡ true → (has_index k ≡ true → not (d.index == 4) ≡ true) → place_is_real numbered.plain.settled numbered.plain.enc (flat.operand_by k d) ≡ true
real_by Absent d b x n = refl
real_by Register d b x n = b
real_by Base d b x n = b
real_by BaseAndIndex d b x n = both _ _ b (both _ _ x (n refl))
real_by Label d b x n = refl
real_by Constant d b x n = refl
real_by NoTarget d b x n = refl

late_by : (k : PlaceKind) (d : FlatPlace) → d.offset ≡ None → late_offset_fits (λ _. None) (memory_in (place_operand (viewed_by k d))) ≡ true
late_by Absent d e = refl
late_by Register d e = refl
late_by Base d e = rw e refl
late_by BaseAndIndex d e = refl
late_by Label d e = refl
late_by Constant d e = refl
late_by NoTarget d e = refl

index_by : (k : PlaceKind) (n : ℕ) → nat_lt n 16 ≡ true → nat_lt (index_beside k n) 16 ≡ true
index_by Absent n h = h
index_by Register n h = h
index_by Base n h = refl
index_by BaseAndIndex n h = h
index_by Label n h = h
index_by Constant n h = h
index_by NoTarget n h = h

rsp_by : (k : PlaceKind) (n : ℕ) → not (n == 4) ≡ true → has_index k ≡ true → not (index_beside k n == 4) ≡ true
rsp_by Absent n h e = h
rsp_by Register n h e = h
rsp_by Base n h e = cc
rsp_by BaseAndIndex n h e = h
rsp_by Label n h e = h
rsp_by Constant n h e = h
rsp_by NoTarget n h e = h

-- and it can be encoded
pub can_be : (f : OpFields) (k : PlaceKind) (i : HqInst) (c : Core) (d : FlatPlace) → Ready f k i → c.reg ≡ i.reg → c.vvvv ≡ i.vvvv → c.place ≡ d → d.kind ≡ k → d.base ≡ i.base → d.index ≡ index_beside k i.index → d.offset ≡ None → IsTrue (is_encodable (λ _. None) (core_view c))
can_be f k i c d r reg vvvv is kind base index late =
    let b : nat_lt d.base 16 ≡ true = rw base r.base_below in
    let x : nat_lt d.index 16 ≡ true = rw index (index_by k i.index r.index_below) in
    let n : has_index k ≡ true → not (d.index == 4) ≡ true = λ h. rw index (rsp_by k i.index r.no_rsp h) in
    let real : place_is_real numbered.plain.settled numbered.plain.enc (flat.place_operand c.place) ≡ true = subst (λ (p : FlatPlace). place_is_real numbered.plain.settled numbered.plain.enc (flat.place_operand p) ≡ true) (sym is) (subst (λ (j : PlaceKind). place_is_real numbered.plain.settled numbered.plain.enc (flat.operand_by j d) ≡ true) (sym kind) (real_by k d b x n)) in
    let met : all_met (visited_of (core_view c)) ≡ true = sym (met_is c) ∙ both _ _ (rw reg r.reg_below) (both _ _ (rw vvvv r.vvvv_below) real) in
    let fits : late_offset_fits (λ _. None) (memory_in (place_operand (viewed c.place))) ≡ true = subst (λ (p : FlatPlace). late_offset_fits (λ _. None) (memory_in (place_operand (viewed p))) ≡ true) (sym is) (subst (λ (j : PlaceKind). late_offset_fits (λ _. None) (memory_in (place_operand (viewed_by j d))) ≡ true) (sym kind) (late_by k d late)) in
    both _ _ met fits

-- Of two kinds with one number both are the same.

kind_at : ℕ → PlaceKind
kind_at n = if n == 0 then Absent else (if n == 1 then Register else (if n == 2 then Base else (if n == 3 then BaseAndIndex else (if n == 4 then Label else (if n == 5 then Constant else NoTarget)))))

kind_back : (k : PlaceKind) → kind_at (kind_number k) ≡ k
unfolding kind_at
kind_back Absent = refl
kind_back Register = refl
kind_back Base = refl
kind_back BaseAndIndex = refl
kind_back Label = refl
kind_back Constant = refl
kind_back NoTarget = refl

pub same_kind : (a b : PlaceKind) (n : ℕ) → kind_number a ≡ n → kind_number b ≡ n → a ≡ b
same_kind a b n e h = sym (kind_back a) ∙ ap kind_at (e ∙ sym h) ∙ kind_back b

-- what is ready, by the shape of its line and the kind of its place
pub ready_of : (i : HqInst) (s : OpShape) (k : PlaceKind) (number : ℕ) → FitsSigned w32 i.disp → i.target < 2 ^ 32 → IsReady i → number ≡ i.line → s ≡ shape_of number → kind_number k ≡ i.place → Ready s.fields k i × IsImm s.imm i.imm
ready_of i s k number fits small h n e own =
    let same : shape_of i.line ≡ s = ap shape_of (sym n) ∙ sym e in
    let kind : h.kind ≡ k = same_kind h.kind k i.place h.own own in
    let within : is_ready s.fields k i ≡ true = subst (λ (j : PlaceKind). is_ready s.fields j i ≡ true) kind (subst (λ (t : OpShape). is_ready t.fields h.kind i ≡ true) same h.within) in
    (ready s.fields k i fits small within, subst (λ (t : OpShape). IsImm t.imm i.imm) same h.imm)
