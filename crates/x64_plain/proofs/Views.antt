use Rattle.std.proofs.Common.{◌≡◌, ◌∙◌, ◌^◌, ◌<◌, ℕ, refl, sym, ap, Bool, true, false, arith, Option, Some, None, ℤ, pos, negsuc, w8, w32, FitsSigned}
use Rattle.std.proofs.Math.Facts.{sfits_to_z}
use Rattle.std.proofs.lemmas.Bool.{and_parts}
use Rattle.std.proofs.lemmas.Bool.Decides.{nat_tests}
use Rattle.std.proofs.lemmas.Int.{ints, to_z-of_z}
use Rattle.std.specs.Int.{cast_signed}
use Rattle.std.specs.Prelude.{◌==◌, ◌||◌, ◌≢◌, nat_lt, option_map}
use Rattle.cax64_encoder.specs.ImmActions.{imm_named}
use Rattle.cax64_machine_code.specs.Line.{imm_bytes}
use Rattle.cax64_operand.specs.Immediate.{imm_value}
use Rattle.x64_plain.specs.Plain.{imm_word, low_word, or_0, place_of, plain, plain_place}
use Rattle.x64_plain.specs.declared.inst.HqInst.{HqInst}
use Rattle.x64_plain.specs.declared.place.HqPlace.{HqPlace}
use Rattle.x64_core.specs.Fits.{core_fits, place_fits}
use Rattle.x64_lines.specs.Shape.{has_reg, has_vvvv, imm_field, shape_of}
use Rattle.x64_core.specs.View.{CoreView, core_view, place_operand, when}
use Rattle.x64_core.specs.Viewed.{viewed}
use Rattle.x64_core.specs.declared.instruction.Core.{Core}
use Rattle.x64_core.specs.declared.place.CorePlace.{CorePlace}
use Rattle.cax64_sink.specs.declared.DeferredTarget.TheVariants as target
use Rattle.x64_core.specs.declared.place.CorePlace.TheVariants.{Absent, Register, Base, BaseAndIndex, Relative}
use Rattle.x64_lines.specs.declared.shapes.OpImm.{OpImm}
use Rattle.x64_lines.specs.declared.shapes.OpImm.TheVariants as imm
use Rattle.x64_lines.specs.declared.shapes.OpShape.{OpShape}
use Rattle.x64_core.proofs.MadeOf.{view_by}
use Rattle.x64_place.specs.declared.place.FlatPlace.{FlatPlace}
use Rattle.x64_plain.proofs.Places.{same_place}

-- Instructions are told by their integers.

below : (a b : ℕ) → nat_lt a b ≡ true → a < b
below a b h = grind (arith, nat_tests, h)

word_back : (z : ℤ) → FitsSigned w32 z → cast_signed w32 (low_word z) ≡ z
word_back (pos n) h = to_z-of_z w32 (pos n) h
word_back (negsuc n) h = to_z-of_z w32 (negsuc n) h

signed_8 : (word : ℕ) → nat_lt word (256 ^ 1) ≡ true → FitsSigned w8 (cast_signed w8 word)
signed_8 word h = sfits_to_z {w = w8} (record { fits = below _ _ h })

signed_32 : (word : ℕ) → nat_lt word (256 ^ 4) ≡ true → FitsSigned w32 (cast_signed w32 word)
signed_32 word h = sfits_to_z {w = w32} (record { fits = below _ _ h })

wider : (z : ℤ) → FitsSigned w8 z → FitsSigned w32 z
wider z h = omega (arith, ints, h)

-- what a word stands for where an immediate is wanted
abbrev word_named : OpImm → ℕ → Option ℤ
word_named imm.None word = None
word_named imm.U8 word = Some (pos word)
word_named imm.U16 word = Some (pos word)
word_named imm.U32 word = Some (pos word)
word_named imm.I8 word = Some (cast_signed w32 word)
word_named imm.I32 word = Some (cast_signed w32 word)

imm_back : (kind : OpImm) (word : ℕ) → nat_lt word (256 ^ imm_bytes (imm_field kind)) ≡ true → word_named kind (imm_word (option_map imm_value (imm_named (imm_field kind) word))) ≡ option_map imm_value (imm_named (imm_field kind) word)
imm_back imm.None word h = refl
imm_back imm.U8 word h = refl
imm_back imm.U16 word h = refl
imm_back imm.U32 word h = refl
imm_back imm.I8 word h = ap (λ (z : ℤ). Some z) (word_back (cast_signed w8 word) (wider _ (signed_8 word h)))
imm_back imm.I32 word h = ap (λ (z : ℤ). Some z) (word_back (cast_signed w32 word) (signed_32 word h))

pub when_back : (b : Bool) (n : ℕ) → when b (or_0 (when b n)) ≡ when b n
when_back true n = refl
when_back false n = refl

word_fits : (s : OpShape) (x y word : ℕ) (p : CorePlace) → core_fits s x y p word ≡ true → nat_lt word (256 ^ imm_bytes (imm_field s.imm)) ≡ true
word_fits s x y word p h =
    let k = and_parts (place_fits s.fields p) _ h in
    let l = and_parts (nat_lt word (256 ^ imm_bytes (imm_field s.imm))) _ k.1 in
    l.0

-- what is made of the integers of an instruction, by the shape of its line
abbrev given : OpShape → ℕ → CorePlace → HqInst → CoreView
given s number p i = record { op = number; reg = when (has_reg s.fields) i.reg; vvvv = when (has_vvvv s.fields) i.vvvv; place = place_operand p; imm = word_named s.imm i.imm }

abbrev view_of : OpShape → Core → CoreView
view_of s c = record { op = c.op.number; reg = when (has_reg s.fields) c.reg; vvvv = when (has_vvvv s.fields) c.vvvv; place = place_operand (viewed c.place); imm = option_map imm_value (imm_named (imm_field s.imm) c.imm) }

is_view : (c : Core) → core_view c ≡ view_of (shape_of c.op.number) c
is_view c = view_by c.op (shape_of c.op.number).fields (shape_of c.op.number).imm c.reg c.vvvv (viewed c.place) c.imm refl refl

given_is : (s : OpShape) (c : Core) → core_fits s c.reg c.vvvv (viewed c.place) c.imm ≡ true → given s c.op.number (viewed c.place) (plain (view_of s c)) ≡ view_of s c
given_is s c h = rw (when_back (has_reg s.fields) c.reg, when_back (has_vvvv s.fields) c.vvvv, imm_back s.imm c.imm (word_fits s c.reg c.vvvv c.imm (viewed c.place) h)) refl

given_core : (c : Core) → given (shape_of c.op.number) c.op.number (viewed c.place) (plain (core_view c)) ≡ core_view c
given_core c = ap (λ (v : CoreView). given (shape_of c.op.number) c.op.number (viewed c.place) (plain v)) (is_view c) ∙ given_is (shape_of c.op.number) c c.shape ∙ sym (is_view c)

-- a place has nothing where the struct has its own

again : HqPlace → HqPlace
again p = record { place = p.place; base = p.base; index = p.index; scale = p.scale; trap = p.trap; has_offset = p.has_offset; offset = p.offset; reserved = 0; disp = p.disp; target = p.target }

place_again : (p : CorePlace) → plain_place (place_operand p) ≡ again (plain_place (place_operand p))
unfolding again
place_again Absent = refl
place_again (Register number) = refl
place_again (Base base trap offset disp) = refl
place_again (BaseAndIndex base index scale trap disp) = refl
place_again (Relative (target.Label label)) = refl
place_again (Relative (target.Constant constant)) = refl
place_again (Relative target.None) = refl

place_in : (c : Core) (i : HqInst) → plain (core_view c) ≡ i → plain_place (place_operand (viewed c.place)) ≡ place_of i
unfolding again
place_in c i h = place_again (viewed c.place) ∙ ap place_of h

-- Two instructions with the same integers are one.

number_in : (c : Core) (i : HqInst) → plain (core_view c) ≡ i → c.op.number ≡ i.line
number_in c i h = ap (λ (x : HqInst). x.line) h

pub same_view : (i : HqInst) (d c : Core) → plain (core_view d) ≡ i → plain (core_view c) ≡ i → core_view d ≡ core_view c
same_view i d c k h =
    let op : d.op.number ≡ c.op.number = number_in d i k ∙ sym (number_in c i h) in
    let place : viewed d.place ≡ viewed c.place = same_place (viewed d.place) (viewed c.place) (place_in d i k ∙ sym (place_in c i h)) in
    sym (given_core d)
    ∙ ap (λ (m : ℕ). given (shape_of m) m (viewed d.place) (plain (core_view d))) op
    ∙ ap (λ (p : CorePlace). given (shape_of c.op.number) c.op.number p (plain (core_view d))) place
    ∙ ap (λ (x : HqInst). given (shape_of c.op.number) c.op.number (viewed c.place) x) (k ∙ sym h)
    ∙ given_core c

-- What is made of integers has these.

kept : (b : Bool) (n : ℕ) → (b || (n == 0)) ≡ true → or_0 (when b n) ≡ n
kept true n h = refl
kept false n h = grind (arith, nat_tests, h)

nowhere : (s : OpShape) (x y : ℕ) (p : CorePlace) (word : ℕ) → core_fits s x y p word ≡ true → ((has_reg s.fields || (x == 0)) ≡ true) × ((has_vvvv s.fields || (y == 0)) ≡ true)
nowhere s x y p word h =
    let k = and_parts (place_fits s.fields p) _ h in
    let l = and_parts (nat_lt word (256 ^ imm_bytes (imm_field s.imm))) _ k.1 in
    and_parts (has_reg s.fields || (x == 0)) _ l.1

reg_in : (c : Core) → or_0 (core_view c).reg ≡ c.reg
reg_in c = ap (λ (v : CoreView). or_0 v.reg) (is_view c) ∙ kept _ c.reg (nowhere (shape_of c.op.number) c.reg c.vvvv (viewed c.place) c.imm c.shape).0

vvvv_in : (c : Core) → or_0 (core_view c).vvvv ≡ c.vvvv
vvvv_in c = ap (λ (v : CoreView). or_0 v.vvvv) (is_view c) ∙ kept _ c.vvvv (nowhere (shape_of c.op.number) c.reg c.vvvv (viewed c.place) c.imm c.shape).1

low_in : (c : Core) → imm_word (core_view c).imm ≡ imm_word (option_map imm_value (imm_named (imm_field (shape_of c.op.number).imm) c.imm))
low_in c = ap (λ (v : CoreView). imm_word v.imm) (is_view c)

low_is : (c : Core) (i : HqInst) → plain (core_view c) ≡ i → imm_word (option_map imm_value (imm_named (imm_field (shape_of c.op.number).imm) c.imm)) ≡ i.imm
low_is c i h = sym (low_in c) ∙ ap (λ (x : HqInst). x.imm) h

fits_in : (c : Core) → nat_lt c.imm (256 ^ imm_bytes (imm_field (shape_of c.op.number).imm)) ≡ true
fits_in c = word_fits (shape_of c.op.number) c.reg c.vvvv c.imm (viewed c.place) c.shape

abbrev built : ℕ → ℕ → ℕ → ℕ → ℕ → HqPlace → HqInst
built line reg vvvv reserved word p = record { line = line; place = p.place; reg = reg; vvvv = vvvv; base = p.base; index = p.index; scale = p.scale; trap = p.trap; has_offset = p.has_offset; offset = p.offset; reserved = reserved; disp = p.disp; target = p.target; imm = word }

built_is : (i : HqInst) (line reg vvvv reserved word : ℕ) (p : HqPlace) → line ≡ i.line → reg ≡ i.reg → vvvv ≡ i.vvvv → reserved ≡ i.reserved → word ≡ i.imm → p ≡ place_of i → built line reg vvvv reserved word p ≡ i
built_is i line reg vvvv reserved word p a b c d e f = rw (a, b, c, d, e, f) refl

pub made_is : (i : HqInst) (c : Core) (s : OpShape) (d : FlatPlace) (word number : ℕ) (pp : HqPlace)
    → number ≡ i.line → s ≡ shape_of number → pp ≡ place_of i → plain_place (place_operand (viewed d)) ≡ pp → (nat_lt word (256 ^ imm_bytes (imm_field s.imm)) ≡ true → imm_word (option_map imm_value (imm_named (imm_field s.imm) word)) ≡ i.imm) → 0 ≡ i.reserved
    → c.op.number ≡ number → c.reg ≡ i.reg → c.vvvv ≡ i.vvvv → c.place ≡ d → c.imm ≡ word → plain (core_view c) ≡ i
made_is i c s d word number pp n es ep place low reserved op reg vvvv is imm =
    let shape : shape_of c.op.number ≡ s = ap shape_of op ∙ sym es in
    let value : imm_word (option_map imm_value (imm_named (imm_field (shape_of c.op.number).imm) c.imm)) ≡ i.imm = rw (shape, imm) (low (rw (sym shape, sym imm) (fits_in c))) in
    built_is i c.op.number (or_0 (core_view c).reg) (or_0 (core_view c).vvvv) 0 (imm_word (core_view c).imm) (plain_place (place_operand (viewed c.place))) (op ∙ n) (reg_in c ∙ reg) (vvvv_in c ∙ vvvv) reserved (low_in c ∙ value) (ap (λ (p : FlatPlace). plain_place (place_operand (viewed p))) is ∙ place ∙ ep)

-- Integers of which none is made are those of no instruction.

pub no_word : (i : HqInst) (s : OpShape) (number : ℕ) → number ≡ i.line → s ≡ shape_of number
    → ((word : ℕ) → nat_lt word (256 ^ imm_bytes (imm_field s.imm)) ≡ true → imm_word (option_map imm_value (imm_named (imm_field s.imm) word)) ≢ i.imm)
    → (c : Core) → plain (core_view c) ≢ i
no_word i s number n es none c h =
    let shape : s ≡ shape_of c.op.number = es ∙ ap shape_of (n ∙ sym (number_in c i h)) in
    none c.imm (rw shape (fits_in c)) (rw shape (low_is c i h))

pub not_taken : (i : HqInst) (s : OpShape) (d : FlatPlace) (word number : ℕ) (pp : HqPlace)
    → number ≡ i.line → s ≡ shape_of number → pp ≡ place_of i → plain_place (place_operand (viewed d)) ≡ pp
    → ((other : ℕ) → nat_lt other (256 ^ imm_bytes (imm_field s.imm)) ≡ true → imm_word (option_map imm_value (imm_named (imm_field s.imm) other)) ≡ i.imm → word ≡ other)
    → core_fits (shape_of number) i.reg i.vvvv (viewed d) word ≡ false → (c : Core) → plain (core_view c) ≢ i
not_taken i s d word number pp n es ep place alone refused c h =
    let op : number ≡ c.op.number = n ∙ sym (number_in c i h) in
    let shape : s ≡ shape_of c.op.number = es ∙ ap shape_of op in
    let reg : i.reg ≡ c.reg = sym (ap (λ (x : HqInst). x.reg) h) ∙ reg_in c in
    let vvvv : i.vvvv ≡ c.vvvv = sym (ap (λ (x : HqInst). x.vvvv) h) ∙ vvvv_in c in
    let is : viewed d ≡ viewed c.place = same_place (viewed d) (viewed c.place) (place ∙ ep ∙ sym (place_in c i h)) in
    let imm : word ≡ c.imm = alone c.imm (rw shape (fits_in c)) (rw shape (low_is c i h)) in
    let taken : core_fits (shape_of number) i.reg i.vvvv (viewed d) word ≡ true = rw (op, reg, vvvv, is, imm) c.shape in
    let both : ◌≡◌ {A = Bool} true false = sym taken ∙ refused in
    cc
