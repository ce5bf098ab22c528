use Rattle.std.proofs.Common.{◌≡◌, ◌∙◌, ◌^◌, ℕ, ℤ, pos, refl, sym, ap, subst, arith, Bool, true, false, Option, Some, None}
use Rattle.std.specs.Prelude.{◌==◌, ◌||◌, ◌&&◌, nat_lt, option_map}
use Rattle.std.specs.Int.{cast_signed, w8, w32}
use Rattle.std.proofs.lemmas.Bool.{and_parts, ltb-true}
use Rattle.std.proofs.lemmas.Bool.Decides.{nat_tests}
use Rattle.std.proofs.lemmas.Int.{ints}
use Rattle.std.proofs.Math.Bool.{Bool-set}
use mathlib.Core.HLevel.{is_prop→PathP}
use Rattle.cax64_encoder.specs.ImmActions.{imm_named}
use Rattle.cax64_encoder.specs.declared.role.PlaceOperand.{PlaceOperand}
use Rattle.cax64_machine_code.specs.Line.{imm_bytes}
use Rattle.cax64_machine_code.proofs.Equality.{Tells}
use Rattle.cax64_operand.specs.Immediate.{imm_value}
use Rattle.x64_place.specs.declared.place.FlatPlace.{FlatPlace}
use Rattle.x64_place.proofs.Equality.{same_operand, tells_both, tells_number, tells_place}
use Rattle.x64_core.specs.Fits.{core_fits, place_fits}
use Rattle.x64_lines.specs.Shape.{has_reg, has_vvvv, imm_field, shape_of}
use Rattle.x64_core.specs.View.{CoreView, core_view, place_operand, when}
use Rattle.x64_core.specs.Viewed.{viewed}
use Rattle.x64_core.specs.contracts.instruction.CorePartialEq.TheImpl as core
use Rattle.x64_lines.specs.contracts.op.OpPartialEq.TheImpl as op
use Rattle.x64_core.specs.declared.instruction.Core.{Core}
use Rattle.x64_lines.specs.declared.lines.TheConstants.{COUNT}
use Rattle.x64_lines.specs.declared.op.Op.{Op}
use Rattle.x64_core.specs.declared.place.CorePlace.{CorePlace}
use Rattle.x64_lines.specs.declared.shapes.OpImm.{OpImm}
use Rattle.x64_lines.specs.declared.shapes.OpImm.TheVariants as imm
use Rattle.x64_lines.specs.declared.shapes.OpShape.{OpShape}
use Rattle.x64_core.proofs.MadeOf.{view_by, view_in}
use Rattle.x64_core.proofs.Viewed.{viewed_operand}

-- What `==` of instructions answers.

-- that there is such a line is known in one way
same_op : (a b : Op) → a.number ≡ b.number → a ≡ b
same_op a b e = λ i. record {
  number = e i;
  below = is_prop→PathP (λ j. nat_lt (e j) COUNT ≡ true) (λ j. Bool-set _ _) a.below b.below i;
}

tells_op : (a b : Op) → Tells ((op.ghosts).eq a b) (a ≡ b)
tells_op a b =
    let t : Tells ((op.ghosts).eq a b) (a.number ≡ b.number) = tells_number a.number b.number in
    (λ h. same_op a b (t.0 h), λ e. t.1 (ap (λ (z : Op). z.number) e))

abbrev Equal : Core → Core → Type 0
Equal a b = (a.place ≡ b.place) × ((a.imm ≡ b.imm) × ((a.op ≡ b.op) × ((a.reg ≡ b.reg) × (a.vvvv ≡ b.vvvv))))

same_core : (a b : Core) → Equal a b → a ≡ b
same_core a b (p, (word, (o, (r, v)))) = λ i. record {
  place = p i;
  imm = word i;
  op = o i;
  reg = r i;
  vvvv = v i;
  shape = is_prop→PathP (λ j. core_fits (shape_of (o j).number) (r j) (v j) (viewed (p j)) (word j) ≡ true) (λ j. Bool-set _ _) a.shape b.shape i;
}

core_fields : (a b : Core) → a ≡ b → Equal a b
core_fields a b e = (ap (λ (z : Core). z.place) e, (ap (λ (z : Core). z.imm) e, (ap (λ (z : Core). z.op) e, (ap (λ (z : Core). z.reg) e, ap (λ (z : Core). z.vvvv) e))))

pub tells_core : (a b : Core) → Tells ((core.ghosts).eq a b) (a ≡ b)
tells_core a b =
    let t : Tells ((core.ghosts).eq a b) (Equal a b) =
    tells_both _ _ (tells_place a.place b.place)
    (tells_both _ _ (tells_number a.imm b.imm)
    (tells_both _ _ (tells_op a.op b.op)
    (tells_both _ _ (tells_number a.reg b.reg) (tells_number a.vvvv b.vvvv)))) in
    (λ h. same_core a b (t.0 h), λ e. t.1 (core_fields a b e))

-- Instructions of one view are one: what a line lacks is 0.

zero_both : (m n : ℕ) → (m == 0) ≡ true → (n == 0) ≡ true → m ≡ n
zero_both m n h k = grind (arith, nat_tests)

same_some : (m n : ℕ) → ◌≡◌ {A = Option ℕ} (Some m) (Some n) → m ≡ n
same_some m n h = cc

-- a register that stands, or 0
same_register : (stands : Bool) (m n : ℕ) → (stands || (m == 0)) ≡ true → (stands || (n == 0)) ≡ true → when stands m ≡ when stands n → m ≡ n
same_register true m n h k e = same_some m n e
same_register false m n h k e = zero_both m n h k

below_one : (m n : ℕ) → nat_lt m 1 ≡ true → nat_lt n 1 ≡ true → m ≡ n
below_one m n h k = grind (arith, nat_tests)

same_unsigned : (m n : ℕ) → ◌≡◌ {A = Option ℤ} (Some (pos m)) (Some (pos n)) → m ≡ n
same_unsigned m n h = cc

same_value : (a b : ℤ) → ◌≡◌ {A = Option ℤ} (Some a) (Some b) → a ≡ b
same_value a b h = cc

same_8 : (m n : ℕ) → nat_lt m (256 ^ 1) ≡ true → nat_lt n (256 ^ 1) ≡ true → cast_signed w8 m ≡ cast_signed w8 n → m ≡ n
same_8 m n h k e =
    let a = ltb-true m (256 ^ 1) h in
    let b = ltb-true n (256 ^ 1) k in
    grind (arith, nat_tests, ints)

same_32 : (m n : ℕ) → nat_lt m (256 ^ 4) ≡ true → nat_lt n (256 ^ 4) ≡ true → cast_signed w32 m ≡ cast_signed w32 n → m ≡ n
same_32 m n h k e =
    let a = ltb-true m (256 ^ 4) h in
    let b = ltb-true n (256 ^ 4) k in
    grind (arith, nat_tests, ints)

same_word : (kind : OpImm) (m n : ℕ) → nat_lt m (256 ^ imm_bytes (imm_field kind)) ≡ true → nat_lt n (256 ^ imm_bytes (imm_field kind)) ≡ true → option_map imm_value (imm_named (imm_field kind) m) ≡ option_map imm_value (imm_named (imm_field kind) n) → m ≡ n
same_word imm.None m n h k e = below_one m n h k
same_word imm.U8 m n h k e = same_unsigned m n e
same_word imm.U16 m n h k e = same_unsigned m n e
same_word imm.U32 m n h k e = same_unsigned m n e
same_word imm.I8 m n h k e = same_8 m n h k (same_value _ _ e)
same_word imm.I32 m n h k e = same_32 m n h k (same_value _ _ e)

record SameNumbers (r s v w m n : ℕ) (p q : CorePlace) : Type 0 where
  reg : r ≡ s
  vvvv : v ≡ w
  word : m ≡ n
  place : place_operand p ≡ place_operand q

same_numbers : (shape : OpShape) (number r s v w m n : ℕ) (p q : CorePlace) → core_fits shape r v p m ≡ true → core_fits shape s w q n ≡ true → view_in shape.fields shape.imm number r v p m ≡ view_in shape.fields shape.imm number s w q n → SameNumbers r s v w m n p q
same_numbers shape number r s v w m n p q h k e =
    let a = and_parts (place_fits shape.fields p) _ h in
    let b = and_parts (nat_lt m (256 ^ imm_bytes (imm_field shape.imm))) _ a.1 in
    let c = and_parts (has_reg shape.fields || (r == 0)) (has_vvvv shape.fields || (v == 0)) b.1 in
    let d = and_parts (place_fits shape.fields q) _ k in
    let f = and_parts (nat_lt n (256 ^ imm_bytes (imm_field shape.imm))) _ d.1 in
    let g = and_parts (has_reg shape.fields || (s == 0)) (has_vvvv shape.fields || (w == 0)) f.1 in
    record {
      reg = same_register (has_reg shape.fields) r s c.0 g.0 (ap (λ (z : CoreView). z.reg) e);
      vvvv = same_register (has_vvvv shape.fields) v w c.1 g.1 (ap (λ (z : CoreView). z.vvvv) e);
      word = same_word shape.imm m n b.0 f.0 (ap (λ (z : CoreView). z.imm) e);
      place = ap (λ (z : CoreView). z.place) e;
    }

abbrev view_at : ℕ → Core → CoreView
view_at number c = view_in (shape_of number).fields (shape_of number).imm number c.reg c.vvvv (viewed c.place) c.imm

its_view : (c : Core) → core_view c ≡ view_at c.op.number c
its_view c = view_by c.op (shape_of c.op.number).fields (shape_of c.op.number).imm c.reg c.vvvv (viewed c.place) c.imm refl refl

pub same_view : (a b : Core) → core_view a ≡ core_view b → a ≡ b
same_view a b e =
    let number : a.op.number ≡ b.op.number = ap (λ (z : CoreView). z.op) e in
    let fits : core_fits (shape_of a.op.number) b.reg b.vvvv (viewed b.place) b.imm ≡ true =
    subst (λ (n : ℕ). core_fits (shape_of n) b.reg b.vvvv (viewed b.place) b.imm ≡ true) (sym number) b.shape in
    let views : view_at a.op.number a ≡ view_at a.op.number b =
    sym (its_view a) ∙ e ∙ its_view b ∙ ap (λ (n : ℕ). view_at n b) (sym number) in
    let s = same_numbers (shape_of a.op.number) a.op.number a.reg b.reg a.vvvv b.vvvv a.imm b.imm (viewed a.place) (viewed b.place) a.shape fits views in
    let place : a.place ≡ b.place = same_operand a.place b.place (sym (viewed_operand a.place) ∙ s.place ∙ viewed_operand b.place) in
    same_core a b (place, (s.word, (same_op a.op b.op number, (s.reg, s.vvvv))))
