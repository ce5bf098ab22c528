use Rattle.std.proofs.Common.{◌≡◌, ◌∙◌, ◌&&◌, Bool, true, false, ℕ, ℤ, pos, negsuc, nat_eq, int_eq, refl, sym, rules, arith, ap, Option, Some, None}
use Rattle.std.specs.Prelude.{◌==◌, is_none}
use Rattle.std.specs.Option.{option_eq}
use Rattle.std.proofs.lemmas.Bool.{and_parts}
use Rattle.std.proofs.lemmas.Bool.Decides.{nat_tests}
use Rattle.std.proofs.lemmas.Option.{same_Some}
use Rattle.std.proofs.Math.Bool.{Bool-set}
use mathlib.Core.HLevel.{is_prop→PathP}
use Rattle.cax64_address.specs.declared.amode.Amode.TheVariants.{ImmReg, ImmRegRegShift, RipRelative}
use Rattle.cax64_address.specs.declared.amode.Scale.{Scale}
use Rattle.cax64_address.specs.declared.amode.Scale.TheVariants.{One, Two, Four, Eight}
use Rattle.cax64_address.proofs.Equality.{tells_scale, tells_trap}
use Rattle.cax64_encoder.specs.Number.{number_value}
use Rattle.cax64_encoder.specs.declared.role.PlaceOperand as operand
use Rattle.cax64_encoder.specs.declared.role.PlaceOperand.{PlaceOperand}
use Rattle.cax64_machine_code.proofs.Equality.{Tells}
use Rattle.cax64_sink.specs.declared.DeferredTarget.TheVariants as target
use Rattle.cax64_sink.specs.declared.TrapCode.{TrapCode}
use Rattle.x64_place.specs.Operand.{operand_by, place_operand}
use Rattle.x64_place.specs.Place.{is_one, is_plain, is_zero, nothing_more}
use Rattle.x64_place.specs.contracts.place.FlatPlacePartialEq.TheImpl as place
use Rattle.x64_place.specs.contracts.place.PlaceKindPartialEq.TheImpl as kind
use Rattle.x64_place.specs.declared.place.FlatPlace.{FlatPlace}
use Rattle.x64_place.specs.declared.place.PlaceKind.{PlaceKind}
use Rattle.x64_place.specs.declared.place.PlaceKind.TheVariants.{Absent, Register, Base, BaseAndIndex, Label, Constant, NoTarget}

-- What `==` of places answers.

both : (a b : Bool) → (a && b) ≡ true → (a ≡ true) × (b ≡ true)
both true b h = (refl, h)
both false b h = cc

joined : (a b : Bool) → a ≡ true → b ≡ true → (a && b) ≡ true
joined true b h k = k
joined false b h k = cc

pub tells_both : {P Q : Type 0} (a b : Bool) → Tells a P → Tells b Q → Tells (a && b) (P × Q)
tells_both a b p q = (λ h. let parts = both a b h in (p.0 parts.0, q.0 parts.1), λ h. joined a b (p.1 h.0) (q.1 h.1))

tells_option : {A : Type 0} (eq : A → A → Bool) → ((a b : A) → Tells (eq a b) (a ≡ b)) → (a b : Option A) → Tells (option_eq eq a b) (a ≡ b)
tells_option eq tells None None = (λ h. refl, λ h. refl)
tells_option eq tells None (Some b) = (λ h. cc, λ h. cc)
tells_option eq tells (Some a) None = (λ h. cc, λ h. cc)
tells_option {A} eq tells (Some a) (Some b) = (λ h. ap (λ (x : A). Some x) ((tells a b).0 h), λ h. (tells a b).1 (same_Some a b h))

pub tells_number : (a b : ℕ) → Tells (nat_eq a b) (a ≡ b)
tells_number a b = search rules

tells_signed : (a b : ℤ) → Tells (int_eq a b) (a ≡ b)
tells_signed a b = search rules

tells_kind : (a b : PlaceKind) → Tells ((kind.ghosts).eq a b) (a ≡ b)
tells_kind a b = search rules

abbrev Equal : FlatPlace → FlatPlace → Type 0
Equal a b = (a.kind ≡ b.kind) × ((a.base ≡ b.base) × ((a.index ≡ b.index) × ((a.scale ≡ b.scale) × ((a.trap ≡ b.trap) × ((a.offset ≡ b.offset) × ((a.displacement ≡ b.displacement) × (a.target ≡ b.target)))))))

-- that what it has no use for is 0 is known in one way
same_place : (a b : FlatPlace) → Equal a b → a ≡ b
same_place a b (k, (base, (index, (scale, (trap, (offset, (displacement, target))))))) = λ i. record {
  kind = k i;
  base = base i;
  index = index i;
  scale = scale i;
  trap = trap i;
  offset = offset i;
  displacement = displacement i;
  target = target i;
  plain = is_prop→PathP (λ j. is_plain (k j) (base j) (index j) (scale j) (trap j) (offset j) (displacement j) (target j) ≡ true) (λ j. Bool-set _ _) a.plain b.plain i;
}

place_fields : (a b : FlatPlace) → a ≡ b → Equal a b
place_fields a b e = (ap (λ (z : FlatPlace). z.kind) e, (ap (λ (z : FlatPlace). z.base) e, (ap (λ (z : FlatPlace). z.index) e, (ap (λ (z : FlatPlace). z.scale) e, (ap (λ (z : FlatPlace). z.trap) e, (ap (λ (z : FlatPlace). z.offset) e, (ap (λ (z : FlatPlace). z.displacement) e, ap (λ (z : FlatPlace). z.target) e)))))))

pub tells_place : (a b : FlatPlace) → Tells ((place.ghosts).eq a b) (a ≡ b)
tells_place a b =
    let t : Tells ((place.ghosts).eq a b) (Equal a b) =
    tells_both _ _ (tells_kind a.kind b.kind)
    (tells_both _ _ (tells_number a.base b.base)
    (tells_both _ _ (tells_number a.index b.index)
    (tells_both _ _ (tells_scale a.scale b.scale)
    (tells_both _ _ (tells_trap a.trap b.trap)
    (tells_both _ _ (tells_option _ tells_number a.offset b.offset)
    (tells_both _ _ (tells_signed a.displacement b.displacement) (tells_number a.target b.target))))))) in
    (λ h. same_place a b (t.0 h), λ e. t.1 (place_fields a b e))

-- Places of one operand are one: what an operand lacks has one value.

abbrev Fields : Type 0
Fields = PlaceKind × (ℕ × (ℕ × (Scale × (Option TrapCode × (Option ℕ × (ℤ × ℕ))))))

abbrev fields : PlaceKind → FlatPlace → Fields
fields kind p = (kind, (p.base, (p.index, (p.scale, (p.trap, (p.offset, (p.displacement, p.target)))))))

abbrev fields_of : PlaceOperand ℕ → Fields
fields_of operand.TheVariants.NoPlace = (Absent, (0, (0, (One, (None, (None, (pos 0, 0)))))))
fields_of (operand.TheVariants.Register number) = (Register, (number_value number, (0, (One, (None, (None, (pos 0, 0)))))))
fields_of (operand.TheVariants.Memory (ImmReg base simm32 trap)) = (Base, (base, (4, (One, (trap, (simm32.offset, (simm32.simm32, 0)))))))
fields_of (operand.TheVariants.Memory (ImmRegRegShift base index scale simm32 trap)) = (BaseAndIndex, (base, (index, (scale, (trap, (None, (simm32, 0)))))))
fields_of (operand.TheVariants.Memory (RipRelative (target.Label label))) = (Label, (0, (0, (One, (None, (None, (pos 0, label.0)))))))
fields_of (operand.TheVariants.Memory (RipRelative (target.Constant constant))) = (Constant, (0, (0, (One, (None, (None, (pos 0, constant.0)))))))
fields_of (operand.TheVariants.Memory (RipRelative target.None)) = (NoTarget, (0, (0, (One, (None, (None, (pos 0, 0)))))))

number_is : (a b : ℕ) → (a == b) ≡ true → a ≡ b
number_is a b h = grind (arith, nat_tests)

zero_is : (d : ℤ) → is_zero d ≡ true → d ≡ pos 0
zero_is (pos n) h = ap (λ (m : ℕ). pos m) (number_is n 0 h)
zero_is (negsuc n) h = cc

one_is : (scale : Scale) → is_one scale ≡ true → scale ≡ One
one_is One h = refl
one_is Two h = cc
one_is Four h = cc
one_is Eight h = cc

none_is : {A : Type 0} (o : Option A) → is_none o ≡ true → o ≡ None
none_is None h = refl
none_is (Some a) h = cc

record Nothing (p : FlatPlace) : Type 0 where
  scale : p.scale ≡ One
  trap : p.trap ≡ None
  offset : p.offset ≡ None
  displacement : p.displacement ≡ pos 0

nothing : (p : FlatPlace) → nothing_more p.scale p.trap p.offset p.displacement ≡ true → Nothing p
nothing p h =
    let a = and_parts (is_one p.scale) _ h in
    let b = and_parts (is_none p.trap) _ a.1 in
    let d = and_parts (is_none p.offset) _ b.1 in
    record { scale = one_is p.scale a.0; trap = none_is p.trap b.0; offset = none_is p.offset d.0; displacement = zero_is p.displacement d.1 }

fields_by : (kind : PlaceKind) (p : FlatPlace) → is_plain kind p.base p.index p.scale p.trap p.offset p.displacement p.target ≡ true → fields kind p ≡ fields_of (operand_by kind p)
fields_by Absent p h =
    let a = and_parts (p.base == 0) _ h in
    let b = and_parts (p.index == 0) _ a.1 in
    let d = and_parts (p.target == 0) _ b.1 in
    let n = nothing p d.1 in
    rw (number_is p.base 0 a.0, number_is p.index 0 b.0, number_is p.target 0 d.0, n.scale, n.trap, n.offset, n.displacement) refl
fields_by Register p h =
    let b = and_parts (p.index == 0) _ h in
    let d = and_parts (p.target == 0) _ b.1 in
    let n = nothing p d.1 in
    rw (number_is p.index 0 b.0, number_is p.target 0 d.0, n.scale, n.trap, n.offset, n.displacement) refl
fields_by Base p h =
    let b = and_parts (p.index == 4) _ h in
    let d = and_parts (p.target == 0) _ b.1 in
    rw (number_is p.index 4 b.0, number_is p.target 0 d.0, one_is p.scale d.1) refl
fields_by BaseAndIndex p h =
    let d = and_parts (p.target == 0) _ h in
    rw (number_is p.target 0 d.0, none_is p.offset d.1) refl
fields_by Label p h =
    let a = and_parts (p.base == 0) _ h in
    let b = and_parts (p.index == 0) _ a.1 in
    let n = nothing p b.1 in
    rw (number_is p.base 0 a.0, number_is p.index 0 b.0, n.scale, n.trap, n.offset, n.displacement) refl
fields_by Constant p h =
    let a = and_parts (p.base == 0) _ h in
    let b = and_parts (p.index == 0) _ a.1 in
    let n = nothing p b.1 in
    rw (number_is p.base 0 a.0, number_is p.index 0 b.0, n.scale, n.trap, n.offset, n.displacement) refl
fields_by NoTarget p h =
    let a = and_parts (p.base == 0) _ h in
    let b = and_parts (p.index == 0) _ a.1 in
    let d = and_parts (p.target == 0) _ b.1 in
    let n = nothing p d.1 in
    rw (number_is p.base 0 a.0, number_is p.index 0 b.0, number_is p.target 0 d.0, n.scale, n.trap, n.offset, n.displacement) refl

equal_fields : (a b : FlatPlace) → fields a.kind a ≡ fields b.kind b → Equal a b
equal_fields a b e =
    (ap (λ (z : Fields). z.0) e, (ap (λ (z : Fields). z.1.0) e, (ap (λ (z : Fields). z.1.1.0) e, (ap (λ (z : Fields). z.1.1.1.0) e, (ap (λ (z : Fields). z.1.1.1.1.0) e, (ap (λ (z : Fields). z.1.1.1.1.1.0) e, (ap (λ (z : Fields). z.1.1.1.1.1.1.0) e, ap (λ (z : Fields). z.1.1.1.1.1.1.1) e)))))))

pub same_operand : (a b : FlatPlace) → place_operand a ≡ place_operand b → a ≡ b
same_operand a b e = same_place a b (equal_fields a b (fields_by a.kind a a.plain ∙ ap fields_of e ∙ sym (fields_by b.kind b b.plain)))
