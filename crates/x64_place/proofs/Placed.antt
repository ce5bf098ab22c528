use Rattle.std.proofs.Common.{◌≡◌, ℕ, refl, arith, true, Option, Some, None, ℤ, pos, negsuc}
use Rattle.std.specs.Prelude.{◌==◌, is_none}
use Rattle.std.proofs.lemmas.Bool.{and_parts}
use Rattle.std.proofs.lemmas.Bool.Decides.{nat_tests}
use Rattle.cax64_address.specs.declared.amode.Scale.{Scale}
use Rattle.cax64_address.specs.declared.amode.Scale.TheVariants.{One, Two, Four, Eight}
use Rattle.cax64_encoder.specs.Numbered.{plain, numbered_place}
use Rattle.cax64_sink.specs.declared.TrapCode.{TrapCode}
use Rattle.x64_place.specs.Operand.{operand_by, place_operand}
use Rattle.x64_place.specs.Place.{is_zero}
use Rattle.x64_place.specs.Place.{is_one, nothing_more, is_plain}
use Rattle.x64_place.specs.Operand.{placed_by, placed}
use Rattle.x64_place.specs.declared.place.FlatPlace.{FlatPlace}
use Rattle.x64_place.specs.declared.place.PlaceKind.{PlaceKind}
use Rattle.x64_place.specs.declared.place.PlaceKind.TheVariants.{Absent, Register, Base, BaseAndIndex, Label, Constant, NoTarget}

-- The numbers of a place are those of what it stands for.

pub is_value : (n k : ℕ) → (n == k) ≡ true → n ≡ k
is_value n k h = grind (arith, nat_tests)

scale_is : (s : Scale) → is_one s ≡ true → s ≡ One
scale_is One h = refl
scale_is Two h = cc
scale_is Four h = cc
scale_is Eight h = cc

pub none_is : {T : Type 0} (o : Option T) → is_none o ≡ true → o ≡ None
none_is None h = refl
none_is (Some v) h = cc

zero_is : (z : ℤ) → is_zero z ≡ true → z ≡ pos 0
zero_is (pos n) h = let e : n ≡ 0 = is_value n 0 h in rw e refl
zero_is (negsuc n) h = cc

pub record Nothing (s : Scale) (t : Option TrapCode) (o : Option ℕ) (d : ℤ) : Type 0 where
  pub scale : s ≡ One
  pub trap : t ≡ None
  pub offset : o ≡ None
  pub displacement : d ≡ pos 0

pub nothing_is : (s : Scale) (t : Option TrapCode) (o : Option ℕ) (d : ℤ) → nothing_more s t o d ≡ true → Nothing s t o d
nothing_is s t o d h =
    let a = and_parts (is_one s) _ h in
    let b = and_parts (is_none t) _ a.1 in
    let c = and_parts (is_none o) _ b.1 in
    record { scale = scale_is s a.0; trap = none_is t b.0; offset = none_is o c.0; displacement = zero_is d c.1 }

numbers_when : (kind : PlaceKind) (p : FlatPlace) → is_plain kind p.base p.index p.scale p.trap p.offset p.displacement p.target ≡ true → placed_by kind p ≡ numbered_place plain (operand_by kind p)
numbers_when Absent p h =
    let a = and_parts (p.base == 0) _ h in
    let b = and_parts (p.index == 0) _ a.1 in
    let c = and_parts (p.target == 0) _ b.1 in
    let n = nothing_is p.scale p.trap p.offset p.displacement c.1 in
    rw (is_value p.base 0 a.0, is_value p.index 0 b.0, n.scale, n.trap, n.offset, n.displacement) refl
numbers_when Register p h =
    let b = and_parts (p.index == 0) _ h in
    let c = and_parts (p.target == 0) _ b.1 in
    let n = nothing_is p.scale p.trap p.offset p.displacement c.1 in
    rw (is_value p.index 0 b.0, n.scale, n.trap, n.offset, n.displacement) refl
numbers_when Base p h =
    let b = and_parts (p.index == 4) _ h in
    let c = and_parts (p.target == 0) _ b.1 in
    rw (is_value p.index 4 b.0, scale_is p.scale c.1) refl
numbers_when BaseAndIndex p h =
    let c = and_parts (p.target == 0) _ h in
    rw (none_is p.offset c.1) refl
numbers_when Label p h =
    let a = and_parts (p.base == 0) _ h in
    let b = and_parts (p.index == 0) _ a.1 in
    let n = nothing_is p.scale p.trap p.offset p.displacement b.1 in
    rw (is_value p.base 0 a.0, is_value p.index 0 b.0, n.scale, n.trap, n.offset, n.displacement) refl
numbers_when Constant p h =
    let a = and_parts (p.base == 0) _ h in
    let b = and_parts (p.index == 0) _ a.1 in
    let n = nothing_is p.scale p.trap p.offset p.displacement b.1 in
    rw (is_value p.base 0 a.0, is_value p.index 0 b.0, n.scale, n.trap, n.offset, n.displacement) refl
numbers_when NoTarget p h =
    let a = and_parts (p.base == 0) _ h in
    let b = and_parts (p.index == 0) _ a.1 in
    let c = and_parts (p.target == 0) _ b.1 in
    let n = nothing_is p.scale p.trap p.offset p.displacement c.1 in
    rw (is_value p.base 0 a.0, is_value p.index 0 b.0, n.scale, n.trap, n.offset, n.displacement) refl

pub numbers_are : (p : FlatPlace) → placed p ≡ numbered_place plain (place_operand p)
numbers_are p = numbers_when p.kind p p.plain
