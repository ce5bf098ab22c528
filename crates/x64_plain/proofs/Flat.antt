use Rattle.std.proofs.Common.{◌≡◌, ◌∙◌, ℕ, zero, suc, refl, sym, ap, arith, Bool, true, false, Option, Some, None, ℤ, pos, negsuc}
use Rattle.std.proofs.lemmas.Bool.{and_parts}
use Rattle.std.proofs.lemmas.Bool.Decides.{nat_tests}
use Rattle.std.specs.Prelude.{◌==◌, ◌||◌, ◌&&◌, ◌+◌, ◌≤◌, nat_lt, is_none, is_some, slice_index_or}
use Rattle.std.specs.Int.{from_bool}
use Rattle.cax64_address.specs.Address.{scale_number}
use Rattle.cax64_address.specs.declared.amode.Scale.{Scale}
use Rattle.cax64_address.specs.declared.amode.Scale.TheVariants.{One, Two, Four, Eight}
use Rattle.x64_place.specs.Kind.{has_base, has_index}
use Rattle.x64_place.specs.Place.{is_one, is_plain, is_zero, nothing_more}
use Rattle.x64_place.specs.Tail.{kind_number}
use Rattle.x64_place.specs.declared.place.FlatPlace.{FlatPlace}
use Rattle.x64_place.specs.declared.place.PlaceKind.{PlaceKind}
use Rattle.x64_place.specs.declared.place.PlaceKind.TheVariants.{Absent, Register, Base, BaseAndIndex, Label, Constant, NoTarget}
use Rattle.cax64_sink.specs.declared.TrapCode.{TrapCode}
use Rattle.x64_plain.specs.Named.{has_displacement, has_offset, has_target, index_beside, is_whole, offset_named}
use Rattle.x64_plain.specs.Plain.{or_0, plain_place, trap_number}
use Rattle.x64_plain.specs.declared.place.HqPlace.{HqPlace}
use Rattle.x64_plain.specs.declared.place.TheConstants.{NO_INDEX, SCALES}
use Rattle.x64_plain.proofs.Places.{zero_value}
use Rattle.x64_core.specs.View.{place_operand}
use Rattle.x64_core.specs.Viewed.{viewed, viewed_by}

-- The numbers of a place that are made of integers.

pub zero_is : (n : ℕ) → (n == 0) ≡ true → 0 ≡ n
zero_is n h = grind (arith, nat_tests, h)

zero_disp : (d : ℤ) → is_zero d ≡ true → pos 0 ≡ d
zero_disp (pos n) h = ap (λ (m : ℕ). pos m) (zero_is n h)
zero_disp (negsuc n) h = cc

both : (a b : Bool) → a ≡ true → b ≡ true → (a && b) ≡ true
both true b h k = k
both false b h k = cc

one_scale : (scale : Scale) (n : ℕ) → scale_number scale ≡ n → (n == 0) ≡ true → is_one scale ≡ true
one_scale One n e h = refl
one_scale Two n e h = absurd (grind (arith, nat_tests, e, h))
one_scale Four n e h = absurd (grind (arith, nat_tests, e, h))
one_scale Eight n e h = absurd (grind (arith, nat_tests, e, h))

no_trap : (trap : Option TrapCode) (n : ℕ) → trap_number trap ≡ n → (n == 0) ≡ true → is_none trap ≡ true
no_trap None n e h = refl
no_trap (Some code) n e h = absurd (zero_value code (e ∙ sym (zero_is n h)))

no_offset : (offset : Option ℕ) (has key : ℕ) → offset ≡ offset_named has key → (has == 0) ≡ true → is_none offset ≡ true
no_offset offset has key e h = ap (λ (o : Option ℕ). is_none o) (e ∙ ap (λ (n : ℕ). offset_named n key) (sym (zero_is has h)))

no_key : (has key : ℕ) → (has == 0) ≡ true → ((has == 1) || (key == 0)) ≡ true → 0 ≡ key
no_key has key h k = zero_is key (ap (λ (n : ℕ). (n == 1) || (key == 0)) (zero_is has h) ∙ k)

has_back : (has key : ℕ) → nat_lt has 2 ≡ true → from_bool (is_some (offset_named has key)) ≡ has
has_back zero key h = refl
has_back (suc zero) key h = refl
has_back (suc (suc n)) key h = absurd (grind (arith, nat_tests, h))

key_back : (has key : ℕ) → nat_lt has 2 ≡ true → ((has == 1) || (key == 0)) ≡ true → or_0 (offset_named has key) ≡ key
key_back zero key h k = zero_is key k
key_back (suc zero) key h k = refl
key_back (suc (suc n)) key h k = absurd (grind (arith, nat_tests, h))

record Whole (kind : PlaceKind) (s : HqPlace) : Type 0 where
  base : (has_base kind || (s.base == 0)) ≡ true
  index : (has_index kind || (s.index == 0)) ≡ true
  scale : (has_index kind || (s.scale == 0)) ≡ true
  bits : nat_lt s.scale 4 ≡ true
  trap : (has_displacement kind || (s.trap == 0)) ≡ true
  offset : (has_offset kind || (s.has_offset == 0)) ≡ true
  flag : nat_lt s.has_offset 2 ≡ true
  key : ((s.has_offset == 1) || (s.offset == 0)) ≡ true
  disp : (has_displacement kind || is_zero s.disp) ≡ true
  target : (has_target kind || (s.target == 0)) ≡ true
  reserved : (s.reserved == 0) ≡ true

whole : (kind : PlaceKind) (s : HqPlace) → is_whole kind s ≡ true → Whole kind s
whole kind s h =
    let p10 = and_parts ((((((((((has_base kind || (s.base == 0)) && (has_index kind || (s.index == 0))) && (has_index kind || (s.scale == 0))) && nat_lt s.scale 4) && (has_displacement kind || (s.trap == 0))) && (has_offset kind || (s.has_offset == 0))) && nat_lt s.has_offset 2) && ((s.has_offset == 1) || (s.offset == 0))) && (has_displacement kind || is_zero s.disp)) && (has_target kind || (s.target == 0))) (s.reserved == 0) h in
    let p9 = and_parts (((((((((has_base kind || (s.base == 0)) && (has_index kind || (s.index == 0))) && (has_index kind || (s.scale == 0))) && nat_lt s.scale 4) && (has_displacement kind || (s.trap == 0))) && (has_offset kind || (s.has_offset == 0))) && nat_lt s.has_offset 2) && ((s.has_offset == 1) || (s.offset == 0))) && (has_displacement kind || is_zero s.disp)) (has_target kind || (s.target == 0)) p10.0 in
    let p8 = and_parts ((((((((has_base kind || (s.base == 0)) && (has_index kind || (s.index == 0))) && (has_index kind || (s.scale == 0))) && nat_lt s.scale 4) && (has_displacement kind || (s.trap == 0))) && (has_offset kind || (s.has_offset == 0))) && nat_lt s.has_offset 2) && ((s.has_offset == 1) || (s.offset == 0))) (has_displacement kind || is_zero s.disp) p9.0 in
    let p7 = and_parts (((((((has_base kind || (s.base == 0)) && (has_index kind || (s.index == 0))) && (has_index kind || (s.scale == 0))) && nat_lt s.scale 4) && (has_displacement kind || (s.trap == 0))) && (has_offset kind || (s.has_offset == 0))) && nat_lt s.has_offset 2) ((s.has_offset == 1) || (s.offset == 0)) p8.0 in
    let p6 = and_parts ((((((has_base kind || (s.base == 0)) && (has_index kind || (s.index == 0))) && (has_index kind || (s.scale == 0))) && nat_lt s.scale 4) && (has_displacement kind || (s.trap == 0))) && (has_offset kind || (s.has_offset == 0))) (nat_lt s.has_offset 2) p7.0 in
    let p5 = and_parts (((((has_base kind || (s.base == 0)) && (has_index kind || (s.index == 0))) && (has_index kind || (s.scale == 0))) && nat_lt s.scale 4) && (has_displacement kind || (s.trap == 0))) (has_offset kind || (s.has_offset == 0)) p6.0 in
    let p4 = and_parts ((((has_base kind || (s.base == 0)) && (has_index kind || (s.index == 0))) && (has_index kind || (s.scale == 0))) && nat_lt s.scale 4) (has_displacement kind || (s.trap == 0)) p5.0 in
    let p3 = and_parts (((has_base kind || (s.base == 0)) && (has_index kind || (s.index == 0))) && (has_index kind || (s.scale == 0))) (nat_lt s.scale 4) p4.0 in
    let p2 = and_parts ((has_base kind || (s.base == 0)) && (has_index kind || (s.index == 0))) (has_index kind || (s.scale == 0)) p3.0 in
    let p1 = and_parts (has_base kind || (s.base == 0)) (has_index kind || (s.index == 0)) p2.0 in
    record { base = p1.0; index = p1.1; scale = p2.1; bits = p3.1; trap = p4.1; offset = p5.1; flag = p6.1; key = p7.1; disp = p8.1; target = p9.1; reserved = p10.1 }

nothing : (s : HqPlace) (scale : Scale) (trap : Option TrapCode) (offset : Option ℕ) (d : ℤ) → scale_number scale ≡ s.scale → trap_number trap ≡ s.trap → offset ≡ offset_named s.has_offset s.offset → d ≡ s.disp → (s.scale == 0) ≡ true → (s.trap == 0) ≡ true → (s.has_offset == 0) ≡ true → is_zero s.disp ≡ true → nothing_more scale trap offset d ≡ true
nothing s scale trap offset d es et eo ed zs zt zo zd = both _ _ (one_scale scale s.scale es zs) (both _ _ (no_trap trap s.trap et zt) (both _ _ (no_offset offset s.has_offset s.offset eo zo) (ap (λ (z : ℤ). is_zero z) ed ∙ zd)))

plain_by : (kind : PlaceKind) (s : HqPlace) (scale : Scale) (trap : Option TrapCode) (offset : Option ℕ) (d : ℤ) → Whole kind s → scale_number scale ≡ s.scale → trap_number trap ≡ s.trap → offset ≡ offset_named s.has_offset s.offset → d ≡ s.disp → is_plain kind s.base (index_beside kind s.index) scale trap offset d s.target ≡ true
plain_by Absent s scale trap offset d w es et eo ed = both _ _ w.base (both _ _ w.index (both _ _ w.target (nothing s scale trap offset d es et eo ed w.scale w.trap w.offset w.disp)))
plain_by Register s scale trap offset d w es et eo ed = both _ _ w.index (both _ _ w.target (nothing s scale trap offset d es et eo ed w.scale w.trap w.offset w.disp))
plain_by Base s scale trap offset d w es et eo ed = both _ _ w.target (one_scale scale s.scale es w.scale)
plain_by BaseAndIndex s scale trap offset d w es et eo ed = both _ _ w.target (no_offset offset s.has_offset s.offset eo w.offset)
plain_by Label s scale trap offset d w es et eo ed = both _ _ w.base (both _ _ w.index (nothing s scale trap offset d es et eo ed w.scale w.trap w.offset w.disp))
plain_by Constant s scale trap offset d w es et eo ed = both _ _ w.base (both _ _ w.index (nothing s scale trap offset d es et eo ed w.scale w.trap w.offset w.disp))
plain_by NoTarget s scale trap offset d w es et eo ed = both _ _ w.base (both _ _ w.index (both _ _ w.target (nothing s scale trap offset d es et eo ed w.scale w.trap w.offset w.disp)))

-- what a place of a kind lacks is 0, absent or the scale 1
pub plain_of : (kind : PlaceKind) (s : HqPlace) (scale : Scale) (trap : Option TrapCode) (offset : Option ℕ) (d : ℤ) → is_whole kind s ≡ true → scale_number scale ≡ s.scale → trap_number trap ≡ s.trap → offset ≡ offset_named s.has_offset s.offset → d ≡ s.disp → is_plain kind s.base (index_beside kind s.index) scale trap offset d s.target ≡ true
plain_of kind s scale trap offset d h es et eo ed = plain_by kind s scale trap offset d (whole kind s h) es et eo ed

abbrev built : ℕ → ℕ → ℕ → ℕ → ℕ → ℕ → ℕ → ℤ → ℕ → HqPlace
built place base index scale trap has key d number = record { place = place; base = base; index = index; scale = scale; trap = trap; has_offset = has; offset = key; reserved = 0; disp = d; target = number }

built_is : (s : HqPlace) (place base index scale trap has key : ℕ) (d : ℤ) (number : ℕ) → place ≡ s.place → base ≡ s.base → index ≡ s.index → scale ≡ s.scale → trap ≡ s.trap → has ≡ s.has_offset → key ≡ s.offset → 0 ≡ s.reserved → d ≡ s.disp → number ≡ s.target → built place base index scale trap has key d number ≡ s
built_is s place base index scale trap has key d number e1 e2 e3 e4 e5 e6 e7 e8 e9 e10 = rw (e1, e2, e3, e4, e5, e6, e7, e8, e9, e10) refl

-- numbers are those of a struct
pub record Of (kind : PlaceKind) (s : HqPlace) (p : FlatPlace) : Type 0 where
  pub place : p.kind ≡ kind
  pub base : p.base ≡ s.base
  pub index : p.index ≡ index_beside kind s.index
  pub scale : scale_number p.scale ≡ s.scale
  pub trap : trap_number p.trap ≡ s.trap
  pub offset : p.offset ≡ offset_named s.has_offset s.offset
  pub disp : p.displacement ≡ s.disp
  pub target : p.target ≡ s.target

back_by : (kind : PlaceKind) (s : HqPlace) (p : FlatPlace) → Of kind s p → Whole kind s → kind_number kind ≡ s.place → plain_place (place_operand (viewed_by kind p)) ≡ s
back_by Absent s p o w e = built_is s 0 0 0 0 0 0 0 (pos 0) 0 e (zero_is _ w.base) (zero_is _ w.index) (zero_is _ w.scale) (zero_is _ w.trap) (zero_is _ w.offset) (no_key _ _ w.offset w.key) (zero_is _ w.reserved) (zero_disp _ w.disp) (zero_is _ w.target)
back_by Register s p o w e = built_is s 1 p.base 0 0 0 0 0 (pos 0) 0 e o.base (zero_is _ w.index) (zero_is _ w.scale) (zero_is _ w.trap) (zero_is _ w.offset) (no_key _ _ w.offset w.key) (zero_is _ w.reserved) (zero_disp _ w.disp) (zero_is _ w.target)
back_by Base s p o w e = built_is s 2 p.base 0 0 (trap_number p.trap) (from_bool (is_some p.offset)) (or_0 p.offset) p.displacement 0 e o.base (zero_is _ w.index) (zero_is _ w.scale) o.trap (ap (λ (x : Option ℕ). from_bool (is_some x)) o.offset ∙ has_back _ _ w.flag) (ap (λ (x : Option ℕ). or_0 x) o.offset ∙ key_back _ _ w.flag w.key) (zero_is _ w.reserved) o.disp (zero_is _ w.target)
back_by BaseAndIndex s p o w e = built_is s 3 p.base p.index (scale_number p.scale) (trap_number p.trap) 0 0 p.displacement 0 e o.base o.index o.scale o.trap (zero_is _ w.offset) (no_key _ _ w.offset w.key) (zero_is _ w.reserved) o.disp (zero_is _ w.target)
back_by Label s p o w e = built_is s 4 0 0 0 0 0 0 (pos 0) p.target e (zero_is _ w.base) (zero_is _ w.index) (zero_is _ w.scale) (zero_is _ w.trap) (zero_is _ w.offset) (no_key _ _ w.offset w.key) (zero_is _ w.reserved) (zero_disp _ w.disp) o.target
back_by Constant s p o w e = built_is s 5 0 0 0 0 0 0 (pos 0) p.target e (zero_is _ w.base) (zero_is _ w.index) (zero_is _ w.scale) (zero_is _ w.trap) (zero_is _ w.offset) (no_key _ _ w.offset w.key) (zero_is _ w.reserved) (zero_disp _ w.disp) o.target
back_by NoTarget s p o w e = built_is s 6 0 0 0 0 0 0 (pos 0) 0 e (zero_is _ w.base) (zero_is _ w.index) (zero_is _ w.scale) (zero_is _ w.trap) (zero_is _ w.offset) (no_key _ _ w.offset w.key) (zero_is _ w.reserved) (zero_disp _ w.disp) (zero_is _ w.target)

pub back : (kind : PlaceKind) (s : HqPlace) (p : FlatPlace) → Of kind s p → is_whole kind s ≡ true → kind_number kind ≡ s.place → plain_place (place_operand (viewed p)) ≡ s
back kind s p o h e = ap (λ (k : PlaceKind). plain_place (place_operand (viewed_by k p))) o.place ∙ back_by kind s p o (whole kind s h) e

-- The scale of two bits.

scale_at : (n : ℕ) (d : Scale) → nat_lt n 4 ≡ true → scale_number (slice_index_or SCALES n d) ≡ n
scale_at zero d h = refl
scale_at (suc zero) d h = refl
scale_at (suc (suc zero)) d h = refl
scale_at (suc (suc (suc zero))) d h = refl
scale_at (suc (suc (suc (suc n)))) d h = absurd (grind (arith, nat_tests, h))

pub scale_found : (kind : PlaceKind) (s : HqPlace) (n : ℕ) (d : Scale) → is_whole kind s ≡ true → n ≡ s.scale → scale_number (slice_index_or SCALES n d) ≡ s.scale
scale_found kind s n d h is = rw is (scale_at s.scale d (whole kind s h).bits)

-- The index beside what its kind adds to it.

no_more : (n : ℕ) → n + 0 ≡ n
no_more n = omega arith

beside_by : (kind : PlaceKind) (s : HqPlace) (d : ℕ) → is_whole kind s ≡ true → s.index + slice_index_or NO_INDEX (kind_number kind) d ≡ index_beside kind s.index
beside_by Absent s d h = no_more s.index
beside_by Register s d h = no_more s.index
beside_by Base s d h = ap (λ (n : ℕ). n + 4) (sym (zero_is s.index (whole Base s h).index))
beside_by BaseAndIndex s d h = no_more s.index
beside_by Label s d h = no_more s.index
beside_by Constant s d h = no_more s.index
beside_by NoTarget s d h = no_more s.index

pub beside : (kind : PlaceKind) (s : HqPlace) (n d : ℕ) → is_whole kind s ≡ true → kind_number kind ≡ s.place → n ≡ s.place → s.index + slice_index_or NO_INDEX n d ≡ index_beside kind s.index
beside kind s n d h own is = rw (is, ← own) (beside_by kind s d h)

pub beside_fits : (kind : PlaceKind) (n : ℕ) → n ≤ 255 → index_beside kind n ≤ 255
beside_fits Absent n h = h
beside_fits Register n h = h
beside_fits Base n h = omega arith
beside_fits BaseAndIndex n h = h
beside_fits Label n h = h
beside_fits Constant n h = h
beside_fits NoTarget n h = h
