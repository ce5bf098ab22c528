use Rattle.std.proofs.Common.{◌≡◌, ◌∙◌, ◌<◌, ℕ, refl, sym, ap, subst, arith, Option, Some, None, ℤ}
use Rattle.std.proofs.lemmas.Bool.Decides.{nat_tests}
use Rattle.std.specs.Prelude.{◌==◌, if◌then◌else◌, is_some}
use Rattle.std.specs.Int.{from_bool}
use Rattle.cax64_address.specs.Address.{scale_number}
use Rattle.cax64_address.specs.declared.amode.Scale.{Scale}
use Rattle.cax64_address.specs.declared.amode.Scale.TheVariants.{One, Two, Four, Eight}
use Rattle.cax64_sink.specs.declared.DeferredTarget.TheVariants as target
use Rattle.cax64_sink.specs.declared.TrapCode.{TrapCode}
use Rattle.cax64_sink.proofs.Equality.{same_trap_code}
use Rattle.x64_plain.specs.Named.{offset_named}
use Rattle.x64_plain.specs.Plain.{or_0, plain_place, trap_number}
use Rattle.x64_plain.specs.declared.place.HqPlace.{HqPlace}
use Rattle.x64_core.specs.View.{place_operand}
use Rattle.x64_core.specs.declared.place.CorePlace.{CorePlace}
use Rattle.x64_core.specs.declared.place.CorePlace.TheVariants.{Absent, Register, Base, BaseAndIndex, Relative}

-- Places are told by their integers.

pub zero_value : (code : TrapCode) → code.0.value ≡ 0 → ⊥
zero_value code h = let k : 0 < code.0.value = code.0.ok in omega (arith, h, k)

same_value : (code other : TrapCode) → code.0.value ≡ other.0.value → code ≡ other
same_value code other h = same_trap_code code other (grind (arith, nat_tests, h))

same_trap : (a b : Option TrapCode) → trap_number a ≡ trap_number b → a ≡ b
same_trap None None h = refl
same_trap None (Some code) h = absurd (zero_value code (sym h))
same_trap (Some code) None h = absurd (zero_value code h)
same_trap (Some code) (Some other) h = ap (λ (c : TrapCode). Some c) (same_value code other h)

abbrev scale_of : ℕ → Scale
scale_of n = if n == 0 then One else (if n == 1 then Two else (if n == 2 then Four else Eight))

scale_back : (s : Scale) → scale_of (scale_number s) ≡ s
scale_back One = refl
scale_back Two = refl
scale_back Four = refl
scale_back Eight = refl

same_scale : (a b : Scale) → scale_number a ≡ scale_number b → a ≡ b
same_scale a b h = sym (scale_back a) ∙ ap scale_of h ∙ scale_back b

offset_back : (o : Option ℕ) → offset_named (from_bool (is_some o)) (or_0 o) ≡ o
offset_back None = refl
offset_back (Some key) = refl

base_at : (p : CorePlace) (trap : Option TrapCode) (offset : Option ℕ) (d : ℤ) → (plain_place (place_operand p)).place ≡ 2 → trap_number trap ≡ (plain_place (place_operand p)).trap → offset ≡ offset_named (plain_place (place_operand p)).has_offset (plain_place (place_operand p)).offset → d ≡ (plain_place (place_operand p)).disp → Base (plain_place (place_operand p)).base trap offset d ≡ p
base_at Absent trap offset d k t o e = cc
base_at (Register number) trap offset d k t o e = cc
base_at (Base base code key disp) trap offset d k t o e = rw (same_trap trap code t, o, offset_back key, e) refl
base_at (BaseAndIndex base index scale code disp) trap offset d k t o e = cc
base_at (Relative (target.Label label)) trap offset d k t o e = cc
base_at (Relative (target.Constant constant)) trap offset d k t o e = cc
base_at (Relative target.None) trap offset d k t o e = cc

base_is : (s : HqPlace) (trap : Option TrapCode) (offset : Option ℕ) (d : ℤ) → s.place ≡ 2 → trap_number trap ≡ s.trap → offset ≡ offset_named s.has_offset s.offset → d ≡ s.disp → (p : CorePlace) → plain_place (place_operand p) ≡ s → Base s.base trap offset d ≡ p
base_is s trap offset d k t o e p h = subst (λ (s : HqPlace). s.place ≡ 2 → trap_number trap ≡ s.trap → offset ≡ offset_named s.has_offset s.offset → d ≡ s.disp → Base s.base trap offset d ≡ p) h (base_at p trap offset d) k t o e

index_at : (p : CorePlace) (trap : Option TrapCode) (scale : Scale) (d : ℤ) → (plain_place (place_operand p)).place ≡ 3 → trap_number trap ≡ (plain_place (place_operand p)).trap → scale_number scale ≡ (plain_place (place_operand p)).scale → d ≡ (plain_place (place_operand p)).disp → BaseAndIndex (plain_place (place_operand p)).base (plain_place (place_operand p)).index scale trap d ≡ p
index_at Absent trap scale d k t o e = cc
index_at (Register number) trap scale d k t o e = cc
index_at (Base base code key disp) trap scale d k t o e = cc
index_at (BaseAndIndex base index factor code disp) trap scale d k t o e = rw (same_trap trap code t, same_scale scale factor o, e) refl
index_at (Relative (target.Label label)) trap scale d k t o e = cc
index_at (Relative (target.Constant constant)) trap scale d k t o e = cc
index_at (Relative target.None) trap scale d k t o e = cc

index_is : (s : HqPlace) (trap : Option TrapCode) (scale : Scale) (d : ℤ) → s.place ≡ 3 → trap_number trap ≡ s.trap → scale_number scale ≡ s.scale → d ≡ s.disp → (p : CorePlace) → plain_place (place_operand p) ≡ s → BaseAndIndex s.base s.index scale trap d ≡ p
index_is s trap scale d k t o e p h = subst (λ (s : HqPlace). s.place ≡ 3 → trap_number trap ≡ s.trap → scale_number scale ≡ s.scale → d ≡ s.disp → BaseAndIndex s.base s.index scale trap d ≡ p) h (index_at p trap scale d) k t o e

-- and no two have the same

absent_at : (p : CorePlace) → (plain_place (place_operand p)).place ≡ 0 → Absent ≡ p
absent_at Absent h = refl
absent_at (Register number) h = cc
absent_at (Base base trap offset disp) h = cc
absent_at (BaseAndIndex base index scale trap disp) h = cc
absent_at (Relative (target.Label label)) h = cc
absent_at (Relative (target.Constant constant)) h = cc
absent_at (Relative target.None) h = cc

register_at : (p : CorePlace) → (plain_place (place_operand p)).place ≡ 1 → Register (plain_place (place_operand p)).base ≡ p
register_at Absent h = cc
register_at (Register number) h = refl
register_at (Base base trap offset disp) h = cc
register_at (BaseAndIndex base index scale trap disp) h = cc
register_at (Relative (target.Label label)) h = cc
register_at (Relative (target.Constant constant)) h = cc
register_at (Relative target.None) h = cc

label_at : (p : CorePlace) → (plain_place (place_operand p)).place ≡ 4 → Relative (target.Label (record { 0 = (plain_place (place_operand p)).target })) ≡ p
label_at Absent h = cc
label_at (Register number) h = cc
label_at (Base base trap offset disp) h = cc
label_at (BaseAndIndex base index scale trap disp) h = cc
label_at (Relative (target.Label label)) h = refl
label_at (Relative (target.Constant constant)) h = cc
label_at (Relative target.None) h = cc

constant_at : (p : CorePlace) → (plain_place (place_operand p)).place ≡ 5 → Relative (target.Constant (record { 0 = (plain_place (place_operand p)).target })) ≡ p
constant_at Absent h = cc
constant_at (Register number) h = cc
constant_at (Base base trap offset disp) h = cc
constant_at (BaseAndIndex base index scale trap disp) h = cc
constant_at (Relative (target.Label label)) h = cc
constant_at (Relative (target.Constant constant)) h = refl
constant_at (Relative target.None) h = cc

untold_at : (p : CorePlace) → (plain_place (place_operand p)).place ≡ 6 → Relative target.None ≡ p
untold_at Absent h = cc
untold_at (Register number) h = cc
untold_at (Base base trap offset disp) h = cc
untold_at (BaseAndIndex base index scale trap disp) h = cc
untold_at (Relative (target.Label label)) h = cc
untold_at (Relative (target.Constant constant)) h = cc
untold_at (Relative target.None) h = refl

number_of : (q p : CorePlace) → plain_place (place_operand q) ≡ plain_place (place_operand p) → (plain_place (place_operand p)).place ≡ (plain_place (place_operand q)).place
number_of q p h = ap (λ (s : HqPlace). s.place) (sym h)

pub same_place : (q p : CorePlace) → plain_place (place_operand q) ≡ plain_place (place_operand p) → q ≡ p
same_place Absent p h = absent_at p (number_of Absent p h)
same_place (Register number) p h = ap (λ (s : HqPlace). Register s.base) h ∙ register_at p (number_of (Register number) p h)
same_place (Base base trap offset disp) p h = base_is (plain_place (place_operand (Base base trap offset disp))) trap offset disp refl refl (sym (offset_back offset)) refl p (sym h)
same_place (BaseAndIndex base index scale trap disp) p h = index_is (plain_place (place_operand (BaseAndIndex base index scale trap disp))) trap scale disp refl refl refl refl p (sym h)
same_place (Relative (target.Label label)) p h = ap (λ (s : HqPlace). Relative (target.Label (record { 0 = s.target }))) h ∙ label_at p (number_of (Relative (target.Label label)) p h)
same_place (Relative (target.Constant constant)) p h = ap (λ (s : HqPlace). Relative (target.Constant (record { 0 = s.target }))) h ∙ constant_at p (number_of (Relative (target.Constant constant)) p h)
same_place (Relative target.None) p h = untold_at p (number_of (Relative target.None) p h)
