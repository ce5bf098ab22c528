use Rattle.std.proofs.Common.{◌≡◌, ◌≢◌, ℕ, ◌+◌, ◌*◌, ◌%◌, ◌<◌, refl, arith, Bool, true, false, List, [], ◌∷◌, ◌++◌, ℤ, pos, Option}
use Rattle.std.specs.Prelude.{◌==◌, if◌then◌else◌, ◌-ℤ◌}
use Rattle.std.specs.Int.{cast_unsigned, w32, to_le_bytes}
use Rattle.std.specs.Int.RustNames.{FitsSigned}
use Rattle.std.proofs.lemmas.Bool.Decides.{nat_tests}
use Rattle.cax64_machine_code.specs.declared.reading.Place.TheVariants.{Rip}
use Rattle.cax64_sink.specs.Call.{put, target}
use Rattle.cax64_sink.specs.Rest.{long_actions}
use Rattle.cax64_address.specs.Emitted.{TailOf}
use Rattle.cax64_address.specs.Address.{scale_number}
use Rattle.cax64_address.specs.Emitted.{target_actions}
use Rattle.cax64_address.proofs.Emits.{emits_relative}
use Rattle.cax64_address.proofs.TailBytes.{relative_bytes}
use Rattle.cax64_encoder.proofs.Bytes.{no_bytes, one_byte}
use Rattle.cax64_encoder.specs.Tails.{width_of_word}
use Rattle.cax64_encoder.proofs.LookedUp.{done}
use Rattle.cax64_encoder.proofs.TailParts.{register_tail}
use Rattle.cax64_sink.specs.Puts.{puts}
use Rattle.cax64_sink.specs.declared.DeferredTarget.{DeferredTarget}
use Rattle.cax64_sink.specs.declared.DeferredTarget.TheVariants as deferred
use Rattle.cax64_sink.specs.declared.Notice.TheVariants.{Target}
use Rattle.x64_place.specs.Operand.{operand_by, place_operand}
use Rattle.x64_place.specs.Place.{is_plain}
use Rattle.x64_place.specs.Kind.{has_index, relative_by}
use Rattle.x64_place.specs.Tail.{front_of, long_of, relative_word}
use Rattle.x64_place.specs.TailPart.{IsTailPart}
use Rattle.x64_place.specs.declared.place.FlatPlace.{FlatPlace}
use Rattle.x64_place.specs.declared.place.PlaceKind.{PlaceKind}
use Rattle.x64_place.specs.declared.place.PlaceKind.TheVariants.{Absent, Register, Base, BaseAndIndex, Label, Constant, NoTarget}
use Rattle.x64_place.proofs.Placed.{is_value}
use Rattle.std.proofs.lemmas.Bool.{and_parts}

-- The tail of a place that is looked up is its tail.

relative_is : (reg at_end : ℕ) (place : DeferredTarget) → reg < 8 → at_end < 256 → TailOf 0 0 1 (reg % 8) (Rip (pos 0 -ℤ pos at_end)) (λ at. Target (at + 1) place ∷ []) (put ((reg * 8 + 5) ∷ []) ∷ target place ∷ put (to_le_bytes w32 (relative_word at_end)) ∷ [])
relative_is reg at_end place hr ha =
    let r : reg % 8 ≡ reg = omega arith in
    rw r (emits_relative 1 reg at_end (reg * 8 + 5) (relative_word at_end) place hr ha refl refl)

-- By the kind of the place.
part_when : (kind : PlaceKind) (p : FlatPlace) (reg word sib at_end : ℕ) (v : ℤ) → is_plain kind p.base p.index p.scale p.trap p.offset p.displacement p.target ≡ true → (has_index kind ≡ true → p.index ≢ 4) → p.index < 16 → reg < 8 → scale_number p.scale < 4 → at_end < 256 → FitsSigned w32 v → word ≡ cast_unsigned w32 v → sib ≡ scale_number p.scale * 64 + p.index % 8 * 8 + p.base % 8
    → IsTailPart (operand_by kind p) v at_end reg (puts (front_of kind (width_of_word word) (p.base % 8) reg sib (word % 256)) ++ (target_actions (relative_by kind p.target) ++ long_actions (long_of kind (width_of_word word) word at_end)))
part_when Absent p reg word sib at_end v h n hi hr hc ha f w es = record { part = refl; bytes = no_bytes; length = refl }
part_when Register p reg word sib at_end v h n hi hr hc ha f w es =
    let m : 3 * 64 + reg * 8 + p.base % 8 ≡ 3 * 64 + reg % 8 * 8 + p.base % 8 = omega arith in
    record { part = register_tail reg p.base (3 * 64 + reg * 8 + p.base % 8) m; bytes = one_byte (3 * 64 + reg * 8 + p.base % 8) (omega arith); length = refl }
part_when Base p reg word sib at_end v h n hi hr hc ha f w es =
    let a = and_parts (p.index == 4) _ h in
    let four : p.index ≡ 4 = is_value p.index 4 a.0 in
    let second : sib ≡ scale_number p.scale * 64 + 4 % 8 * 8 + p.base % 8 = rw four at es in
    let t = done reg p.base 4 (scale_number p.scale) word sib (p.base % 8) v (p.base % 8 == 4) true refl refl hr hc f w second (low_is (p.base % 8)) _ refl in
    let r : reg % 8 ≡ reg = omega arith in
    record { part = rw r t.tail; bytes = t.bytes; length = t.length }
  where
    low_with : (four : Bool) (low : ℕ) → (low == 4) ≡ four → low ≡ (if four then 4 else low)
    low_with true low e = is_value low 4 e
    low_with false low e = refl

    low_is : (low : ℕ) → low ≡ (if low == 4 then 4 else low)
    low_is low = low_with (low == 4) low refl
part_when BaseAndIndex p reg word sib at_end v h n hi hr hc ha f w es =
    let not_four : p.index ≢ 4 = n refl in
    let no : (p.index == 4) ≡ false = grind (arith, nat_tests) in
    let t = done reg p.base p.index (scale_number p.scale) word sib 4 v true false no refl hr hc f w es refl _ refl in
    let r : reg % 8 ≡ reg = omega arith in
    record { part = rw r t.tail; bytes = t.bytes; length = t.length }
part_when Label p reg word sib at_end v h n hi hr hc ha f w es =
    let place : DeferredTarget = deferred.Label (record { 0 = p.target }) in
    record { part = relative_is reg at_end place hr ha; bytes = relative_bytes reg (reg * 8 + 5) (relative_word at_end) place hr refl; length = refl }
part_when Constant p reg word sib at_end v h n hi hr hc ha f w es =
    let place : DeferredTarget = deferred.Constant (record { 0 = p.target }) in
    record { part = relative_is reg at_end place hr ha; bytes = relative_bytes reg (reg * 8 + 5) (relative_word at_end) place hr refl; length = refl }
part_when NoTarget p reg word sib at_end v h n hi hr hc ha f w es =
    record { part = relative_is reg at_end deferred.None hr ha; bytes = relative_bytes reg (reg * 8 + 5) (relative_word at_end) deferred.None hr refl; length = refl }

-- what was found for a place is its tail
pub part_found : (p : FlatPlace) (reg word sib at_end width : ℕ) (v : ℤ) (front : List ℕ) (told : Option DeferredTarget) (four : Option ℕ) → (has_index p.kind ≡ true → p.index ≢ 4) → p.index < 16 → reg < 8 → scale_number p.scale < 4 → at_end < 256 → FitsSigned w32 v → word ≡ cast_unsigned w32 v → width ≡ width_of_word word → sib ≡ scale_number p.scale * 64 + p.index % 8 * 8 + p.base % 8
    → front ≡ front_of p.kind width (p.base % 8) reg sib (word % 256) → told ≡ relative_by p.kind p.target → four ≡ long_of p.kind width word at_end
    → IsTailPart (place_operand p) v at_end reg (puts front ++ (target_actions told ++ long_actions four))
part_found p reg word sib at_end width v front told four n hi hr hc ha f w c es ef et el = rw (ef, et, el, c) (part_when p.kind p reg word sib at_end v p.plain n hi hr hc ha f w es)
