use Rattle.std.proofs.lemmas.Bool.{and_parts}
use Rattle.std.proofs.lemmas.Bool.Decides.{nat_tests}
use Rattle.std.proofs.Common.{◌≡◌, ◌≢◌, arith, ℕ, ◌/◌, ◌%◌, List, [], ◌∷◌, refl, Option, Some, None, Bool, true, false}
use Rattle.std.specs.Prelude.{◌==◌, ◌&&◌, if◌then◌else◌, option_and_then}
use Rattle.cax64_machine_code.specs.Prefix.{no_legacy, is_no_legacy, begins_vex, after_vex, after_legacy, prefix_at, legacy_at, rex_of, rex_at, Prefix, legacy_prefix, Vex, vex_two_byte, vex_three_byte, is_vex_map, vex_at}
use Rattle.cax64_machine_code.specs.declared.line.LegacySet.{LegacySet}
use Rattle.cax64_table.specs.Cursor.{next_byte}
use Rattle.cax64_table.proofs.Seen.{front_is}

pub not_equal : (a b : ℕ) → a ≢ b → (a == b) ≡ false
not_equal a b h = grind (arith, nat_tests)

-- a VEX prefix, behind its first byte

abbrev third_vex : ℕ → ℕ → List ℕ → Option (Vex × List ℕ)
third_vex first second bytes = option_and_then (λ third. if (first == 0xC4) && is_vex_map (second % 32) then Some (vex_three_byte second third.0, third.1) else None) (next_byte bytes)

pub vex_behind : (first : ℕ) (bytes : List ℕ) → vex_at (first ∷ bytes) ≡ option_and_then (λ second. if first == 0xC5 then Some (vex_two_byte second.0, second.1) else third_vex first second.0 second.1) (next_byte bytes)
unfolding vex_at
vex_behind first [] = refl
vex_behind first (second ∷ []) = refl
vex_behind first (second ∷ third ∷ bytes) = refl

-- the first byte is C4 or C5

pub is_four : (first : ℕ) → begins_vex (first ∷ []) ≡ true → first ≢ 0xC5 → (first == 0xC4) ≡ true
is_four first h e = grind (arith, nat_tests)

begins_not : (first : ℕ) → first / 2 ≢ 0x62 → begins_vex (first ∷ []) ≡ false
begins_not first h = rw (not_equal first 0xC4 (λ e. h (rw e refl)), not_equal first 0xC5 (λ e. h (rw e refl))) refl

rex_begins_not : (first : ℕ) → first / 16 ≡ 4 → first / 2 ≢ 0x62
rex_begins_not first h e = absurd (omega arith)

-- the prefix by its parts

prefix_is_vex : (set : LegacySet) (bytes rest : List ℕ) → ◌≡◌ {A = LegacySet × List ℕ} (set, rest) (legacy_at no_legacy bytes) → is_no_legacy set ≡ true → begins_vex rest ≡ true → after_vex (vex_at rest) ≡ prefix_at bytes
unfolding prefix_at
prefix_is_vex set bytes rest h e f = rw (← h, e, f) refl

prefix_is_legacy : (set : LegacySet) (bytes rest : List ℕ) → ◌≡◌ {A = LegacySet × List ℕ} (set, rest) (legacy_at no_legacy bytes) → is_no_legacy set && begins_vex rest ≡ false → after_legacy set (rex_at rest) ≡ prefix_at bytes
unfolding prefix_at
prefix_is_legacy set bytes rest h e = rw (← h, e) refl

second_fails : (a b : Bool) → b ≡ false → a && b ≡ false
second_fails true b h = h
second_fails false b h = refl

-- nothing follows the legacy prefixes
pub prefix_at_end : (set : LegacySet) (bytes rest : List ℕ) → ◌≡◌ {A = LegacySet × List ℕ} (set, rest) (legacy_at no_legacy bytes) → None ≡ next_byte rest → ◌≡◌ {A = Option (Prefix × List ℕ)} (Some (legacy_prefix set None, rest)) (prefix_at bytes)
unfolding rex_at
prefix_at_end set bytes [] h e = prefix_is_legacy set bytes [] h (second_fails (is_no_legacy set) false refl)
prefix_at_end set bytes (first ∷ behind) h e = cc

-- a REX byte follows them
pub prefix_with_rex : (set : LegacySet) (bytes rest : List ℕ) (first : ℕ) (behind : List ℕ) → ◌≡◌ {A = LegacySet × List ℕ} (set, rest) (legacy_at no_legacy bytes) → ◌≡◌ {A = Option (ℕ × List ℕ)} (Some (first, behind)) (next_byte rest) → first / 16 ≡ 4 → ◌≡◌ {A = Option (Prefix × List ℕ)} (Some (legacy_prefix set (Some (rex_of first)), behind)) (prefix_at bytes)
unfolding rex_at
prefix_with_rex set bytes rest first behind h e f =
    let g = front_is rest behind first e in
    let l : ◌≡◌ {A = LegacySet × List ℕ} (set, first ∷ behind) (legacy_at no_legacy bytes) = rw (← g) h in
    rw (← prefix_is_legacy set bytes (first ∷ behind) l (second_fails (is_no_legacy set) _ (begins_not first (rex_begins_not first f))), f) refl

-- another byte does
pub prefix_without_rex : (set : LegacySet) (bytes rest : List ℕ) (first : ℕ) (behind : List ℕ) → ◌≡◌ {A = LegacySet × List ℕ} (set, rest) (legacy_at no_legacy bytes) → ◌≡◌ {A = Option (ℕ × List ℕ)} (Some (first, behind)) (next_byte rest) → first / 16 ≢ 4 → is_no_legacy set && begins_vex (first ∷ []) ≡ false → ◌≡◌ {A = Option (Prefix × List ℕ)} (Some (legacy_prefix set None, rest)) (prefix_at bytes)
unfolding rex_at
prefix_without_rex set bytes rest first behind h e f v =
    let g = front_is rest behind first e in
    let l : ◌≡◌ {A = LegacySet × List ℕ} (set, first ∷ behind) (legacy_at no_legacy bytes) = rw (← g) h in
    rw (← prefix_is_legacy set bytes (first ∷ behind) l v, g, not_equal (first / 16) 4 f) refl

-- the first byte of VEX does, where there are none
pub prefix_with_vex : (set : LegacySet) (bytes rest : List ℕ) (first : ℕ) (behind : List ℕ) → ◌≡◌ {A = LegacySet × List ℕ} (set, rest) (legacy_at no_legacy bytes) → ◌≡◌ {A = Option (ℕ × List ℕ)} (Some (first, behind)) (next_byte rest) → is_no_legacy set && begins_vex (first ∷ []) ≡ true → after_vex (vex_at (first ∷ behind)) ≡ prefix_at bytes
prefix_with_vex set bytes rest first behind h e f =
    let g = front_is rest behind first e in
    let l : ◌≡◌ {A = LegacySet × List ℕ} (set, first ∷ behind) (legacy_at no_legacy bytes) = rw (← g) h in
    let p = and_parts (is_no_legacy set) (begins_vex (first ∷ [])) f in
    prefix_is_vex set bytes (first ∷ behind) l p.0 p.1
