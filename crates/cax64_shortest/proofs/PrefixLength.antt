use Rattle.std.proofs.Common.{◌≡◌, ℕ, ◌+◌, ◌≤◌, ◌/◌, ◌%◌, arith, List, [], ◌∷◌, Bool, true, false, Some, None, Option, refl, ap, length}
use Rattle.std.specs.Prelude.{◌==◌, ◌&&◌, ◌||◌, not, if◌then◌else◌, is_some}
use Rattle.std.proofs.lemmas.Bool.{and_parts}
use Rattle.std.proofs.lemmas.Option.{same_Some}
use Rattle.cax64_machine_code.specs.Fields.{IsBytes}
use Rattle.cax64_machine_code.specs.Len.{one_if, legacy_len}
use Rattle.cax64_machine_code.specs.Prefix.{no_legacy, legacy_at, Rex, rex_of, rex_at, Vex, vex_two_byte, vex_three_byte, is_vex_map, vex_at, Prefix, legacy_prefix, vex_prefix, begins_vex, is_no_legacy, after_vex, after_legacy, prefix_at}
use Rattle.cax64_machine_code.specs.declared.line.LegacySet.{LegacySet}
use Rattle.cax64_machine_code.proofs.Forms.{later_bytes}

-- how many bytes a prefix that is read has at least

-- what follows from either way of a choice
pub choose : {X G : Type 0} (t : Bool) (a b r : X) → (t ≡ true → a ≡ r → G) → (b ≡ r → G) → (if t then a else b) ≡ r → G
choose true a b r f g h = f refl h
choose false a b r f g h = g h

pub first_same : {A B : Type 0} (a c : A) (b d : B) → ◌≡◌ {A = A × B} (a, b) (c, d) → a ≡ c
first_same {A} {B} a c b d e = ap (λ (z : A × B). z.0) e

pub second_same : {A B : Type 0} (a c : A) (b d : B) → ◌≡◌ {A = A × B} (a, b) (c, d) → b ≡ d
second_same {A} {B} a c b d e = ap (λ (z : A × B). z.1) e

-- so many bytes stood before what is left
abbrev pub Before : ℕ → List ℕ → List ℕ → Type 0
Before size bytes rest = (size + length rest ≤ length bytes) × IsBytes rest

-- what is read with some seen before
abbrev Seen : ℕ → ℕ → List ℕ → List ℕ → Type 0
Seen seen all bytes rest = (all + length rest ≤ seen + length bytes) × IsBytes rest

one_more : (seen more all byte : ℕ) (bytes rest : List ℕ) → more ≡ 1 + seen → Seen more all bytes rest → Seen seen all (byte ∷ bytes) rest
one_more seen more all byte bytes rest e h = let k = h.0 in (omega (arith, e, k), h.1)

not_seen : (b : Bool) → not b ≡ true → one_if true ≡ 1 + one_if b
not_seen true h = cc
not_seen false h = refl

neither : (a b : Bool) → not (a || b) ≡ true → (not a ≡ true) × (not b ≡ true)
neither true b h = cc
neither false true h = cc
neither false false h = (refl, refl)

first_seen : (a b c d e : ℕ) → a ≡ 1 + b → a + (c + (d + e)) ≡ 1 + (b + (c + (d + e)))
first_seen a b c d e h = omega (arith, h)

second_seen : (a b c d e : ℕ) → a ≡ 1 + b → c + (a + (d + e)) ≡ 1 + (c + (b + (d + e)))
second_seen a b c d e h = omega (arith, h)

third_seen : (a b c d e : ℕ) → a ≡ 1 + b → c + (d + (a + e)) ≡ 1 + (c + (d + (b + e)))
third_seen a b c d e h = omega (arith, h)

fourth_seen : (a b c d e : ℕ) → a ≡ 1 + b → c + (d + (e + a)) ≡ 1 + (c + (d + (e + b)))
fourth_seen a b c d e h = omega (arith, h)

nothing_seen : (seen l : LegacySet) (bytes rest : List ℕ) → IsBytes bytes → ◌≡◌ {A = LegacySet × List ℕ} (seen, bytes) (l, rest) → Seen (legacy_len seen) (legacy_len l) bytes rest
nothing_seen seen l bytes rest hb h =
    let p : seen ≡ l = first_same _ _ _ _ h in
    let q : bytes ≡ rest = second_same _ _ _ _ h in
    rw (← p, ← q) (omega arith, hb)

legacy_bytes : (seen : LegacySet) (bytes : List ℕ) (l : LegacySet) (rest : List ℕ) → IsBytes bytes → legacy_at seen bytes ≡ (l, rest) → Seen (legacy_len seen) (legacy_len l) bytes rest
unfolding legacy_at
legacy_bytes seen [] l rest hb h = nothing_seen seen l [] rest hb h
legacy_bytes seen (byte ∷ bytes) l rest hb h =
    let hl = later_bytes byte bytes hb in
    choose ((byte == 0xF0) && not seen.lock) _ _ _
    (λ t e. one_more (legacy_len seen) _ (legacy_len l) byte bytes rest
    (first_seen _ _ (one_if seen.operand_size) (one_if seen.repne) (one_if seen.rep) (not_seen seen.lock (and_parts (byte == 0xF0) (not seen.lock) t).1))
    (legacy_bytes (record seen { lock = true }) bytes l rest hl e))
    (choose ((byte == 0x66) && not seen.operand_size) _ _ _
    (λ t e. one_more (legacy_len seen) _ (legacy_len l) byte bytes rest
    (second_seen _ _ (one_if seen.lock) (one_if seen.repne) (one_if seen.rep) (not_seen seen.operand_size (and_parts (byte == 0x66) (not seen.operand_size) t).1))
    (legacy_bytes (record seen { operand_size = true }) bytes l rest hl e))
    (choose ((byte == 0xF2) && not (seen.repne || seen.rep)) _ _ _
    (λ t e. one_more (legacy_len seen) _ (legacy_len l) byte bytes rest
    (third_seen _ _ (one_if seen.lock) (one_if seen.operand_size) (one_if seen.rep) (not_seen seen.repne (neither seen.repne seen.rep (and_parts (byte == 0xF2) (not (seen.repne || seen.rep)) t).1).0))
    (legacy_bytes (record seen { repne = true }) bytes l rest hl e))
    (choose ((byte == 0xF3) && not (seen.repne || seen.rep)) _ _ _
    (λ t e. one_more (legacy_len seen) _ (legacy_len l) byte bytes rest
    (fourth_seen _ _ (one_if seen.lock) (one_if seen.operand_size) (one_if seen.repne) (not_seen seen.rep (neither seen.repne seen.rep (and_parts (byte == 0xF3) (not (seen.repne || seen.rep)) t).1).1))
    (legacy_bytes (record seen { rep = true }) bytes l rest hl e))
    (nothing_seen seen l (byte ∷ bytes) rest hb)))) h

rex_found : (size : ℕ) (o p : Option Rex) (bytes left rest : List ℕ) → one_if (is_some o) + length left ≤ length bytes → IsBytes left → ◌≡◌ {A = Option Rex × List ℕ} (o, left) (p, rest) → Before (one_if (is_some p)) bytes rest
rex_found size o p bytes left rest least hl h =
    let e : o ≡ p = first_same _ _ _ _ h in
    let q : left ≡ rest = second_same _ _ _ _ h in
    rw (← e, ← q) (least, hl)

rex_length : (bytes : List ℕ) (o : Option Rex) (rest : List ℕ) → IsBytes bytes → rex_at bytes ≡ (o, rest) → Before (one_if (is_some o)) bytes rest
unfolding rex_at
rex_length [] o rest hb h = rex_found 0 None o [] [] rest (omega arith) hb h
rex_length (byte ∷ bytes) o rest hb h =
    choose (byte / 16 == 4) _ _ _
    (λ t e. rex_found 1 (Some (rex_of byte)) o (byte ∷ bytes) bytes rest (omega arith) (later_bytes byte bytes hb) e)
    (λ e. rex_found 0 None o (byte ∷ bytes) (byte ∷ bytes) rest (omega arith) hb e) h

-- two bytes of VEX hold map 1 alone, and X, B and W of 0
abbrev pub is_short_vex : Vex → Bool
is_short_vex vex = (vex.map == 1) && ((vex.x == 0) && ((vex.b == 0) && (vex.w == 0)))

abbrev pub vex_least : Vex → ℕ
vex_least vex = if is_short_vex vex then 2 else 3

choice_most : (t : Bool) → (if t then 2 else 3) ≤ 3
choice_most true = omega arith
choice_most false = omega arith

two_found : (vex : Vex) (byte second : ℕ) (bytes rest : List ℕ) → IsBytes (byte ∷ second ∷ bytes) → ◌≡◌ {A = Option (Vex × List ℕ)} (Some (vex_two_byte second, bytes)) (Some (vex, rest)) → Before (vex_least vex) (byte ∷ second ∷ bytes) rest
two_found vex byte second bytes rest hb h =
    let k = same_Some _ _ h in
    let e : vex_two_byte second ≡ vex = first_same _ _ _ _ k in
    let q : bytes ≡ rest = second_same _ _ _ _ k in
    rw (← e, ← q) (omega arith, later_bytes second bytes (later_bytes byte (second ∷ bytes) hb))

three_found : (vex found : Vex) (byte second third : ℕ) (bytes rest : List ℕ) → IsBytes (byte ∷ second ∷ third ∷ bytes) → ◌≡◌ {A = Option (Vex × List ℕ)} (Some (found, bytes)) (Some (vex, rest)) → Before (vex_least vex) (byte ∷ second ∷ third ∷ bytes) rest
three_found vex found byte second third bytes rest hb h =
    let q : bytes ≡ rest = second_same _ _ _ _ (same_Some _ _ h) in
    let most : vex_least vex ≤ 3 = choice_most (is_short_vex vex) in
    rw (← q) (omega (arith, most), later_bytes third bytes (later_bytes second (third ∷ bytes) (later_bytes byte (second ∷ third ∷ bytes) hb)))

vex_length : (bytes : List ℕ) (vex : Vex) (rest : List ℕ) → IsBytes bytes → vex_at bytes ≡ Some (vex, rest) → Before (vex_least vex) bytes rest
unfolding vex_at
vex_length [] vex rest hb h = cc
vex_length (byte ∷ []) vex rest hb h = cc
vex_length (byte ∷ second ∷ []) vex rest hb h =
    choose (byte == 0xC5) _ _ _ (λ t e. two_found vex byte second [] rest hb e) (λ e. cc) h
vex_length (byte ∷ second ∷ third ∷ bytes) vex rest hb h =
    choose (byte == 0xC5) _ _ _ (λ t e. two_found vex byte second (third ∷ bytes) rest hb e)
    (choose ((byte == 0xC4) && is_vex_map (second % 32)) _ _ _ (λ t e. three_found vex (vex_three_byte second third) byte second third bytes rest hb e) (λ e. cc)) h

-- the least number of bytes that hold a prefix
abbrev pub prefix_least : Prefix → ℕ
prefix_least (legacy_prefix set rex) = legacy_len set + one_if (is_some rex)
prefix_least (vex_prefix vex) = vex_least vex

vex_part : (o : Option (Vex × List ℕ)) (bytes ls : List ℕ) (p : Prefix) (rest : List ℕ) → IsBytes ls → length ls ≤ length bytes → vex_at ls ≡ o → after_vex o ≡ Some (p, rest) → Before (prefix_least p) bytes rest
vex_part None bytes ls p rest hb least e h = cc
vex_part (Some found) bytes ls p rest hb least e h =
    let k = same_Some _ _ h in
    let is : vex_prefix found.0 ≡ p = first_same _ _ _ _ k in
    let left : found.1 ≡ rest = second_same _ _ _ _ k in
    let v = vex_length ls found.0 found.1 hb e in
    let size = v.0 in
    rw (← is, ← left) (omega (arith, size, least), v.1)

legacy_part : (l : LegacySet) (rex : Option Rex × List ℕ) (bytes ls : List ℕ) (p : Prefix) (rest : List ℕ) → IsBytes ls → legacy_len l + length ls ≤ length bytes → rex_at ls ≡ rex → after_legacy l rex ≡ Some (p, rest) → Before (prefix_least p) bytes rest
legacy_part l rex bytes ls p rest hb least e h =
    let k = same_Some _ _ h in
    let is : legacy_prefix l rex.0 ≡ p = first_same _ _ _ _ k in
    let left : rex.1 ≡ rest = second_same _ _ _ _ k in
    let r = rex_length ls rex.0 rex.1 hb e in
    let size = r.0 in
    rw (← is, ← left) (omega (arith, size, least), r.1)

no_set : legacy_len no_legacy ≡ 0
no_set = refl

prefix_by : (l : LegacySet) (ls bytes : List ℕ) (p : Prefix) (rest : List ℕ) → IsBytes bytes → legacy_at no_legacy bytes ≡ (l, ls) → (if is_no_legacy l && begins_vex ls then after_vex (vex_at ls) else after_legacy l (rex_at ls)) ≡ Some (p, rest) → Before (prefix_least p) bytes rest
prefix_by l ls bytes p rest hb e h =
    let seen = legacy_bytes no_legacy bytes l ls hb e in
    let least : legacy_len l + length ls ≤ 0 + length bytes = seen.0 in
    let all : legacy_len l + length ls ≤ length bytes = omega (arith, least) in
    let later : length ls ≤ length bytes = omega (arith, least) in
    choose (is_no_legacy l && begins_vex ls) _ _ _
    (λ t d. vex_part (vex_at ls) bytes ls p rest seen.1 later refl d)
    (λ d. legacy_part l (rex_at ls) bytes ls p rest seen.1 all refl d) h

-- the prefix that is read has at least so many bytes
pub prefix_length : (bytes : List ℕ) (p : Prefix) (rest : List ℕ) → IsBytes bytes → prefix_at bytes ≡ Some (p, rest) → Before (prefix_least p) bytes rest
unfolding prefix_at
prefix_length bytes p rest hb h = prefix_by (legacy_at no_legacy bytes).0 (legacy_at no_legacy bytes).1 bytes p rest hb refl h
