use Rattle.std.proofs.Common.{◌≡◌, ℕ, suc, ◌+◌, ◌≤◌, ◌/◌, ◌%◌, arith, List, [], ◌∷◌, length, Bool, true, false, refl, ap, Option, Some, None, ℤ}
use Rattle.std.specs.Prelude.{◌==◌, ◌&&◌, ◌||◌, not, nat_le, if◌then◌else◌, is_some}
use Rattle.std.proofs.lemmas.Bool.{and_parts}
use Rattle.std.proofs.lemmas.Bool.Decides.{nat_tests}
use Rattle.cax64_machine_code.specs.Fields.{number_at}
use Rattle.cax64_machine_code.specs.Line.{after, same_legacy, field_matches, prefix_matches, opcode_bytes, opcode_at}
use Rattle.cax64_machine_code.specs.Prefix.{no_legacy, is_no_legacy, begins_vex, after_vex, after_legacy, prefix_at, legacy_at, Rex, rex_at, Vex, is_vex_map, vex_at, Prefix, legacy_prefix, vex_prefix, x_of, b_of}
use Rattle.cax64_machine_code.specs.Reading.{FoundOf, imm_at, matched_at, operands_of, place_at}
use Rattle.cax64_machine_code.specs.Tail.{read_tail}
use Rattle.cax64_machine_code.specs.declared.line.LegacySet.{LegacySet}
use Rattle.cax64_machine_code.specs.declared.line.Line.{Line}
use Rattle.cax64_machine_code.specs.declared.line.ImmField.{ImmField}
use Rattle.cax64_machine_code.specs.declared.line.PrefixField.{PrefixField}
use Rattle.cax64_machine_code.specs.declared.line.TailField.{TailField}
use Rattle.cax64_machine_code.specs.declared.line.PrefixField.TheVariants.{LegacyField, VexField}
use Rattle.cax64_machine_code.specs.declared.line.TailField.TheVariants.{NoTail, Modrm}
use Rattle.cax64_machine_code.specs.declared.line.ImmField.TheVariants.{NoImm, Imm, Simm}
use Rattle.cax64_machine_code.proofs.Uniqueness.{behind, some_if, legacy_same}
use Rattle.cax64_reader.specs.Lengths.{Within, HasSize}
use Rattle.cax64_reader.proofs.Lengths.{some_same, mapped_from, chained_from, either_from, number_length, tail_length}

unfoldable pub one : Bool → ℕ
one true = 1
one false = 0

-- the number of prefixes in a set
unfoldable pub count : LegacySet → ℕ
count set = one set.lock + one set.operand_size + one set.repne + one set.rep

-- the most bytes that a row's prefix, its tail and its immediate take
unfoldable pub prefix_most : PrefixField → ℕ
prefix_most (LegacyField set rex) = count set + one rex
prefix_most (VexField pp map l vvvv) = 3

unfoldable pub tail_most : TailField → ℕ
tail_most NoTail = 0
tail_most (Modrm reg place) = 6

unfoldable pub imm_size : ImmField → ℕ
imm_size NoImm = 0
imm_size (Imm size) = size
imm_size (Simm size) = size

unfoldable pub line_most : Line → ℕ
line_most line = prefix_most line.prefix + length (opcode_bytes line.opcode) + tail_most line.tail + imm_size line.imm

unfoldable pub has_size : ImmField → Bool
has_size NoImm = true
has_size (Imm size) = nat_le 1 size && nat_le size 4
has_size (Simm size) = nat_le 1 size && nat_le size 4

-- the instructions of a line have one to thirteen bytes, of which an immediate is one to four
unfoldable pub is_short : Line → Bool
is_short line = (nat_le (line_most line) 13 && nat_le 1 (length (opcode_bytes line.opcode))) && has_size line.imm

-- the legacy prefixes that are read are so many bytes

absent : (b : Bool) → not b ≡ true → one b ≡ 0
unfolding one
absent true h = cc
absent false h = refl

both_absent : (a b : Bool) → not (a || b) ≡ true → (one a ≡ 0) × (one b ≡ 0)
unfolding one
both_absent true b h = cc
both_absent false true h = cc
both_absent false false h = (refl, refl)

choice : {X : Type 0} (t : Bool) (a b r : X) (P : Type 0) → (t ≡ true → a ≡ r → P) → (b ≡ r → P) → (if t then a else b) ≡ r → P
choice true a b r P f g h = f refl h
choice false a b r P f g h = g h

-- one byte more, and one prefix more
raised : (n k j m : ℕ) → j ≡ suc k → n + j ≡ m → suc n + k ≡ m
raised n k j m e h = omega arith

legacy_length : (seen : LegacySet) (bytes : List ℕ) (set : LegacySet) (rest : List ℕ) → legacy_at seen bytes ≡ (set, rest) → length bytes + count seen ≡ length rest + count set
unfolding legacy_at one count
legacy_length seen [] set rest h = ap (λ (z : LegacySet × List ℕ). length z.1 + count z.0) h
legacy_length seen (byte ∷ bytes) set rest h =
    choice ((byte == 0xF0) && not seen.lock) _ _ _ (suc (length bytes) + count seen ≡ length rest + count set)
    (λ t e. let z = absent seen.lock (and_parts (byte == 0xF0) (not seen.lock) t).1 in
    raised (length bytes) (count seen) (count (record seen { lock = true })) _ (omega arith) (legacy_length (record seen { lock = true }) bytes set rest e))
    (choice ((byte == 0x66) && not seen.operand_size) _ _ _ (suc (length bytes) + count seen ≡ length rest + count set)
    (λ t e. let z = absent seen.operand_size (and_parts (byte == 0x66) (not seen.operand_size) t).1 in
    raised (length bytes) (count seen) (count (record seen { operand_size = true })) _ (omega arith) (legacy_length (record seen { operand_size = true }) bytes set rest e))
    (choice ((byte == 0xF2) && not (seen.repne || seen.rep)) _ _ _ (suc (length bytes) + count seen ≡ length rest + count set)
    (λ t e. let z = both_absent seen.repne seen.rep (and_parts (byte == 0xF2) (not (seen.repne || seen.rep)) t).1 in
    raised (length bytes) (count seen) (count (record seen { repne = true })) _ (omega arith) (legacy_length (record seen { repne = true }) bytes set rest e))
    (choice ((byte == 0xF3) && not (seen.repne || seen.rep)) _ _ _ (suc (length bytes) + count seen ≡ length rest + count set)
    (λ t e. let z = both_absent seen.repne seen.rep (and_parts (byte == 0xF3) (not (seen.repne || seen.rep)) t).1 in
    raised (length bytes) (count seen) (count (record seen { rep = true })) _ (omega arith) (legacy_length (record seen { rep = true }) bytes set rest e))
    (λ e. ap (λ (z : LegacySet × List ℕ). length z.1 + count z.0) e)))) h

rex_length : (bytes : List ℕ) (o : Option Rex) (rest : List ℕ) → rex_at bytes ≡ (o, rest) → length bytes ≡ length rest + one (is_some o)
unfolding rex_at one
rex_length [] o rest h = let e = ap (λ (z : Option Rex × List ℕ). length z.1 + one (is_some z.0)) h in omega arith
rex_length (byte ∷ bytes) o rest h = choice (byte / 16 == 4) _ _ _ (suc (length bytes) ≡ length rest + one (is_some o))
    (λ t e. let q = ap (λ (z : Option Rex × List ℕ). length z.1 + one (is_some z.0)) e in omega arith)
    (λ e. let q = ap (λ (z : Option Rex × List ℕ). length z.1 + one (is_some z.0)) e in omega arith) h

vex_length : (bytes : List ℕ) (v : Vex × List ℕ) → vex_at bytes ≡ Some v → Within bytes v.1 3
unfolding vex_at
vex_length [] v h = cc
vex_length (byte ∷ []) v h = cc
vex_length (byte ∷ second ∷ []) v h = either_from (byte == 0xC5) _ _ v (Within (byte ∷ second ∷ []) v.1 3)
    (λ e. let q = ap (λ (z : Vex × List ℕ). length z.1) (some_same _ _ e) in record { part = omega arith; close = omega arith })
    (λ e. cc) h
vex_length (byte ∷ second ∷ third ∷ bytes) v h = either_from (byte == 0xC5) _ _ v (Within (byte ∷ second ∷ third ∷ bytes) v.1 3)
    (λ e. let q = ap (λ (z : Vex × List ℕ). length z.1) (some_same _ _ e) in record { part = omega arith; close = omega arith })
    (either_from ((byte == 0xC4) && is_vex_map (second % 32)) _ _ v (Within (byte ∷ second ∷ third ∷ bytes) v.1 3)
    (λ e. let q = ap (λ (z : Vex × List ℕ). length z.1) (some_same _ _ e) in record { part = omega arith; close = omega arith })
    (λ e. cc)) h

prefix_size : Prefix → ℕ
prefix_size (legacy_prefix set rex) = count set + one (is_some rex)
prefix_size (vex_prefix vex) = 3

not_or : (a b : Bool) → not (a || b) ≡ true → (not a ≡ true) × (not b ≡ true)
not_or true b h = cc
not_or false b h = (refl, h)

none_counted : (set : LegacySet) → is_no_legacy set ≡ true → count set ≡ 0
unfolding count
none_counted set h =
    let p = not_or set.lock _ h in
    let q = not_or set.operand_size _ p.1 in
    let r = not_or set.repne set.rep q.1 in
    let a = absent set.lock p.0 in
    let b = absent set.operand_size q.0 in
    let c = absent set.repne r.0 in
    let d = absent set.rep r.1 in
    omega arith

after_vex_length : (bytes : List ℕ) (o : Option (Vex × List ℕ)) (p : Prefix × List ℕ) → ((v : Vex × List ℕ) → o ≡ Some v → Within bytes v.1 3) → after_vex o ≡ Some p → Within bytes p.1 (prefix_size p.0)
unfolding prefix_size
after_vex_length bytes None p w h = cc
after_vex_length bytes (Some v) p w h =
    let e : ◌≡◌ {A = Prefix × List ℕ} (vex_prefix v.0, v.1) p = some_same _ _ h in
    let l = w v refl in
    let s = ap (λ (z : Prefix × List ℕ). prefix_size z.0) e in
    let r = ap (λ (z : Prefix × List ℕ). length z.1) e in
    record { part = omega arith; close = omega arith }

prefix_by : (bytes : List ℕ) (set : LegacySet) (rest : List ℕ) (p : Prefix × List ℕ) → length bytes ≡ length rest + count set → (if is_no_legacy set && begins_vex rest then after_vex (vex_at rest) else after_legacy set (rex_at rest)) ≡ Some p → Within bytes p.1 (prefix_size p.0)
unfolding prefix_size
prefix_by bytes set rest p l h = choice (is_no_legacy set && begins_vex rest) _ _ _ (Within bytes p.1 (prefix_size p.0))
    (λ t e.
    let z = none_counted set (and_parts (is_no_legacy set) (begins_vex rest) t).0 in
    let w = after_vex_length rest (vex_at rest) p (vex_length rest) e in
    record { part = omega arith; close = omega arith })
    (λ e.
    let q = some_same _ _ e in
    let r = rex_length rest (rex_at rest).0 (rex_at rest).1 refl in
    let s = ap (λ (z : Prefix × List ℕ). prefix_size z.0) q in
    let m = ap (λ (z : Prefix × List ℕ). length z.1) q in
    record { part = omega arith; close = omega arith }) h

prefix_length : (bytes : List ℕ) (p : Prefix × List ℕ) → prefix_at bytes ≡ Some p → Within bytes p.1 (prefix_size p.0)
unfolding prefix_at one count
prefix_length bytes p h =
    let l = legacy_length no_legacy bytes (legacy_at no_legacy bytes).0 (legacy_at no_legacy bytes).1 refl in
    prefix_by bytes (legacy_at no_legacy bytes).0 (legacy_at no_legacy bytes).1 p (omega arith) h

-- a prefix that fits is no longer than the row's

may_have : (rex : Bool) (o : Option Rex) → rex || not (is_some o) ≡ true → one (is_some o) ≤ one rex
unfolding one
may_have true None h = omega arith
may_have true (Some rex) h = omega arith
may_have false None h = omega arith
may_have false (Some rex) h = cc

prefix_fits : (field : PrefixField) (p : Prefix) → field_matches field p ≡ true → prefix_size p ≤ prefix_most field
unfolding prefix_size prefix_most
prefix_fits (LegacyField set rex) (legacy_prefix found byte) h =
    let p = and_parts (same_legacy set found) (rex || not (is_some byte)) h in
    let e = ap count (legacy_same set found p.0) in
    let m = may_have rex byte p.1 in
    omega arith
prefix_fits (LegacyField set rex) (vex_prefix found) h = cc
prefix_fits (VexField pp map l vvvv) (legacy_prefix found byte) h = cc
prefix_fits (VexField pp map l vvvv) (vex_prefix found) h = omega arith

after_length : (opcode bytes rest : List ℕ) → after opcode bytes ≡ Some rest → length bytes ≡ length rest + length opcode
unfolding after
after_length [] bytes rest h = let e = ap (λ (z : List ℕ). length z) (some_same _ _ h) in omega arith
after_length (c ∷ opcode) [] rest h = cc
after_length (c ∷ opcode) (byte ∷ bytes) rest h = let l = after_length opcode bytes rest (some_if (c == byte) (after opcode bytes) rest h).1 in omega arith

imm_length : (field : ImmField) (bytes : List ℕ) (i : Option ℤ × List ℕ) → imm_at field bytes ≡ Some i → length bytes ≡ length i.1 + imm_size field
unfolding imm_size
imm_length NoImm bytes i h = let e = ap (λ (z : Option ℤ × List ℕ). length z.1) (some_same _ _ h) in omega arith
imm_length (Imm size) bytes i h =
    let m = mapped_from _ (number_at size bytes) i h in
    let l = number_length size bytes m.0 m.1 in
    let e = ap (λ (z : Option ℤ × List ℕ). length z.1) m.2 in
    omega arith
imm_length (Simm size) bytes i h =
    let m = mapped_from _ (number_at size bytes) i h in
    let l = number_length size bytes m.0 m.1 in
    let e = ap (λ (z : Option ℤ × List ℕ). length z.1) m.2 in
    omega arith

operands_length : {K : Type 0} (tail : TailField) (key : K) (line : Line) (p : Prefix) (bytes : List ℕ) (found : FoundOf K) → operands_of tail key line p bytes ≡ Some found → Within bytes found.rest (tail_most tail + imm_size line.imm)
unfolding tail_most
operands_length {K} NoTail key line p bytes found h =
    let m = mapped_from _ (imm_at line.imm bytes) found h in
    let l = imm_length line.imm bytes m.0 m.1 in
    let e = ap (λ (z : FoundOf K). length z.rest) m.2 in
    record { part = omega arith; close = omega arith }
operands_length {K} (Modrm reg field) key line p bytes found h =
    let t = chained_from _ (read_tail (x_of p) (b_of p) 1 bytes) found h in
    let a = chained_from _ (place_at field p t.0.place) found t.2 in
    let m = mapped_from _ (imm_at line.imm t.0.rest) found a.2 in
    let w = tail_length (x_of p) (b_of p) 1 bytes t.0 t.1 in
    let l = imm_length line.imm t.0.rest m.0 m.1 in
    let e = ap (λ (z : FoundOf K). length z.rest) m.2 in
    record { part = omega arith; close = omega arith }

le_of : (a b : ℕ) → nat_le a b ≡ true → a ≤ b
le_of a b h = grind (arith, nat_tests)

total : (line : Line) → is_short line ≡ true → (prefix_most line.prefix + length (opcode_bytes line.opcode) + tail_most line.tail + imm_size line.imm ≤ 13) × (1 ≤ length (opcode_bytes line.opcode))
unfolding line_most is_short
total line h =
    let s = and_parts (nat_le (line_most line) 13 && nat_le 1 (length (opcode_bytes line.opcode))) (has_size line.imm) h in
    let p = and_parts (nat_le (line_most line) 13) (nat_le 1 (length (opcode_bytes line.opcode))) s.0 in
    (le_of _ 13 p.0, le_of 1 _ p.1)

-- what is found of a line takes one to thirteen bytes
pub steps_length : {K : Type 0} (key : K) (line : Line) (p : Prefix) (bytes left rest : List ℕ) (found : FoundOf K) → is_short line ≡ true → prefix_at bytes ≡ Some (p, left) → matched_at line p left ≡ Some rest → operands_of line.tail key line p rest ≡ Some found → (1 + length found.rest ≤ length bytes) × (length bytes ≤ 13 + length found.rest)
steps_length key line p bytes left rest found short hp hm ho =
    let f = some_if (prefix_matches line p) (opcode_at line left) rest hm in
    let b = behind line left rest f.1 in
    let k = and_parts (field_matches line.prefix p) _ f.0 in
    let w = prefix_length bytes (p, left) hp in
    let z = prefix_fits line.prefix p k.0 in
    let a = after_length (opcode_bytes line.opcode) left rest b.opcode in
    let o = operands_length line.tail key line p rest found ho in
    let t = total line short in
    (omega arith, omega arith)

size_of : (field : ImmField) → has_size field ≡ true → HasSize field
unfolding has_size
size_of NoImm h = tt
size_of (Imm size) h = let p = and_parts (nat_le 1 size) (nat_le size 4) h in (le_of 1 size p.0, le_of size 4 p.1)
size_of (Simm size) h = let p = and_parts (nat_le 1 size) (nat_le size 4) h in (le_of 1 size p.0, le_of size 4 p.1)

pub line_size : (line : Line) → is_short line ≡ true → HasSize line.imm
unfolding is_short
line_size line h = size_of line.imm (and_parts (nat_le (line_most line) 13 && nat_le 1 (length (opcode_bytes line.opcode))) (has_size line.imm) h).1
