use Rattle.std.proofs.Common.{◌≡◌, ℕ, ◌+◌, ◌/◌, arith, List, [], ◌∷◌, length, Bool, true, false, Option, Some, None, refl, ap}
use Rattle.std.specs.Prelude.{not, ◌==◌, ◌&&◌, ◌||◌, if◌then◌else◌}
use Rattle.cax64_machine_code.specs.declared.line.LegacySet.{LegacySet}
use Rattle.cax64_machine_code.specs.Prefix.{no_legacy, legacy_at, Rex, rex_of, rex_at, Vex, Prefix, legacy_prefix, vex_prefix, prefix_at, begins_vex, is_no_legacy, after_vex, after_legacy, vex_at}
use Rattle.cax64_prefix.specs.Rex.{rex_bytes}
use Rattle.cax64_prefix.proofs.VexBits.{TwoOrThree, two_or_three}

-- how many prefixes a set has
abbrev pub legacy_count : LegacySet → ℕ
legacy_count l = (if l.lock then 1 else 0) + ((if l.operand_size then 1 else 0) + ((if l.repne then 1 else 0) + (if l.rep then 1 else 0)))

-- a set, and what follows, have a length
abbrev spread : LegacySet × List ℕ → ℕ
spread found = length found.1 + legacy_count found.0

and_true : (a b : Bool) → (a && b) ≡ true → b ≡ true
and_true true b h = h
and_true false b h = cc

free : (a b : Bool) → (a && not b) ≡ true → b ≡ false
free a true h = let bad : false ≡ true = and_true a false h in cc
free a false h = refl

free_both : (a b d : Bool) → (a && not (b || d)) ≡ true → (b ≡ false) × (d ≡ false)
free_both a true d h = let bad : false ≡ true = and_true a false h in cc
free_both a false true h = let bad : false ≡ true = and_true a false h in cc
free_both a false false h = (refl, refl)

with_lock : (l : LegacySet) → l.lock ≡ false → legacy_count (record l { lock = true }) ≡ legacy_count l + 1
with_lock l h = rw h (omega arith)

with_operand_size : (l : LegacySet) → l.operand_size ≡ false → legacy_count (record l { operand_size = true }) ≡ legacy_count l + 1
with_operand_size l h = rw h (omega arith)

with_repne : (l : LegacySet) → l.repne ≡ false → legacy_count (record l { repne = true }) ≡ legacy_count l + 1
with_repne l h = rw h (omega arith)

with_rep : (l : LegacySet) → l.rep ≡ false → legacy_count (record l { rep = true }) ≡ legacy_count l + 1
with_rep l h = rw h (omega arith)

chosen : (test : Bool) (found other : LegacySet × List ℕ) (n : ℕ) → (test ≡ true → spread found ≡ n) → spread other ≡ n → spread (if test then found else other) ≡ n
chosen true found other n h k = h refl
chosen false found other n h k = k

-- what the legacy prefixes at a front and what follows them make up
pub spread_is : (seen : LegacySet) (bytes : List ℕ) → spread (legacy_at seen bytes) ≡ length bytes + legacy_count seen
unfolding legacy_at
spread_is seen [] = refl
spread_is seen (byte ∷ bytes) =
    chosen ((byte == 0xF0) && not seen.lock) _ _ _ (λ t. let e = with_lock seen (free _ seen.lock t) in let ih = spread_is (record seen { lock = true }) bytes in omega arith)
    (chosen ((byte == 0x66) && not seen.operand_size) _ _ _ (λ t. let e = with_operand_size seen (free _ seen.operand_size t) in let ih = spread_is (record seen { operand_size = true }) bytes in omega arith)
    (chosen ((byte == 0xF2) && not (seen.repne || seen.rep)) _ _ _ (λ t. let f = free_both _ seen.repne seen.rep t in let e = with_repne seen f.0 in let ih = spread_is (record seen { repne = true }) bytes in omega arith)
    (chosen ((byte == 0xF3) && not (seen.repne || seen.rep)) _ _ _ (λ t. let f = free_both _ seen.repne seen.rep t in let e = with_rep seen f.1 in let ih = spread_is (record seen { rep = true }) bytes in omega arith)
    refl)))

abbrev rest_and_rex : Option Rex × List ℕ → ℕ
rest_and_rex found = length found.1 + length (rex_bytes found.0)

rex_by_test : (test : Bool) (byte : ℕ) (bytes : List ℕ) → length (byte ∷ bytes) ≡ rest_and_rex (if test then (Some (rex_of byte), bytes) else (None, byte ∷ bytes))
rex_by_test true byte bytes = omega arith
rex_by_test false byte bytes = omega arith

-- a REX byte and what follows it
pub rex_at-length : (bytes : List ℕ) → length bytes ≡ rest_and_rex (rex_at bytes)
unfolding rex_at
rex_at-length [] = refl
rex_at-length (byte ∷ bytes) = rex_by_test (byte / 16 == 4) byte bytes

abbrev read : Prefix → List ℕ → Prefix × List ℕ
read prefix rest = (prefix, rest)

same_prefix : (p q : Prefix) (s t : List ℕ) → Some (read p s) ≡ Some (read q t) → p ≡ q
same_prefix p q s t h = let e : read p s ≡ read q t = cc in ap (λ x. x.0) e

same_rest : (p q : Prefix) (s t : List ℕ) → Some (read p s) ≡ Some (read q t) → s ≡ t
same_rest p q s t h = let e : read p s ≡ read q t = cc in ap (λ x. x.1) e

not_after_vex : (found : Option (Vex × List ℕ)) (l : LegacySet) (rex : Option Rex) (rest : List ℕ) → after_vex found ≡ Some (read (legacy_prefix l rex) rest) → ⊥
not_after_vex None l rex rest h = cc
not_after_vex (Some found) l rex rest h = let e : vex_prefix found.0 ≡ legacy_prefix l rex = same_prefix (vex_prefix found.0) (legacy_prefix l rex) found.1 rest h in cc

legacy_by_test : (test : Bool) (vex : Option (Vex × List ℕ)) (seen l : LegacySet) (left : Option Rex × List ℕ) (rex : Option Rex) (rest : List ℕ) (n m : ℕ) → m + legacy_count seen ≡ n → m ≡ rest_and_rex left → (if test then after_vex vex else after_legacy seen left) ≡ Some (read (legacy_prefix l rex) rest) → n ≡ legacy_count l + length (rex_bytes rex) + length rest
legacy_by_test true vex seen l left rex rest n m e f h = absurd (not_after_vex vex l rex rest h)
legacy_by_test false vex seen l left rex rest n m e f h =
    let p : legacy_prefix seen left.0 ≡ legacy_prefix l rex = same_prefix (legacy_prefix seen left.0) (legacy_prefix l rex) left.1 rest h in
    let set : seen ≡ l = cc in
    let byte : left.0 ≡ rex = cc in
    let same : left.1 ≡ rest = same_rest (legacy_prefix seen left.0) (legacy_prefix l rex) left.1 rest h in
    rw (← set, ← byte, ← same) (omega arith)

-- a prefix without VEX has the length of its legacy prefixes and its REX byte
pub legacy_length : (bytes rest : List ℕ) (l : LegacySet) (rex : Option Rex) → prefix_at bytes ≡ Some (legacy_prefix l rex, rest) → length bytes ≡ legacy_count l + length (rex_bytes rex) + length rest
unfolding prefix_at
legacy_length bytes rest l rex h =
    let found = legacy_at no_legacy bytes in
    let e : length found.1 + legacy_count found.0 ≡ length bytes = omega (arith, spread_is no_legacy bytes) in
    legacy_by_test (is_no_legacy found.0 && begins_vex found.1) (vex_at found.1) found.0 l (rex_at found.1) rex rest (length bytes) (length found.1) e (rex_at-length found.1) h

and_first : (a b : Bool) → (a && b) ≡ true → a ≡ true
and_first true b h = refl
and_first false b h = cc

none_counted : (lock operand_size repne rep : Bool) → not (lock || (operand_size || (repne || rep))) ≡ true → legacy_count (record { lock = lock; operand_size = operand_size; repne = repne; rep = rep }) ≡ 0
none_counted false false false false h = refl
none_counted true operand_size repne rep h = cc
none_counted false true repne rep h = cc
none_counted false false true rep h = cc
none_counted false false false true h = cc

vex_found : (found : Option (Vex × List ℕ)) (vex : Vex) (rest : List ℕ) → after_vex found ≡ Some (read (vex_prefix vex) rest) → found ≡ Some (vex, rest)
vex_found None vex rest h = cc
vex_found (Some found) vex rest h =
    let p : vex_prefix found.0 ≡ vex_prefix vex = same_prefix (vex_prefix found.0) (vex_prefix vex) found.1 rest h in
    let is : found.0 ≡ vex = cc in
    let same : found.1 ≡ rest = same_rest (vex_prefix found.0) (vex_prefix vex) found.1 rest h in
    rw (← is, ← same) refl

vex_by_test : (test : Bool) (seen : LegacySet) (left bytes rest : List ℕ) (vex : Vex) (found : Option Rex × List ℕ) → (test ≡ true → is_no_legacy seen ≡ true) → length left + legacy_count seen ≡ length bytes → (if test then after_vex (vex_at left) else after_legacy seen found) ≡ Some (read (vex_prefix vex) rest) → TwoOrThree bytes rest vex
vex_by_test true seen left bytes rest vex found none e h =
    let n : legacy_count seen ≡ 0 = none_counted seen.lock seen.operand_size seen.repne seen.rep (none refl) in
    let same : length left ≡ length bytes = omega arith in
    let k = two_or_three left rest vex (vex_found (vex_at left) vex rest h) in
    record { either = rw same at k.either }
vex_by_test false seen left bytes rest vex found none e h =
    let p : legacy_prefix seen found.0 ≡ vex_prefix vex = same_prefix (legacy_prefix seen found.0) (vex_prefix vex) found.1 rest h in cc

-- a VEX prefix stands at the very front, and has two bytes, where they hold it, or three
pub vex_taken : (bytes rest : List ℕ) (vex : Vex) → prefix_at bytes ≡ Some (vex_prefix vex, rest) → TwoOrThree bytes rest vex
unfolding prefix_at
vex_taken bytes rest vex h =
    let found = legacy_at no_legacy bytes in
    let e : length found.1 + legacy_count found.0 ≡ length bytes = omega (arith, spread_is no_legacy bytes) in
    vex_by_test (is_no_legacy found.0 && begins_vex found.1) found.0 found.1 bytes rest vex (rex_at found.1) (and_first (is_no_legacy found.0) (begins_vex found.1)) e h
