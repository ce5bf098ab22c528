use Rattle.std.proofs.Common.{◌≡◌, ℕ, suc, arith, List, [], ◌∷◌, Bool, true, false, refl, ◌∙◌, ap, sym, Option, Some, None, ◌⊎◌, inl, inr, length}
use Rattle.std.specs.Prelude.{◌==◌, ◌&&◌, ◌||◌, not, if◌then◌else◌, is_some, option_and_then}
use Rattle.std.proofs.lemmas.Bool.{and_parts}
use Rattle.std.proofs.lemmas.Bool.Decides.{nat_tests}
use Rattle.cax64_machine_code.specs.Fields.{reg_of}
use Rattle.cax64_machine_code.specs.Prefix.{Prefix, legacy_prefix, vex_prefix, w_of}
use Rattle.cax64_machine_code.specs.Line.{same_bool, same_legacy, w_matches, field_matches, prefix_matches, after, reg_matches, digit_matches, opcode_at, opcode_bytes}
use Rattle.cax64_machine_code.specs.declared.line.LegacySet.{LegacySet}
use Rattle.cax64_machine_code.specs.declared.line.Line.{Line}
use Rattle.cax64_machine_code.specs.declared.line.PrefixField.{PrefixField}
use Rattle.cax64_machine_code.specs.declared.line.RegField.{RegField}
use Rattle.cax64_machine_code.specs.declared.line.TailField.{TailField}
use Rattle.cax64_machine_code.specs.declared.line.PrefixField.TheVariants.{LegacyField, VexField}
use Rattle.cax64_machine_code.specs.declared.line.RegField.TheVariants.{Digit, Register8, Register}
use Rattle.cax64_machine_code.specs.declared.line.TailField.TheVariants.{NoTail, Modrm}
use Rattle.cax64_machine_code.specs.Apart.{prefix_apart, w_apart, bytes_apart, reg_apart, digit_apart, apart}
use Rattle.cax64_machine_code.proofs.Apart.{apart_from_all, all_apart}
use Rattle.cax64_machine_code.specs.Reading.{matched_at}
use Rattle.cax64_machine_code.specs.Rows.{line_of, all_rows}
use Rattle.cax64_machine_code.specs.declared.row.Row.{Row}
use Rattle.cax64_machine_code.proofs.Table.{table_apart, IsIn, here, there, row_is_in}

equal : (a b : ℕ) → (a == b) ≡ true → a ≡ b
equal a b h = grind (arith, nat_tests)

itself : (a : ℕ) → (a == a) ≡ true
itself a = grind (arith, nat_tests)

-- a test that something was read under
pub some_if : {A : Type 0} (t : Bool) (x : Option A) (r : A) → (if t then x else None) ≡ Some r → (t ≡ true) × (x ≡ Some r)
some_if true x r h = (refl, h)
some_if false x r h = cc

bool_same : (a b : Bool) → same_bool a b ≡ true → a ≡ b
bool_same true true h = refl
bool_same true false h = cc
bool_same false true h = cc
bool_same false false h = refl

bool_self : (a : Bool) → same_bool a a ≡ true
bool_self true = refl
bool_self false = refl

legacy_rebuilt : (a a' b b' c c' d d' : Bool) → a ≡ a' → b ≡ b' → c ≡ c' → d ≡ d' → ◌≡◌ {A = LegacySet} (record { lock = a; operand_size = b; repne = c; rep = d }) (record { lock = a'; operand_size = b'; repne = c'; rep = d' })
legacy_rebuilt a a' b b' c c' d d' e1 e2 e3 e4 = rw (e1, e2, e3, e4) refl

pub legacy_same : (a b : LegacySet) → same_legacy a b ≡ true → a ≡ b
legacy_same a b h =
    let p = and_parts (same_bool a.lock b.lock) (same_bool a.operand_size b.operand_size && (same_bool a.repne b.repne && same_bool a.rep b.rep)) h in
    let q = and_parts (same_bool a.operand_size b.operand_size) (same_bool a.repne b.repne && same_bool a.rep b.rep) p.1 in
    let r = and_parts (same_bool a.repne b.repne) (same_bool a.rep b.rep) q.1 in
    legacy_rebuilt a.lock b.lock a.operand_size b.operand_size a.repne b.repne a.rep b.rep (bool_same a.lock b.lock p.0) (bool_same a.operand_size b.operand_size q.0) (bool_same a.repne b.repne r.0) (bool_same a.rep b.rep r.1)

pub legacy_self : (a : LegacySet) → same_legacy a a ≡ true
legacy_self a = rw (bool_self a.lock, bool_self a.operand_size, bool_self a.repne, bool_self a.rep) refl

no_true : true ≡ false → ⊥
no_true h = cc

not_true : (t : Bool) → t ≡ true → not t ≡ true → ⊥
not_true true e h = cc
not_true false e h = cc

set_excluded : (a b found : LegacySet) → same_legacy a found ≡ true → same_legacy b found ≡ true → not (same_legacy a b) ≡ true → ⊥
set_excluded a b found h k n =
    let e : a ≡ b = legacy_same a found h ∙ sym (legacy_same b found k) in
    not_true (same_legacy a b) (ap (λ x. same_legacy x b) e ∙ legacy_self b) n

number_excluded : (found a b : ℕ) → (found == a) ≡ true → (found == b) ≡ true → not (a == b) ≡ true → ⊥
number_excluded found a b h k n =
    let e : a ≡ b = sym (equal found a h) ∙ equal found b k in
    not_true (a == b) (ap (λ x. x == b) e ∙ itself b) n

or_true : (a b : Bool) → (a || b) ≡ true → (a ≡ true) ⊎ (b ≡ true)
or_true true b h = inl refl
or_true false b h = inr h

vex_excluded : (f1 f2 f3 : ℕ) (v1 v2 : Bool) (a1 a2 a3 b1 b2 b3 : ℕ) → ((f1 == a1) && ((f2 == a2) && ((f3 == a3) && v1))) ≡ true → ((f1 == b1) && ((f2 == b2) && ((f3 == b3) && v2))) ≡ true → (not (a1 == b1) || (not (a2 == b2) || not (a3 == b3))) ≡ true → ⊥
vex_excluded f1 f2 f3 v1 v2 a1 a2 a3 b1 b2 b3 h k n =
    let h1 = and_parts (f1 == a1) ((f2 == a2) && ((f3 == a3) && v1)) h in
    let h2 = and_parts (f2 == a2) ((f3 == a3) && v1) h1.1 in
    let h3 = and_parts (f3 == a3) v1 h2.1 in
    let k1 = and_parts (f1 == b1) ((f2 == b2) && ((f3 == b3) && v2)) k in
    let k2 = and_parts (f2 == b2) ((f3 == b3) && v2) k1.1 in
    let k3 = and_parts (f3 == b3) v2 k2.1 in
    elim (or_true (not (a1 == b1)) (not (a2 == b2) || not (a3 == b3)) n) as (λ _. ⊥) [
      | inl n1 ↦ number_excluded f1 a1 b1 h1.0 k1.0 n1
      | inr m ↦ elim (or_true (not (a2 == b2)) (not (a3 == b3)) m) as (λ _. ⊥) [
        | inl n2 ↦ number_excluded f2 a2 b2 h2.0 k2.0 n2
        | inr n3 ↦ number_excluded f3 a3 b3 h3.0 k3.0 n3
      ]
    ]

prefix_excluded : (a b : PrefixField) (p : Prefix) → prefix_apart a b ≡ true → field_matches a p ≡ true → field_matches b p ≡ true → ⊥
prefix_excluded (LegacyField set rex) (LegacyField other may) (legacy_prefix found byte) n h k =
    set_excluded set other found (and_parts (same_legacy set found) (rex || not (is_some byte)) h).0 (and_parts (same_legacy other found) (may || not (is_some byte)) k).0 n
prefix_excluded (LegacyField set rex) other (vex_prefix found) n h k = no_true (sym h)
prefix_excluded (LegacyField set rex) (VexField pp map l v) (legacy_prefix found byte) n h k = no_true (sym k)
prefix_excluded (VexField pp map l v) other (legacy_prefix found byte) n h k = no_true (sym h)
prefix_excluded (VexField pp map l v) (LegacyField set rex) (vex_prefix found) n h k = no_true (sym k)
prefix_excluded (VexField pp map l v) (VexField qq other m w) (vex_prefix found) n h k = vex_excluded found.pp found.map found.l _ _ pp map l qq other m h k n

w_excluded : (a b : Option ℕ) (w : ℕ) → w_apart a b ≡ true → w_matches a w ≡ true → w_matches b w ≡ true → ⊥
w_excluded None b w n h k = no_true (sym n)
w_excluded (Some v) None w n h k = no_true (sym n)
w_excluded (Some v) (Some u) w n h k =
    let e : v ≡ u = equal v w h ∙ sym (equal u w k) in
    not_true (v == u) (ap (λ x. x == u) e ∙ itself u) n

bytes_excluded : (xs ys bytes r s : List ℕ) → bytes_apart xs ys ≡ true → after xs bytes ≡ Some r → after ys bytes ≡ Some s → ⊥
unfolding after
bytes_excluded [] ys bytes r s n h k = no_true (sym n)
bytes_excluded (x ∷ xs) [] bytes r s n h k = no_true (sym n)
bytes_excluded (x ∷ xs) (y ∷ ys) [] r s n h k = cc
bytes_excluded (x ∷ xs) (y ∷ ys) (c ∷ bytes) r s n h k =
    let p = some_if (x == c) (after xs bytes) r h in
    let q = some_if (y == c) (after ys bytes) s k in
    let e : x ≡ y = equal x c p.0 ∙ sym (equal y c q.0) in
    elim (or_true (not (x == y)) (bytes_apart xs ys) n) as (λ _. ⊥) [
      | inl m ↦ not_true (x == y) (ap (λ z. z == y) e ∙ itself y) m
      | inr m ↦ bytes_excluded xs ys bytes r s m p.1 q.1
    ]

suc_same : (m n : ℕ) → suc m ≡ suc n → m ≡ n
suc_same m n e = omega arith

after_same : (xs ys bytes r s : List ℕ) → length xs ≡ length ys → after xs bytes ≡ Some r → after ys bytes ≡ Some s → r ≡ s
unfolding after
after_same [] [] bytes r s n h k = cc
after_same [] (y ∷ ys) bytes r s n h k = absurd (omega arith)
after_same (x ∷ xs) [] bytes r s n h k = absurd (omega arith)
after_same (x ∷ xs) (y ∷ ys) [] r s n h k = cc
after_same (x ∷ xs) (y ∷ ys) (c ∷ bytes) r s n h k =
    after_same xs ys bytes r s (suc_same _ _ n) (some_if (x == c) (after xs bytes) r h).1 (some_if (y == c) (after ys bytes) s k).1

reg_excluded : (a b : RegField) (byte : ℕ) → reg_apart a b ≡ true → reg_matches a byte ≡ true → reg_matches b byte ≡ true → ⊥
reg_excluded (Digit d) (Digit e) byte n h k = number_excluded (reg_of byte) d e h k n
reg_excluded (Digit d) Register8 byte n h k = no_true (sym n)
reg_excluded (Digit d) Register byte n h k = no_true (sym n)
reg_excluded Register8 b byte n h k = no_true (sym n)
reg_excluded Register b byte n h k = no_true (sym n)

digit_excluded : (a b : TailField) (bytes : List ℕ) → digit_apart a b ≡ true → digit_matches a bytes ≡ true → digit_matches b bytes ≡ true → ⊥
digit_excluded NoTail b bytes n h k = no_true (sym n)
digit_excluded (Modrm reg place) NoTail bytes n h k = no_true (sym n)
digit_excluded (Modrm reg place) (Modrm other field) [] n h k = no_true (sym h)
digit_excluded (Modrm reg place) (Modrm other field) (byte ∷ bytes) n h k = reg_excluded reg other byte n h k

-- what stands behind the opcode, and the digit that is there
pub record Behind (line : Line) (bytes rest : List ℕ) : Type 0 where
  pub opcode : after (opcode_bytes line.opcode) bytes ≡ Some rest
  pub digit : digit_matches line.tail rest ≡ true

behind_of : (t : TailField) (o : Option (List ℕ)) (rest : List ℕ) → option_and_then (λ r. if digit_matches t r then Some r else None) o ≡ Some rest → (o ≡ Some rest) × (digit_matches t rest ≡ true)
behind_of t None rest h = cc
behind_of t (Some r) rest h =
    let p = some_if (digit_matches t r) (Some r) rest h in
    let e : r ≡ rest = cc in
    (p.1, rw e at p.0)

pub behind : (line : Line) (bytes rest : List ℕ) → opcode_at line bytes ≡ Some rest → Behind line bytes rest
behind line bytes rest h = let p = behind_of line.tail (after (opcode_bytes line.opcode) bytes) rest h in record { opcode = p.0; digit = p.1 }

opcode_excluded : (a b : Line) (bytes r s : List ℕ) → (length (opcode_bytes a.opcode) == length (opcode_bytes b.opcode)) && digit_apart a.tail b.tail ≡ true → Behind a bytes r → Behind b bytes s → ⊥
opcode_excluded a b bytes r s n h k =
    let p = and_parts (length (opcode_bytes a.opcode) == length (opcode_bytes b.opcode)) (digit_apart a.tail b.tail) n in
    let e : r ≡ s = after_same (opcode_bytes a.opcode) (opcode_bytes b.opcode) bytes r s (equal _ _ p.0) h.opcode k.opcode in
    digit_excluded a.tail b.tail s p.1 (rw e at h.digit) k.digit

-- rows that are apart don't match the same bytes
pub excluded : (a b : Line) (p : Prefix) (bytes r s : List ℕ) → apart a b ≡ true → matched_at a p bytes ≡ Some r → matched_at b p bytes ≡ Some s → ⊥
excluded a b p bytes r s n h k =
    let ha = some_if (prefix_matches a p) (opcode_at a bytes) r h in
    let kb = some_if (prefix_matches b p) (opcode_at b bytes) s k in
    let hp = and_parts (field_matches a.prefix p) (w_matches a.w (w_of p)) ha.0 in
    let kp = and_parts (field_matches b.prefix p) (w_matches b.w (w_of p)) kb.0 in
    let ho = behind a bytes r ha.1 in
    let ko = behind b bytes s kb.1 in
    elim (or_true (prefix_apart a.prefix b.prefix) _ n) as (λ _. ⊥) [
      | inl m ↦ prefix_excluded a.prefix b.prefix p m hp.0 kp.0
      | inr m1 ↦ elim (or_true (w_apart a.w b.w) _ m1) as (λ _. ⊥) [
        | inl m ↦ w_excluded a.w b.w (w_of p) m hp.1 kp.1
        | inr m2 ↦ elim (or_true (bytes_apart (opcode_bytes a.opcode) (opcode_bytes b.opcode)) _ m2) as (λ _. ⊥) [
          | inl m ↦ bytes_excluded (opcode_bytes a.opcode) (opcode_bytes b.opcode) bytes r s m ho.opcode ko.opcode
          | inr m ↦ opcode_excluded a b bytes r s m ho ko
        ]
      ]
    ]

apart_at : (a b : Row) (rows : List Row) → IsIn b rows → apart_from_all a rows ≡ true → apart (line_of a) (line_of b) ≡ true
apart_at a b [] m h = elim m [ ]
apart_at a b (c ∷ rows) here h = (and_parts (apart (line_of a) (line_of b)) (apart_from_all a rows) h).0
apart_at a b (c ∷ rows) (there k) h = apart_at a b rows k (and_parts (apart (line_of a) (line_of c)) (apart_from_all a rows) h).1

same_or_apart : (a b : Row) (rows : List Row) → all_apart rows ≡ true → IsIn a rows → IsIn b rows → (a ≡ b) ⊎ ((apart (line_of a) (line_of b) ≡ true) ⊎ (apart (line_of b) (line_of a) ≡ true))
same_or_apart a b [] h m n = elim m [ ]
same_or_apart a b (c ∷ rows) h here here = inl refl
same_or_apart a b (c ∷ rows) h here (there n) = inr (inl (apart_at a b rows n (and_parts (apart_from_all a rows) (all_apart rows) h).0))
same_or_apart a b (c ∷ rows) h (there m) here = inr (inr (apart_at b a rows m (and_parts (apart_from_all b rows) (all_apart rows) h).0))
same_or_apart a b (c ∷ rows) h (there m) (there n) = same_or_apart a b rows (and_parts (apart_from_all c rows) (all_apart rows) h).1 m n

-- a prefix and what follows it match one row at most
pub one_row : (a b : Row) (p : Prefix) (bytes r s : List ℕ) → matched_at (line_of a) p bytes ≡ Some r → matched_at (line_of b) p bytes ≡ Some s → a ≡ b
one_row a b p bytes r s h k =
    elim (same_or_apart a b all_rows table_apart (row_is_in a) (row_is_in b)) as (λ _. a ≡ b) [
      | inl e ↦ e
      | inr m ↦ elim m as (λ _. a ≡ b) [
        | inl n ↦ absurd (excluded (line_of a) (line_of b) p bytes r s n h k)
        | inr n ↦ absurd (excluded (line_of b) (line_of a) p bytes s r n k h)
      ]
    ]
