use Rattle.std.proofs.Common.{◌≡◌, ℕ, List, [], ◌∷◌, Bool, true, false, refl, ap, Option, Some, None}
use Rattle.std.specs.Prelude.{◌==◌, ◌||◌, not, if◌then◌else◌, option_map}
use Rattle.std.proofs.lemmas.Option.{same_Some}
use Rattle.cax64_machine_code.specs.Line.{after, opcode_bytes}
use Rattle.cax64_machine_code.specs.declared.line.Opcode.{Opcode}
use Rattle.cax64_machine_code.proofs.Uniqueness.{some_if}
use Rattle.cax64_table.specs.Cursor.{escaped_opcode, front_opcode, next_byte, plain_opcode}
use Rattle.cax64_table.proofs.PrefixNumbers.{equal, itself}

-- the parts of what is read
pub parts_same : {A B : Type 0} (a c : A) (b d : B) → ◌≡◌ {A = Option (A × B)} (Some (a, b)) (Some (c, d)) → (a ≡ c) × (b ≡ d)
parts_same {A} {B} a c b d e = let h : ◌≡◌ {A = A × B} (a, b) (c, d) = same_Some _ _ e in (ap (λ (z : A × B). z.0) h, ap (λ (z : A × B). z.1) h)

-- the opcode that is read at the front stands there

escaped_stands : (bytes rest : List ℕ) (o : Opcode) → option_map {T = ℕ × List ℕ} {U = Opcode × List ℕ} (λ second. (escaped_opcode second.0, second.1)) (next_byte bytes) ≡ Some (o, rest) → after (opcode_bytes o) (0x0F ∷ bytes) ≡ Some rest
unfolding after
escaped_stands [] rest o h = cc
escaped_stands (byte ∷ bytes) rest o h =
    let p = parts_same (escaped_opcode byte) o bytes rest h in
    rw (← p.0, itself byte, p.1) refl

first_stands : (byte : ℕ) (bytes rest : List ℕ) (o : Opcode) (t : Bool) → (byte == 0x0F) ≡ t → ◌≡◌ {A = Option (Opcode × List ℕ)} (if◌then◌else◌ {A = Option (Opcode × List ℕ)} t (option_map {T = ℕ × List ℕ} {U = Opcode × List ℕ} (λ second. (escaped_opcode second.0, second.1)) (next_byte bytes)) (Some (plain_opcode byte, bytes))) (Some (o, rest)) → after (opcode_bytes o) (byte ∷ bytes) ≡ Some rest
unfolding after
first_stands byte bytes rest o true e h = rw (equal byte 0x0F e) (escaped_stands bytes rest o h)
first_stands byte bytes rest o false e h =
    let p = parts_same (plain_opcode byte) o bytes rest h in
    rw (← p.0, itself byte, p.1) refl

pub front_stands : (bytes rest : List ℕ) (o : Opcode) → front_opcode bytes ≡ Some (o, rest) → after (opcode_bytes o) bytes ≡ Some rest
front_stands [] rest o h = cc
front_stands (byte ∷ bytes) rest o h = first_stands byte bytes rest o (byte == 0x0F) refl h

-- where an opcode isn't 0F alone, the one that stands at the front is the one that is read

unfoldable pub is_clean : Bool → ℕ → Bool
is_clean escape byte = escape || not (byte == 0x0F)

not_false : (t : Bool) → not t ≡ true → t ≡ false
not_false true h = cc
not_false false h = refl

pub front_read : (escape : Bool) (byte : ℕ) (bytes rest : List ℕ) → is_clean escape byte ≡ true → after (opcode_bytes (record { escape = escape; byte = byte })) bytes ≡ Some rest → ◌≡◌ {A = Option (Opcode × List ℕ)} (front_opcode bytes) (Some (record { escape = escape; byte = byte }, rest))
unfolding after is_clean
front_read true byte [] rest c h = cc
front_read true byte (first ∷ []) rest c h = let p = some_if (0x0F == first) None rest h in cc
front_read true byte (first ∷ second ∷ bytes) rest c h =
    let p = some_if (0x0F == first) (if byte == second then Some bytes else None) rest h in
    let q = some_if (byte == second) (Some bytes) rest p.1 in
    let left : bytes ≡ rest = cc in
    rw (← equal 0x0F first p.0, ← equal byte second q.0, left) refl
front_read false byte [] rest c h = cc
front_read false byte (first ∷ bytes) rest c h =
    let p = some_if (byte == first) (Some bytes) rest h in
    let left : bytes ≡ rest = cc in
    rw (← equal byte first p.0, not_false (byte == 0x0F) c, left) refl
