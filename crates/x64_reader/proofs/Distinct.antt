use Rattle.std.proofs.Common.{◌≡◌, ℕ, zero, suc, ◌<◌, refl, sym, ◌∙◌, Bool, true, false, List, [], ◌∷◌, length, slice_index_or, arith, Option, Some, None}
use Rattle.std.specs.Prelude.{nat_lt}
use Rattle.std.proofs.lemmas.Bool.{and_parts, ltb-true}
use Rattle.std.proofs.lemmas.Bool.Decides.{nat_tests}
use Rattle.cax64_machine_code.specs.Apart.{apart, apart_from, bytes_apart, digit_apart, each_two, prefix_apart, w_apart}
use Rattle.cax64_machine_code.specs.Line.{opcode_bytes, same_bool}
use Rattle.cax64_machine_code.specs.declared.line.Line.{Line}
use Rattle.cax64_machine_code.specs.declared.line.PrefixField.{PrefixField}
use Rattle.cax64_machine_code.specs.declared.line.PrefixField.TheVariants.{LegacyField, VexField}
use Rattle.cax64_machine_code.specs.declared.line.RegField.TheVariants.{Digit, Register8, Register}
use Rattle.cax64_machine_code.specs.declared.line.TailField.{TailField}
use Rattle.cax64_machine_code.specs.declared.line.TailField.TheVariants.{NoTail, Modrm}
use Rattle.cax64_table.proofs.PrefixNumbers.{itself}
use Rattle.x64_lines.specs.Line.{core_line, no_line}
use Rattle.x64_lines.specs.Lines.{core_lines}
use Rattle.x64_lines.specs.declared.lines.TheConstants.{COUNT}
use Rattle.x64_lines.proofs.Table.{lines_apart}
use Rattle.x64_reader.proofs.Found.{so_many_lines}

-- No line is apart from itself.

same_itself : (a : Bool) → same_bool a a ≡ true
same_itself true = refl
same_itself false = refl

prefix_itself : (field : PrefixField) → prefix_apart field field ≡ false
prefix_itself (LegacyField set rex) = rw (same_itself set.lock, same_itself set.operand_size, same_itself set.repne, same_itself set.rep) refl
prefix_itself (VexField pp map l vvvv) = rw (itself pp, itself map, itself l) refl

w_itself : (w : Option ℕ) → w_apart w w ≡ false
w_itself None = refl
w_itself (Some w) = rw (itself w) refl

bytes_itself : (bytes : List ℕ) → bytes_apart bytes bytes ≡ false
bytes_itself [] = refl
bytes_itself (byte ∷ bytes) = rw (itself byte, bytes_itself bytes) refl

digit_itself : (tail : TailField) → digit_apart tail tail ≡ false
digit_itself NoTail = refl
digit_itself (Modrm (Digit d) place) = rw (itself d) refl
digit_itself (Modrm Register8 place) = refl
digit_itself (Modrm Register place) = refl

never_itself : (line : Line) → apart line line ≡ false
never_itself line = rw (prefix_itself line.prefix, w_itself line.w, bytes_itself (opcode_bytes line.opcode), digit_itself line.tail, itself (length (opcode_bytes line.opcode))) refl

-- So the lines of two numbers are two.

apart_from_at : (line : Line) (lines : List Line) (n : ℕ) → apart_from line lines ≡ true → n < length lines → apart line (slice_index_or lines n no_line) ≡ true
apart_from_at line [] n h l = absurd (omega (arith, l))
apart_from_at line (other ∷ lines) zero h l = (and_parts (apart line other) (apart_from line lines) h).0
apart_from_at line (other ∷ lines) (suc n) h l = apart_from_at line lines n (and_parts (apart line other) (apart_from line lines) h).1 (omega (arith, l))

apart_at : (lines : List Line) (n m : ℕ) → each_two lines ≡ true → n < m → m < length lines → apart (slice_index_or lines n no_line) (slice_index_or lines m no_line) ≡ true
apart_at [] n m h l below = absurd (omega (arith, below))
apart_at (line ∷ lines) n zero h l below = absurd (omega (arith, l))
apart_at (line ∷ lines) zero (suc m) h l below = apart_from_at line lines m (and_parts (apart_from line lines) (each_two lines) h).0 (omega (arith, below))
apart_at (line ∷ lines) (suc n) (suc m) h l below = apart_at lines n m (and_parts (apart_from line lines) (each_two lines) h).1 (omega (arith, l)) (omega (arith, below))

not_below : (n m : ℕ) → n < COUNT → m < COUNT → core_line n ≡ core_line m → n < m → ⊥
not_below n m below limit same l =
    let a : apart (core_line n) (core_line m) ≡ true = apart_at core_lines n m lines_apart l (omega (arith, so_many_lines, limit)) in
    let b : apart (core_line m) (core_line m) ≡ true = rw same at a in
    let c : false ≡ true = sym (never_itself (core_line m)) ∙ b in
    cc

neither : (n m : ℕ) → (n < m → ⊥) → (m < n → ⊥) → n ≡ m
neither n m f g = by_test (nat_lt n m) (nat_lt m n) refl refl
  where
    above : (a b : ℕ) → nat_lt a b ≡ false → b < suc a
    above a b h = grind (arith, nat_tests)

    by_test : (t u : Bool) → nat_lt n m ≡ t → nat_lt m n ≡ u → n ≡ m
    by_test true u e k = absurd (f (ltb-true n m e))
    by_test false true e k = absurd (g (ltb-true m n k))
    by_test false false e k = omega (arith, above n m e, above m n k)

pub same_number : (n m : ℕ) → n < COUNT → m < COUNT → core_line n ≡ core_line m → n ≡ m
same_number n m below limit same = neither n m (not_below n m below limit same) (not_below m n limit below (sym same))
