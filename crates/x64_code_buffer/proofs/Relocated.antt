use Rattle.std.proofs.Common.{◌≡◌, ℕ, suc, zero, ◌+◌, ◌-◌, ◌*◌, ◌≤◌, arith, refl, ◌∙◌, ap, sym, ℤ, pos, List, [], ◌∷◌, ◌++◌, Bool, true, false, Option, Some, None, length, append_assoc}
use Rattle.std.specs.Prelude.{◌==◌, ◌&&◌, if◌then◌else◌, option_map, option_and_then}
use Rattle.std.proofs.lemmas.Bool.{eqb-true, eq-eqb}
use Rattle.std.proofs.lemmas.List.{length-append}
use Rattle.cax64_machine_code.specs.Fields.{mod_of, rm_of, reg_of, base_of, number_at, s32, signed_of}
use Rattle.cax64_machine_code.specs.Line.{prefix_matches, after, digit_matches, opcode_at, opcode_bytes, imm_bytes}
use Rattle.cax64_machine_code.specs.Prefix.{Prefix, x_of, b_of}
use Rattle.cax64_machine_code.specs.ReadLine.{LineReading, find_line, line_reading_of, read_line}
use Rattle.cax64_machine_code.specs.Reading.{PartsOf, FoundOf, place_at, reg_place, imm_at, operands_of, matched_at, vvvv_at, reg_view}
use Rattle.cax64_machine_code.specs.Tail.{Tail, read_tail, sib_at, disp_at, disp32_at, displaced, scaled_index}
use Rattle.cax64_machine_code.specs.declared.line.ImmField.{ImmField}
use Rattle.cax64_machine_code.specs.declared.line.ImmField.TheVariants.{NoImm, Imm, Simm}
use Rattle.cax64_machine_code.specs.declared.line.Line.{Line}
use Rattle.cax64_machine_code.specs.declared.line.Opcode.{Opcode}
use Rattle.cax64_machine_code.specs.declared.line.PlaceField.{PlaceField}
use Rattle.cax64_machine_code.specs.declared.line.PlaceField.TheVariants.{Memory, RegisterOrMemory, Register8OrMemory}
use Rattle.cax64_machine_code.specs.declared.line.RegField.{RegField}
use Rattle.cax64_machine_code.specs.declared.line.TailField.{TailField}
use Rattle.cax64_machine_code.specs.declared.line.TailField.TheVariants.{NoTail, Modrm}
use Rattle.cax64_machine_code.specs.declared.reading.Place.{Place}
use Rattle.cax64_machine_code.specs.declared.reading.Place.TheVariants.{Reg, Mem, Rip}
use Rattle.cax64_machine_code.specs.declared.reading.RegView.TheVariants.{Low, High}
use Rattle.cax64_machine_code.proofs.ReadLine.{LineSteps, line_finds, line_steps}
use Rattle.cax64_machine_code.proofs.Uniqueness.{behind, some_if}
use Rattle.x64_code_buffer.specs.Laid.{line_imm_behind, line_field_place}
use Rattle.x64_code_buffer.proofs.Fields.{number_of_four}
use Rattle.x64_code_buffer.proofs.Fronts.{prefix_front}
use Rattle.x64_code_buffer.proofs.Laying.{is_rip, is_some_rip}

some_same : {A : Type 0} (a b : A) → ◌≡◌ {A = Option A} (Some a) (Some b) → a ≡ b
some_same a b e = cc

-- the number in four bytes
abbrev pub four : ℕ → ℕ → ℕ → ℕ → ℕ
four a b c d = a + 256 * (b + 256 * (c + 256 * (d + 256 * 0)))

-- The opcode.

itself : (a : ℕ) → (a == a) ≡ true
itself a = eq-eqb a a refl

after_is : (opcode bytes rest : List ℕ) → after opcode bytes ≡ Some rest → bytes ≡ opcode ++ rest
unfolding after
after_is [] bytes rest h = some_same bytes rest h
after_is (c ∷ opcode) [] rest h = cc
after_is (c ∷ opcode) (byte ∷ bytes) rest h = by_test (c == byte) refl (after_is opcode bytes rest) h
  where
    by_test : (t : Bool) → (c == byte) ≡ t → (after opcode bytes ≡ Some rest → bytes ≡ opcode ++ rest) → (if t then after opcode bytes else None) ≡ Some rest → byte ∷ bytes ≡ (c ∷ opcode) ++ rest
    by_test true e later k =
        let same : c ≡ byte = eqb-true c byte e in
        ap (λ (z : ℕ). z ∷ bytes) (sym same) ∙ ap (λ (z : List ℕ). c ∷ z) (later k)
    by_test false e later k = cc

after_self : (opcode rest : List ℕ) → after opcode (opcode ++ rest) ≡ Some rest
unfolding after
after_self [] rest = refl
after_self (c ∷ opcode) rest = rw (itself c) (after_self opcode rest)

matched_again : (line : Line) (p : Prefix) (bytes a b : List ℕ) → matched_at line p bytes ≡ Some a → (digit_matches line.tail a ≡ true → digit_matches line.tail b ≡ true) → matched_at line p (opcode_bytes line.opcode ++ b) ≡ Some b
matched_again line p bytes a b h same =
    let both = some_if (prefix_matches line p) (opcode_at line bytes) a h in
    let k = behind line bytes a both.1 in
    rw (both.0, after_self (opcode_bytes line.opcode) b, same k.digit) refl

matched_is : (line : Line) (p : Prefix) (bytes rest : List ℕ) → matched_at line p bytes ≡ Some rest → bytes ≡ opcode_bytes line.opcode ++ rest
matched_is line p bytes rest h =
    let both = some_if (prefix_matches line p) (opcode_at line bytes) rest h in
    after_is (opcode_bytes line.opcode) bytes rest (behind line bytes rest both.1).opcode

-- The tail.

record RipTail (x b : ℕ) (bytes : List ℕ) (t : Tail) : Type 0 where
  m : ℕ
  one : ℕ
  two : ℕ
  three : ℕ
  last : ℕ
  bytes_are : bytes ≡ m ∷ one ∷ two ∷ three ∷ last ∷ t.rest
  place_is : t.place ≡ Rip (s32 (four one two three last))
  again : (c d e f : ℕ) (rest : List ℕ) → read_tail x b 1 (m ∷ c ∷ d ∷ e ∷ f ∷ rest) ≡ Some (record { reg = t.reg; place = Rip (s32 (four c d e f)); rest = rest })

reg_displaced : (reg : ℕ) (base : Option ℕ) (index : Option (ℕ × ℕ)) (o : Option (ℤ × List ℕ)) (t : Tail) → displaced reg (Mem base index) o ≡ Some t → is_rip t.place ≡ false
reg_displaced reg base index None t h = cc
reg_displaced reg base index (Some d) t h = sym (ap (λ (z : Tail). is_rip z.place) (some_same _ _ h))

sib_no_rip : (x b mode reg : ℕ) (bytes : List ℕ) (t : Tail) → sib_at x b 1 mode reg bytes ≡ Some t → is_rip t.place ≡ false
unfolding sib_at
sib_no_rip x b mode reg [] t h = cc
sib_no_rip x b mode reg (sib ∷ bytes) t h = by_base ((base_of sib == 5) && (mode == 0)) h
  where
    by_base : (q : Bool) → (if q then displaced reg (Mem None (scaled_index x sib)) (disp32_at bytes) else displaced reg (Mem (Some (base_of sib + 8 * b)) (scaled_index x sib)) (disp_at mode 1 bytes)) ≡ Some t → is_rip t.place ≡ false
    by_base true k = reg_displaced reg None (scaled_index x sib) (disp32_at bytes) t k
    by_base false k = reg_displaced reg (Some (base_of sib + 8 * b)) (scaled_index x sib) (disp_at mode 1 bytes) t k

abbrev RipFields : ℕ → List ℕ → Tail → Type 0
RipFields m bytes t = (a : ℕ) × (b : ℕ) × (c : ℕ) × (d : ℕ) × (bytes ≡ a ∷ b ∷ c ∷ d ∷ t.rest) × (t.place ≡ Rip (s32 (four a b c d))) × (t.reg ≡ reg_of m)

rip_fields : (m : ℕ) (bytes : List ℕ) (t : Tail) → displaced (reg_of m) Rip (disp32_at bytes) ≡ Some t → RipFields m bytes t
unfolding number_at
rip_fields m [] t h = cc
rip_fields m (a ∷ []) t h = cc
rip_fields m (a ∷ b ∷ []) t h = cc
rip_fields m (a ∷ b ∷ c ∷ []) t h = cc
rip_fields m (a ∷ b ∷ c ∷ d ∷ rest) t h =
    let e : record { reg = reg_of m; place = Rip (s32 (four a b c d)); rest = rest } ≡ t = some_same _ _ h in
    (a, b, c, d, ap (λ (z : Tail). a ∷ b ∷ c ∷ d ∷ z.rest) e, sym (ap (λ (z : Tail). z.place) e), sym (ap (λ (z : Tail). z.reg) e))

no_true : {P : Type 0} → true ≡ false → P
no_true h = cc

rip_tail : (x b : ℕ) (bytes : List ℕ) (t : Tail) → read_tail x b 1 bytes ≡ Some t → is_rip t.place ≡ true → RipTail x b bytes t
unfolding read_tail
rip_tail x b [] t h r = cc
rip_tail x b (m ∷ bytes) t h r = by_mode (mod_of m == 3) refl h
  where
    by_rip : (q : Bool) → ((rm_of m == 5) && (mod_of m == 0)) ≡ q → (mod_of m == 3) ≡ false → (rm_of m == 4) ≡ false → (if q then displaced (reg_of m) Rip (disp32_at bytes) else displaced (reg_of m) (Mem (Some (rm_of m + 8 * b)) None) (disp_at (mod_of m) 1 bytes)) ≡ Some t → RipTail x b (m ∷ bytes) t
    by_rip true e e3 e4 k =
        let f = rip_fields m bytes t k in
        record {
          m = m;
          one = f.0;
          two = f.1;
          three = f.2;
          last = f.3;
          bytes_are = ap (λ (z : List ℕ). m ∷ z) f.4;
          place_is = f.5;
          again = λ c d e' g rest. rw (e3, e4, e, number_of_four c d e' g rest, f.6) refl;
        }
    by_rip false e e3 e4 k = no_true (sym r ∙ reg_displaced (reg_of m) (Some (rm_of m + 8 * b)) None (disp_at (mod_of m) 1 bytes) t k)

    by_sib : (q : Bool) → (rm_of m == 4) ≡ q → (mod_of m == 3) ≡ false → (if q then sib_at x b 1 (mod_of m) (reg_of m) bytes else (if (rm_of m == 5) && (mod_of m == 0) then displaced (reg_of m) Rip (disp32_at bytes) else displaced (reg_of m) (Mem (Some (rm_of m + 8 * b)) None) (disp_at (mod_of m) 1 bytes))) ≡ Some t → RipTail x b (m ∷ bytes) t
    by_sib true e e3 k = no_true (sym r ∙ sib_no_rip x b (mod_of m) (reg_of m) bytes t k)
    by_sib false e e3 k = by_rip ((rm_of m == 5) && (mod_of m == 0)) refl e3 e k

    by_mode : (q : Bool) → (mod_of m == 3) ≡ q → (if q then Some (record { reg = reg_of m; place = Reg (Low (rm_of m + 8 * b)); rest = bytes }) else (if rm_of m == 4 then sib_at x b 1 (mod_of m) (reg_of m) bytes else (if (rm_of m == 5) && (mod_of m == 0) then displaced (reg_of m) Rip (disp32_at bytes) else displaced (reg_of m) (Mem (Some (rm_of m + 8 * b)) None) (disp_at (mod_of m) 1 bytes)))) ≡ Some t → RipTail x b (m ∷ bytes) t
    by_mode true e k = no_true (sym r ∙ sym (ap (λ (z : Tail). is_rip z.place) (some_same _ _ k)))
    by_mode false e k = by_sib (rm_of m == 4) refl e k

-- The immediate.

number_length : (size : ℕ) (bytes : List ℕ) (r : ℕ × List ℕ) → number_at size bytes ≡ Some r → length bytes ≡ size + length r.1
unfolding number_at
number_length zero bytes r h = let e : ◌≡◌ {A = ℕ × List ℕ} (0, bytes) r = some_same _ _ h in ap (λ (z : ℕ × List ℕ). length z.1) e ∙ omega arith
number_length (suc size) [] r h = cc
number_length (suc size) (byte ∷ bytes) r h = by_later (number_at size bytes) (number_length size bytes) h
  where
    by_later : (o : Option (ℕ × List ℕ)) → ((q : ℕ × List ℕ) → o ≡ Some q → length bytes ≡ size + length q.1) → option_map {T = ℕ × List ℕ} {U = ℕ × List ℕ} (λ higher. (byte + 256 * higher.0, higher.1)) o ≡ Some r → suc (length bytes) ≡ suc size + length r.1
    by_later None later k = cc
    by_later (Some q) later k =
        let e : ◌≡◌ {A = ℕ × List ℕ} (byte + 256 * q.0, q.1) r = some_same _ _ k in
        let l : length q.1 ≡ length r.1 = ap (λ (z : ℕ × List ℕ). length z.1) e in
        omega (arith, later q refl, l)

mapped_length : {A : Type 0} (f : ℕ → A) (size : ℕ) (bytes : List ℕ) (o : Option (ℕ × List ℕ)) (r : A × List ℕ) → number_at size bytes ≡ o → option_map {T = ℕ × List ℕ} {U = A × List ℕ} (λ n. (f n.0, n.1)) o ≡ Some r → length bytes ≡ size + length r.1
mapped_length {A} f size bytes None r e h = cc
mapped_length {A} f size bytes (Some q) r e h =
    let k : ◌≡◌ {A = A × List ℕ} (f q.0, q.1) r = some_same _ _ h in
    let l : length q.1 ≡ length r.1 = ap (λ (z : A × List ℕ). length z.1) k in
    omega (arith, number_length size bytes q e, l)

imm_length : (field : ImmField) (bytes : List ℕ) (r : Option ℤ × List ℕ) → imm_at field bytes ≡ Some r → length bytes ≡ imm_bytes field + length r.1
imm_length NoImm bytes r h = let e : ◌≡◌ {A = Option ℤ × List ℕ} (None, bytes) r = some_same _ _ h in ap (λ (z : Option ℤ × List ℕ). length z.1) e ∙ omega arith
imm_length (Imm size) bytes r h = mapped_length (λ (n : ℕ). Some (pos n)) size bytes (number_at size bytes) r refl h
imm_length (Simm size) bytes r h = mapped_length (λ (n : ℕ). Some (signed_of size n)) size bytes (number_at size bytes) r refl h

-- The operands.

-- parts whose relative place is another
abbrev moved : PartsOf Line → ℤ → PartsOf Line
moved parts disp = record { row = parts.row; reg = parts.reg; vvvv = parts.vvvv; place = Some (Rip disp); imm = parts.imm }

-- Of the bytes behind an opcode: four, with b before them and k behind, and then what is left, t of them the tail; and with
-- any other four there the line finds the parts so.
record Operands (field : TailField) (line : Line) (p : Prefix) (bytes : List ℕ) (found : FoundOf Line) (b k t : ℕ) (so : ℤ → PartsOf Line) : Type 0 where
  before : List ℕ
  one : ℕ
  two : ℕ
  three : ℕ
  last : ℕ
  after : List ℕ
  bytes_are : bytes ≡ before ++ (one ∷ two ∷ three ∷ last ∷ after)
  before_is : length before ≡ b
  after_is : length after ≡ k + length found.rest
  tail_is : found.tail ≡ t
  digit : (c d e f : ℕ) → digit_matches field bytes ≡ true → digit_matches field (before ++ (c ∷ d ∷ e ∷ f ∷ after)) ≡ true
  again : (c d e f : ℕ) → operands_of field line line p (before ++ (c ∷ d ∷ e ∷ f ∷ after)) ≡ Some (record { parts = so (s32 (four c d e f)); tail = found.tail; rest = found.rest })

reg_place_no_rip : (field : PlaceField) (p : Prefix) (view : _) (place : Place) → reg_place field p view ≡ Some place → is_rip place ≡ false
reg_place_no_rip Memory p view place h = cc
reg_place_no_rip RegisterOrMemory p view place h = sym (ap is_rip (some_same _ _ h))
reg_place_no_rip Register8OrMemory p (Low n) place h = sym (ap is_rip (some_same _ _ h))
reg_place_no_rip Register8OrMemory p (High n) place h = sym (ap is_rip (some_same _ _ h))

rip_place : (field : PlaceField) (p : Prefix) (q place : Place) → place_at field p q ≡ Some place → is_rip place ≡ true → is_rip q ≡ true
rip_place field p (Reg view) place h r = no_true (sym r ∙ reg_place_no_rip field p view place h)
rip_place field p (Mem base index disp) place h r = no_true (sym r ∙ sym (ap is_rip (some_same _ _ h)))
rip_place field p (Rip disp) place h r = refl

five_more : (m c d e f : ℕ) (imm : List ℕ) → length (m ∷ c ∷ d ∷ e ∷ f ∷ imm) - length imm ≡ 5
five_more m c d e f imm = omega arith

by_imm : (reg : RegField) (field : PlaceField) (line : Line) (p : Prefix) (bytes : List ℕ) (t : Tail) (place : Place) (o : Option (Option ℤ × List ℕ)) (found : FoundOf Line) → imm_at line.imm t.rest ≡ o → RipTail (x_of p) (b_of p) bytes t → option_map {T = Option ℤ × List ℕ} {U = FoundOf Line} (λ i. record { parts = record { row = line; reg = reg_view reg p t.reg; vvvv = vvvv_at line.prefix p; place = Some place; imm = i.0 }; tail = length bytes - length t.rest; rest = i.1 }) o ≡ Some found → Operands (Modrm reg field) line p bytes found 1 (imm_bytes line.imm) 5 (moved found.parts)
by_imm reg field line p bytes t place None found ei h k = cc
by_imm reg field line p bytes t place (Some i) found ei h k =
    let e : record { parts = record { row = line; reg = reg_view reg p t.reg; vvvv = vvvv_at line.prefix p; place = Some place; imm = i.0 }; tail = length bytes - length t.rest; rest = i.1 } ≡ found = some_same _ _ k in
    let five : length bytes - length t.rest ≡ 5 = ap (λ (z : List ℕ). length z - length t.rest) h.bytes_are ∙ five_more h.m h.one h.two h.three h.last t.rest in
    let tail : found.tail ≡ 5 = sym (ap (λ (z : FoundOf Line). z.tail) e) ∙ five in
    let rest : length i.1 ≡ length found.rest = ap (λ (z : FoundOf Line). length z.rest) e in
    record {
      before = h.m ∷ [];
      one = h.one;
      two = h.two;
      three = h.three;
      last = h.last;
      after = t.rest;
      bytes_are = h.bytes_are;
      before_is = refl;
      after_is = omega (arith, imm_length line.imm t.rest i ei, rest);
      tail_is = tail;
      digit = λ c d e' f k. ap (digit_matches (Modrm reg field)) (sym h.bytes_are) ∙ k;
      again = λ c d e' f.
          rw (h.again c d e' f t.rest, ei, five_more h.m c d e' f t.rest) (ap (λ (z : FoundOf Line). Some (record { parts = moved z.parts (s32 (four c d e' f)); tail = 5; rest = z.rest })) e)
          ∙ ap (λ (n : ℕ). Some (record { parts = moved found.parts (s32 (four c d e' f)); tail = n; rest = found.rest })) (sym tail);
    }

by_place : (reg : RegField) (field : PlaceField) (line : Line) (p : Prefix) (bytes : List ℕ) (t : Tail) (o : Option Place) (found : FoundOf Line) → place_at field p t.place ≡ o → (is_rip t.place ≡ true → RipTail (x_of p) (b_of p) bytes t) → option_and_then {T = Place} {U = FoundOf Line} (λ place. option_map (λ i. record { parts = record { row = line; reg = reg_view reg p t.reg; vvvv = vvvv_at line.prefix p; place = Some place; imm = i.0 }; tail = length bytes - length t.rest; rest = i.1 }) (imm_at line.imm t.rest)) o ≡ Some found → is_some_rip found.parts.place ≡ true → Operands (Modrm reg field) line p bytes found 1 (imm_bytes line.imm) 5 (moved found.parts)
by_place reg field line p bytes t None found ep tail h r = cc
by_place reg field line p bytes t (Some place) found ep tail h r =
    let is : is_rip place ≡ true = placed (imm_at line.imm t.rest) h in
    by_imm reg field line p bytes t place (imm_at line.imm t.rest) found refl (tail (rip_place field p t.place place ep is)) h
  where
    placed : (o : Option (Option ℤ × List ℕ)) → option_map {T = Option ℤ × List ℕ} {U = FoundOf Line} (λ i. record { parts = record { row = line; reg = reg_view reg p t.reg; vvvv = vvvv_at line.prefix p; place = Some place; imm = i.0 }; tail = length bytes - length t.rest; rest = i.1 }) o ≡ Some found → is_rip place ≡ true
    placed None k = cc
    placed (Some i) k = ap (λ (z : FoundOf Line). is_some_rip z.parts.place) (some_same _ _ k) ∙ r

by_tail : (reg : RegField) (field : PlaceField) (line : Line) (p : Prefix) (bytes : List ℕ) (o : Option Tail) (found : FoundOf Line) → read_tail (x_of p) (b_of p) 1 bytes ≡ o → option_and_then {T = Tail} {U = FoundOf Line} (λ t. option_and_then (λ place. option_map (λ i. record { parts = record { row = line; reg = reg_view reg p t.reg; vvvv = vvvv_at line.prefix p; place = Some place; imm = i.0 }; tail = length bytes - length t.rest; rest = i.1 }) (imm_at line.imm t.rest)) (place_at field p t.place)) o ≡ Some found → is_some_rip found.parts.place ≡ true → Operands (Modrm reg field) line p bytes found 1 (imm_bytes line.imm) 5 (moved found.parts)
by_tail reg field line p bytes None found et h r = cc
by_tail reg field line p bytes (Some t) found et h r = by_place reg field line p bytes t (place_at field p t.place) found refl (rip_tail (x_of p) (b_of p) bytes t et) h r

bare_no_rip : (line : Line) (p : Prefix) (o : Option (Option ℤ × List ℕ)) (found : FoundOf Line) → option_map {T = Option ℤ × List ℕ} {U = FoundOf Line} (λ i. record { parts = record { row = line; reg = None; vvvv = vvvv_at line.prefix p; place = None; imm = i.0 }; tail = 0; rest = i.1 }) o ≡ Some found → is_some_rip found.parts.place ≡ false
bare_no_rip line p None found h = cc
bare_no_rip line p (Some i) found h = sym (ap (λ (z : FoundOf Line). is_some_rip z.parts.place) (some_same _ _ h))

rip_operands : (field : TailField) (line : Line) (p : Prefix) (bytes : List ℕ) (found : FoundOf Line) → operands_of field line line p bytes ≡ Some found → is_some_rip found.parts.place ≡ true → Operands field line p bytes found 1 (imm_bytes line.imm) 5 (moved found.parts)
rip_operands NoTail line p bytes found h r = no_true (sym r ∙ bare_no_rip line p (imm_at line.imm bytes) found h)
rip_operands (Modrm reg field) line p bytes found h r = by_tail reg field line p bytes (read_tail (x_of p) (b_of p) 1 bytes) found refl h r

-- parts whose immediate is another
abbrev distant : PartsOf Line → ℤ → PartsOf Line
distant parts distance = record { row = parts.row; reg = parts.reg; vvvv = parts.vvvv; place = parts.place; imm = Some distance }

-- what is read of four bytes
abbrev Four : List ℕ → ℕ × List ℕ → Type 0
Four bytes n = (a : ℕ) × (b : ℕ) × (c : ℕ) × (d : ℕ) × (bytes ≡ a ∷ b ∷ c ∷ d ∷ n.1)

four_there : (bytes : List ℕ) (n : ℕ × List ℕ) → number_at 4 bytes ≡ Some n → Four bytes n
unfolding number_at
four_there [] n h = cc
four_there (a ∷ []) n h = cc
four_there (a ∷ b ∷ []) n h = cc
four_there (a ∷ b ∷ c ∷ []) n h = cc
four_there (a ∷ b ∷ c ∷ d ∷ rest) n h = (a, b, c, d, ap (λ (z : ℕ × List ℕ). a ∷ b ∷ c ∷ d ∷ z.1) (some_same _ _ h))

abbrev far_made : Line → Prefix → Option ℤ × List ℕ → FoundOf Line
far_made line p i = record { parts = record { row = line; reg = None; vvvv = vvvv_at line.prefix p; place = None; imm = i.0 }; tail = 0; rest = i.1 }

no_digit : (tail : TailField) (bytes : List ℕ) → tail ≡ NoTail → digit_matches tail bytes ≡ true
no_digit tail bytes e = rw e refl

far_by : (line : Line) (p : Prefix) (bytes : List ℕ) (o : Option (ℕ × List ℕ)) (found : FoundOf Line) → number_at 4 bytes ≡ o → line.tail ≡ NoTail → line.imm ≡ Simm 4 → option_map {T = Option ℤ × List ℕ} {U = FoundOf Line} (far_made line p) (option_map {T = ℕ × List ℕ} {U = Option ℤ × List ℕ} (λ n. (Some (signed_of 4 n.0), n.1)) o) ≡ Some found → Operands line.tail line p bytes found 0 0 0 (distant found.parts)
far_by line p bytes None found en tail imm h = cc
far_by line p bytes (Some n) found en tail imm h =
    let q = four_there bytes n en in
    let e : far_made line p (Some (signed_of 4 n.0), n.1) ≡ found = some_same _ _ h in
    let rest : n.1 ≡ found.rest = ap (λ (z : FoundOf Line). z.rest) e in
    record {
      before = [];
      one = q.0;
      two = q.1;
      three = q.2;
      last = q.3;
      after = found.rest;
      bytes_are = q.4 ∙ ap (λ (z : List ℕ). q.0 ∷ q.1 ∷ q.2 ∷ q.3 ∷ z) rest;
      before_is = refl;
      after_is = omega arith;
      tail_is = sym (ap (λ (z : FoundOf Line). z.tail) e);
      digit = λ c d e' f k. no_digit line.tail (c ∷ d ∷ e' ∷ f ∷ found.rest) tail;
      again = λ c d e' f.
          let fresh : List ℕ = c ∷ d ∷ e' ∷ f ∷ found.rest in
          ap (λ (t : TailField). operands_of t line line p fresh) tail
          ∙ ap (λ (i : ImmField). option_map {T = Option ℤ × List ℕ} {U = FoundOf Line} (far_made line p) (imm_at i fresh)) imm
          ∙ ap (λ (o : Option (ℕ × List ℕ)). option_map {T = Option ℤ × List ℕ} {U = FoundOf Line} (far_made line p) (option_map {T = ℕ × List ℕ} {U = Option ℤ × List ℕ} (λ n. (Some (signed_of 4 n.0), n.1)) o)) (number_of_four c d e' f found.rest)
          ∙ ap (λ (z : FoundOf Line). Some (record { parts = distant z.parts (s32 (four c d e' f)); tail = z.tail; rest = found.rest })) e;
    }

far_operands : (line : Line) (p : Prefix) (bytes : List ℕ) (found : FoundOf Line) → line.tail ≡ NoTail → line.imm ≡ Simm 4 → operands_of line.tail line line p bytes ≡ Some found → Operands line.tail line p bytes found 0 0 0 (distant found.parts)
far_operands line p bytes found tail imm h =
    let bare : option_map {T = Option ℤ × List ℕ} {U = FoundOf Line} (far_made line p) (imm_at line.imm bytes) ≡ Some found = ap (λ (t : TailField). operands_of t line line p bytes) (sym tail) ∙ h in
    far_by line p bytes (number_at 4 bytes) found refl tail imm (ap (λ (i : ImmField). option_map {T = Option ℤ × List ℕ} {U = FoundOf Line} (far_made line p) (imm_at i bytes)) (sym imm) ∙ bare)

-- The whole instruction.

record HasOpcode (o : Opcode) : Type 0 where
  first : ℕ
  later : List ℕ
  is : opcode_bytes o ≡ first ∷ later

has_opcode : (o : Opcode) → HasOpcode o
has_opcode o = by_escape o.escape refl
  where
    by_escape : (t : Bool) → o.escape ≡ t → HasOpcode o
    by_escape true e = record { first = 0x0F; later = o.byte ∷ []; is = rw e refl }
    by_escape false e = record { first = o.byte; later = []; is = rw e refl }

-- what stands before the operands: the line finds behind it whatever operands they are
record Header (line : Line) (p : Prefix) (w rest : List ℕ) : Type 0 where
  front : List ℕ
  bytes_are : w ≡ front ++ rest
  again : (fresh : List ℕ) (found : FoundOf Line) → (digit_matches line.tail rest ≡ true → digit_matches line.tail fresh ≡ true) → operands_of line.tail line line p fresh ≡ Some found → find_line line (front ++ fresh) ≡ Some found

header : (line : Line) (w : List ℕ) (found : FoundOf Line) (st : LineSteps line w found) → Header line st.prefix w st.rest
header line w found st =
    let op = has_opcode line.opcode in
    let left : st.behind ≡ op.first ∷ (op.later ++ st.rest) = matched_is line st.prefix st.behind st.rest st.matched ∙ ap (λ (z : List ℕ). z ++ st.rest) op.is in
    let head = prefix_front w st.prefix op.first (op.later ++ st.rest) (st.prefix_is ∙ ap (λ (z : List ℕ). Some (st.prefix, z)) left) in
    let v : List ℕ = head.0 in
    record {
      front = v ++ op.later;
      bytes_are = head.1 ∙ sym (append_assoc v op.later st.rest);
      again = λ fresh now same ops.
          let matched : matched_at line st.prefix (op.first ∷ (op.later ++ fresh)) ≡ Some fresh =
          ap (λ (z : List ℕ). matched_at line st.prefix (z ++ fresh)) (sym op.is) ∙ matched_again line st.prefix st.behind st.rest fresh st.matched same in
          ap (find_line line) (append_assoc v op.later fresh)
          ∙ line_finds (v ++ (op.later ++ fresh)) (op.first ∷ (op.later ++ fresh)) fresh st.prefix line now (head.2 (op.later ++ fresh)) matched ops;
    }

-- Of the bytes of an instruction: the four at f, with what stands before and the k bytes behind them; and with any other
-- four there its line reads it so.
pub record Slot (w : List ℕ) (line : Line) (f k : ℕ) (so : ℤ → LineReading) : Type 0 where
  pub front : List ℕ
  pub one : ℕ
  pub two : ℕ
  pub three : ℕ
  pub last : ℕ
  pub behind : List ℕ
  pub bytes_are : w ≡ front ++ (one ∷ two ∷ three ∷ last ∷ behind)
  pub field_is : length front ≡ f
  pub behind_is : length behind ≡ k
  pub again : (c d e g : ℕ) → read_line line (front ++ (c ∷ d ∷ e ∷ g ∷ behind)) ≡ Some (so (s32 (four c d e g)))

sized : (w front : List ℕ) (a b c d : ℕ) (after : List ℕ) (k : ℕ) → w ≡ front ++ (a ∷ b ∷ c ∷ d ∷ after) → length after ≡ k → length w ≡ length front + 4 + k
sized w front a b c d after k e h = ap length e ∙ length-append front (a ∷ b ∷ c ∷ d ∷ after) ∙ omega (arith, h)

pub slot_size : (w : List ℕ) (line : Line) (f k : ℕ) (so : ℤ → LineReading) → Slot w line f k so → length w ≡ f + 4 + k
slot_size w line f k so h = sized w h.front h.one h.two h.three h.last h.behind k h.bytes_are h.behind_is ∙ ap (λ (n : ℕ). n + 4 + k) h.field_is

found_by : (bytes : List ℕ) (o : Option (FoundOf Line)) (r : LineReading) → option_map {T = FoundOf Line} {U = LineReading} (line_reading_of bytes) o ≡ Some r → (found : FoundOf Line) × (o ≡ Some found) × (line_reading_of bytes found ≡ r)
found_by bytes None r h = cc
found_by bytes (Some found) r h = (found, refl, some_same _ _ h)

found_reads : (line : Line) (v : List ℕ) (found : FoundOf Line) (r : LineReading) → find_line line v ≡ Some found → line_reading_of v found ≡ r → read_line line v ≡ Some r
unfolding read_line
found_reads line v found r h e = rw (h, e) refl

no_less : (n k : ℕ) → n - k ≡ n → 1 ≤ n → k ≡ 0
no_less n k h least = omega arith

nothing_left : (w : List ℕ) (found : FoundOf Line) (r : LineReading) → line_reading_of w found ≡ r → r.length ≡ length w → 1 ≤ r.length → length found.rest ≡ 0
nothing_left w found r e len least =
    let size : length w - length found.rest ≡ r.length = ap (λ (z : LineReading). z.length) e in
    no_less (length w) (length found.rest) (size ∙ len) (omega arith)

as_long : (w v : List ℕ) (found : FoundOf Line) → length v ≡ length w → line_reading_of v found ≡ line_reading_of w found
as_long w v found e = ap (λ (n : ℕ). record { line = found.parts.row; length = n - length found.rest; tail = found.tail; reg = found.parts.reg; vvvv = found.parts.vvvv; place = found.parts.place; imm = found.parts.imm }) e

slotted : (w : List ℕ) (line : Line) (found : FoundOf Line) (st : LineSteps line w found) (parts : ℤ → PartsOf Line) (so : ℤ → LineReading) (f b k t : ℕ) → Operands line.tail line st.prefix st.rest found b k t parts → length found.rest ≡ 0 → ((n : ℕ) → b ≤ n → length w ≡ n + 4 + k → n ≡ f) → ((z : ℤ) → line_reading_of w (record { parts = parts z; tail = found.tail; rest = found.rest }) ≡ so z) → Slot w line f k so
slotted w line found st parts so f b k t ops none place reading =
    let after : length ops.after ≡ k = omega (arith, ops.after_is, none) in
    let h = header line w found st in
    let front : List ℕ = h.front ++ ops.before in
    let all : w ≡ front ++ (ops.one ∷ ops.two ∷ ops.three ∷ ops.last ∷ ops.after) =
    h.bytes_are ∙ ap (λ (z : List ℕ). h.front ++ z) ops.bytes_are ∙ sym (append_assoc h.front ops.before (ops.one ∷ ops.two ∷ ops.three ∷ ops.last ∷ ops.after)) in
    let size : length w ≡ length front + 4 + k = sized w front ops.one ops.two ops.three ops.last ops.after k all after in
    record {
      front = front;
      one = ops.one;
      two = ops.two;
      three = ops.three;
      last = ops.last;
      behind = ops.after;
      bytes_are = all;
      field_is = place (length front) (omega (arith, length-append h.front ops.before, ops.before_is)) size;
      behind_is = after;
      again = λ c d e g.
          let v : List ℕ = front ++ (c ∷ d ∷ e ∷ g ∷ ops.after) in
          let now : FoundOf Line = record { parts = parts (s32 (four c d e g)); tail = found.tail; rest = found.rest } in
          let is_found : find_line line v ≡ Some now = ap (find_line line) (append_assoc h.front ops.before (c ∷ d ∷ e ∷ g ∷ ops.after)) ∙ h.again (ops.before ++ (c ∷ d ∷ e ∷ g ∷ ops.after)) now (ops.digit c d e g) (ops.again c d e g) in
          found_reads line v now (so (s32 (four c d e g))) is_found (as_long w v now (sized v front c d e g ops.after k refl after ∙ sym size) ∙ reading (s32 (four c d e g)));
    }

-- the field of a relative place
pub relocated : (w : List ℕ) (r : LineReading) → read_line r.line w ≡ Some r → r.length ≡ length w → 1 ≤ r.length → is_some_rip r.place ≡ true → Slot w r.line (line_field_place r) (line_imm_behind r) (λ z. record r { place = Some (Rip z) })
unfolding read_line
relocated w r h len least rip =
    let f = found_by w (find_line r.line w) r h in
    let found = f.0 in
    let st = line_steps r.line w found f.1 in
    let is : is_some_rip found.parts.place ≡ true = ap (λ (z : LineReading). is_some_rip z.place) f.2 ∙ rip in
    let o = rip_operands r.line.tail r.line st.prefix st.rest found st.operands_are is in
    let none : length found.rest ≡ 0 = nothing_left w found r f.2 len least in
    let tail : r.tail ≡ 5 = sym (ap (λ (z : LineReading). z.tail) f.2) ∙ o.tail_is in
    slotted w r.line found st (moved found.parts) (λ z. record r { place = Some (Rip z) }) (line_field_place r) 1 (line_imm_behind r) 5 o none
    (λ n low size. omega (arith, low, size, len, tail)) (λ z. ap (λ (y : LineReading). record y { place = Some (Rip z) }) f.2)

-- the distance of a jump, which stands at its end
pub relocated_jump : (w : List ℕ) (r : LineReading) → read_line r.line w ≡ Some r → r.length ≡ length w → 1 ≤ r.length → r.line.tail ≡ NoTail → r.line.imm ≡ Simm 4 → Slot w r.line (r.length - 4) 0 (λ z. record r { imm = Some z })
unfolding read_line
relocated_jump w r h len least tail imm =
    let f = found_by w (find_line r.line w) r h in
    let found = f.0 in
    let st = line_steps r.line w found f.1 in
    let o = far_operands r.line st.prefix st.rest found tail imm st.operands_are in
    let none : length found.rest ≡ 0 = nothing_left w found r f.2 len least in
    slotted w r.line found st (distant found.parts) (λ z. record r { imm = Some z }) (r.length - 4) 0 0 0 o none
    (λ n low size. omega (arith, size, len)) (λ z. ap (λ (y : LineReading). record y { imm = Some z }) f.2)
