use Rattle.std.proofs.Common.{◌≡◌, ℕ, ◌+◌, ◌-◌, ◌/◌, ◌%◌, ◌^◌, ◌≤◌, ◌<◌, arith, refl, ◌∙◌, ap, sym, subst, List, [], ◌∷◌, ◌++◌, true, Option, Some, None, ℤ, length, append_assoc, Bool, false, append-nil, length-append}
use Rattle.std.specs.Int.{cast_unsigned, to_le_bytes, w8, w32}
use Rattle.std.specs.Int.RustNames.{FitsSigned}
use Rattle.std.specs.Prelude.{IfSome, if◌then◌else◌}
use Rattle.std.proofs.lemmas.Int.{ints}
use Rattle.cax64_address.specs.Emitted.{target_actions}
use Rattle.cax64_encoder.proofs.Bytes.{both_bytes, more_bytes, one_byte}
use Rattle.cax64_encoder.specs.Code.{IsCode, code_actions}
use Rattle.cax64_encoder.specs.declared.code.Code.{Code}
use Rattle.cax64_machine_code.proofs.Bytes.{four_back, one_back, s32_back, s8_back}
use Rattle.cax64_machine_code.proofs.ReadLine.{bare_line_found, reads_line_as}
use Rattle.cax64_machine_code.proofs.Written.{BeginsWith, IsImm, IsPrefix}
use Rattle.cax64_machine_code.specs.Fields.{IsBytes}
use Rattle.cax64_machine_code.specs.Len.{line_len, opcode_len}
use Rattle.cax64_machine_code.specs.Line.{opcode_bytes}
use Rattle.cax64_machine_code.specs.Prefix.{legacy_at, legacy_prefix, no_legacy, prefix_at, rex_at, vex_at}
use Rattle.cax64_machine_code.specs.ReadLine.{ReadsLineAs, find_line}
use Rattle.cax64_machine_code.specs.Rows.{any, byte, escaped, line_of, plain}
use Rattle.cax64_machine_code.specs.declared.line.ImmField.TheVariants.{Simm}
use Rattle.cax64_machine_code.specs.declared.line.Line.{Line}
use Rattle.cax64_machine_code.specs.declared.line.Opcode.{Opcode}
use Rattle.cax64_machine_code.specs.declared.line.TailField.TheVariants.{NoTail}
use Rattle.cax64_machine_code.specs.declared.row.Row.{Row}
use Rattle.cax64_sink.proofs.PutRuns.{all_bytes-puts, all_notices-puts}
use Rattle.cax64_sink.proofs.Runs.{all_bytes_append, all_notices_append}
use Rattle.cax64_sink.specs.Call.{put}
use Rattle.cax64_sink.specs.Puts.{puts}
use Rattle.cax64_sink.specs.Run.{all_bytes, all_notices}
use Rattle.cax64_sink.specs.declared.DeferredTarget.{DeferredTarget}
use Rattle.cax64_sink.specs.declared.Notice.{Notice}
use Rattle.x64_code_buffer.specs.Jump.{WritesJump, jump_parts, long_row, short_row, told_at}
use Rattle.x64_code_buffer.specs.declared.jump.Condition.TheVariants as cond
use Rattle.x64_code_buffer.specs.declared.jump.Jump.{Jump}
use Rattle.x64_code_buffer.specs.declared.jump.Jump.TheVariants.{Call, Always, If}

-- The lines of jumps: an opcode that begins with no prefix, and so many bytes of distance.

abbrev pub jump_line : Opcode → ℕ → Line
jump_line opcode size = plain no_legacy any opcode NoTail (Simm size)

pub record IsJumpLine (line : Line) (size : ℕ) : Type 0 where
  pub is : line ≡ jump_line line.opcode size
  pub first : ℕ
  pub begins : BeginsWith first (opcode_bytes line.opcode)
  pub prefix : IsPrefix (legacy_prefix no_legacy None) first []
  pub below : line.opcode.byte < 256

of_byte : (b size : ℕ) → b < 256 → ((rest : List ℕ) → prefix_at (b ∷ rest) ≡ Some (legacy_prefix no_legacy None, b ∷ rest)) → IsJumpLine (jump_line (byte b) size) size
of_byte b size h e = record { is = refl; first = b; begins = record { more = []; is = refl }; prefix = record { reads = e }; below = h }

escaped_is : (b : ℕ) → b < 256 → IsJumpLine (jump_line (escaped b) 4) 4
unfolding prefix_at legacy_at rex_at vex_at
escaped_is b h = record { is = refl; first = 0x0F; begins = record { more = b ∷ []; is = refl }; prefix = record { reads = λ rest. refl }; below = h }

pub long_is : (jump : Jump) → IsJumpLine (line_of (long_row jump)) 4
unfolding line_of prefix_at legacy_at rex_at vex_at
long_is Call = of_byte 0xE8 4 (omega arith) (λ rest. refl)
long_is Always = of_byte 0xE9 4 (omega arith) (λ rest. refl)
long_is (If cond.O) = escaped_is 0x80 (omega arith)
long_is (If cond.No) = escaped_is 0x81 (omega arith)
long_is (If cond.B) = escaped_is 0x82 (omega arith)
long_is (If cond.Ae) = escaped_is 0x83 (omega arith)
long_is (If cond.E) = escaped_is 0x84 (omega arith)
long_is (If cond.Ne) = escaped_is 0x85 (omega arith)
long_is (If cond.Be) = escaped_is 0x86 (omega arith)
long_is (If cond.A) = escaped_is 0x87 (omega arith)
long_is (If cond.S) = escaped_is 0x88 (omega arith)
long_is (If cond.Ns) = escaped_is 0x89 (omega arith)
long_is (If cond.P) = escaped_is 0x8A (omega arith)
long_is (If cond.Np) = escaped_is 0x8B (omega arith)
long_is (If cond.L) = escaped_is 0x8C (omega arith)
long_is (If cond.Ge) = escaped_is 0x8D (omega arith)
long_is (If cond.Le) = escaped_is 0x8E (omega arith)
long_is (If cond.G) = escaped_is 0x8F (omega arith)

pub short_is : (jump : Jump) → IfSome (short_row jump) (λ row. IsJumpLine (line_of row) 1)
unfolding line_of prefix_at legacy_at rex_at vex_at
short_is Call = tt
short_is Always = of_byte 0xEB 1 (omega arith) (λ rest. refl)
short_is (If cond.O) = of_byte 0x70 1 (omega arith) (λ rest. refl)
short_is (If cond.No) = of_byte 0x71 1 (omega arith) (λ rest. refl)
short_is (If cond.B) = of_byte 0x72 1 (omega arith) (λ rest. refl)
short_is (If cond.Ae) = of_byte 0x73 1 (omega arith) (λ rest. refl)
short_is (If cond.E) = of_byte 0x74 1 (omega arith) (λ rest. refl)
short_is (If cond.Ne) = of_byte 0x75 1 (omega arith) (λ rest. refl)
short_is (If cond.Be) = of_byte 0x76 1 (omega arith) (λ rest. refl)
short_is (If cond.A) = of_byte 0x77 1 (omega arith) (λ rest. refl)
short_is (If cond.S) = of_byte 0x78 1 (omega arith) (λ rest. refl)
short_is (If cond.Ns) = of_byte 0x79 1 (omega arith) (λ rest. refl)
short_is (If cond.P) = of_byte 0x7A 1 (omega arith) (λ rest. refl)
short_is (If cond.Np) = of_byte 0x7B 1 (omega arith) (λ rest. refl)
short_is (If cond.L) = of_byte 0x7C 1 (omega arith) (λ rest. refl)
short_is (If cond.Ge) = of_byte 0x7D 1 (omega arith) (λ rest. refl)
short_is (If cond.Le) = of_byte 0x7E 1 (omega arith) (λ rest. refl)
short_is (If cond.G) = of_byte 0x7F 1 (omega arith) (λ rest. refl)

-- a short form has two bytes
pub short_len : (jump : Jump) (z : ℤ) → IfSome (short_row jump) (λ row. line_len (line_of row) (jump_parts (line_of row) z) ≡ 2)
unfolding line_of
short_len Call z = tt
short_len Always z = refl
short_len (If cond.O) z = refl
short_len (If cond.No) z = refl
short_len (If cond.B) z = refl
short_len (If cond.Ae) z = refl
short_len (If cond.E) z = refl
short_len (If cond.Ne) z = refl
short_len (If cond.Be) z = refl
short_len (If cond.A) z = refl
short_len (If cond.S) z = refl
short_len (If cond.Ns) z = refl
short_len (If cond.P) z = refl
short_len (If cond.Np) z = refl
short_len (If cond.L) z = refl
short_len (If cond.Ge) z = refl
short_len (If cond.Le) z = refl
short_len (If cond.G) z = refl

-- Distances.

pub far_imm : (z : ℤ) → FitsSigned w32 z → IsImm (Simm 4) (Some z) (to_le_bytes w32 (cast_unsigned w32 z))
far_imm z f = record { reads = λ rest. let small : cast_unsigned w32 z < 2 ^ 32 = omega (arith, ints) in rw (four_back (cast_unsigned w32 z) rest small, s32_back z f) refl }

pub near_imm : (z : ℤ) → FitsSigned w8 z → IsImm (Simm 1) (Some z) (cast_unsigned w8 z ∷ [])
near_imm z f = record { reads = λ rest. rw (one_back (cast_unsigned w8 z) rest, s8_back z f) refl }

-- An opcode and a distance read by the line.
jump_reads : (opcode : Opcode) (size first : ℕ) (ib : List ℕ) (z : ℤ) → BeginsWith first (opcode_bytes opcode) → IsPrefix (legacy_prefix no_legacy None) first [] → IsImm (Simm size) (Some z) ib → 1 ≤ length (opcode_bytes opcode ++ ib) → length (opcode_bytes opcode ++ ib) ≤ 13 → ReadsLineAs (jump_parts (jump_line opcode size) z) (opcode_bytes opcode ++ ib)
jump_reads opcode size first ib z begins prefix imm least most =
    reads_line_as (jump_parts (jump_line opcode size) z) 0 (opcode_bytes opcode ++ ib)
    (λ rest. ap (find_line (jump_line opcode size)) (append_assoc (opcode_bytes opcode) ib rest) ∙ bare_line_found (jump_line opcode size) (legacy_prefix no_legacy None) first [] ib rest (Some z) prefix begins refl refl imm)
    least most

-- The codes of jumps.

four_are_bytes : (n : ℕ) → IsBytes (to_le_bytes w32 n)
four_are_bytes n =
    let a : ℕ = n % 256 in
    let b : ℕ = n / 256 % 256 in
    let c : ℕ = n / 65536 % 256 in
    let d : ℕ = n / 16777216 % 256 in
    more_bytes a (b ∷ c ∷ d ∷ []) (omega arith) (more_bytes b (c ∷ d ∷ []) (omega arith) (more_bytes c (d ∷ []) (omega arith) (one_byte d (omega arith))))

opcode_are_bytes : (escape : Bool) (b : ℕ) → b < 256 → IsBytes (if escape then 0x0F ∷ b ∷ [] else b ∷ [])
opcode_are_bytes true b h = more_bytes 0x0F (b ∷ []) (omega arith) (one_byte b h)
opcode_are_bytes false b h = one_byte b h

opcode_length : (escape : Bool) (b : ℕ) → length (if escape then 0x0F ∷ b ∷ [] else b ∷ []) ≡ (if escape then 2 else 1)
opcode_length true b = refl
opcode_length false b = refl

few_bytes : (escape : Bool) → (1 ≤ (if escape then 2 else 1)) × ((if escape then 2 else 1) ≤ 2)
few_bytes true = (omega arith, omega arith)
few_bytes false = (omega arith, omega arith)

writes : (line : Line) (z : ℤ) (target : Option DeferredTarget) (code : Code) (b : List ℕ) → IsCode code → all_bytes (code_actions code) ≡ b → ((at : ℕ) → all_notices (code_actions code) at ≡ told_at target (at + length b - 4)) → IsBytes b → ReadsLineAs (jump_parts line z) b → length b ≡ line_len line (jump_parts line z) → WritesJump line z target code
writes line z target code b is bytes notices are_bytes reads len = record {
  is = is;
  are_bytes = rw bytes are_bytes;
  reads = rw bytes reads;
  length = rw bytes len;
  notices = λ at. rw bytes (notices at);
}

-- bytes in front, a target that is told, and four bytes

behind_told : (target : Option DeferredTarget) (four : List ℕ) → all_bytes (target_actions target ++ put four ∷ []) ≡ four
behind_told None four = append-nil four
behind_told (Some target) four = append-nil four

told_behind : (target : Option DeferredTarget) (four : List ℕ) (at : ℕ) → all_notices (target_actions target ++ put four ∷ []) at ≡ told_at target at
told_behind None four at = refl
told_behind (Some target) four at = refl

front_and_four : (front four : List ℕ) (target : Option DeferredTarget) → all_bytes (puts front ++ (target_actions target ++ put four ∷ [])) ≡ front ++ four
front_and_four front four target =
    all_bytes_append (puts front) (target_actions target ++ put four ∷ [])
    ∙ ap (λ (z : List ℕ). z ++ all_bytes (target_actions target ++ put four ∷ [])) (all_bytes-puts front)
    ∙ ap (λ (z : List ℕ). front ++ z) (behind_told target four)

told_before_four : (front four : List ℕ) (target : Option DeferredTarget) (at : ℕ) → length four ≡ 4 → all_notices (puts front ++ (target_actions target ++ put four ∷ [])) at ≡ told_at target (at + length (front ++ four) - 4)
told_before_four front four target at e =
    let place : at + length (all_bytes (puts front)) ≡ at + length (front ++ four) - 4 = omega (arith, ap length (all_bytes-puts front), length-append front four) in
    all_notices_append (puts front) (target_actions target ++ put four ∷ []) at
    ∙ ap (λ (z : List Notice). z ++ all_notices (target_actions target ++ put four ∷ []) (at + length (all_bytes (puts front)))) (all_notices-puts front at)
    ∙ told_behind target four (at + length (all_bytes (puts front)))
    ∙ ap (told_at target) place

abbrev pub long_code : List ℕ → Option DeferredTarget → ℕ → Code
long_code front target word = record { trap = None; front = front; target = target; long = Some word; imm = 0; imm_len = 0 }

long_of : (line : Line) (target : Option DeferredTarget) (z : ℤ) → IsJumpLine line 4 → FitsSigned w32 z → WritesJump (jump_line line.opcode 4) z target (long_code (opcode_bytes line.opcode) target (cast_unsigned w32 z))
long_of line target z h fits =
    let opcode : List ℕ = opcode_bytes line.opcode in
    let four : List ℕ = to_le_bytes w32 (cast_unsigned w32 z) in
    let size : length opcode ≡ opcode_len line.opcode = opcode_length line.opcode.escape line.opcode.byte in
    let few = few_bytes line.opcode.escape in
    let len : length (opcode ++ four) ≡ length opcode + 4 = length-append opcode four in
    let reads : ReadsLineAs (jump_parts (jump_line line.opcode 4) z) (opcode ++ four) =
    jump_reads line.opcode 4 h.first four z h.begins h.prefix (far_imm z fits) (omega (arith, len, size, few.0)) (omega (arith, len, size, few.1)) in
    writes (jump_line line.opcode 4) z target (long_code opcode target (cast_unsigned w32 z)) (opcode ++ four)
    (record { front = omega (arith, size, few.0); imm_len = refl })
    (front_and_four opcode four target)
    (λ at. told_before_four opcode four target at refl)
    (both_bytes opcode four (opcode_are_bytes line.opcode.escape line.opcode.byte h.below) (four_are_bytes (cast_unsigned w32 z)))
    reads
    (omega (arith, len, size))

pub long_writes : (jump : Jump) (target : Option DeferredTarget) (z : ℤ) (front : List ℕ) → FitsSigned w32 z → front ≡ opcode_bytes (line_of (long_row jump)).opcode → WritesJump (line_of (long_row jump)) z target (long_code front target (cast_unsigned w32 z))
long_writes jump target z front fits is =
    let line : Line = line_of (long_row jump) in
    let h : IsJumpLine line 4 = long_is jump in
    subst (λ (l : Line). WritesJump l z target (long_code front target (cast_unsigned w32 z))) (sym h.is)
    (subst (λ (f : List ℕ). WritesJump (jump_line line.opcode 4) z target (long_code f target (cast_unsigned w32 z))) (sym is) (long_of line target z h fits))

abbrev pub short_code : List ℕ → Code
short_code front = record { trap = None; front = front; target = None; long = None; imm = 0; imm_len = 0 }

short_of : (b : ℕ) (z : ℤ) → IsJumpLine (jump_line (byte b) 1) 1 → FitsSigned w8 z → WritesJump (jump_line (byte b) 1) z None (short_code (b ∷ cast_unsigned w8 z ∷ []))
short_of b z h fits =
    let both : List ℕ = b ∷ cast_unsigned w8 z ∷ [] in
    let reads : ReadsLineAs (jump_parts (jump_line (byte b) 1) z) both =
    jump_reads (byte b) 1 h.first (cast_unsigned w8 z ∷ []) z h.begins h.prefix (near_imm z fits) (omega arith) (omega arith) in
    let small : cast_unsigned w8 z < 256 = omega (arith, ints) in
    writes (jump_line (byte b) 1) z None (short_code both) both
    (record { front = omega arith; imm_len = refl })
    refl
    (λ at. refl)
    (more_bytes b (cast_unsigned w8 z ∷ []) h.below (one_byte (cast_unsigned w8 z) small))
    reads
    refl

short_at : (line : Line) (b : ℕ) (z : ℤ) → FitsSigned w8 z → IsJumpLine line 1 → line.opcode ≡ byte b → WritesJump line z None (short_code (b ∷ cast_unsigned w8 z ∷ []))
short_at line b z fits h e =
    let is : line ≡ jump_line (byte b) 1 = h.is ∙ ap (λ (o : Opcode). jump_line o 1) e in
    subst (λ (l : Line). WritesJump l z None (short_code (b ∷ cast_unsigned w8 z ∷ []))) (sym is) (short_of b z (subst (λ (l : Line). IsJumpLine l 1) is h) fits)

some_row : (o : Option Row) (b : ℕ) (z : ℤ) → FitsSigned w8 z → IfSome o (λ row. IsJumpLine (line_of row) 1) → IfSome o (λ row. (line_of row).opcode ≡ byte b) → IfSome o (λ row. WritesJump (line_of row) z None (short_code (b ∷ cast_unsigned w8 z ∷ [])))
some_row None b z fits h e = tt
some_row (Some row) b z fits h e = short_at (line_of row) b z fits h e

pub short_writes : (jump : Jump) (b : ℕ) (z : ℤ) (front : List ℕ) → FitsSigned w8 z → IfSome (short_row jump) (λ row. (line_of row).opcode ≡ byte b) → front ≡ b ∷ cast_unsigned w8 z ∷ [] → IfSome (short_row jump) (λ row. WritesJump (line_of row) z None (short_code front))
short_writes jump b z front fits e is =
    subst (λ (f : List ℕ). IfSome (short_row jump) (λ row. WritesJump (line_of row) z None (short_code f))) (sym is) (some_row (short_row jump) b z fits (short_is jump) e)
