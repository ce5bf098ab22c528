use Rattle.std.proofs.Common.{◌≡◌, ℕ, ◌≤◌, Bool, true, false, refl, ap, ◌∙◌, Option, Some, None, List, [], ◌∷◌, ◌++◌, length, length-append, append_assoc, arith}
use Rattle.std.specs.Prelude.{option_map, if◌then◌else◌}
use Rattle.std.proofs.lemmas.Bool.Decides.{nat_tests}
use Rattle.cax64_address.specs.Emitted as address
use Rattle.cax64_address.specs.Emitted.{target_actions}
use Rattle.cax64_address.specs.declared.tail.TailCode.{TailCode}
use Rattle.cax64_machine_code.specs.Line.{opcode_bytes}
use Rattle.cax64_machine_code.specs.Prefix.{Rex}
use Rattle.cax64_machine_code.specs.declared.line.Line.{Line}
use Rattle.cax64_machine_code.specs.declared.line.Opcode.{Opcode}
use Rattle.cax64_prefix.specs.Rex.{rex_byte, rex_bytes}
use Rattle.cax64_address.specs.declared.amode.Amode.{Amode}
use Rattle.cax64_machine_code.specs.Reading.{Parts}
use Rattle.cax64_sink.specs.Call.{Action, put}
use Rattle.cax64_sink.specs.declared.TrapCode.{TrapCode}
use Rattle.cax64_encoder.specs.Code.{trap_actions, code_actions}
use Rattle.cax64_encoder.specs.declared.code.Code.{Code}
use Rattle.cax64_encoder.specs.Encodes.{EncodesParts}
use Rattle.cax64_sink.specs.Puts.{puts}
use Rattle.cax64_sink.specs.Rest.{long_actions}
use Rattle.cax64_sink.proofs.PutRuns.{puts-append}
use Rattle.cax64_encoder.specs.ByteWhen.{byte_of}
use Rattle.cax64_table.specs.Entry.{is_line, prefix_size}
use Rattle.cax64_encoder.proofs.Encodes.{opcode_length}
use Rattle.cax64_encoder.proofs.Lines.{line_facts}

-- The bytes in front of a long displacement and the immediate.

pub last_prefix : (rex : Option Rex) → byte_of (option_map rex_byte rex) ≡ rex_bytes rex
last_prefix None = refl
last_prefix (Some rex) = refl

-- the bytes of a tail in front of a long displacement are put one at a time
pub tail_puts : (code : TailCode) (front : List ℕ) → front ≡ ((code.modrm ∷ []) ++ byte_of code.sib) ++ byte_of code.byte → puts front ++ (target_actions code.target ++ long_actions code.long) ≡ address.tail_actions code
tail_puts code front e = ap (λ (x : List ℕ). puts x ++ (target_actions code.target ++ long_actions code.long)) e ∙ by_bytes code.sib code.byte
  where
    by_bytes : (sib byte : Option ℕ) → puts (((code.modrm ∷ []) ++ byte_of sib) ++ byte_of byte) ++ (target_actions code.target ++ long_actions code.long) ≡ put (code.modrm ∷ []) ∷ (address.byte_actions sib ++ (address.byte_actions byte ++ (target_actions code.target ++ long_actions code.long)))
    by_bytes None None = refl
    by_bytes None (Some byte) = refl
    by_bytes (Some sib) None = refl
    by_bytes (Some sib) (Some byte) = refl

-- Prefixes, opcode and tail are put one behind the other.
pub code_is : (own trap : Option TrapCode) (prefix opcode tail front : List ℕ) (target long word imm : List Action) → word ≡ imm → own ≡ trap → front ≡ (prefix ++ opcode) ++ tail → trap_actions own ++ (puts front ++ (target ++ (long ++ word))) ≡ trap_actions trap ++ (puts prefix ++ (puts opcode ++ ((puts tail ++ (target ++ long)) ++ imm)))
code_is own trap prefix opcode tail front target long word imm w e f = rw (w, e, f) (simp (puts-append, append_assoc))

pub encodes_same : {M : Type 0} (parts : Parts) (memory : Option (Amode M)) (a b : List Action) → a ≡ b → EncodesParts parts memory b → EncodesParts parts memory a
encodes_same parts memory a b e h = rw e h

pub byte_few : (byte : Option ℕ) → length (byte_of byte) ≤ 1
byte_few None = omega arith
byte_few (Some byte) = omega arith

pub opcode_few : (opcode : Opcode) → length (opcode_bytes opcode) ≤ 2
opcode_few opcode = rw (opcode_length opcode) (by_escape opcode.escape)
  where
    by_escape : (escape : Bool) → (if escape then 2 else 1) ≤ 2
    by_escape true = omega arith
    by_escape false = omega arith

-- They are few, by what is tested of a line, whatever the opcode is.
pub head_few : (line : Line) (prefix head : List ℕ) (opcode : Opcode) → is_line line ≡ true → length prefix ≤ prefix_size line.prefix → head ≡ prefix ++ opcode_bytes opcode → length head ≤ 5
head_few line prefix head opcode h size is =
    let facts = line_facts line h in
    let most : prefix_size line.prefix ≤ 3 = grind (arith, nat_tests, facts.front) in
    rw (is, length-append prefix (opcode_bytes opcode)) (omega (arith, size, most, opcode_few opcode))

pub head_some : (prefix head : List ℕ) (opcode : Opcode) → head ≡ prefix ++ opcode_bytes opcode → 1 ≤ length head
head_some prefix head opcode is =
    let some : 1 ≤ length (opcode_bytes opcode) = rw (opcode_length opcode) (by_escape opcode.escape) in
    rw (is, length-append prefix (opcode_bytes opcode)) (omega (arith, some))
  where
    by_escape : (escape : Bool) → 1 ≤ (if escape then 2 else 1)
    by_escape true = omega arith
    by_escape false = omega arith

-- A code has something that is put.

some_put : (bytes : List ℕ) (before after : List Action) → 1 ≤ length bytes → 1 ≤ length (before ++ (puts bytes ++ after))
some_put [] before after h = let bad : ⊥ = omega (arith, h) in absurd bad
some_put (byte ∷ bytes) before after h = omega (arith, length-append before (puts (byte ∷ bytes) ++ after))

pub code_some : (code : Code) → 1 ≤ length code.front → 1 ≤ length (code_actions code)
code_some code h = some_put code.front (trap_actions code.trap) _ h
