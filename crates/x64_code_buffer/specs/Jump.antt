-- Jumps and calls by a distance from their end: their rows, what is read of them, and what is put. (Intel SDM, volume 2, CALL,
-- JMP and Jcc.)
use Rattle.std.specs.Prelude.{◌≡◌, ℕ, ◌+◌, ◌-◌, ℤ, pos, negsuc, ◌-ℤ◌, Bool, if◌then◌else◌, is_some, nat_lt, IfSome, Option, Some, None, option_and_then, List, [], ◌∷◌, ◌++◌, length}
use Rattle.cax64_encoder.specs.Code.{IsCode, code_actions}
use Rattle.cax64_encoder.specs.declared.code.Code.{Code}
use Rattle.cax64_machine_code.specs.Fields.{IsBytes}
use Rattle.cax64_machine_code.specs.Len.{len_of, line_len}
use Rattle.cax64_machine_code.specs.Reading.{PartsOf}
use Rattle.cax64_machine_code.specs.ReadLine.{ReadsLineAs}
use Rattle.cax64_machine_code.specs.Rows.{line_of}
use Rattle.cax64_machine_code.specs.declared.line.Line.{Line}
use Rattle.cax64_machine_code.specs.declared.row.Row.{Row}
use Rattle.cax64_machine_code.specs.declared.row.Row.TheVariants as row
use Rattle.cax64_sink.specs.Run.{all_bytes, all_notices}
use Rattle.cax64_sink.specs.Sink.{State}
use Rattle.cax64_sink.specs.declared.DeferredTarget.{DeferredTarget}
use Rattle.cax64_sink.specs.declared.Notice.{Notice}
use Rattle.cax64_sink.specs.declared.Notice.TheVariants.{Target}
use Rattle.x64_code_buffer.specs.declared.jump.Condition.TheVariants as cond
use Rattle.x64_code_buffer.specs.declared.jump.Jump.{Jump}
use Rattle.x64_code_buffer.specs.declared.jump.Jump.TheVariants.{Call, Always, If}

-- the row of the form with four bytes of distance
abbrev pub long_row : Jump → Row
long_row Call = row.callq_d
long_row Always = row.jmp_d32
long_row (If cond.O) = row.jo_d32
long_row (If cond.No) = row.jno_d32
long_row (If cond.B) = row.jb_d32
long_row (If cond.Ae) = row.jae_d32
long_row (If cond.E) = row.je_d32
long_row (If cond.Ne) = row.jne_d32
long_row (If cond.Be) = row.jbe_d32
long_row (If cond.A) = row.ja_d32
long_row (If cond.S) = row.js_d32
long_row (If cond.Ns) = row.jns_d32
long_row (If cond.P) = row.jp_d32
long_row (If cond.Np) = row.jnp_d32
long_row (If cond.L) = row.jl_d32
long_row (If cond.Ge) = row.jge_d32
long_row (If cond.Le) = row.jle_d32
long_row (If cond.G) = row.jg_d32

-- and that of the form with one byte, if there is one
abbrev pub short_row : Jump → Option Row
short_row Call = None
short_row Always = Some row.jmp_d8
short_row (If cond.O) = Some row.jo_d8
short_row (If cond.No) = Some row.jno_d8
short_row (If cond.B) = Some row.jb_d8
short_row (If cond.Ae) = Some row.jae_d8
short_row (If cond.E) = Some row.je_d8
short_row (If cond.Ne) = Some row.jne_d8
short_row (If cond.Be) = Some row.jbe_d8
short_row (If cond.A) = Some row.ja_d8
short_row (If cond.S) = Some row.js_d8
short_row (If cond.Ns) = Some row.jns_d8
short_row (If cond.P) = Some row.jp_d8
short_row (If cond.Np) = Some row.jnp_d8
short_row (If cond.L) = Some row.jl_d8
short_row (If cond.Ge) = Some row.jge_d8
short_row (If cond.Le) = Some row.jle_d8
short_row (If cond.G) = Some row.jg_d8

-- what is read of a jump at this distance: by its row, or by the row's line
abbrev pub jump_parts : {K : Type 0} → K → ℤ → PartsOf K
jump_parts key distance = record { row = key; reg = None; vvvv = None; place = None; imm = Some distance }

-- A sink has got the form of a jump of this row at a distance: bytes that read by the row's line, whatever follows, as that,
-- as many as it has, and no notice.
pub record AddsAt (row : Row) (distance : ℤ) (old new : State) : Type 0 where
  pub added : List ℕ
  pub bytes : new.bytes ≡ old.bytes ++ added
  pub are_bytes : IsBytes added
  pub reads : ReadsLineAs (jump_parts (line_of row) distance) added
  pub length : length added ≡ len_of (jump_parts row distance)
  pub notices : new.notices ≡ old.notices

-- It has got the form of a jump with one byte of distance.
abbrev pub AddsNear : Jump → ℤ → State → State → Type 0
AddsNear jump distance old new = IfSome (short_row jump) (λ row. AddsAt row distance old new)

-- It has got the form with four bytes, whose distance isn't there yet, and the use of its target at these.
pub record AddsJump (jump : Jump) (target : DeferredTarget) (old new : State) : Type 0 where
  pub added : List ℕ
  pub bytes : new.bytes ≡ old.bytes ++ added
  pub are_bytes : IsBytes added
  pub reads : ReadsLineAs (jump_parts (line_of (long_row jump)) (pos 0)) added
  pub notices : new.notices ≡ old.notices ++ Target (length old.bytes + length added - 4) target ∷ []
  pub length : length added ≡ len_of (jump_parts (long_row jump) (pos 0))

-- a number of a signed byte, -128 to 127
abbrev pub fits_i8 : ℤ → Bool
fits_i8 (pos n) = nat_lt n 128
fits_i8 (negsuc n) = nat_lt n 128

abbrev pub if_i8 : ℤ → Option ℤ
if_i8 z = if fits_i8 z then Some z else None

-- The distance of the form with one byte, put behind so many bytes, to a position, if there is that form and it reaches: it
-- counts from the end of the jump's two bytes.
abbrev pub near_distance : Jump → Option ℕ → ℕ → Option ℤ
near_distance jump place here = if is_some (short_row jump) then option_and_then (λ p. if_i8 (pos p -ℤ pos (here + 2))) place else None

-- how many bytes a jump has at this near distance, or else with four bytes of distance; and how many notices
abbrev pub jump_len : Jump → Option ℤ → ℕ
jump_len jump None = len_of (jump_parts (long_row jump) (pos 0))
jump_len jump (Some distance) = 2

abbrev pub jump_notices : Option ℤ → ℕ
jump_notices None = 1
jump_notices (Some distance) = 0

-- Steps of the proofs.

abbrev pub told_at : Option DeferredTarget → ℕ → List Notice
told_at None at = []
told_at (Some target) at = Target at target ∷ []

-- a code that writes a jump of this line at a distance, and tells of a target, if there is one, at its last four bytes
pub record WritesJump (line : Line) (distance : ℤ) (target : Option DeferredTarget) (code : Code) : Type 0 where
  pub is : IsCode code
  pub are_bytes : IsBytes (all_bytes (code_actions code))
  pub reads : ReadsLineAs (jump_parts line distance) (all_bytes (code_actions code))
  pub notices : (at : ℕ) → all_notices (code_actions code) at ≡ told_at target (at + length (all_bytes (code_actions code)) - 4)
  pub length : length (all_bytes (code_actions code)) ≡ line_len line (jump_parts line distance)
