-- What the command `tail` prints.
use Rattle.std.specs.Prelude.{◌<◌, ℕ, ℤ, List, Option, None}
use Rattle.cax64_address.specs.OperandTail.{tail_meant, IsTailMeant, IsShortest}
use Rattle.cax64_address.specs.declared.amode.Amode.{Amode}
use Rattle.x64rows_command.specs.Words.{Writes}
use Rattle.x64rows_command.specs.Address.{WritesAddress, WritesFactor}

-- the words of `tail` write a reg field, an operand and a factor
pub record WritesOperand (reg base index scale disp factor : List ℕ) (n : ℕ) (operand : Amode ℕ) (scaling : Option ℤ) : Type 0 where
  pub field : Writes reg n
  pub in_range : n < 8
  pub place : WritesAddress base index scale disp operand
  pub multiple : WritesFactor factor scaling

-- the words of `tail` write some operand
pub record HasOperand (reg base index scale disp factor : List ℕ) : Type 0 where
  pub field : ℕ
  pub operand : Amode ℕ
  pub scaling : Option ℤ
  pub written : WritesOperand reg base index scale disp factor field operand scaling

-- the bytes are the shortest tail of what the words write
pub record IsTailOf (reg base index scale disp factor : List ℕ) (bytes : List ℕ) : Type 0 where
  pub field : ℕ
  pub operand : Amode ℕ
  pub scaling : Option ℤ
  pub written : WritesOperand reg base index scale disp factor field operand scaling
  pub tail : IsTailMeant (tail_meant (λ n. n) (λ _. None) field operand 0 scaling) bytes
  pub shortest : IsShortest (tail_meant (λ n. n) (λ _. None) field operand 0 scaling) bytes
