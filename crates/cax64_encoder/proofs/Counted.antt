use Rattle.std.proofs.Common.{◌≡◌, ℕ, ◌+◌, ◌*◌, arith, true, refl, ◌∙◌, ap, Option, Some, None, length}
use Rattle.std.specs.Prelude.{is_some}
use Rattle.std.specs.Int.{from_bool}
use Rattle.cax64_address.specs.Emitted.{target_actions}
use Rattle.cax64_sink.specs.Puts.{puts}
use Rattle.cax64_sink.specs.Rest.{long_actions, word_actions, is_imm_len}
use Rattle.cax64_sink.specs.Run.{all_bytes}
use Rattle.cax64_sink.proofs.PutRuns.{all_bytes-puts}
use Rattle.cax64_sink.proofs.Rests.{rest_length}
use Rattle.cax64_sink.specs.declared.DeferredTarget.{DeferredTarget}
use Rattle.cax64_encoder.specs.Code.{trap_actions, code_actions}
use Rattle.cax64_encoder.specs.declared.code.Code.{Code}
use Rattle.cax64_encoder.proofs.Encodes.{trap_bytes, five_lengths}

-- How many bytes a code has, by its parts.

target_length : (target : Option DeferredTarget) → length (all_bytes (target_actions target)) ≡ 0
target_length None = refl
target_length (Some place) = refl

long_length : (long : Option ℕ) → length (all_bytes (long_actions long)) ≡ 4 * from_bool (is_some long)
long_length None = refl
long_length (Some word) = refl

pub counted : (code : Code) → is_imm_len code.imm_len ≡ true → length (all_bytes (code_actions code)) ≡ length code.front + 4 * from_bool (is_some code.long) + code.imm_len
counted code h =
    let word : length (all_bytes (word_actions code.imm_len code.imm)) ≡ 0 + code.imm_len = rest_length None code.imm code.imm_len h in
    five_lengths (trap_actions code.trap) (puts code.front) (target_actions code.target) (long_actions code.long) (word_actions code.imm_len code.imm) (trap_bytes code.trap)
    ∙ omega (arith, ap length (all_bytes-puts code.front), target_length code.target, long_length code.long, word)
