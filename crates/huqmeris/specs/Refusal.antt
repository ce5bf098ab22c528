-- Why operands aren't those that a line takes.
pub use Rattle.x64_lines.specs.Refusal.{unsigned_below, signed_below, imm_in_range, has_imm, imm_refusal}
pub use Rattle.x64_core.specs.Refusal.{refusal}
