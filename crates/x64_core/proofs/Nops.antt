use Rattle.std.proofs.Common.{◌≡◌, ◌∙◌, ℕ, ℤ, pos, refl, sym, ap, Option, None}
use Rattle.cax64_address.specs.declared.amode.Amode.{Amode}
use Rattle.cax64_encoder.specs.declared.role.PlaceOperand.{PlaceOperand}
use Rattle.cax64_encoder.specs.declared.role.PlaceOperand.TheVariants.{NoPlace, Memory}
use Rattle.cax64_machine_code.specs.Rows.{line_of, all_rows}
use Rattle.cax64_table.specs.Packed.{number_of}
use Rattle.x64_core.specs.Core.{core_len}
use Rattle.x64_lines.specs.Lines.{core_lines}
use Rattle.x64_core.specs.Nop.{at_rax, at_two_rax, nop_view}
use Rattle.x64_core.specs.View.{CoreView}

-- The nine no-operations.

pub record IsNop (v : CoreView) (len : ℕ) : Type 0 where
  pub view : v ≡ nop_view len
  pub length : (offsets : ℕ → Option ℤ) → core_len offsets v ≡ len

abbrev made : ℕ → PlaceOperand ℕ → CoreView
made op place = record { op = op; reg = None; vvvv = None; place = place; imm = None }

is_nop : (v : CoreView) (op : ℕ) (place : PlaceOperand ℕ) (n len : ℕ) → v ≡ made op place → len ≡ n → made op place ≡ nop_view n → ((offsets : ℕ → Option ℤ) → core_len offsets (made op place) ≡ n) → IsNop v len
is_nop v op place n len e h view counted = record {
  view = e ∙ view ∙ ap (λ (m : ℕ). nop_view m) (sym h);
  length = λ offsets. ap (λ (w : CoreView). core_len offsets w) e ∙ counted offsets ∙ sym h;
}

-- of this memory
is_nop_at : (v : CoreView) (op : ℕ) (found amode : Amode ℕ) (n len : ℕ) → v ≡ made op (Memory found) → found ≡ amode → len ≡ n → made op (Memory amode) ≡ nop_view n → ((offsets : ℕ → Option ℤ) → core_len offsets (made op (Memory amode)) ≡ n) → IsNop v len
is_nop_at v op found amode n len e at h view counted = is_nop v op (Memory amode) n len (e ∙ ap (λ (a : Amode ℕ). made op (Memory a)) at) h view counted

pub one : (v : CoreView) (len : ℕ) → v ≡ made 154 NoPlace → len ≡ 1 → IsNop v len
unfolding number_of core_lines line_of all_rows
one v len e h = is_nop v 154 NoPlace 1 len e h refl (λ offsets. refl)

pub two : (v : CoreView) (len : ℕ) → v ≡ made 155 NoPlace → len ≡ 2 → IsNop v len
unfolding number_of core_lines line_of all_rows
two v len e h = is_nop v 155 NoPlace 2 len e h refl (λ offsets. refl)

pub three : (v : CoreView) (found : Amode ℕ) (len : ℕ) → v ≡ made 156 (Memory found) → found ≡ at_rax (pos 0) → len ≡ 3 → IsNop v len
unfolding number_of core_lines line_of all_rows
three v found len e at h = is_nop_at v 156 found (at_rax (pos 0)) 3 len e at h refl (λ offsets. refl)

pub four : (v : CoreView) (found : Amode ℕ) (len : ℕ) → v ≡ made 156 (Memory found) → found ≡ at_rax (pos 1) → len ≡ 4 → IsNop v len
unfolding number_of core_lines line_of all_rows
four v found len e at h = is_nop_at v 156 found (at_rax (pos 1)) 4 len e at h refl (λ offsets. refl)

pub five : (v : CoreView) (found : Amode ℕ) (len : ℕ) → v ≡ made 156 (Memory found) → found ≡ at_two_rax (pos 1) → len ≡ 5 → IsNop v len
unfolding number_of core_lines line_of all_rows
five v found len e at h = is_nop_at v 156 found (at_two_rax (pos 1)) 5 len e at h refl (λ offsets. refl)

pub six : (v : CoreView) (found : Amode ℕ) (len : ℕ) → v ≡ made 157 (Memory found) → found ≡ at_two_rax (pos 1) → len ≡ 6 → IsNop v len
unfolding number_of core_lines line_of all_rows
six v found len e at h = is_nop_at v 157 found (at_two_rax (pos 1)) 6 len e at h refl (λ offsets. refl)

pub seven : (v : CoreView) (found : Amode ℕ) (len : ℕ) → v ≡ made 156 (Memory found) → found ≡ at_rax (pos 256) → len ≡ 7 → IsNop v len
unfolding number_of core_lines line_of all_rows
seven v found len e at h = is_nop_at v 156 found (at_rax (pos 256)) 7 len e at h refl (λ offsets. refl)

pub eight : (v : CoreView) (found : Amode ℕ) (len : ℕ) → v ≡ made 156 (Memory found) → found ≡ at_two_rax (pos 256) → len ≡ 8 → IsNop v len
unfolding number_of core_lines line_of all_rows
eight v found len e at h = is_nop_at v 156 found (at_two_rax (pos 256)) 8 len e at h refl (λ offsets. refl)

pub nine : (v : CoreView) (found : Amode ℕ) (len : ℕ) → v ≡ made 157 (Memory found) → found ≡ at_two_rax (pos 256) → len ≡ 9 → IsNop v len
unfolding number_of core_lines line_of all_rows
nine v found len e at h = is_nop_at v 157 found (at_two_rax (pos 256)) 9 len e at h refl (λ offsets. refl)
