use Rattle.std.proofs.Common.{◌∙◌, ap, sym}
use Rattle.x64_code_buffer.specs.Field.{stored_at}
use Rattle.x64_code_buffer.proofs.Fields.{all_there}
use Rattle.x64_code_buffer.proofs.patch.patch_use.Goals as goal

pub patch4-requires : goal.patch4-requires
patch4-requires g c = all_there _ c.in-Target.at c.in-Some-stored_at.stored (ap (λ z. stored_at z c.in-Target.at) (sym c.bytes.ensures) ∙ sym c.in-Some-stored_at.ensures)
