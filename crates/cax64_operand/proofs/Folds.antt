use Rattle.std.proofs.Common.{◌≡◌, refl}
use Rattle.cax64_operand.specs.Fold.{fold}
use Rattle.cax64_operand.specs.Made.{made}
use Rattle.cax64_operand.specs.declared.nop.Nop.{Nop}
use Rattle.cax64_operand.specs.declared.operand.Operand.{Operand}
use Rattle.cax64_operand.specs.declared.operand.Operands.{Operands}
use Rattle.cax64_operand.specs.declared.operand.Operands.TheVariants as operands
use Rattle.cax64_operand.specs.declared.task.Made.{Made}

-- what gives itself back is made as what it gives
pub fold_made : {R A B C D E F T : Type 0} (none : T) (with : Operand R A B C D E F → T → T) (nop : Nop → T) (o : Operands R A B C D E F) → (fold (made none) (λ operand (later : Made T). made (with operand later.made)) (λ own. made (nop own)) o).made ≡ fold none with nop o
fold_made none with nop operands.Zero = refl
fold_made none with nop (operands.One a) = refl
fold_made none with nop (operands.Two a b) = refl
fold_made none with nop (operands.Three a b c) = refl
fold_made none with nop (operands.Four a b c d) = refl
fold_made none with nop (operands.Five a b c d e) = refl
fold_made none with nop (operands.Nop own) = refl
