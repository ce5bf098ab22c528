use Rattle.cax64_operand.proofs.Shapes.{has_shape, few_operands}
use Rattle.cax64_operand.proofs.Table.{few_in_signature}
use Rattle.cax64_operand.proofs.laws.laws_of_signatures.Goals as goal

pub returns-clause-shape : goal.returns-clause-shape
returns-clause-shape g c row operands h = has_shape row operands h

pub returns-clause-few : goal.returns-clause-few
returns-clause-few g c row operands h = few_operands operands

pub returns-clause-signature_is_few : goal.returns-clause-signature_is_few
returns-clause-signature_is_few g c row = few_in_signature row
