use Rattle.std.proofs.Common.{◌≡◌, arith}
use Rattle.std.proofs.lemmas.Bool.Decides.{nat_tests}
use Rattle.x64_lines.specs.LineOperands.{line_operands}
use Rattle.x64_lines.proofs.Table.{kind_is, op_below, span_is}
use Rattle.x64_lines.proofs.op.Op.operands.Goals as goal

pub part-requires : goal.part-requires
part-requires c = let h = span_is c.args.self.number (op_below c.args.self) in rw c.span.ensures (grind (arith, nat_tests, h))

pub returns-clause-list : goal.returns-clause-list
returns-clause-list c = rw c.span.ensures at c.part.ensures

pub returns-clause-fit : goal.returns-clause-fit
returns-clause-fit c =
    let list : c.part.result.now ≡ line_operands c.args.self.number = rw c.span.ensures at c.part.ensures in
    rw list (kind_is c.args.self.number (op_below c.args.self))
