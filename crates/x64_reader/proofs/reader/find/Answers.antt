use Rattle.std.proofs.Common.{◌≡◌, ◌∙◌, ℕ, List, sym, Option, Some, None}
use Rattle.cax64_machine_code.specs.Prefix.{Prefix, prefix_at}
use Rattle.cax64_machine_code.specs.Reading.{FoundOf, operands_of}
use Rattle.cax64_machine_code.specs.ReadLine.{find_line}
use Rattle.cax64_machine_code.specs.declared.line.Line.{Line}
use Rattle.cax64_reader.specs.ByLine.{found_behind}
use Rattle.cax64_reader.specs.Found.{found_of}
use Rattle.cax64_reader.specs.Front.{prefix_of}
use Rattle.x64_lines.specs.Line.{core_line}
use Rattle.x64_lines.proofs.Table.{op_below}
use Rattle.x64_reader.proofs.Found.{behind_prefix, core_length, no_prefix, nothing_found}
use Rattle.x64_reader.proofs.reader.find.Goals as goal

pub returns-in_err-front-clause-none : goal.returns-in_err-front-clause-none
returns-in_err-front-clause-none g c = rw c.from_residual.ensures (λ n below. no_prefix (core_line n) c.args.bytes.now (sym c.in_err-front.ensures))

pub returns-in_err-op-clause-none : goal.returns-in_err-op-clause-none
returns-in_err-op-clause-none g c = rw c.from_residual-in_err-op.ensures
    (λ n below. behind_prefix (core_line n) c.args.bytes.now c.in_ok-front.behind.now (prefix_of c.in_ok-front.front) (sym c.in_ok-front.ensures)
    ∙ nothing_found c.args.limit (prefix_of c.in_ok-front.front) c.in_ok-front.behind.now None c.in_err-op.ensures.alone tt n below)

-- what is read of a line's operands is what the line finds at the front
line_finds : (line read : Line) (p : Prefix) (bytes behind rest : List ℕ) (found : Option (FoundOf Line)) → prefix_at bytes ≡ Some (p, behind) → found_behind line p behind ≡ operands_of line.tail line line p rest → read ≡ line → found ≡ operands_of read.tail read read p rest → find_line line bytes ≡ found
line_finds line read p bytes behind rest found h f e o = behind_prefix line bytes behind p h ∙ f ∙ sym (rw e at o)

pub returns-in_err-found-clause-none : goal.returns-in_err-found-clause-none
returns-in_err-found-clause-none g c = rw c.from_residual-in_err-found.ensures
    (λ n below. behind_prefix (core_line n) c.args.bytes.now c.in_ok-front.behind.now (prefix_of c.in_ok-front.front) (sym c.in_ok-front.ensures)
    ∙ nothing_found c.args.limit (prefix_of c.in_ok-front.front) c.in_ok-front.behind.now (Some c.in_ok-op.op.number) c.in_ok-op.ensures.alone
    (c.in_ok-op.ensures.finds ∙ sym (rw c.line-line.ensures.is at c.in_err-found.ensures.is)) n below)

pub returns-clause-found : goal.returns-clause-found
returns-clause-found g c = line_finds (core_line c.in_ok-op.op.number) c.line-line.result.now (prefix_of c.in_ok-front.front) c.args.bytes.now c.in_ok-front.behind.now c.in_ok-op.rest.now (Some (found_of c.in_ok-found.found)) (sym c.in_ok-front.ensures) c.in_ok-op.ensures.finds c.line-line.ensures.is c.in_ok-found.ensures.is

pub returns-clause-length : goal.returns-clause-length
returns-clause-length g c = core_length c.in_ok-op.op.number c.args.bytes.now (found_of c.in_ok-found.found) (op_below c.in_ok-op.op)
    (line_finds (core_line c.in_ok-op.op.number) c.line-line.result.now (prefix_of c.in_ok-front.front) c.args.bytes.now c.in_ok-front.behind.now c.in_ok-op.rest.now (Some (found_of c.in_ok-found.found)) (sym c.in_ok-front.ensures) c.in_ok-op.ensures.finds c.line-line.ensures.is c.in_ok-found.ensures.is)
