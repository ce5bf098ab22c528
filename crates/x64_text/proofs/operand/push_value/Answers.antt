use Rattle.std.proofs.Common.{◌≡◌, ◌∙◌, sym, w64}
use Rattle.std.proofs.lemmas.Int.{to_z-of_z}
use Rattle.x64_lines.proofs.Table.{op_below}
use Rattle.x64_text.specs.Style.{style_of}
use Rattle.x64_text.specs.declared.style.Style.TheVariants.{Branch}
use Rattle.x64_text.proofs.Table.{branch_len}
use Rattle.x64_text.proofs.operand.push_value.Goals as goal

pub returns-in-Branch : goal.returns-in-Branch
returns-in-Branch g c =
    let number = c.args.op.number in
    let style : style_of number ≡ Branch c.in-Branch.len = rw (← c.number.ensures.is) (sym c.line_style.ensures ∙ c.in-Branch.is) in
    rw (style, ← branch_len number c.in-Branch.len (op_below c.args.op) style) (rw (to_z-of_z w64 c.args.value c.ranges.value) at c.push_target.ensures)
