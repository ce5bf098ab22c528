use Rattle.std.proofs.Common.{◌≡◌, ◌∙◌, ℕ, false, arith, length, subst, sym, take}
use Rattle.huqmeris_c.proofs.Plainly.{no_item}
use Rattle.huqmeris_c.proofs.Splits.{here_is, none_more, none_there, split_code, split_data}
use Rattle.huqmeris_c.specs.Items.{has_data}
use Rattle.huqmeris_c.proofs.data_items.code_len.Goals as goal

pub returns-then-is_data-clause-code : goal.returns-then-is_data-clause-code
returns-then-is_data-clause-code c = split_code c.args.items.now c.loop-i.i c.loop-i.invariant (here_is c.args.items.now no_item c.loop-i.i (search arith) (sym c.is_data.ensures ∙ c.if-is_data.true))

pub returns-then-is_data-clause-rest : goal.returns-then-is_data-clause-rest
returns-then-is_data-clause-rest c = split_data c.args.items.now c.loop-i.i c.loop-i.invariant (here_is c.args.items.now no_item c.loop-i.i (search arith) (sym c.is_data.ensures ∙ c.if-is_data.true))

pub loop-i-preserved : goal.loop-i-preserved
loop-i-preserved c = none_more c.args.items.now no_item c.loop-i.i (search arith) (sym c.is_data.ensures ∙ c.if-is_data.false) c.loop-i.invariant

pub returns-clause-code : goal.returns-clause-code
returns-clause-code c =
    let end : c.loop-i.i ≡ length c.args.items.now = omega (arith, c.loop-i-test.false, c.loop-i.auto) in
    split_code c.args.items.now (length c.args.items.now) (subst (λ (n : ℕ). has_data (take n c.args.items.now) ≡ false) end c.loop-i.invariant) (none_there c.args.items.now (length c.args.items.now) (omega arith))

pub returns-clause-rest : goal.returns-clause-rest
returns-clause-rest c =
    let end : c.loop-i.i ≡ length c.args.items.now = omega (arith, c.loop-i-test.false, c.loop-i.auto) in
    split_data c.args.items.now (length c.args.items.now) (subst (λ (n : ℕ). has_data (take n c.args.items.now) ≡ false) end c.loop-i.invariant) (none_there c.args.items.now (length c.args.items.now) (omega arith))
