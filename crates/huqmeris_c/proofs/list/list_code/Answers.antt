use Rattle.std.proofs.Common.{◌≡◌, ◌-◌, inr, arith, drop, length, subst, List}
use Rattle.std.proofs.lemmas.List.{length-drop}
use Rattle.huqmeris_c.proofs.Splits.{rest_is}
use Rattle.huqmeris_c.specs.Putting.{BadDatum}
use Rattle.huqmeris_c.specs.declared.item.HqItem.{HqItem}
use Rattle.huqmeris_c.proofs.Unlisted.{bad_listed, none_listed}
use Rattle.huqmeris_c.proofs.list.list_code.Goals as goal

pub returns-in-Err-clause-refused : goal.returns-in-Err-clause-refused
returns-in-Err-clause-refused c = none_listed c.args.items.now c.code_len-count.result c.in-Err.refused.number c.in-Err.refused.status c.code_len-count.ensures.code c.in-Err.ensures.refused

pub overflow_add-result : goal.overflow_add-result
overflow_add-result c =
    let size : length (drop c.code_len-count.result c.args.items.now) ≡ length c.args.items.now - c.code_len-count.result = length-drop c.code_len-count.result c.args.items.now in
    search arith

pub returns-in-Some-clause-refused : goal.returns-in-Some-clause-refused
returns-in-Some-clause-refused c = inr (bad_listed c.args.items.now _ c.code_len-count.result c.in-Some.number c.code_len-count.ensures.within c.code_len-count.ensures.code c.code_len-count.ensures.rest c.in_default.ensures.listed (subst (λ (l : List HqItem). BadDatum l c.in-Some.number) (rest_is c.code_len-count.result c.args.items.now) c.in-Some.ensures.bad))
