use Rattle.std.proofs.Common.{◌≡◌, ◌+◌, ◌-◌, ◌≤◌, ℤ, List, arith, drop, length, rules, subst, sym, FitsSigned, w32}
use Rattle.std.proofs.lemmas.Int.{to_z-of_z}
use Rattle.std.proofs.lemmas.List.{length-drop}
use Rattle.huqmeris_c.proofs.Splits.{rest_is}
use Rattle.huqmeris_c.proofs.Unlisted.{code_unlisted, data_unlisted_by, few_listed, none_refused_by}
use Rattle.huqmeris_c.specs.Putting.{Denied, ListedTo}
use Rattle.huqmeris_c.specs.Data.{items_of_code}
use Rattle.x64_assemble.specs.declared.item.Item.{Item}
use Rattle.x64_core.specs.declared.instruction.Core.{Core}
use Rattle.huqmeris_c.proofs.assemble.put_items.Goals as goal

pub returns-in-Err-put_code-clause-refused : goal.returns-in-Err-put_code-clause-refused
returns-in-Err-put_code-clause-refused c =
    let listed : ListedTo c.args.items.now c.in-Ok.count c.deref.result.now = subst (λ (l : List (Item Core)). ListedTo c.args.items.now c.in-Ok.count l) (sym c.deref.ensures.value) c.in-Ok.ensures.listed in
    code_unlisted c.args.items.now _ c.in-Ok.count c.in-Err-put_code.refused.number c.in-Err-put_code.refused.status c.deref.result.now listed c.in_default.ensures.given.labels (c.in-Err-put_code.ensures.refused (items_of_code c.args.items.now) listed.makes (few_listed c.args.items.now c.in-Ok.count c.deref.result.now listed (search arith)))

pub overflow_add-result : goal.overflow_add-result
overflow_add-result c =
    let within : c.in-Ok.count ≤ length c.args.items.now = c.in-Ok.ensures.listed.within in
    let size : length (drop c.in-Ok.count c.args.items.now) ≡ length c.args.items.now - c.in-Ok.count = length-drop c.in-Ok.count c.args.items.now in
    search arith

pub returns-clause-refused : goal.returns-clause-refused
returns-clause-refused c =
    let listed : ListedTo c.args.items.now c.in-Ok.count c.deref.result.now = subst (λ (l : List (Item Core)). ListedTo c.args.items.now c.in-Ok.count l) (sym c.deref.ensures.value) c.in-Ok.ensures.listed in
    let small : FitsSigned w32 c.in-Err-put_data.refused.status = search rules in
    let here : Denied c.args.items.now (c.in-Ok.count + c.in-Err-put_data.refused.number) c.in-Err-put_data.refused.status = data_unlisted_by c.args.items.now c.in-Ok.count c.in-Err-put_data.refused.number c.in-Err-put_data.refused.status c.deref.result.now _ (rest_is c.in-Ok.count c.args.items.now) c.put_code.new.buffer c.give_labels.new.buffer listed c.put_code.ensures.labels c.in_default.ensures.given.labels (c.in_default-put_code.ensures.put (items_of_code c.args.items.now) listed.makes) (λ behind. c.in-Err-put_data.ensures.refused (items_of_code c.args.items.now) behind) in
    subst (λ (z : ℤ). Denied c.args.items.now (c.in-Ok.count + c.in-Err-put_data.refused.number) z) (sym (to_z-of_z w32 c.in-Err-put_data.refused.status small)) here

pub returns-in-Ok-put_data-clause-tested : goal.returns-in-Ok-put_data-clause-tested
returns-in-Ok-put_data-clause-tested c =
    let listed : ListedTo c.args.items.now c.in-Ok.count c.deref.result.now = subst (λ (l : List (Item Core)). ListedTo c.args.items.now c.in-Ok.count l) (sym c.deref.ensures.value) c.in-Ok.ensures.listed in
    none_refused_by c.args.items.now c.in-Ok.count c.deref.result.now _ (rest_is c.in-Ok.count c.args.items.now) c.put_code.new.buffer c.give_labels.new.buffer listed c.put_code.ensures.labels c.in_default.ensures.given.labels (c.in_default-put_code.ensures.put (items_of_code c.args.items.now) listed.makes) (λ behind. c.in-Ok-put_data.ensures.tested (items_of_code c.args.items.now) behind)
