use Rattle.std.proofs.Common.{◌≡◌, ◌∙◌, sym, subst, false, List, [], ◌∷◌, ◌++◌}
use Rattle.std.specs.Prelude.{is_err}
use Rattle.huqmeris_c.proofs.Made.{makes_push, pushed_is}
use Rattle.huqmeris_c.specs.Putting.{MakesEach}
use Rattle.x64_assemble.specs.declared.item.Item.{Item}
use Rattle.x64_core.specs.declared.instruction.Core.{Core}
use Rattle.huqmeris_c.proofs.list.list_item.Goals as goal

pub returns-clause-listed : goal.returns-clause-listed
returns-clause-listed c = λ before h.
    let well : is_err c.push.result ≡ false = sym c.is_err.ensures.value ∙ c.if-is_err.false in
    let pushed = pushed_is c.push.result c.push.new.self.items (c.args.list.now.items ++ c.in-Ok.item ∷ []) c.args.list.now.items well c.push.ensures.items in
    subst (λ (l : List (Item Core)). MakesEach (before ++ c.args.item.now ∷ []) l) (sym pushed) (makes_push before c.args.list.now.items c.args.item.now c.in-Ok.item h c.in-Ok.ensures.made)
