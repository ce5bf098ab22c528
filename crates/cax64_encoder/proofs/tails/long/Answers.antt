use Rattle.std.proofs.Common.{◌≡◌, ◌∙◌, true, false, refl, sym}
use Rattle.std.specs.Prelude.{◌==◌}
use Rattle.cax64_encoder.specs.Tails.{width_of_word}
use Rattle.cax64_encoder.proofs.LookedUp.{long_is}
use Rattle.cax64_encoder.proofs.tails.long.Goals as goal

pub returns-then-is_long : goal.returns-then-is_long
returns-then-is_long c =
    let is : (width_of_word c.args.word == 2) ≡ true = long_is c.args.word ∙ (sym c.is_long.ensures ∙ c.if-is_long.true) in
    rw is refl

pub returns-else-is_long : goal.returns-else-is_long
returns-else-is_long c =
    let is : (width_of_word c.args.word == 2) ≡ false = long_is c.args.word ∙ (sym c.is_long.ensures ∙ c.if-is_long.false) in
    rw is refl
