use Rattle.std.proofs.Common.{◌≡◌, rules}
use Rattle.cax64_text.specs.PrintedAlike.{eight_behind}
use Rattle.cax64_text.proofs.laws.example_of_texts.Goals as goal

pub returns : goal.returns
returns c d alike =
    let same = (c.laws_of_texts.ensures d (eight_behind 0) (eight_behind 1) (search rules) (search rules)).0 alike in
    let bad : 0 ≡ 1 = same.0 in
    cc
