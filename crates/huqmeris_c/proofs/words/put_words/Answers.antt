use Rattle.std.proofs.Common.{◌∙◌, ◌++◌, ap, ℕ, List, take, drop, w64, refl}
use Rattle.std.specs.Int.{to_le_bytes}
use Rattle.huqmeris_c.proofs.Places.{both_placed}
use Rattle.huqmeris_c.proofs.words.put_words.Goals as goal

pub returns : goal.returns
returns c =
    let rest = to_le_bytes w64 c.args.rest in
    both_placed c.args.count c.args.more (to_le_bytes w64 c.args.front) rest (to_le_bytes w64 c.blended.result)
    c.args.code.now c.put_word.new.code c.put_word-2.new.code
    c.requires.count c.requires.more c.requires.room refl
    (c.blended.ensures ∙ ap (λ (xs : List ℕ). take c.args.more rest ++ drop c.args.more xs) c.word_at-second.ensures)
    c.put_word.ensures c.put_word-2.ensures
