use Rattle.std.proofs.Common.{◌≡◌, ◌%◌, arith, refl}
use Rattle.cax64_encoder.specs.Tails.{width_of_word}
use Rattle.cax64_encoder.proofs.LookedUp.{width_small}
use Rattle.cax64_encoder.proofs.TailTable.{found}
use Rattle.cax64_encoder.proofs.tails.entry.Goals as goal

pub returns : goal.returns
returns c =
    let width : c.from-4.result ≡ width_of_word c.args.word = rw (c.from-4.ensures, c.from.ensures, c.from-2.ensures, c.is_long.ensures) refl in
    found c.args.has_index (width_of_word c.args.word) (c.args.base % 8) _ _ _ (width_small c.args.word) (omega arith) c.from-3.ensures width c.from-5.ensures
