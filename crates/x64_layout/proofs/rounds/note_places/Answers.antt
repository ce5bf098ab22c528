use Rattle.std.proofs.Common.{◌<◌, ◌≤◌, ◌*◌, arith, length}
use Rattle.std.proofs.lemmas.List.Elements.{All-get_or}
use Rattle.x64_layout.specs.Layout.{place_in}
use Rattle.x64_layout.proofs.Growth.{place_small}
use Rattle.x64_layout.proofs.rounds.note_places.Goals as goal

pub overflow_add-at : goal.overflow_add-at
overflow_add-at c =
    let within : c.loop-n.n < length c.args.lens.now = search arith in
    let at_most : place_in c.args.lens.now c.loop-n.n ≤ 13 * c.loop-n.n = place_small c.args.lens.now c.loop-n.n c.requires.most (omega arith) in
    omega (arith, c.loop-n.invariant.at, c.requires.few, c.from-at.ensures, All-get_or (λ len. len ≤ 13) c.args.lens.now c.loop-n.n 0 within c.requires.most)
