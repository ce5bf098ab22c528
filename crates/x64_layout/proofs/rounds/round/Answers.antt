use Rattle.x64_layout.proofs.Growth.{all_small}
use Rattle.x64_layout.proofs.rounds.round.Goals as goal

pub note_places-requires-clause-most : goal.note_places-requires-clause-most
note_places-requires-clause-most c = all_small c.args.spans.now c.args.lens.now c.requires.spans c.requires.below
