use Rattle.std.proofs.Common.{◌∙◌}
use Rattle.x64_layout.proofs.Growth.{all_small, places_small}
use Rattle.x64_layout.proofs.Rippling.{rooms_of_places}
use Rattle.x64_layout.proofs.ripple.ripple.Goals as goal

pub note_places-requires-clause-most : goal.note_places-requires-clause-most
note_places-requires-clause-most c = all_small c.args.spans.now c.args.lens.now c.requires.spans c.requires.below

pub note_rooms-requires-clause-small : goal.note_rooms-requires-clause-small
note_rooms-requires-clause-small c = places_small c.args.spans.now c.args.lens.now c.note_places.new.places c.requires.spans c.requires.below c.note_places.ensures (c.note_places.auto.places ∙ c.requires.places)

pub spread-requires-clause-rooms : goal.spread-requires-clause-rooms
spread-requires-clause-rooms c = rooms_of_places c.args.spans.now c.args.lens.now c.note_places.new.places c.note_rooms.new.rooms c.requires.spans c.requires.below.as_many c.note_places.ensures c.note_rooms.ensures
