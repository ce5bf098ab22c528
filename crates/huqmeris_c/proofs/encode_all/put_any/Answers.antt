use Rattle.std.proofs.Common.{◌≡◌, ◌∙◌, refl, ap, arith, rules}
use Rattle.huqmeris_c.specs.Encodes.{no_offsets}
use Rattle.huqmeris_c.specs.Listed.{use_list}
use Rattle.x64_core.specs.Core.{core_len, core_notices, fault_of}
use Rattle.x64_core.specs.View.{CoreView, core_view}
use Rattle.huqmeris_c.proofs.encode_all.put_any.Goals as goal

pub returns-in-None : goal.returns-in-None
returns-in-None c = absurd (c.in-None.ensures.none c.requires.ready.core c.requires.ready.is)

pub put_behind-put-requires-clause-sound : goal.put_behind-put-requires-clause-sound
put_behind-put-requires-clause-sound c = ap (λ (v : CoreView). fault_of no_offsets v) (c.in-Some.ensures.alone c.requires.ready.core c.requires.ready.is) ∙ c.requires.ready.sound

pub put_behind-put-requires-clause-room : goal.put_behind-put-requires-clause-room
put_behind-put-requires-clause-room c =
    let same : core_len no_offsets (core_view c.in-Some.core) ≡ core_len no_offsets (core_view c.requires.ready.core) = ap (λ (v : CoreView). core_len no_offsets v) (c.in-Some.ensures.alone c.requires.ready.core c.requires.ready.is) in
    let fits = c.requires.ready.fits in
    omega (arith, same, fits)

pub note-noted-requires : goal.note-noted-requires
note-noted-requires c =
    let same : core_notices (core_view c.in-Some.core) ≡ core_notices (core_view c.requires.ready.core) = ap (λ (v : CoreView). core_notices v) (c.in-Some.ensures.alone c.requires.ready.core c.requires.ready.is) in
    let few = c.requires.ready.few in
    let number = c.put_behind-put.ensures.number in
    omega (arith, same, few, number)

pub returns-in-Some : goal.returns-in-Some
returns-in-Some c = record {
  core = c.in-Some.core;
  is = c.in-Some.ensures.is;
  alone = c.in-Some.ensures.alone;
  len = c.put_behind-put.result.0;
  heard = use_list c.put_behind-put.result.1;
  put = c.put_behind-put.ensures;
  end = refl;
  number = c.note-noted.ensures.count;
  size = search rules;
  front = c.note-noted.ensures.front;
  behind = c.note-noted.ensures.others;
  places = c.note-noted.ensures.places;
}
