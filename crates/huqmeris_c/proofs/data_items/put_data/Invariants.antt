use Rattle.std.proofs.Common.{◌≡◌, List, []}
use Rattle.huqmeris_c.proofs.Behind.{PutUpTo}
use Rattle.huqmeris_c.specs.Putting.{Behind}
use Rattle.huqmeris_c.specs.declared.item.HqItem.{HqItem}
use Rattle.x64_code_buffer.specs.Buffer.{buffer_state, label_count, places_of}
use Rattle.huqmeris_c.proofs.data_items.put_data.Given as goal

abbrev pub invariant-loop-i : goal.invariant-loop-i
invariant-loop-i l =
    (label_count l.buffer ≡ label_count l.initial.buffer)
    × ((front : List HqItem) → Behind (label_count l.initial.buffer) front [] (buffer_state l.initial.buffer) (places_of l.initial.buffer) → PutUpTo (label_count l.initial.buffer) front l.fn.items l.buffer l.i)
