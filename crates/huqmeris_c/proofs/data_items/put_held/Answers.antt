use Rattle.std.proofs.Common.{◌∙◌, ◌^◌, ℕ, ap}
use Rattle.x64_code_buffer.specs.Padding.{missing_to}
use Rattle.huqmeris_c.proofs.Behind.{padding_put}
use Rattle.huqmeris_c.proofs.data_items.put_held.Goals as goal

pub returns-clause-adds : goal.returns-clause-adds
returns-clause-adds c = padding_put c.put_all-2.result c.args.buffer.now.recorder.code.items c.put_all-2.new.buffer.recorder.code.items c.args.item.now c.padding_len-count.result c.if-item-eq-HQ_ITEM_BYTES.false c.requires (c.padding_len-count.ensures.is ∙ ap (λ (n : ℕ). missing_to n (2 ^ c.args.item.now.number)) c.len.ensures) c.padding_len-count.ensures.few c.put_all-2.ensures.adds
