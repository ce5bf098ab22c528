use Rattle.std.proofs.Common.{pos}
use Rattle.x64_plain.specs.declared.inst.HqInst.{HqInst}
use Rattle.huqmeris_c.specs.declared.item.HqItem.{HqItem}

-- What stands where nothing does.

abbrev pub no_inst : HqInst
no_inst = record { line = 0; place = 0; reg = 0; vvvv = 0; base = 0; index = 0; scale = 0; trap = 0; has_offset = 0; offset = 0; reserved = 0; disp = pos 0; target = 0; imm = 0 }

abbrev pub no_item : HqItem
no_item = record { kind = 0; number = 0; inst = no_inst }
