use Rattle.cax64_machine_code.specs.Reading as reading
use Rattle.cax64_machine_code.specs.Tail as tail
use Rattle.cax64_reader.specs.declared.operands.Found.{Found}
use Rattle.cax64_reader.specs.declared.tail.Tail.{Tail}

-- What the program finds in some bytes, in the words of the definitions.

abbrev pub tail_of : Tail → tail.Tail
tail_of found = record { reg = found.reg; place = found.place; rest = found.rest.now }

abbrev pub found_of : {K : Type 0} → Found K → reading.FoundOf K
found_of found = record {
  parts = record {
    row = found.key;
    reg = found.reg;
    vvvv = found.vvvv;
    place = found.place;
    imm = found.imm;
  };
  tail = found.tail;
  rest = found.rest.now;
}
