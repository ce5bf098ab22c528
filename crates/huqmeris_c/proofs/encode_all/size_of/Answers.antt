use Rattle.std.proofs.Common.{◌∙◌, inr, sym, rules, FitsSigned, w32}
use Rattle.std.proofs.lemmas.Int.{to_z-of_z}
use Rattle.huqmeris_c.proofs.encode_all.size_of.Goals as goal

pub returns-in-Some-first_fault-clause-refused : goal.returns-in-Some-first_fault-clause-refused
returns-in-Some-first_fault-clause-refused c =
    let small : FitsSigned w32 c.fault_status.result = search rules in
    inr (record {
      core = c.in-Some.core;
      is = c.in-Some.ensures.is;
      fault = c.in-Some-first_fault.fault;
      found = sym c.in-Some-first_fault.ensures.fault;
      named = to_z-of_z w32 c.fault_status.result small ∙ c.fault_status.ensures;
    })

pub returns-in-None-clause-size : goal.returns-in-None-clause-size
returns-in-None-clause-size c = record {
  core = c.in-Some.core;
  is = c.in-Some.ensures.is;
  sound = sym c.in-None.ensures.fault;
  len = c.room_needed.ensures.bytes;
  count = c.room_needed.ensures.notices;
  most = c.room_needed.ensures.most;
}
