use Rattle.std.proofs.Common.{◌≡◌, ap, sym}
use Rattle.x64_plain.specs.Plain.{plain}
use Rattle.x64_plain.proofs.Views.{made_is, no_word, not_taken, same_view}
use Rattle.x64_plain.proofs.inst.HqInst.core.Goals as goal
use Rattle.x64_core.specs.View.{core_view}
use Rattle.x64_lines.specs.declared.op.Op.{Op}

pub returns-in-None-clause-none : goal.returns-in-None-clause-none
returns-in-None-clause-none c = no_word c.args.self.now c.shape.result c.in_ok-op.op.number c.in_ok-op.ensures.found c.shape.ensures.is c.in-None.ensures.none

is : (c : goal.In-Some-of_numbers) → plain (core_view c.in-Some-of_numbers.core) ≡ c.args.self.now
is c =
    let own = c.in-Some-of_numbers.ensures in
    made_is c.args.self.now c.in-Some-of_numbers.core c.shape.result c.in_ok-place.place c.in-Some.word c.in_ok-op.op.number c.place.result c.in_ok-op.ensures.found c.shape.ensures.is c.place.ensures c.in_ok-place.ensures.is c.in-Some.ensures.is (sym c.if-self-ne0.false) (ap (λ (op : Op). op.number) own.op) own.numbers.0 own.numbers.1 own.place own.numbers.2

pub returns-in-Some-of_numbers-clause-is : goal.returns-in-Some-of_numbers-clause-is
returns-in-Some-of_numbers-clause-is c = is c

pub returns-in-Some-of_numbers-clause-alone : goal.returns-in-Some-of_numbers-clause-alone
returns-in-Some-of_numbers-clause-alone c = λ core h. same_view c.args.self.now c.in-Some-of_numbers.core core (is c) h

pub returns-in-None-of_numbers-clause-none : goal.returns-in-None-of_numbers-clause-none
returns-in-None-of_numbers-clause-none c = not_taken c.args.self.now c.shape.result c.in_ok-place.place c.in-Some.word c.in_ok-op.op.number c.place.result c.in_ok-op.ensures.found c.shape.ensures.is c.place.ensures c.in_ok-place.ensures.is c.in-Some.ensures.alone c.in-None-of_numbers.ensures.none
