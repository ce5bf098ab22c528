use Rattle.std.proofs.Common.{◌∙◌}
use Rattle.x64_of_port.proofs.Made.{made, made_numbers, numbered, refused, takes}
use Rattle.x64_of_port.proofs.given.GivenTaskRef.take.Goals as goal

pub returns-then-is_some-holds : goal.returns-then-is_some-holds
returns-then-is_some-holds g c = λ o h. refused _ c.args.row o c.args.self h _ c.is_some.result c.holds.result c.is_some.ensures c.holds.ensures c.if-is_some-holds.true

pub flat-place-requires : goal.flat-place-requires
flat-place-requires g c = numbered _ c.args.row c.requires.0 c.args.self c.requires.1

pub of_fitting-requires : goal.of_fitting-requires
of_fitting-requires g c =
    rw (c.unwrap_or-reg.ensures, c.unwrap_or-vvvv.ensures)
    (takes _ c.args.row c.requires.0 c.args.self c.requires.1 _ c.is_some.result c.holds.result c.is_some.ensures c.holds.ensures c.if-is_some-holds.false c.of_row.result c.flat-place.result c.of_row.ensures.line c.flat-place.ensures)

pub returns : goal.returns
returns g c = λ o h.
    made _ c.args.row o c.args.self h _ c.is_some.result c.holds.result c.is_some.ensures c.holds.ensures c.if-is_some-holds.false g.met.R.WriteGpr.AsReg.same c.of_fitting.result
    (made_numbers c.of_fitting.result c.of_row.result c.flat-place.result _ c.args.self.content.form c.of_fitting.ensures.op c.of_row.ensures.number (c.of_fitting.ensures.numbers.0 ∙ c.unwrap_or-reg.ensures) (c.of_fitting.ensures.numbers.1 ∙ c.unwrap_or-vvvv.ensures) c.of_fitting.ensures.numbers.2 c.of_fitting.ensures.place c.flat-place.ensures)
