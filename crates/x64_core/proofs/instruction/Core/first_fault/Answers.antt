use Rattle.std.proofs.Common.{◌≡◌, ◌∙◌, ap, refl, sym, true}
use Rattle.std.specs.Prelude.{is_none}
use Rattle.cax64_encoder.specs.Fault.{first_fault}
use Rattle.cax64_encoder.specs.Place.{memory_in}
use Rattle.cax64_encoder.proofs.Faults.{no_fault, none_is}
use Rattle.x64_core.specs.Core.{fault_of, is_encodable, visited_of}
use Rattle.x64_core.specs.View.{core_view}
use Rattle.x64_core.proofs.instruction.Core.first_fault.Goals as goal

pub returns-then-is_encodable-clause-fault : goal.returns-then-is_encodable-clause-fault
returns-then-is_encodable-clause-fault g c =
    let v = core_view c.args.self.now in
    let offsets = (g.S.CodeSink.state c.args.sink.now).offsets in
    let can : is_encodable offsets v ≡ true = sym c.is_encodable.ensures ∙ c.if-is_encodable.true in
    sym ((none_is (fault_of offsets v) (is_encodable offsets v) (no_fault offsets (visited_of v) (memory_in v.place))).1 can)

pub returns-then-is_encodable-clause-none : goal.returns-then-is_encodable-clause-none
returns-then-is_encodable-clause-none g c =
    let v = core_view c.args.self.now in
    let offsets = (g.S.CodeSink.state c.args.sink.now).offsets in
    let can : is_encodable offsets v ≡ true = sym c.is_encodable.ensures ∙ c.if-is_encodable.true in
    (λ none. can, λ h. refl)

pub returns-clause-none : goal.returns-clause-none
returns-clause-none g c =
    let v = core_view c.args.self.now in
    let offsets = (g.S.CodeSink.state c.args.sink.now).offsets in
    let same : c.found_fault.result ≡ first_fault offsets (visited_of v) (memory_in v.place) = c.found_fault.ensures in
    none_is c.found_fault.result (is_encodable offsets v) (ap is_none same ∙ no_fault offsets (visited_of v) (memory_in v.place))
