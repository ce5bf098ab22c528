use Rattle.std.proofs.Common.{◌≡◌, ◌++◌, ◌∙◌, ℕ, List, [], append-nil, Option, Some, refl, ap}
use Rattle.std.specs.Prelude.{IsSome, option_map}
use Rattle.cax64_machine_code.specs.ReadLine.{read_of}
use Rattle.cax64_sink.specs.Sink.{State}
use Rattle.cax64_sink.specs.Vec.{vec_state}
use Rattle.x64_core.specs.Adds.{AddsCore}
use Rattle.x64_lines.specs.Lines.{core_lines}
use Rattle.x64_core.specs.View.{core_view}
use Rattle.x64_core.specs.declared.instruction.Core.{Core}
use Rattle.x64_reader.specs.Reading.{line_reading}
use Rattle.x64_reader.specs.declared.reading.CoreReading.{CoreReading}
use Rattle.core_rows.proofs.reader.put_and_read.put_and_read.Goals as goal

-- what is read of all that an empty sink has got

all_of : (c : Core) (old new : State) (adds : AddsCore (core_view c) old new) (bytes : List ℕ) (found : Option CoreReading) → old.bytes ≡ [] → bytes ≡ new.bytes → option_map line_reading found ≡ read_of core_lines bytes → option_map line_reading found ≡ read_of core_lines (adds.line.added ++ [])
all_of c old new adds bytes found empty all h =
    let same : bytes ≡ adds.line.added ++ [] = all ∙ adds.line.bytes ∙ rw (empty, append-nil) refl in
    h ∙ ap (read_of core_lines) same

some : {X : Type 0} (found : Option X) (x : X) → found ≡ Some x → IsSome found
some found x h = rw h refl

op_of : (v : CoreReading → ℕ) (found : Option CoreReading) (r s : CoreReading) → found ≡ Some r → found ≡ Some s → v r ≡ v s
op_of v found r s h k = let same : r ≡ s = cc in ap v same

pub unwrap-reading-requires : goal.unwrap-reading-requires
unwrap-reading-requires g c =
    let adds = c.in_ok-encode.ensures.adds in
    let is = c.what_encode_adds_is_read.ensures (vec_state c.args.code.now) (vec_state c.encode.new.sink) adds [] c.read_core.result
    (all_of c.args.core.now (vec_state c.args.code.now) (vec_state c.encode.new.sink) adds c.deref.result.now c.read_core.result c.requires.empty c.deref.ensures.value c.read_core.ensures.is) in
    some c.read_core.result is.reading is.is

pub returns : goal.returns
returns g c =
    let adds = c.in_ok-encode.ensures.adds in
    let is = c.what_encode_adds_is_read.ensures (vec_state c.args.code.now) (vec_state c.encode.new.sink) adds [] c.read_core.result
    (all_of c.args.core.now (vec_state c.args.code.now) (vec_state c.encode.new.sink) adds c.deref.result.now c.read_core.result c.requires.empty c.deref.ensures.value c.read_core.ensures.is) in
    op_of (λ r. r.op.number) c.read_core.result c.unwrap-reading.result is.reading c.unwrap-reading.ensures is.is ∙ is.op
