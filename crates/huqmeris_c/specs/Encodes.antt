use Rattle.std.specs.Prelude.{◌≡◌, ℕ, Option, None, ℤ, List, [], slice_get}
use Rattle.cax64_encoder.specs.EncodesLine.{line_notices_of}
use Rattle.cax64_encoder.specs.Place.{memory_in}
use Rattle.x64_plain.specs.Told.{told}
use Rattle.x64_plain.specs.declared.told.HqUse.{HqUse}
use Rattle.cax64_sink.specs.Room.{endless}
use Rattle.cax64_sink.specs.Sink.{State, bytes_only, is_full}
use Rattle.x64_core.specs.Adds.{AddsCore}
use Rattle.x64_core.specs.View.{CoreView}

-- no late offset is known
abbrev pub no_offsets : ℕ → Option ℤ
no_offsets key = None

-- bytes, of an encoder that knows no late offsets
abbrev pub written : List ℕ → State
written bytes = bytes_only bytes endless is_full

-- Some bytes are those of an instruction, and it's told what it tells beside them: its trap, or what a relative place refers
-- to.
pub record Encodes (v : CoreView) (bytes : List ℕ) (heard : HqUse) : Type 0 where
  pub adds : AddsCore v (written []) (written bytes)
  pub tells : heard ≡ told (slice_get (line_notices_of (memory_in v.place) 0 adds.line.reads.reading) 0)
