use Rattle.std.specs.Prelude.{◌≡◌, ◌≤◌, ◌++◌, ℕ, [], List, drop, length, slice_get}
use Rattle.cax64_encoder.specs.EncodesLine.{line_notices_of}
use Rattle.cax64_encoder.specs.Place.{memory_in}
use Rattle.x64_plain.specs.Plain.{place_of, plain}
use Rattle.x64_plain.specs.Told.{told, told_at}
use Rattle.huqmeris_c.specs.Encodes.{no_offsets, written}
use Rattle.x64_core.specs.Adds.{AddsCore}
use Rattle.x64_core.specs.Core.{core_len}
use Rattle.x64_core.specs.View.{CoreView}

-- An instruction's bytes stand at the front, and what stands behind them is as before. So many stand before its displacement of
-- four bytes, which tells where a target is.
pub record PutCode (v : CoreView) (code code' : List ℕ) (behind len : ℕ) : Type 0 where
  pub added : List ℕ
  pub front : code' ≡ added ++ drop len code
  pub count : len ≡ length added
  pub size : len ≡ core_len no_offsets v
  pub most : len ≤ 13
  pub adds : AddsCore v (written []) (written added)
  pub tells : told_at (place_of (plain v)) behind ≡ told (slice_get (line_notices_of (memory_in v.place) 0 adds.line.reads.reading) 0)
