-- What bytes are read as, and that what was put is read as it.
pub use Rattle.x64_reader.specs.Reading.{line_reading}
pub use Rattle.x64_core.specs.ReadAs.{IsReadAs}
