-- Of which readings there is an instruction.
pub use Rattle.x64_reader.specs.Taken.{place_taken, is_taken_by, is_taken}
pub use Rattle.x64_core.specs.OfReading.{is_low, register_given, number_given, is_factor, index_given, place_given, operands_given, is_bare}
