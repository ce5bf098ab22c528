-- The words that the clauses of public functions cite.
-- What a sink holds.
pub use Rattle.cax64_sink.specs.Room
pub use Rattle.cax64_sink.specs.Sink
pub use Rattle.cax64_sink.specs.Call
pub use Rattle.cax64_sink.specs.Run
pub use Rattle.cax64_sink.specs.Puts
pub use Rattle.cax64_sink.specs.Ends
pub use Rattle.cax64_sink.specs.Rest
pub use Rattle.cax64_sink.specs.Keeps
pub use Rattle.cax64_sink.specs.Vec
pub use Rattle.cax64_sink.specs.Recorder
pub use Rattle.cax64_sink.specs.FixedSink
pub use Rattle.cax64_sink.specs.TrapCode
pub use Rattle.cax64_sink.specs.Message as SinkMessage
pub use Rattle.cax64_sink.specs.Cleared
pub use Rattle.cax64_sink.specs.Laws
-- Registers and addresses.
pub use Rattle.cax64_register.specs.Names
pub use Rattle.cax64_register.specs.Real
pub use Rattle.cax64_address.specs.Address
pub use Rattle.cax64_address.specs.Effective
pub use Rattle.cax64_address.specs.Offset
pub use Rattle.cax64_address.specs.Text as AddressText
-- Machine code.
pub use Rattle.cax64_machine_code.specs.Fields
pub use Rattle.cax64_machine_code.specs.Tail
pub use Rattle.cax64_machine_code.specs.Prefix
pub use Rattle.cax64_machine_code.specs.Address as MachineAddress
pub use Rattle.cax64_machine_code.specs.Line as LineFields
pub use Rattle.cax64_machine_code.specs.Rows
pub use Rattle.cax64_machine_code.specs.Reading
pub use Rattle.cax64_machine_code.specs.Apart
pub use Rattle.cax64_machine_code.specs.ReadLine
pub use Rattle.cax64_machine_code.specs.Sequence
pub use Rattle.cax64_machine_code.specs.Shortest
pub use Rattle.cax64_machine_code.specs.Len
-- The lines, and what an instruction of one means.
pub use Rattle.x64_lines.specs.Lines
pub use Rattle.x64_lines.specs.Line
pub use Rattle.x64_core.specs.Viewed
pub use Rattle.x64_core.specs.View
pub use Rattle.x64_core.specs.Core
pub use Rattle.x64_lines.specs.Shape
pub use Rattle.x64_core.specs.Fits
pub mod Refusal
pub use Rattle.x64_lines.specs.Message as ShapeMessage
pub use Rattle.x64_core.specs.Rename
pub use Rattle.x64_lines.specs.LineOperands
pub use Rattle.x64_lines.specs.Flags
pub use Rattle.x64_lines.specs.Extension
pub use Rattle.x64_core.specs.Value
pub use Rattle.x64_place.specs.Place as PlaceNumbers
pub use Rattle.x64_place.specs.Homes
pub use Rattle.x64_place.specs.Renamed
-- What a sink has got of it.
pub use Rattle.cax64_encoder.specs.Number
pub use Rattle.cax64_encoder.specs.Place
pub use Rattle.cax64_encoder.specs.Fault
pub use Rattle.cax64_encoder.specs.EncodeError
pub use Rattle.cax64_encoder.specs.Message as FaultMessage
pub use Rattle.cax64_encoder.specs.Notices
pub use Rattle.cax64_encoder.specs.Relative
pub use Rattle.cax64_encoder.specs.EncodesLine
pub use Rattle.cax64_encoder.specs.AddsLine
pub use Rattle.x64_core.specs.Adds
pub use Rattle.x64_encode.specs.Encode
pub use Rattle.cax64_sequence.specs.Each
pub use Rattle.cax64_sequence.specs.Stopped
pub use Rattle.cax64_sequence.specs.Message as RefusedMessage
-- What bytes are read as.
pub mod CoreReading
pub mod OfReading
-- Texts.
pub use Rattle.x64_text.specs.Mnemonics
pub use Rattle.x64_text.specs.Style
pub use Rattle.x64_text.specs.Text
-- Labels, constants, jumps and lists.
pub use Rattle.x64_code_buffer.specs.Field as PatchedField
pub use Rattle.x64_code_buffer.specs.Label
pub use Rattle.x64_code_buffer.specs.Binding
pub use Rattle.x64_code_buffer.specs.Use
pub use Rattle.x64_code_buffer.specs.Filled
pub use Rattle.x64_code_buffer.specs.Laid
pub use Rattle.x64_code_buffer.specs.Jump
pub use Rattle.x64_code_buffer.specs.Put
pub use Rattle.x64_code_buffer.specs.Padding
pub use Rattle.x64_code_buffer.specs.Buffer
pub use Rattle.x64_code_buffer.specs.Message as BufferMessage
pub use Rattle.x64_assemble.specs.Listed
pub use Rattle.x64_assemble.specs.Assembled
pub use Rattle.x64_assemble.specs.Refused as ListRefused
pub use Rattle.x64_assemble.specs.Message as ListMessage
pub use Rattle.x64_layout.specs.Layout
pub use Rattle.x64_layout.specs.Growing
