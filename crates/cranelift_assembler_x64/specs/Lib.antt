-- The words that the clauses of public functions cite.
-- What a sink holds.
pub use Rattle.cax64_sink.specs.Room
pub use Rattle.cax64_sink.specs.Sink
pub use Rattle.cax64_sink.specs.Call
pub use Rattle.cax64_sink.specs.Run
pub use Rattle.cax64_sink.specs.Puts
pub use Rattle.cax64_sink.specs.Ends
pub use Rattle.cax64_sink.specs.Rest
pub use Rattle.cax64_sink.specs.Keeps
pub use Rattle.cax64_sink.specs.Vec
pub use Rattle.cax64_sink.specs.Recorder
pub use Rattle.cax64_sink.specs.FixedSink
pub use Rattle.cax64_sink.specs.TrapCode
pub use Rattle.cax64_sink.specs.Message as SinkMessage
pub use Rattle.cax64_sink.specs.Cleared
pub use Rattle.cax64_sink.specs.Laws
-- Registers, addresses, prefixes.
pub use Rattle.cax64_register.specs.Names
pub use Rattle.cax64_register.specs.Real
pub use Rattle.cax64_address.specs.Address
pub use Rattle.cax64_address.specs.Displacement
pub use Rattle.cax64_address.specs.Effective
pub use Rattle.cax64_address.specs.Emitted
pub use Rattle.cax64_address.specs.Length
pub use Rattle.cax64_address.specs.Offset
pub use Rattle.cax64_address.specs.Operand
pub use Rattle.cax64_address.specs.OperandTail
pub use Rattle.cax64_address.specs.Same
pub use Rattle.cax64_prefix.specs.Rex
pub use Rattle.cax64_prefix.specs.Vex
pub use Rattle.cax64_prefix.specs.Evex
pub use Rattle.cax64_prefix.specs.Apx
-- Machine code.
pub use Rattle.cax64_machine_code.specs.Fields
pub use Rattle.cax64_machine_code.specs.Tail
pub use Rattle.cax64_machine_code.specs.Prefix
pub use Rattle.cax64_machine_code.specs.Address as MachineAddress
pub use Rattle.cax64_machine_code.specs.Evex as MachineEvex
pub use Rattle.cax64_machine_code.specs.Apx as MachineApx
pub use Rattle.cax64_machine_code.specs.Line
pub use Rattle.cax64_machine_code.specs.Rows
pub use Rattle.cax64_machine_code.specs.Branch
pub use Rattle.cax64_machine_code.specs.Reading
pub use Rattle.cax64_machine_code.specs.Apart
pub use Rattle.cax64_machine_code.specs.ReadLine
pub use Rattle.cax64_machine_code.specs.Sequence
pub use Rattle.cax64_machine_code.specs.Shortest
pub use Rattle.cax64_machine_code.specs.Len
-- Instructions: their operands, what they mean, visits.
pub use Rattle.cax64_operand.specs.Family
pub use Rattle.cax64_operand.specs.Immediate
pub use Rattle.cax64_operand.specs.OperandList
pub use Rattle.cax64_operand.specs.Fold
pub use Rattle.cax64_operand.specs.Made
pub use Rattle.cax64_operand.specs.NopRow
pub use Rattle.cax64_operand.specs.Kind
pub use Rattle.cax64_operand.specs.Signature
pub use Rattle.cax64_operand.specs.VisitSteps
pub use Rattle.cax64_operand.specs.Visit
pub use Rattle.cax64_encoder.specs.Number
pub use Rattle.cax64_encoder.specs.Role
pub use Rattle.cax64_encoder.specs.Place
pub use Rattle.cax64_encoder.specs.Visits
pub use Rattle.cax64_encoder.specs.Meant
pub use Rattle.cax64_encoder.specs.Nop
pub use Rattle.cax64_encoder.specs.Fault
pub use Rattle.cax64_encoder.specs.Message as FaultMessage
pub use Rattle.cax64_encoder.specs.Notices
pub use Rattle.cax64_encoder.specs.Relative
pub use Rattle.cax64_encoder.specs.Instruction
pub use Rattle.cax64_encoder.specs.EncodeError
pub use Rattle.cax64_inst.specs.Inst
pub use Rattle.cax64_sequence.specs.List
pub use Rattle.cax64_sequence.specs.Stopped
pub use Rattle.cax64_sequence.specs.Message as RefusedMessage
pub use Rattle.cax64_renaming.specs.Renamed
-- Texts and features.
pub use Rattle.cax64_immediate.specs.Text as ImmediateText
pub use Rattle.cax64_address.specs.Text as AddressText
pub use Rattle.cax64_feature.specs.Term
pub use Rattle.cax64_feature.specs.Row as FeatureRow
pub use Rattle.cax64_text.specs.Names as PrintedNames
pub use Rattle.cax64_text.specs.Mnemonic
pub use Rattle.cax64_text.specs.Style
pub use Rattle.cax64_text.specs.Operand as OperandText
pub use Rattle.cax64_text.specs.Text
pub use Rattle.cax64_text.specs.PrintedAlike
