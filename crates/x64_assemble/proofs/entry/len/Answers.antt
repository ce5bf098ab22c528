use Rattle.x64_code_buffer.specs.Buffer.{buffer_state}
use Rattle.x64_assemble.proofs.Steps.{line_fits}
use Rattle.x64_assemble.proofs.entry.len.Goals as goal

pub encoded_len-requires : goal.encoded_len-requires
encoded_len-requires g c = line_fits (buffer_state c.args.buffer.now).offsets (g.I.Encode.line_meant c.args.inst.now (buffer_state c.args.buffer.now).offsets) c.requires
