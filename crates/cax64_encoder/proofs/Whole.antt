use Rattle.std.proofs.Common.{◌≡◌, ℕ, ◌+◌, ◌-◌, ◌%◌, ◌<◌, ◌≤◌, arith, Bool, true, false, refl, ◌∙◌, ap, sym, subst, Option, Some, None, ◌⊎◌, inl, inr, List, [], ◌∷◌, ◌++◌, length, append_assoc, append-nil, ℤ}
use Rattle.std.specs.Prelude.{◌==◌, ◌&&◌, ◌||◌, nat_lt, nat_le, if◌then◌else◌, option_map}
use Rattle.std.proofs.Math.Seq.{drop-append_seam, take-append_seam}
use Rattle.std.proofs.lemmas.Bool.{and_parts}
use Rattle.std.proofs.lemmas.Bool.Decides.{nat_tests}
use Rattle.std.proofs.lemmas.List.{length-append}
use Rattle.cax64_sink.specs.Run.{all_bytes, all_notices}
use Rattle.cax64_sink.specs.Call.{Action}
use Rattle.cax64_sink.specs.declared.Notice.{Notice}
use Rattle.cax64_sink.specs.declared.TrapCode.{TrapCode}
use Rattle.cax64_sink.proofs.Ends.{ends_append}
use Rattle.cax64_sink.specs.Ends.{EndsInBytes}
use Rattle.cax64_address.specs.Address.{displaced_place, target_notices, trap_of}
use Rattle.cax64_address.specs.Emitted.{TailOf}
use Rattle.cax64_address.specs.declared.amode.Amode.{Amode}
use Rattle.cax64_address.specs.declared.amode.Amode.TheVariants.{ImmReg, ImmRegRegShift, RipRelative}
use Rattle.cax64_machine_code.specs.Fields.{IsBytes}
use Rattle.cax64_machine_code.specs.Len.{opcode_len}
use Rattle.cax64_machine_code.specs.Line.{imm_bytes, opcode_bytes}
use Rattle.cax64_machine_code.specs.Prefix.{prefix_at, x_of, b_of}
use Rattle.cax64_machine_code.specs.Reading.{PartsOf, place_at, reg_view}
use Rattle.cax64_machine_code.specs.ReadLine.{LineReading, ReadsLineAs, HasShortestLineTail, line_tail_within, find_line, as_row, parts_as}
use Rattle.cax64_machine_code.specs.Rows.{line_of}
use Rattle.cax64_machine_code.specs.Tail.{IsTail}
use Rattle.cax64_machine_code.specs.declared.row.Row.{Row}
use Rattle.cax64_machine_code.specs.declared.reading.Place.{Place}
use Rattle.cax64_machine_code.specs.declared.reading.Place.TheVariants.{Reg}
use Rattle.cax64_machine_code.specs.declared.reading.RegView.TheVariants.{Low}
use Rattle.cax64_machine_code.specs.declared.line.Line.{Line}
use Rattle.cax64_machine_code.specs.declared.line.RegField.{RegField}
use Rattle.cax64_machine_code.specs.declared.line.RegField.TheVariants.{Digit, Register8, Register}
use Rattle.cax64_machine_code.specs.declared.line.PlaceField.{PlaceField}
use Rattle.cax64_machine_code.specs.declared.line.PlaceField.TheVariants.{Memory, RegisterOrMemory, Register8OrMemory}
use Rattle.cax64_machine_code.specs.declared.line.TailField.{TailField}
use Rattle.cax64_machine_code.specs.declared.line.TailField.TheVariants.{NoTail, Modrm}
use Rattle.cax64_machine_code.proofs.ReadLine.{bare_line_found, tail_line_found, reads_line_as, reads_line_as_tail, reads_line_as_line, row_reads_as}
use Rattle.cax64_machine_code.proofs.Written.{IsPrefix, IsImm, DigitIs}
use Rattle.cax64_table.specs.Numbers.{digit_of}
use Rattle.cax64_encoder.specs.Code.{trap_actions}
use Rattle.cax64_encoder.proofs.Opcode.{opcode_actions}
use Rattle.cax64_encoder.specs.Encodes.{TailPartOf, EncodesParts}
use Rattle.cax64_encoder.specs.EncodesLine.{EncodesLine, ShortestLineFor, line_notices_of, line_form_parts}
use Rattle.cax64_encoder.specs.Form.{Form, fits, tail_fits, reg_fits, place_fits, is_no_place, is_absent, vvvv_fits}
use Rattle.cax64_encoder.specs.ImmActions.{optional_imm_actions}
use Rattle.cax64_encoder.specs.Instruction.{ShortestFor}
use Rattle.cax64_table.specs.Entry.{first_byte, has_tail, is_line, is_digit, tail_size}
use Rattle.cax64_encoder.specs.Notices.{trap_notice, notices_of}
use Rattle.cax64_encoder.specs.Number.{number_value}
use Rattle.cax64_encoder.specs.Place.{place_read, memory_in}
use Rattle.cax64_encoder.specs.Prefix.{reg_number, register_number, PrefixFor}
use Rattle.cax64_encoder.specs.Real.{is_absent_or_real, place_is_real, form_is_real, place_x, place_b, trap_in}
use Rattle.cax64_operand.specs.Immediate.{imm_value, imm_size}
use Rattle.cax64_operand.specs.Shape.{imm_fits}
use Rattle.cax64_encoder.specs.declared.number.Number.{Number}
use Rattle.cax64_encoder.specs.declared.number.Number.TheVariants.{Settled, Unsettled}
use Rattle.cax64_operand.specs.declared.immediate.ImmOperand.{ImmOperand}
use Rattle.cax64_operand.specs.declared.immediate.ImmOperand.TheVariants.{Imm8, Imm16, Imm32, Simm8, Simm32}
use Rattle.cax64_encoder.specs.declared.role.PlaceOperand as place
use Rattle.cax64_encoder.specs.declared.role.PlaceOperand.{PlaceOperand}
use Rattle.cax64_encoder.proofs.Bytes.{no_bytes, both_bytes, opcode_are_bytes, imm_are_bytes}
use Rattle.cax64_encoder.proofs.Lines.{LineFacts, line_facts}
use Rattle.cax64_encoder.proofs.Encodes.{imm_part, imm_same, imm_length, imm_quiet, opcode_part, opcode_quiet, opcode_begins, opcode_length, opcode_ends, trap_bytes, trap_told, reg_viewed, register_named, register_allowed, memory_named, digit_is, five_parts, five_lengths, five_notices}

below : (a b : ℕ) → nat_lt a b ≡ true → a < b
below a b h = grind (arith, nat_tests)

at_most : (a b : ℕ) → nat_le a b ≡ true → a ≤ b
at_most a b h = grind (arith, nat_tests)

-- the actions of an instruction, its trap first
abbrev pub instruction_actions : {M : Type 0} → Line → Option TrapCode → List Action → List Action → Form M → List Action
instruction_actions line trap pre tail o = trap_actions trap ++ (pre ++ (opcode_actions line.opcode ++ (tail ++ optional_imm_actions o.imm)))

-- what holds of the parts of an instruction of a line before they are put together
pub record Parted {M : Type 0} (enc : M → ℕ) (line : Line) (o : Form M) (pre : List Action) : Type 0 where
  pub facts : LineFacts line
  pub imm : imm_fits line.imm o.imm ≡ true
  pub prefix : PrefixFor enc line (register_number o.reg) o.vvvv o.place (all_bytes pre)
  pub quiet : (k : ℕ) → all_notices pre k ≡ []

-- what is written are bytes
written_bytes : {M : Type 0} {enc : M → ℕ} {line : Line} {o : Form M} {pre : List Action} (h : Parted enc line o pre) (trap : Option TrapCode) (tail : List Action) → IsBytes (all_bytes tail) → IsBytes (all_bytes (instruction_actions line trap pre tail o))
written_bytes {line = line} {o} {pre} h trap tail small =
    let op = opcode_are_bytes line.opcode h.facts.byte in
    let imm = imm_are_bytes line.imm o.imm h.imm in
    let whole : IsBytes (all_bytes pre ++ (all_bytes (opcode_actions line.opcode) ++ (all_bytes tail ++ (all_bytes (optional_imm_actions o.imm) ++ [])))) = both_bytes _ _ h.prefix.are_bytes (both_bytes _ _ op (both_bytes _ _ small (both_bytes _ _ imm no_bytes))) in
    let acts = all_bytes (instruction_actions line trap pre tail o) in
    let same : acts ++ [] ≡ all_bytes pre ++ (all_bytes (opcode_actions line.opcode) ++ (all_bytes tail ++ (all_bytes (optional_imm_actions o.imm) ++ []))) = five_parts (trap_actions trap) pre (opcode_actions line.opcode) tail (optional_imm_actions o.imm) [] (trap_bytes trap) in
    subst IsBytes (sym same ∙ append-nil acts) whole

first_prefix : {M : Type 0} {enc : M → ℕ} {line : Line} {o : Form M} {pre : List Action} (h : Parted enc line o pre) → IsPrefix h.prefix.prefix (first_byte line.opcode) (all_bytes pre)
first_prefix h = record { reads = h.prefix.reads }

-- at most 13 bytes, and one at least
sizes : {M : Type 0} {enc : M → ℕ} {line : Line} {o : Form M} {pre : List Action} (h : Parted enc line o pre) (trap : Option TrapCode) (tail : List Action) → length (all_bytes tail) ≤ tail_size line.tail → (1 ≤ length (all_bytes (instruction_actions line trap pre tail o))) × (length (all_bytes (instruction_actions line trap pre tail o)) ≤ 13)
sizes {line = line} {o} {pre} h trap tail small =
    let whole = five_lengths (trap_actions trap) pre (opcode_actions line.opcode) tail (optional_imm_actions o.imm) (trap_bytes trap) in
    let op : length (all_bytes (opcode_actions line.opcode)) ≡ opcode_len line.opcode = ap length (opcode_part line.opcode) ∙ opcode_length line.opcode in
    let imm : length (all_bytes (optional_imm_actions o.imm)) ≡ imm_bytes line.imm = imm_length o.imm ∙ sym (imm_same line.imm o.imm h.imm) in
    let most = at_most _ 13 h.facts.size in
    let one : 1 ≤ opcode_len line.opcode = some_opcode line.opcode.escape in
    (omega (arith, h.prefix.size), omega (arith, h.prefix.size))
  where
    some_opcode : (escape : Bool) → 1 ≤ (if escape then 2 else 1)
    some_opcode true = omega arith
    some_opcode false = omega arith

no_place_named : {M : Type 0} (enc : M → ℕ) (disp : ℤ) (k : ℕ) (operand : PlaceOperand M) → is_no_place operand ≡ true → place_read enc disp k operand ≡ None
no_place_named enc disp k place.TheVariants.NoPlace h = refl
no_place_named enc disp k (place.TheVariants.Register number) h = cc
no_place_named enc disp k (place.TheVariants.Memory amode) h = cc

no_place_memory : {M : Type 0} (operand : PlaceOperand M) → is_no_place operand ≡ true → memory_in operand ≡ None
no_place_memory place.TheVariants.NoPlace h = refl
no_place_memory (place.TheVariants.Register number) h = cc
no_place_memory (place.TheVariants.Memory amode) h = cc

ends_in_code : (line : Line) (trap : Option TrapCode) (pre tail : List Action) (imm : List Action) → EndsInBytes (tail ++ imm) ⊎ ((tail ++ imm) ≡ []) → EndsInBytes (trap_actions trap ++ (pre ++ (opcode_actions line.opcode ++ (tail ++ imm))))
ends_in_code line trap pre tail imm (inl h) = ends_append (trap_actions trap) _ (ends_append pre _ (ends_append (opcode_actions line.opcode) _ h))
ends_in_code line trap pre tail imm (inr e) = ends_append (trap_actions trap) _ (ends_append pre _ (rw (e, append-nil (opcode_actions line.opcode)) (opcode_ends line.opcode)))

imm_ends : (o : Option ImmOperand) → EndsInBytes (optional_imm_actions o) ⊎ (optional_imm_actions o ≡ [])
imm_ends None = inr refl
imm_ends (Some (Imm8 v)) = inl (omega arith)
imm_ends (Some (Imm16 v)) = inl (omega arith)
imm_ends (Some (Imm32 v)) = inl (omega arith)
imm_ends (Some (Simm8 v)) = inl (omega arith)
imm_ends (Some (Simm32 v)) = inl (omega arith)

tail_ends : (tail : List Action) (o : Option ImmOperand) → EndsInBytes tail → EndsInBytes (tail ++ optional_imm_actions o)
tail_ends tail None h = rw (append-nil tail) h
tail_ends tail (Some (Imm8 v)) h = ends_append tail _ (omega arith)
tail_ends tail (Some (Imm16 v)) h = ends_append tail _ (omega arith)
tail_ends tail (Some (Imm32 v)) h = ends_append tail _ (omega arith)
tail_ends tail (Some (Simm8 v)) h = ends_append tail _ (omega arith)
tail_ends tail (Some (Simm32 v)) h = ends_append tail _ (omega arith)

no_reg : {M : Type 0} (o : Form M) → is_absent o.reg ≡ true → option_map (λ (n : Number). Low (number_value n)) o.reg ≡ None
no_reg o h = by_reg o.reg h
  where
    by_reg : (reg : Option Number) → is_absent reg ≡ true → option_map (λ (n : Number). Low (number_value n)) reg ≡ None
    by_reg None h = refl
    by_reg (Some n) h = cc

-- a line without a tail
pub bare_encodes : {M : Type 0} (enc : M → ℕ) (line : Line) (o : Form M) (disp : ℤ) (pre : List Action) → Parted enc line o pre → line.tail ≡ NoTail → is_absent o.reg ≡ true → is_no_place o.place ≡ true → EncodesLine (line_form_parts enc line disp o) (memory_in o.place) (instruction_actions line None pre [] o)
bare_encodes enc line o disp pre h ht hr hp =
    let ib = all_bytes (optional_imm_actions o.imm) in
    let acts = instruction_actions line None pre [] o in
    let found : (rest : List ℕ) → find_line line (all_bytes acts ++ rest) ≡ Some (record { parts = line_form_parts enc line disp o; tail = 0; rest = rest }) = λ rest.
    let parts = five_parts [] pre (opcode_actions line.opcode) [] (optional_imm_actions o.imm) rest refl in
    let bare = bare_line_found line h.prefix.prefix (first_byte line.opcode) (all_bytes pre) ib rest (option_map imm_value o.imm) (first_prefix h) (opcode_begins line.opcode) h.prefix.matches ht (imm_part line.imm o.imm h.imm) in
    ap (find_line line) (parts ∙ ap (λ (x : List ℕ). all_bytes pre ++ (x ++ (ib ++ rest))) (opcode_part line.opcode)) ∙ bare
    ∙ rw (h.prefix.vvvv_is, no_reg o hr, no_place_named enc disp (imm_size o.imm) o.place hp) refl in
    let size = sizes h None [] (none_small line.tail) in
    record {
      are_bytes = written_bytes h None [] no_bytes;
      reads = reads_line_as (line_form_parts enc line disp o) 0 (all_bytes acts) found size.0 size.1;
      notices = λ at. five_notices [] pre (opcode_actions line.opcode) [] (optional_imm_actions o.imm) at refl h.quiet (opcode_quiet line.opcode) (imm_quiet o.imm) ∙ rw (no_place_memory o.place hp) refl;
      shortest = rw (no_place_memory o.place hp) tt;
      ends = ends_in_code line None pre [] (optional_imm_actions o.imm) (imm_ends o.imm);
    }
  where
    none_small : (tail : TailField) → 0 ≤ tail_size tail
    none_small tail = omega arith

front_length : (read tail imm before : ℕ) → read ≡ before + (tail + imm) → read - tail - imm ≡ before
front_length read tail imm before e = omega arith

-- the tail is found within the bytes by the numbers of a reading
within : (pre op t ib bytes : List ℕ) (read : LineReading) → bytes ≡ pre ++ (op ++ (t ++ ib)) → read.length ≡ length bytes → read.tail ≡ length t → imm_bytes read.line.imm ≡ length ib → line_tail_within bytes read ≡ t
within pre op t ib bytes read e el et ei =
    let long : length bytes ≡ (length pre + length op) + (length t + length ib) = ap length e ∙ omega (arith, length-append pre (op ++ (t ++ ib)), length-append op (t ++ ib), length-append t ib) in
    let before : read.length - read.tail - imm_bytes read.line.imm ≡ length (pre ++ op) = front_length read.length read.tail (imm_bytes read.line.imm) (length (pre ++ op)) (omega (arith, length-append pre op)) in
    let shape : bytes ≡ (pre ++ op) ++ (t ++ ib) = e ∙ sym (append_assoc pre op (t ++ ib)) in
    rw (before, et, shape, drop-append_seam (pre ++ op) (t ++ ib)) (take-append_seam t ib)

-- the notices of a memory operand, by where its tail begins
told_at : {M : Type 0} (amode : Amode M) (at before : ℕ) (read : LineReading) → read.length - read.tail - imm_bytes read.line.imm ≡ before → trap_notice (trap_of amode) at ++ target_notices amode (at + before) ≡ line_notices_of (Some amode) at read
told_at (ImmReg base simm32 trap) at before read e = append-nil (trap_notice trap at)
told_at (ImmRegRegShift base index scale simm32 trap) at before read e = append-nil (trap_notice trap at)
told_at (RipRelative target) at before read e = rw e refl

-- a row with a tail
module _ {M : Type 0} (enc : M → ℕ) (line : Line) (o : Form M) (disp : ℤ) (field : RegField) (place_field : PlaceField) (trap : Option TrapCode) (pre tail : List Action) (named : Place) (told : ℕ → List Notice) (h : Parted enc line o pre) (ht : line.tail ≡ Modrm field place_field) (hr : reg_fits field o.reg ≡ true) (t : TailOf (place_x enc o.place) (place_b enc o.place) 1 (reg_number line.tail o.reg % 8) named told tail) (tb : IsBytes (all_bytes tail)) (allowed : place_at place_field h.prefix.prefix named ≡ Some named) (means : place_read enc disp (imm_size o.imm) o.place ≡ Some named) where
  acts : List Action
  acts = instruction_actions line trap pre tail o

  ib : List ℕ
  ib = all_bytes (optional_imm_actions o.imm)

  parts_are : (rest : List ℕ) → all_bytes acts ++ rest ≡ all_bytes pre ++ (opcode_bytes line.opcode ++ (all_bytes tail ++ (ib ++ rest)))
  unfolding acts ib
  parts_are rest =
      five_parts (trap_actions trap) pre (opcode_actions line.opcode) tail (optional_imm_actions o.imm) rest (trap_bytes trap)
      ∙ ap (λ (x : List ℕ). all_bytes pre ++ (x ++ (all_bytes tail ++ (ib ++ rest)))) (opcode_part line.opcode)

  tail_is : IsTail (x_of h.prefix.prefix) (b_of h.prefix.prefix) 1 (reg_number line.tail o.reg % 8) named (all_bytes tail)
  tail_is = rw (h.prefix.x, h.prefix.b) t.tail

  viewed : reg_view field h.prefix.prefix (reg_number line.tail o.reg % 8) ≡ option_map (λ (n : Number). Low (number_value n)) o.reg
  viewed = rw ht (reg_viewed field place_field h.prefix.prefix o.reg hr h.prefix.r (rw ht at h.prefix.low_reg))

  digit_there : DigitIs field (reg_number line.tail o.reg % 8)
  digit_there = rw ht (digit_is field place_field o.reg (rw ht at h.facts.digit))

  imm_there : IsImm line.imm (option_map imm_value o.imm) ib
  unfolding ib
  imm_there = imm_part line.imm o.imm h.imm

  found : (rest : List ℕ) → find_line line (all_bytes acts ++ rest) ≡ Some (record { parts = line_form_parts enc line disp o; tail = length (all_bytes tail); rest = rest })
  found rest =
      let whole = tail_line_found line h.prefix.prefix (first_byte line.opcode) field place_field (reg_number line.tail o.reg % 8) named named (all_bytes pre) (all_bytes tail) ib rest (option_map imm_value o.imm) (first_prefix h) (opcode_begins line.opcode) h.prefix.matches ht tail_is digit_there allowed imm_there in
      ap (find_line line) (parts_are rest) ∙ whole ∙ rw (viewed, h.prefix.vvvv_is, means) refl

  size : (1 ≤ length (all_bytes acts)) × (length (all_bytes acts) ≤ 13)
  unfolding acts
  size = sizes h trap tail (rw ht t.most)

  reads : ReadsLineAs (line_form_parts enc line disp o) (all_bytes acts)
  reads = reads_line_as (line_form_parts enc line disp o) (length (all_bytes tail)) (all_bytes acts) found size.0 size.1

  reads_tail : reads.reading.tail ≡ length (all_bytes tail)
  unfolding reads
  reads_tail = reads_line_as_tail (line_form_parts enc line disp o) (length (all_bytes tail)) (all_bytes acts) found size.0 size.1

  reads_line : reads.reading.line ≡ line
  unfolding reads
  reads_line = reads_line_as_line (line_form_parts enc line disp o) (length (all_bytes tail)) (all_bytes acts) found size.0 size.1

  imm_is : imm_bytes reads.reading.line.imm ≡ length ib
  unfolding ib
  imm_is = ap (λ (r : Line). imm_bytes r.imm) reads_line ∙ imm_same line.imm o.imm h.imm ∙ sym (imm_length o.imm)

  all_are : all_bytes acts ≡ all_bytes pre ++ (opcode_bytes line.opcode ++ (all_bytes tail ++ ib))
  all_are = sym (append-nil (all_bytes acts)) ∙ parts_are [] ∙ ap (λ (x : List ℕ). all_bytes pre ++ (opcode_bytes line.opcode ++ (all_bytes tail ++ x))) (append-nil ib)

  lengths_are : length (all_bytes acts) ≡ (length (all_bytes pre) + length (opcode_bytes line.opcode)) + (length (all_bytes tail) + length ib)
  lengths_are = ap length all_are ∙ omega (arith, length-append (all_bytes pre) (opcode_bytes line.opcode ++ (all_bytes tail ++ ib)), length-append (opcode_bytes line.opcode) (all_bytes tail ++ ib), length-append (all_bytes tail) ib)

  before : reads.reading.length - reads.reading.tail - imm_bytes reads.reading.line.imm ≡ length (all_bytes pre) + length (opcode_bytes line.opcode)
  before = front_length reads.reading.length reads.reading.tail (imm_bytes reads.reading.line.imm) _ (omega (arith, lengths_are, reads_tail, imm_is, reads.length))

  tail_found_within : line_tail_within (all_bytes acts) reads.reading ≡ all_bytes tail
  tail_found_within = within (all_bytes pre) (opcode_bytes line.opcode) (all_bytes tail) ib (all_bytes acts) reads.reading all_are reads.length reads_tail imm_is

  shortest_tail : HasShortestLineTail (all_bytes acts) reads.reading
  shortest_tail =
      let opcode = opcode_begins line.opcode in
      record {
        prefix = h.prefix.prefix;
        behind = first_byte line.opcode ∷ (opcode.more ++ (all_bytes tail ++ ib));
        prefix_is = ap prefix_at (all_are ∙ ap (λ (x : List ℕ). all_bytes pre ++ (x ++ (all_bytes tail ++ ib))) opcode.is) ∙ h.prefix.reads (opcode.more ++ (all_bytes tail ++ ib));
        reg = reg_number line.tail o.reg % 8;
        place = named;
        tail = rw tail_found_within tail_is;
        shortest = rw (tail_found_within, h.prefix.x, h.prefix.b) t.shortest;
      }

  notices_are : (at : ℕ) → all_notices acts at ≡ trap_notice trap at ++ told (at + (length (all_bytes pre) + length (opcode_bytes line.opcode)))
  unfolding acts
  notices_are at =
      five_notices (trap_actions trap) pre (opcode_actions line.opcode) tail (optional_imm_actions o.imm) at (trap_bytes trap) h.quiet (opcode_quiet line.opcode) (imm_quiet o.imm)
      ∙ rw (trap_told trap at, opcode_part line.opcode, t.notices (at + length (all_bytes pre) + length (opcode_bytes line.opcode)), add_three at (length (all_bytes pre)) (length (opcode_bytes line.opcode))) refl
    where
      add_three : (a b c : ℕ) → a + b + c ≡ a + (b + c)
      add_three a b c = omega arith

  ends_are : EndsInBytes acts
  unfolding acts
  ends_are = ends_in_code line trap pre tail (optional_imm_actions o.imm) (inl (tail_ends tail o.imm t.ends))

  bytes_are : IsBytes (all_bytes acts)
  unfolding acts
  bytes_are = written_bytes h trap tail tb

  -- the actions write the instruction, whose memory operand has these notices
  tail_encodes : (memory : Option (Amode M)) → ((at : ℕ) → trap_notice trap at ++ told (at + (length (all_bytes pre) + length (opcode_bytes line.opcode))) ≡ line_notices_of memory at reads.reading) → (HasShortestLineTail (all_bytes acts) reads.reading → ShortestLineFor memory (all_bytes acts) reads.reading) → EncodesLine (line_form_parts enc line disp o) memory acts
  tail_encodes memory notices shortest = record { are_bytes = bytes_are; reads = reads; notices = λ at. notices_are at ∙ notices at; shortest = shortest shortest_tail; ends = ends_are }

  memory_encodes : (amode : Amode M) → trap ≡ trap_of amode → ((at : ℕ) → told at ≡ target_notices amode at) → EncodesLine (line_form_parts enc line disp o) (Some amode) acts
  memory_encodes amode e f = tail_encodes (Some amode) (λ at.
      let start : ℕ = length (all_bytes pre) + length (opcode_bytes line.opcode) in
      ap (λ (t : Option TrapCode). trap_notice t at ++ told (at + start)) e
      ∙ ap (λ (l : List Notice). trap_notice (trap_of amode) at ++ l) (f (at + start))
      ∙ told_at amode at start reads.reading before) (λ s. s)

  register_encodes : trap ≡ None → ((at : ℕ) → told at ≡ []) → EncodesLine {M = M} (line_form_parts enc line disp o) None acts
  register_encodes e f = tail_encodes None (λ at.
      let start : ℕ = length (all_bytes pre) + length (opcode_bytes line.opcode) in
      ap (λ (t : Option TrapCode). trap_notice t at ++ told (at + start)) e ∙ f (at + start)) (λ s. tt)

no_tail_place : {M : Type 0} (operand : PlaceOperand M) (enc : M → ℕ) (disp : ℤ) (k reg : ℕ) (tail : List Action) → is_no_place operand ≡ true → TailPartOf enc disp k reg operand tail → (tail ≡ []) × (trap_in operand ≡ None)
no_tail_place place.TheVariants.NoPlace enc disp k reg tail h t = (t, refl)
no_tail_place (place.TheVariants.Register number) enc disp k reg tail h t = cc
no_tail_place (place.TheVariants.Memory amode) enc disp k reg tail h t = cc

register_may : (M : Type 0) (number : Number) (place_field : PlaceField) → place_fits {M = M} place_field (place.TheVariants.Register number) ≡ true → register_allowed place_field ≡ true
register_may M number Memory h = cc
register_may M number RegisterOrMemory h = refl
register_may M number Register8OrMemory h = refl

by_place : {M : Type 0} (enc : M → ℕ) (line : Line) (o : Form M) (disp : ℤ) (field : RegField) (place_field : PlaceField) (pre tail : List Action) (operand : PlaceOperand M) → o.place ≡ operand → (h : Parted enc line o pre) → line.tail ≡ Modrm field place_field → reg_fits field o.reg ≡ true → place_fits place_field operand ≡ true → TailPartOf enc disp (imm_size o.imm) (reg_number line.tail o.reg) operand tail → IsBytes (all_bytes tail) → EncodesLine (line_form_parts enc line disp o) (memory_in operand) (instruction_actions line (trap_in operand) pre tail o)
unfolding acts
by_place enc line o disp field place_field pre tail place.TheVariants.NoPlace e h ht hr hp t tb = cc
by_place {M} enc line o disp field place_field pre tail (place.TheVariants.Register number) e h ht hr hp t tb =
    register_encodes enc line o disp field place_field None pre tail (Reg (Low (number_value number))) (λ at. []) h ht hr (rw e t) tb
    (register_named field place_field h.prefix.prefix (number_value number) true refl (register_may M number place_field hp) (λ a b. h.prefix.low_place (rw ht a) (rw e b)))
    (rw e refl) refl (λ at. refl)
by_place enc line o disp field place_field pre tail (place.TheVariants.Memory amode) e h ht hr hp t tb =
    memory_encodes enc line o disp field place_field (trap_of amode) pre tail (displaced_place enc disp (imm_size o.imm) amode) (target_notices amode) h ht hr (rw e t) tb
    (memory_named enc disp (imm_size o.imm) place_field h.prefix.prefix amode)
    (rw e refl) amode refl (λ at. refl)

by_tail : {M : Type 0} (enc : M → ℕ) (line : Line) (o : Form M) (disp : ℤ) (pre tail : List Action) (field : TailField) → line.tail ≡ field → Parted enc line o pre → tail_fits field o.reg o.place ≡ true → TailPartOf enc disp (imm_size o.imm) (reg_number line.tail o.reg) o.place tail → IsBytes (all_bytes tail) → EncodesLine (line_form_parts enc line disp o) (memory_in o.place) (instruction_actions line (trap_in o.place) pre tail o)
by_tail enc line o disp pre tail NoTail e h f t tb =
    let p = and_parts (is_absent o.reg) (is_no_place o.place) f in
    let q = no_tail_place o.place enc disp (imm_size o.imm) (reg_number line.tail o.reg) tail p.1 t in
    rw (q.0, q.1) (bare_encodes enc line o disp pre h e p.0 p.1)
by_tail enc line o disp pre tail (Modrm field place_field) e h f t tb =
    let p = and_parts (reg_fits field o.reg) (place_fits place_field o.place) f in
    by_place enc line o disp field place_field pre tail o.place refl h e p.0 p.1 t tb

-- a prefix, an opcode, a tail and an immediate for a line and operands of its shape write that line with these operands
pub encodes : {M : Type 0} (enc : M → ℕ) (line : Line) (o : Form M) (disp : ℤ) (pre tail : List Action) → is_line line ≡ true → fits line o ≡ true → PrefixFor enc line (register_number o.reg) o.vvvv o.place (all_bytes pre) → ((k : ℕ) → all_notices pre k ≡ []) → TailPartOf enc disp (imm_size o.imm) (reg_number line.tail o.reg) o.place tail → IsBytes (all_bytes tail) → EncodesLine (line_form_parts enc line disp o) (memory_in o.place) (instruction_actions line (trap_in o.place) pre tail o)
encodes enc line o disp pre tail hl hf prefix quiet t tb =
    let p = and_parts (tail_fits line.tail o.reg o.place) _ hf in
    let q = and_parts (vvvv_fits line.prefix o.vvvv) (imm_fits line.imm o.imm) p.1 in
    let h : Parted enc line o pre = record { facts = line_facts line hl; imm = q.1; prefix = prefix; quiet = quiet } in
    by_tail enc line o disp pre tail line.tail refl h p.0 t tb

-- the same of actions that are these
pub line_same : {M : Type 0} (parts : PartsOf Line) (memory : Option (Amode M)) (a b : List Action) → a ≡ b → EncodesLine parts memory b → EncodesLine parts memory a
line_same parts memory a b e h = rw e h

-- what operands that fit and are real give to the parts

pub place_real : {M : Type 0} (settled : M → Bool) (enc : M → ℕ) (o : Form M) → form_is_real settled enc o ≡ true → place_is_real settled enc o.place ≡ true
place_real settled enc o h =
    let p = and_parts (is_absent_or_real o.reg) _ h in
    (and_parts (is_absent_or_real o.vvvv) (place_is_real settled enc o.place) p.1).1

pub vvvv_real : {M : Type 0} (settled : M → Bool) (enc : M → ℕ) (o : Form M) → form_is_real settled enc o ≡ true → is_absent_or_real o.vvvv ≡ true
vvvv_real settled enc o h =
    let p = and_parts (is_absent_or_real o.reg) _ h in
    (and_parts (is_absent_or_real o.vvvv) (place_is_real settled enc o.place) p.1).0

absent_is_zero : (number : Option Number) → is_absent number ≡ true → (register_number number == 0) ≡ true
absent_is_zero None h = refl
absent_is_zero (Some number) h = cc

-- without a tail there is no place, and nothing in reg
pub bare_is : {M : Type 0} (line : Line) (o : Form M) → fits line o ≡ true → (has_tail line.tail || (is_no_place o.place && (register_number o.reg == 0))) ≡ true
bare_is line o h = by_field line.tail (and_parts (tail_fits line.tail o.reg o.place) _ h).0
  where
    by_field : (tail : TailField) → tail_fits tail o.reg o.place ≡ true → (has_tail tail || (is_no_place o.place && (register_number o.reg == 0))) ≡ true
    by_field NoTail f = let p = and_parts (is_absent o.reg) (is_no_place o.place) f in rw (p.1, absent_is_zero o.reg p.0) refl
    by_field (Modrm reg field) f = refl

pub vvvv_fit : {M : Type 0} (line : Line) (o : Form M) → fits line o ≡ true → vvvv_fits line.prefix o.vvvv ≡ true
vvvv_fit line o h = (and_parts (vvvv_fits line.prefix o.vvvv) (imm_fits line.imm o.imm) (and_parts (tail_fits line.tail o.reg o.place) _ h).1).0

reg_is_below : (tail : TailField) (number : Option Number) → is_digit tail ≡ true → is_absent_or_real number ≡ true → reg_number tail number < 16
reg_is_below NoTail number hd hr = omega arith
reg_is_below (Modrm (Digit d) field) number hd hr = let k : d < 8 = below d 8 hd in omega arith
reg_is_below (Modrm Register8 field) None hd hr = omega arith
reg_is_below (Modrm Register8 field) (Some (Settled n)) hd hr = below n 16 hr
reg_is_below (Modrm Register8 field) (Some Unsettled) hd hr = cc
reg_is_below (Modrm Register field) None hd hr = omega arith
reg_is_below (Modrm Register field) (Some (Settled n)) hd hr = below n 16 hr
reg_is_below (Modrm Register field) (Some Unsettled) hd hr = cc

pub reg_below : {M : Type 0} (settled : M → Bool) (enc : M → ℕ) (line : Line) (o : Form M) → is_line line ≡ true → form_is_real settled enc o ≡ true → reg_number line.tail o.reg < 16
reg_below settled enc line o hl h = reg_is_below line.tail o.reg (line_facts line hl).digit (and_parts (is_absent_or_real o.reg) _ h).0

-- a digit stands where there is no register, and no register where there is a digit
pub digit_or_register : {M : Type 0} (line : Line) (o : Form M) → fits line o ≡ true → register_number o.reg + digit_of line.tail ≡ reg_number line.tail o.reg
digit_or_register line o h = by_tail line.tail o.reg (and_parts (tail_fits line.tail o.reg o.place) _ h).0
  where
    by_field : (field : RegField) (pf : PlaceField) (number : Option Number) → reg_fits field number ≡ true → register_number number + digit_of (Modrm field pf) ≡ reg_number (Modrm field pf) number
    by_field (Digit d) pf None h = omega arith
    by_field (Digit d) pf (Some number) h = cc
    by_field Register8 pf None h = cc
    by_field Register8 pf (Some number) h = omega arith
    by_field Register pf None h = cc
    by_field Register pf (Some number) h = omega arith

    by_tail : (tail : TailField) (number : Option Number) → tail_fits tail number o.place ≡ true → register_number number + digit_of tail ≡ reg_number tail number
    by_tail NoTail None h = refl
    by_tail NoTail (Some number) h = cc
    by_tail (Modrm field pf) number h = by_field field pf number (and_parts (reg_fits field number) _ h).0

-- the line has as many bytes of immediate as the form
pub imm_sized_as : {M : Type 0} (line : Line) (o : Form M) → fits line o ≡ true → imm_bytes line.imm ≡ imm_size o.imm
imm_sized_as line o h =
    let q = and_parts (vvvv_fits line.prefix o.vvvv) (imm_fits line.imm o.imm) (and_parts (tail_fits line.tail o.reg o.place) _ h).1 in
    imm_same line.imm o.imm q.1

-- What is encoded by the line of a row is encoded as the row.

notices_same : {M : Type 0} (row : Row) (memory : Option (Amode M)) (at : ℕ) (r : LineReading) → r.line ≡ line_of row → line_notices_of memory at r ≡ notices_of memory at (as_row row r)
notices_same row None at r e = refl
notices_same row (Some (ImmReg base simm32 trap)) at r e = refl
notices_same row (Some (ImmRegRegShift base index scale simm32 trap)) at r e = refl
notices_same row (Some (RipRelative target)) at r e = rw e refl

shortest_same : {M : Type 0} (row : Row) (memory : Option (Amode M)) (bytes : List ℕ) (r : LineReading) → r.line ≡ line_of row → ShortestLineFor memory bytes r → ShortestFor memory bytes (as_row row r)
shortest_same row None bytes r e h = tt
shortest_same row (Some amode) bytes r e h = record { prefix = h.prefix; behind = h.behind; prefix_is = h.prefix_is; reg = h.reg; place = h.place; tail = rw e at h.tail; shortest = rw e at h.shortest }

pub row_encodes : {M : Type 0} (row : Row) (meant : PartsOf Line) (memory : Option (Amode M)) (acts : List Action) → meant.row ≡ line_of row → EncodesLine meant memory acts → EncodesParts (parts_as row meant) memory acts
unfolding row_reads_as
row_encodes row meant memory acts e h =
    let is : h.reads.reading.line ≡ line_of row = ap (λ (z : PartsOf Line). z.row) h.reads.same ∙ e in
    record {
      are_bytes = h.are_bytes;
      reads = row_reads_as row meant (all_bytes acts) e h.reads;
      notices = λ at. h.notices at ∙ notices_same row memory at h.reads.reading is;
      shortest = shortest_same row memory (all_bytes acts) h.reads.reading is h.shortest;
      ends = h.ends;
    }
