use Rattle.std.proofs.Common.{◌≡◌, ◌∙◌, ◌+◌, ◌<◌, ◌≤◌, ℕ, pos, refl, sym, ap, subst, arith, Bool, true, false, Option, Some, None, List, [], ◌∷◌, ◌++◌, Ok, drop, length, take, append-nil, append_assoc, length-append, IsTrue, w64}
use Rattle.std.proofs.Math.Seq.{take-append_seam}
use Rattle.std.proofs.lemmas.Bool.Decides.{nat_tests}
use Rattle.std.proofs.lemmas.List.{length-take-le}
use Rattle.std.specs.Prelude.{◌==◌, is_none, slice_get}
use Rattle.std.specs.Int.{to_le_bytes}
use Rattle.std.specs.Int.NonZero.{non_zero_u8_get}
use Rattle.cax64_address.specs.Emitted.{target_actions}
use Rattle.cax64_address.specs.declared.amode.Amode.TheVariants.{ImmReg, ImmRegRegShift, RipRelative}
use Rattle.cax64_encoder.specs.Code.{IsCode, code_actions, trap_actions}
use Rattle.cax64_encoder.specs.EncodesLine.{EncodesLine, line_notices_of}
use Rattle.cax64_encoder.specs.Notices.{trap_notice}
use Rattle.cax64_encoder.specs.Place.{memory_in}
use Rattle.cax64_encoder.specs.declared.code.Code.{Code}
use Rattle.cax64_encoder.specs.declared.fault.Fault.{Fault}
use Rattle.cax64_encoder.specs.declared.role.PlaceOperand.{PlaceOperand}
use Rattle.cax64_encoder.specs.declared.role.PlaceOperand.TheVariants.{NoPlace, Register, Memory}
use Rattle.cax64_encoder.proofs.Encodes.{trap_bytes}
use Rattle.cax64_encoder.proofs.Faults.{no_fault}
use Rattle.cax64_machine_code.specs.ReadLine.{LineReading, read_line}
use Rattle.x64_plain.specs.Plain.{place_of, plain, plain_place, target_place}
use Rattle.x64_plain.specs.Told.{place_told, told, told_at}
use Rattle.x64_plain.specs.declared.inst.HqInst.{HqInst}
use Rattle.x64_plain.specs.declared.told.HqUse.{HqUse}
use Rattle.x64_plain.proofs.Places.{zero_value}
use Rattle.x64_plain.proofs.Views.{same_view}
use Rattle.cax64_sink.specs.Call.{Action, Step, bytes_of}
use Rattle.cax64_sink.specs.Puts.{puts}
use Rattle.cax64_sink.specs.Rest.{is_imm_len, long_actions, rest_actions, word_actions}
use Rattle.cax64_sink.specs.Run.{Ran, all_bytes, all_notices}
use Rattle.cax64_sink.specs.declared.DeferredTarget.{DeferredTarget}
use Rattle.cax64_sink.specs.declared.DeferredTarget.TheVariants as target
use Rattle.cax64_sink.specs.declared.Notice.{Notice}
use Rattle.cax64_sink.specs.declared.Notice.TheVariants.{Target}
use Rattle.cax64_sink.specs.declared.TrapCode.{TrapCode}
use Rattle.cax64_sink.proofs.PutRuns.{all_bytes-puts, all_notices-puts}
use Rattle.cax64_sink.proofs.Rests.{each_len}
use Rattle.cax64_sink.proofs.Runs.{all_bytes_append, all_notices_append, ran_next, ran_none}
use Rattle.huqmeris_c.specs.Encodes.{no_offsets, written}
use Rattle.huqmeris_c.specs.Outcome.{PutAs, Written}
use Rattle.huqmeris_c.specs.PutCode.{PutCode}
use Rattle.huqmeris_c.proofs.Done.{some_is}
use Rattle.x64_core.specs.Adds.{AddsCore}
use Rattle.x64_core.specs.Core.{core_len, core_meant, fault_of, is_encodable}
use Rattle.x64_core.specs.View.{CoreView, core_view}
use Rattle.x64_core.specs.declared.instruction.Core.{Core}
use Rattle.x64_core.proofs.Runs.{core_adds, core_most}

-- The code of an instruction, by its bytes and what it tells.

writes : (acts : List Action) (held : List ℕ) → Ran acts (written held) (written (held ++ all_bytes acts)) (Ok tt)
writes [] held = rw (append-nil held) (ran_none (written held) (Ok tt) refl)
writes (act ∷ acts) held =
    let first : Step act (written held) (written (held ++ bytes_of act)) (Ok tt) = record {
      bytes = refl;
      notices = refl;
      records = refl;
      offsets = refl;
      answers = refl;
      succeeds = λ _ _. refl;
      byte_room = λ k room. tt;
      notice_room = λ k room. tt;
      refused_byte_room = λ refused. λ k room. tt;
      refused_notice_room = λ refused. λ k room. tt;
      error = tt;
    } in
    ran_next first refl (subst (λ (b : List ℕ). Ran acts (written (held ++ bytes_of act)) (written b) (Ok tt)) (append_assoc held (bytes_of act) (all_bytes acts)) (writes acts (held ++ bytes_of act)))

target_bytes : (target : Option DeferredTarget) → all_bytes (target_actions target) ≡ []
target_bytes None = refl
target_bytes (Some place) = refl

code_bytes : (code : Code) → all_bytes (code_actions code) ≡ code.front ++ all_bytes (rest_actions code.long code.imm_len code.imm)
code_bytes code =
    let rest : List Action = long_actions code.long ++ word_actions code.imm_len code.imm in
    all_bytes_append (trap_actions code.trap) (puts code.front ++ (target_actions code.target ++ rest))
    ∙ ap (λ (b : List ℕ). b ++ all_bytes (puts code.front ++ (target_actions code.target ++ rest))) (trap_bytes code.trap)
    ∙ all_bytes_append (puts code.front) (target_actions code.target ++ rest)
    ∙ ap (λ (b : List ℕ). b ++ all_bytes (target_actions code.target ++ rest)) (all_bytes-puts code.front)
    ∙ ap (λ (b : List ℕ). code.front ++ b) (all_bytes_append (target_actions code.target) rest ∙ ap (λ (b : List ℕ). b ++ all_bytes rest) (target_bytes code.target))

-- what it tells

abbrev target_notice : Option DeferredTarget → ℕ → List Notice
target_notice None at = []
target_notice (Some place) at = Target at place ∷ []

word_quiet : (word len : ℕ) → IsTrue (is_imm_len len) → (at : ℕ) → all_notices (word_actions len word) at ≡ []
word_quiet word = each_len (λ len. (at : ℕ) → all_notices (word_actions len word) at ≡ []) (λ at. refl) (λ at. refl) (λ at. refl) (λ at. refl)

rest_quiet : (long : Option ℕ) (word len : ℕ) → IsTrue (is_imm_len len) → (at : ℕ) → all_notices (long_actions long ++ word_actions len word) at ≡ []
rest_quiet None word len h at = word_quiet word len h at
rest_quiet (Some bytes) word len h at = word_quiet word len h (at + 4)

behind_front : (code : Code) → IsCode code → (at : ℕ) → all_notices (puts code.front ++ (target_actions code.target ++ (long_actions code.long ++ word_actions code.imm_len code.imm))) at ≡ target_notice code.target (at + length code.front)
behind_front code is at =
    let rest : List Action = long_actions code.long ++ word_actions code.imm_len code.imm in
    all_notices_append (puts code.front) (target_actions code.target ++ rest) at
    ∙ ap (λ (n : List Notice). n ++ all_notices (target_actions code.target ++ rest) (at + length (all_bytes (puts code.front)))) (all_notices-puts code.front at)
    ∙ ap (λ (b : List ℕ). all_notices (target_actions code.target ++ rest) (at + length b)) (all_bytes-puts code.front)
    ∙ by_target code.target (at + length code.front)
  where
    by_target : (t : Option DeferredTarget) (n : ℕ) → all_notices (target_actions t ++ (long_actions code.long ++ word_actions code.imm_len code.imm)) n ≡ target_notice t n
    by_target None n = rest_quiet code.long code.imm code.imm_len is.imm_len n
    by_target (Some place) n = ap (λ (l : List Notice). Target n place ∷ l) (rest_quiet code.long code.imm code.imm_len is.imm_len (n + 0))

code_notices : (code : Code) → IsCode code → all_notices (code_actions code) 0 ≡ trap_notice code.trap 0 ++ target_notice code.target (length code.front)
code_notices code is = by_trap code.trap
  where
    by_trap : (t : Option TrapCode) → all_notices (trap_actions t ++ (puts code.front ++ (target_actions code.target ++ (long_actions code.long ++ word_actions code.imm_len code.imm)))) 0 ≡ trap_notice t 0 ++ target_notice code.target (length code.front)
    by_trap None = behind_front code is 0 ∙ ap (λ (n : ℕ). target_notice code.target n) (omega arith)
    by_trap (Some trap) = ap (λ (l : List Notice). trap_notice (Some trap) 0 ++ l) (behind_front code is 0 ∙ ap (λ (n : ℕ). target_notice code.target n) (omega arith))

some_trap : (code : TrapCode) → (non_zero_u8_get code.0 == 0) ≡ false
some_trap code = by_test (non_zero_u8_get code.0 == 0) refl
  where
    by_test : (zero : Bool) → (non_zero_u8_get code.0 == 0) ≡ zero → zero ≡ false
    by_test true e = let none : non_zero_u8_get code.0 ≡ 0 = grind (arith, nat_tests, e) in absurd (zero_value code none)
    by_test false e = refl

first_place : List Notice → ℕ
first_place [] = 0
first_place (notice ∷ later) = place_told notice

relative_is : (place : DeferredTarget) (n m : ℕ) → n ≡ m → told_at (target_place place) n ≡ told (Some (Target m place))
relative_is (target.Label label) n m e = rw e refl
relative_is (target.Constant constant) n m e = rw e refl
relative_is target.None n m e = rw e refl

relative_at : (trap : Option TrapCode) (found : Option DeferredTarget) (place : DeferredTarget) (n m : ℕ) → trap_notice trap 0 ++ target_notice found n ≡ Target m place ∷ [] → n ≡ m
unfolding first_place
relative_at None None place n m h = cc
relative_at None (Some other) place n m h = ap first_place h
relative_at (Some code) found place n m h = cc

pub tells_is : (code : Code) (place : PlaceOperand ℕ) (reading : LineReading) → IsCode code → all_notices (code_actions code) 0 ≡ line_notices_of (memory_in place) 0 reading → told_at (plain_place place) (length code.front) ≡ told (slice_get (line_notices_of (memory_in place) 0 reading) 0)
tells_is code NoPlace reading is h = refl
tells_is code (Register number) reading is h = refl
tells_is code (Memory (ImmReg base simm32 None)) reading is h = refl
tells_is code (Memory (ImmReg base simm32 (Some trap))) reading is h = rw (some_trap trap) refl
tells_is code (Memory (ImmRegRegShift base index scale simm32 None)) reading is h = refl
tells_is code (Memory (ImmRegRegShift base index scale simm32 (Some trap))) reading is h = rw (some_trap trap) refl
tells_is code (Memory (RipRelative place)) reading is h = relative_is place (length code.front) _ (relative_at code.trap code.target place (length code.front) _ (sym (code_notices code is) ∙ h))

own_place : (v : CoreView) → place_of (plain v) ≡ plain_place v.place
own_place v = by_place v.place
  where
    by_place : (p : PlaceOperand ℕ) → place_of (plain (record { op = v.op; reg = v.reg; vvvv = v.vvvv; place = p; imm = v.imm })) ≡ plain_place p
    by_place NoPlace = refl
    by_place (Register number) = refl
    by_place (Memory (ImmReg base simm32 trap)) = refl
    by_place (Memory (ImmRegRegShift base index scale simm32 trap)) = refl
    by_place (Memory (RipRelative (target.Label label))) = refl
    by_place (Memory (RipRelative (target.Constant constant))) = refl
    by_place (Memory (RipRelative target.None)) = refl

-- An instruction whose bytes were written as two words.

words_length : (word more : ℕ) (bytes : List ℕ) → more ≤ 8 → take more (to_le_bytes w64 word) ≡ bytes → more ≡ length bytes
words_length word more bytes few e = sym (length-take-le more (to_le_bytes w64 word) few) ∙ ap length e

pub coded : (c : Core) (made : Code) (code code' : List ℕ) (front rest behind more : ℕ)
    → EncodesLine (core_meant (core_view c) no_offsets).parts (core_meant (core_view c) no_offsets).memory (code_actions made)
    → length (all_bytes (code_actions made)) ≡ core_len no_offsets (core_view c) → IsCode made
    → behind ≡ length made.front → take (length made.front) (to_le_bytes w64 front) ≡ made.front
    → more ≤ 8 → take more (to_le_bytes w64 rest) ≡ all_bytes (rest_actions made.long made.imm_len made.imm)
    → code' ≡ take behind (to_le_bytes w64 front) ++ take more (to_le_bytes w64 rest) ++ drop (behind + more) code
    → PutCode (core_view c) code code' behind (behind + more)
coded c made code code' front rest behind more encodes size is at first few later put =
    let v = core_view c in
    let added : List ℕ = all_bytes (code_actions made) in
    let adds : AddsCore v (written []) (written added) = core_adds c {acts = code_actions made} {s = written []} {t = written added} (Ok tt) encodes size (writes (code_actions made) []) in
    let number : behind + more ≡ length added = omega (arith, at, words_length rest more (all_bytes (rest_actions made.long made.imm_len made.imm)) few later, ap length (code_bytes made), length-append made.front (all_bytes (rest_actions made.long made.imm_len made.imm))) in
    let own : adds.line.added ≡ added = sym adds.line.bytes in
    let same : encodes.reads.reading ≡ adds.line.reads.reading = some_is encodes.reads.reading adds.line.reads.reading (sym (encodes.reads.reads []) ∙ ap (λ (b : List ℕ). read_line (core_meant v no_offsets).parts.row (b ++ [])) (sym own) ∙ adds.line.reads.reads []) in
    record {
      added = added;
      front = put ∙ ap (λ (n : ℕ). take n (to_le_bytes w64 front) ++ take more (to_le_bytes w64 rest) ++ drop (behind + more) code) at ∙ ap (λ (b : List ℕ). b ++ take more (to_le_bytes w64 rest) ++ drop (behind + more) code) first ∙ ap (λ (b : List ℕ). made.front ++ b ++ drop (behind + more) code) later ∙ ap (λ (b : List ℕ). b ++ drop (behind + more) code) (sym (code_bytes made));
      count = number;
      size = number ∙ size;
      most = core_most encodes (size ∙ sym size ∙ sym number);
      adds = adds;
      tells = ap (λ (p : _). told_at p behind) (own_place v) ∙ ap (λ (n : ℕ). told_at (plain_place v.place) n) at ∙ tells_is made v.place encodes.reads.reading is (encodes.notices 0) ∙ ap (λ (r : LineReading). told (slice_get (line_notices_of (memory_in v.place) 0 r) 0)) same;
    }

none_of : (a : Option Fault) → is_none a ≡ true → a ≡ None
none_of None h = refl
none_of (Some a) h = cc

pub faultless : (v : CoreView) → IsTrue (is_encodable no_offsets v) → fault_of no_offsets v ≡ None
faultless v can = none_of (fault_of no_offsets v) (no_fault no_offsets (core_meant v no_offsets).visited (core_meant v no_offsets).memory ∙ can)

pub encodable_by : (v : CoreView) → fault_of no_offsets v ≡ None → IsTrue (is_encodable no_offsets v)
encodable_by v none = sym (no_fault no_offsets (core_meant v no_offsets).visited (core_meant v no_offsets).memory) ∙ ap (λ (o : Option Fault). is_none o) none

-- of integers that are encodable, whoever they are
pub no_fault_of : (i : HqInst) (c other : Core) → plain (core_view c) ≡ i → IsTrue (is_encodable no_offsets (core_view c)) → plain (core_view other) ≡ i → fault_of no_offsets (core_view other) ≡ None
no_fault_of i c other is can h = ap (λ (v : CoreView). fault_of no_offsets v) (sym (same_view i c other is h)) ∙ faultless (core_view c) can

pub put_code_done : (v w : CoreView) (code code' : List ℕ) (behind len len' : ℕ) (told before : HqUse) → v ≡ w → IsTrue (is_encodable no_offsets v) → 16 ≤ length code → PutCode v code code' behind len → told ≡ told_at (place_of (plain v)) behind → PutAs w code code' len' len before told (pos 0)
put_code_done v w code code' behind len len' heard before same can room k is =
    subst (λ (x : CoreView). PutAs x code code' len' len before heard (pos 0)) same
    (let none : fault_of no_offsets v ≡ None = faultless v can in
    let most = k.most in
    let size = k.size in
    let done : Written v code code' len heard = record { added = k.added; front = k.front; count = k.count; is = k.size; encodes = record { adds = k.adds; tells = is ∙ k.tells } } in
    rw none (record { fits = λ _. (refl, done); full = λ m. absurd (omega (arith, size, most, room, m)) }))

-- of bytes that were made apart
pub added_is : (v : CoreView) (whole whole' : List ℕ) (behind len : ℕ) (put : PutCode v whole whole' behind len) → take len whole' ≡ put.added
added_is v whole whole' behind len put =
    ap (λ (l : List ℕ). take len l) put.front ∙ ap (λ (n : ℕ). take n (put.added ++ drop len whole)) put.count ∙ take-append_seam put.added (drop len whole)

-- of which as many as they are were written at the front
pub whole_done : (v : CoreView) (code copied whole whole' : List ℕ) (behind len size held : ℕ) (before heard : HqUse) → fault_of no_offsets v ≡ None → size ≡ len → size ≤ length code → copied ≡ take size whole' → PutCode v whole whole' behind len → heard ≡ told_at (place_of (plain v)) behind → PutAs v code (copied ++ drop size code) held len before heard (pos 0)
whole_done v code copied whole whole' behind len size held before heard none same fits c put is =
    let is_size = put.size in
    let first : copied ≡ put.added = c ∙ ap (λ (n : ℕ). take n whole') same ∙ added_is v whole whole' behind len put in
    let done : Written v code (copied ++ drop size code) len heard = record {
      added = put.added;
      front = ap (λ (l : List ℕ). l ++ drop size code) first ∙ ap (λ (n : ℕ). put.added ++ drop n code) same;
      count = put.count;
      is = put.size;
      encodes = record { adds = put.adds; tells = is ∙ put.tells };
    } in
    rw none (record { fits = λ _. (refl, done); full = λ m. absurd (omega (arith, is_size, same, fits, m)) })

pub whole_full : (v : CoreView) (code whole whole' : List ℕ) (behind len size held : ℕ) (before : HqUse) → fault_of no_offsets v ≡ None → size ≡ len → length code < size → PutCode v whole whole' behind len → PutAs v code code held held before before (pos 6)
whole_full v code whole whole' behind len size held before none same few put =
    let is_size = put.size in
    rw none (record { fits = λ m. absurd (omega (arith, is_size, same, few, m)); full = λ _. (refl, record { same_code = refl; same_len = refl; same_told = refl }) })
