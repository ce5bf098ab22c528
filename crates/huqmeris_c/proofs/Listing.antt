use Rattle.std.proofs.Common.{◌≡◌, ◌≢◌, ◌∙◌, ◌+◌, ◌-◌, ◌*◌, ◌<◌, ◌≤◌, ◌^◌, ℕ, suc, zero, refl, sym, ap, subst, arith, Option, Some, None, List, [], ◌∷◌, ◌++◌, ℤ, Result, Ok, Err, drop, get_or, take, length, append-nil, append_assoc, length-append, ◌⊎◌, inl, inr, Bool, true, false}
use Rattle.std.proofs.lemmas.List.{length-drop, take_at, drop_at, drop-drop, drop_all, drop_more, length-take-le, take-append-drop, take_all, take_more}
use Rattle.std.proofs.lemmas.Option.{slice_get-get_or}
use Rattle.std.proofs.lemmas.Bool.Decides.{nat_tests}
use Rattle.std.specs.Prelude.{OnOk, nat_lt, slice_get, unwrap_or}
use Rattle.cax64_address.specs.declared.amode.Amode.{Amode}
use Rattle.cax64_address.specs.declared.amode.Amode.TheVariants.{ImmReg, ImmRegRegShift, RipRelative}
use Rattle.cax64_encoder.specs.EncodesLine.{line_notices_of}
use Rattle.cax64_encoder.specs.Notices.{memory_notices, trap_count, trap_notice}
use Rattle.cax64_encoder.specs.Place.{memory_in}
use Rattle.cax64_machine_code.specs.Line.{imm_bytes}
use Rattle.cax64_machine_code.specs.ReadLine.{LineReading, read_of}
use Rattle.cax64_machine_code.specs.Reading.{PartsOf}
use Rattle.cax64_machine_code.specs.declared.line.Line.{Line}
use Rattle.x64_plain.specs.Encodable.{IsReady}
use Rattle.x64_plain.specs.Plain.{plain}
use Rattle.x64_plain.specs.Told.{told}
use Rattle.x64_plain.specs.declared.inst.HqInst.{HqInst}
use Rattle.x64_plain.specs.declared.told.HqUse.{HqUse}
use Rattle.x64_plain.proofs.Views.{same_view}
use Rattle.cax64_sink.specs.FixedSink.{fixed_sink_state}
use Rattle.cax64_sink.specs.declared.DeferredTarget.{DeferredTarget}
use Rattle.cax64_sink.specs.declared.DeferredTarget.TheVariants as target
use Rattle.cax64_sink.specs.declared.Notice.{Notice}
use Rattle.cax64_sink.specs.declared.Notice.TheVariants.{Trap, Target}
use Rattle.cax64_sink.specs.declared.TrapCode.{TrapCode}
use Rattle.cax64_sink.specs.declared.fixed_sink.FixedSink.{FixedSink}
use Rattle.huqmeris_c.specs.Each.{AreSound, EachSound, EncodesEach, IsRefused, PutEach, StoppedAt, list_len, list_uses, plains, uses_told}
use Rattle.huqmeris_c.specs.Encodes.{no_offsets, written}
use Rattle.huqmeris_c.specs.declared.progress.HqDone.{HqDone}
use Rattle.huqmeris_c.specs.Listed.{AreReady, CanPut, HasRoomFor, HasSize, IsSized, PutBehind, PutNext, moved, use_list}
use Rattle.huqmeris_c.specs.PutCode.{PutCode}
use Rattle.x64_core.specs.Adds.{AddsCore}
use Rattle.x64_core.specs.Core.{core_len, core_notices, fault_of}
use Rattle.x64_lines.specs.Line.{core_line}
use Rattle.x64_lines.specs.Lines.{core_lines}
use Rattle.x64_core.specs.View.{CoreView, core_view}
use Rattle.x64_core.specs.declared.instruction.Core.{Core}
use Rattle.x64_layout.specs.declared.span.TheConstants.{MOST_SPANS}

-- Instructions that are encoded one behind the other.

-- one instruction more

plains_more : (cores : List Core) (core : Core) → plains (cores ++ core ∷ []) ≡ plains cores ++ plain (core_view core) ∷ []
plains_more [] core = refl
plains_more (first ∷ cores) core = ap (λ (l : List HqInst). plain (core_view first) ∷ l) (plains_more cores core)

len_more : (cores : List Core) (core : Core) → list_len (cores ++ core ∷ []) ≡ list_len cores + core_len no_offsets (core_view core)
len_more [] core = omega arith
len_more (first ∷ cores) core = omega (arith, len_more cores core)

uses_more : (cores : List Core) (core : Core) → list_uses (cores ++ core ∷ []) ≡ list_uses cores + core_notices (core_view core)
uses_more [] core = omega arith
uses_more (first ∷ cores) core = omega (arith, uses_more cores core)

sound_more : (cores : List Core) (core : Core) → EachSound cores → fault_of no_offsets (core_view core) ≡ None → EachSound (cores ++ core ∷ [])
sound_more [] core h k = (k, tt)
sound_more (first ∷ cores) core h k = (h.0, sound_more cores core h.1 k)

pub are_more : (insts : List HqInst) (inst : HqInst) (bytes uses n m : ℕ) → AreSound insts bytes uses → HasSize inst n m → AreSound (insts ++ inst ∷ []) (bytes + n) (uses + m)
are_more insts inst bytes uses n m h k = record {
  cores = h.cores ++ k.core ∷ [];
  are = plains_more h.cores k.core ∙ ap (λ (l : List HqInst). l ++ plain (core_view k.core) ∷ []) h.are ∙ ap (λ (i : HqInst). insts ++ i ∷ []) k.is;
  sound = sound_more h.cores k.core h.sound k.sound;
  len = let e = h.len in let f = k.len in let g = len_more h.cores k.core in omega (arith, e, f, g);
  count = let e = h.count in let f = k.count in let g = uses_more h.cores k.core in omega (arith, e, f, g);
}

pub none_sound : AreSound [] 0 0
none_sound = record { cores = []; are = refl; sound = tt; len = refl; count = refl }

-- the first of those that are left
pub record FirstLeft (inst : HqInst) (later : List HqInst) (bytes uses : ℕ) : Type 0 where
  pub core : Core
  pub is : plain (core_view core) ≡ inst
  pub sound : fault_of no_offsets (core_view core) ≡ None
  pub more : ℕ
  pub others : ℕ
  pub left : AreSound later more others
  pub len : bytes ≡ core_len no_offsets (core_view core) + more
  pub count : uses ≡ core_notices (core_view core) + others

first_of_cores : (inst : HqInst) (later : List HqInst) (bytes uses : ℕ) (cores : List Core) → plains cores ≡ inst ∷ later → EachSound cores → bytes ≡ list_len cores → uses ≡ list_uses cores → FirstLeft inst later bytes uses
first_of_cores inst later bytes uses [] are sound len count = cc
first_of_cores inst later bytes uses (core ∷ cores) are sound len count = record {
  core = core;
  is = ap (λ (l : List HqInst). unwrap_or (slice_get l 0) inst) are;
  sound = sound.0;
  more = list_len cores;
  others = list_uses cores;
  left = record { cores = cores; are = ap (λ (l : List HqInst). drop 1 l) are; sound = sound.1; len = refl; count = refl };
  len = len;
  count = count;
}

pub first_left : (inst : HqInst) (later : List HqInst) (bytes uses : ℕ) → AreSound (inst ∷ later) bytes uses → FirstLeft inst later bytes uses
first_left inst later bytes uses h = first_of_cores inst later bytes uses h.cores h.are h.sound h.len h.count

-- one more is encoded
pub one_encoded : (cores : List Core) (core : Core) (at : ℕ) (bytes added : List ℕ) (uses heard : List HqUse) → EncodesEach cores at bytes uses → (adds : AddsCore (core_view core) (written []) (written added)) → heard ≡ uses_told (line_notices_of (memory_in (core_view core).place) (at + length bytes) adds.line.reads.reading) → EncodesEach (cores ++ core ∷ []) at (bytes ++ added) (uses ++ heard)
unfolding EncodesEach
one_encoded [] core at bytes added uses heard h adds tells =
    let here : at + length bytes ≡ at = let e = ap (λ (l : List ℕ). length l) h.0 in omega (arith, e) in
    record {
      added = added;
      rest = [];
      is = ap (λ (l : List ℕ). l ++ added) h.0 ∙ sym (append-nil added);
      adds = adds;
      others = [];
      tells = ap (λ (l : List HqUse). l ++ heard) h.1 ∙ tells ∙ ap (λ (n : ℕ). uses_told (line_notices_of (memory_in (core_view core).place) n adds.line.reads.reading)) here ∙ sym (append-nil (uses_told (line_notices_of (memory_in (core_view core).place) at adds.line.reads.reading)));
      later = (refl, refl);
    }
one_encoded (first ∷ cores) core at bytes added uses heard h adds tells =
    let size : length bytes ≡ length h.added + length h.rest = ap (λ (l : List ℕ). length l) h.is ∙ length-append h.added h.rest in
    let here : at + length bytes ≡ at + length h.added + length h.rest = omega (arith, size) in
    record {
      added = h.added;
      rest = h.rest ++ added;
      is = ap (λ (l : List ℕ). l ++ added) h.is ∙ append_assoc h.added h.rest added;
      adds = h.adds;
      others = h.others ++ heard;
      tells = ap (λ (l : List HqUse). l ++ heard) h.tells ∙ append_assoc (uses_told (line_notices_of (memory_in (core_view first).place) at h.adds.line.reads.reading)) h.others heard;
      later = one_encoded cores core (at + length h.added) h.rest added h.others heard h.later adds (tells ∙ ap (λ (n : ℕ). uses_told (line_notices_of (memory_in (core_view core).place) n adds.line.reads.reading)) here);
    }

pub none_encoded : (at : ℕ) → EncodesEach [] at [] []
unfolding EncodesEach
none_encoded at = (refl, refl)

-- what is told of an instruction behind others

abbrev pub moved_if : ℕ → Option Notice → List HqUse
moved_if at None = []
moved_if at (Some notice) = moved at (told (Some notice)) ∷ []

trap_moved : (trap : Option TrapCode) (at : ℕ) → moved_if at (slice_get (trap_notice trap 0) 0) ≡ uses_told (trap_notice trap at)
trap_moved None at = refl
trap_moved (Some code) at = let e : at + 0 ≡ at = omega arith in ap (λ (n : ℕ). told (Some (Trap n code)) ∷ []) e

target_moved : (target : DeferredTarget) (at n m : ℕ) → at + n ≡ m → ◌≡◌ {A = List HqUse} (moved at (told (Some (Target n target))) ∷ []) (told (Some (Target m target)) ∷ [])
target_moved (target.Label label) at n m h = ap (λ (k : ℕ). told (Some (Target k (target.Label label))) ∷ []) h
target_moved (target.Constant constant) at n m h = ap (λ (k : ℕ). told (Some (Target k (target.Constant constant))) ∷ []) h
target_moved target.None at n m h = ap (λ (k : ℕ). told (Some (Target k target.None)) ∷ []) h

pub all_moved : (memory : Option (Amode ℕ)) (at : ℕ) (r : LineReading) → moved_if at (slice_get (line_notices_of memory 0 r) 0) ≡ uses_told (line_notices_of memory at r)
all_moved None at r = refl
all_moved (Some (ImmReg base simm32 trap)) at r = trap_moved trap at
all_moved (Some (ImmRegRegShift base index scale simm32 trap)) at r = trap_moved trap at
all_moved (Some (RipRelative goes_to)) at r =
    let k : ℕ = r.length - r.tail - imm_bytes r.line.imm in
    let e : at + (0 + k + 1) ≡ at + k + 1 = omega arith in
    target_moved goes_to at (0 + k + 1) (at + k + 1) e

trap_number : (trap : Option TrapCode) (at : ℕ) → length (uses_told (trap_notice trap at)) ≡ trap_count trap
trap_number None at = refl
trap_number (Some code) at = refl

pub number_told : (memory : Option (Amode ℕ)) (at : ℕ) (r : LineReading) → length (uses_told (line_notices_of memory at r)) ≡ memory_notices memory
number_told None at r = refl
number_told (Some (ImmReg base simm32 trap)) at r = trap_number trap at
number_told (Some (ImmRegRegShift base index scale simm32 trap)) at r = trap_number trap at
number_told (Some (RipRelative target)) at r = refl

-- What was put so far, and what is left.
pub record PutSoFar (done left : List HqInst) (first code : List ℕ) (before uses : List HqUse) (at count n : ℕ) : Type 0 where
  pub cores : List Core
  pub are : plains cores ≡ done
  pub sound : EachSound cores
  pub encodes : EncodesEach cores 0 (take at code) (take count uses)
  pub others : drop at code ≡ drop at first
  pub more : drop count uses ≡ drop count before
  pub within : at ≤ length code
  pub places : count ≤ length uses
  pub most : at ≤ 13 * n
  pub room : HasRoomFor left (length code - at) (length uses - count)

front_is : (at len : ℕ) (code added rest : List ℕ) → at ≤ length code → len ≡ length added → take (at + len) (take at code ++ (added ++ rest)) ≡ take at code ++ added
front_is at len code added rest h e =
    let a : length (take at code) ≡ at = length-take-le at code h in
    let b : length (take at code ++ added) ≡ at + len = let k = length-append (take at code) added in omega (arith, a, e, k) in
    ap (λ (l : List ℕ). take (at + len) l) (sym (append_assoc (take at code) added rest)) ∙ take_at (take at code ++ added) rest (at + len) b

behind_is : (at len : ℕ) (code added rest : List ℕ) → at ≤ length code → len ≡ length added → drop (at + len) (take at code ++ (added ++ rest)) ≡ rest
behind_is at len code added rest h e =
    let a : length (take at code) ≡ at = length-take-le at code h in
    let b : length (take at code ++ added) ≡ at + len = let k = length-append (take at code) added in omega (arith, a, e, k) in
    ap (λ (l : List ℕ). drop (at + len) l) (sym (append_assoc (take at code) added rest)) ∙ drop_at (take at code ++ added) rest (at + len) b

further : {A : Type 0} (n m : ℕ) (a b : List A) → drop n a ≡ drop n b → drop (n + m) a ≡ drop (n + m) b
further {A = A} n m a b h = sym (drop-drop m n a) ∙ ap (λ (l : List A). drop m l) h ∙ drop-drop m n b

-- What was measured so far.
pub record MeasuredSoFar (done : List HqInst) (bytes uses n : ℕ) : Type 0 where
  pub sound : AreSound done bytes uses
  pub most : bytes ≤ 13 * n
  pub few : uses ≤ n

pub begun : (insts : List HqInst) (code : List ℕ) (uses : List HqUse) → HasRoomFor insts (length code) (length uses) → PutSoFar [] insts code code uses uses 0 0 0
begun insts code uses h = record {
  cores = [];
  are = refl;
  sound = tt;
  encodes = none_encoded 0;
  others = refl;
  more = refl;
  within = omega arith;
  places = omega arith;
  most = omega arith;
  room = let b = h.fits in let u = h.few in record { bytes = h.bytes; uses = h.uses; sound = h.sound; fits = omega (arith, b); few = omega (arith, u) };
}

-- One instruction more is put.
pub put_more : (done later : List HqInst) (inst : HqInst) (core : Core) (first code code' : List ℕ) (before uses uses' heard : List HqUse) (at count n len count' : ℕ) → PutSoFar done (inst ∷ later) first code before uses at count n → plain (core_view core) ≡ inst → ((other : Core) → plain (core_view other) ≡ inst → core_view core ≡ core_view other) → PutBehind (core_view core) at code code' len heard → length code' ≡ length code → count' ≡ count + length heard → take count' uses' ≡ take count uses ++ heard → drop count' uses' ≡ drop count' uses → length uses' ≡ length uses → PutSoFar (done ++ inst ∷ []) later first code' before uses' (at + len) count' (n + 1)
put_more done later inst core first code code' before uses uses' heard at count n len count' h is alone put size number front behind places =
    let fits : HasRoomFor (inst ∷ later) (length code - at) (length uses - count) = h.room in
    let left : FirstLeft inst later fits.bytes fits.uses = first_left inst later fits.bytes fits.uses fits.sound in
    let same : core_view left.core ≡ core_view core = sym (alone left.core left.is) in
    let len_is : core_len no_offsets (core_view left.core) ≡ len = ap (λ (v : CoreView). core_len no_offsets v) same ∙ sym put.size in
    let count_is : core_notices (core_view left.core) ≡ length heard = ap (λ (v : CoreView). core_notices v) same ∙ sym put.number in
    let room_b = fits.fits in let room_u = fits.few in let lb = left.len in let lu = left.count in let w = h.within in let p = h.places in let m = h.most in let z = put.most in
    let prefix : take (at + len) code' ≡ take at code ++ put.added = ap (λ (l : List ℕ). take (at + len) l) put.is ∙ front_is at len code put.added (drop (at + len) code) h.within put.count in
    let rest : drop (at + len) code' ≡ drop (at + len) code = ap (λ (l : List ℕ). drop (at + len) l) put.is ∙ behind_is at len code put.added (drop (at + len) code) h.within put.count in
    let here : length (take at code) ≡ at = length-take-le at code h.within in
    let tells : heard ≡ uses_told (line_notices_of (memory_in (core_view core).place) (0 + length (take at code)) put.adds.line.reads.reading) = put.tells ∙ ap (λ (k : ℕ). uses_told (line_notices_of (memory_in (core_view core).place) k put.adds.line.reads.reading)) (omega (arith, here)) in
    let encodes : EncodesEach (h.cores ++ core ∷ []) 0 (take at code ++ put.added) (take count uses ++ heard) = one_encoded h.cores core 0 (take at code) put.added (take count uses) heard h.encodes put.adds tells in
    record {
      cores = h.cores ++ core ∷ [];
      are = plains_more h.cores core ∙ ap (λ (l : List HqInst). l ++ plain (core_view core) ∷ []) h.are ∙ ap (λ (i : HqInst). done ++ i ∷ []) is;
      sound = sound_more h.cores core h.sound (ap (λ (v : CoreView). fault_of no_offsets v) (sym same) ∙ left.sound);
      encodes = subst (λ (l : List HqUse). EncodesEach (h.cores ++ core ∷ []) 0 (take (at + len) code') l) (sym front) (subst (λ (l : List ℕ). EncodesEach (h.cores ++ core ∷ []) 0 l (take count uses ++ heard)) (sym prefix) encodes);
      others = rest ∙ further at len code first h.others;
      more = behind ∙ subst (λ (k : ℕ). drop k uses ≡ drop k before) (sym number) (further count (length heard) uses before h.more);
      within = omega (arith, room_b, lb, len_is, w, size);
      places = omega (arith, room_u, lu, count_is, p, number, places);
      most = omega (arith, m, z);
      room = record {
        bytes = left.more;
        uses = left.others;
        sound = left.left;
        fits = omega (arith, room_b, lb, len_is, w, size);
        few = omega (arith, room_u, lu, count_is, p, number, places);
      };
    }

-- All are put.
pub put_all : (insts : List HqInst) (first code : List ℕ) (before uses : List HqUse) (at count n : ℕ) → PutSoFar insts [] first code before uses at count n → PutEach insts first code before uses at count
put_all insts first code before uses at count n h = record {
  cores = h.cores;
  are = h.are;
  sound = h.sound;
  added = take at code;
  heard = take count uses;
  encodes = h.encodes;
  front = sym (take-append-drop at code) ∙ ap (λ (l : List ℕ). take at code ++ l) h.others;
  told = sym (take-append-drop count uses) ∙ ap (λ (l : List HqUse). take count uses ++ l) h.more;
  len = sym (length-take-le at code h.within);
  number = sym (length-take-le count uses h.places);
}

-- What the next one needs.
pub can_put : (done later : List HqInst) (inst : HqInst) (first code : List ℕ) (before uses : List HqUse) (at count n : ℕ) → PutSoFar done (inst ∷ later) first code before uses at count n → CanPut inst (length code) (length uses) at count
can_put done later inst first code before uses at count n h =
    let left : FirstLeft inst later h.room.bytes h.room.uses = first_left inst later h.room.bytes h.room.uses h.room.sound in
    let f = h.room.fits in
    let l = left.len in
    let w = h.within in
    let g = h.room.few in
    let m = left.count in
    let p = h.places in
    record { core = left.core; is = left.is; sound = left.sound; fits = omega (arith, f, l, w); few = omega (arith, g, m, p) }

-- Steps of the loops.

trap_few : (trap : Option TrapCode) → trap_count trap ≤ 1
trap_few None = omega arith
trap_few (Some code) = omega arith

notices_few : (memory : Option (Amode ℕ)) → memory_notices memory ≤ 1
notices_few None = omega arith
notices_few (Some (ImmReg base simm32 trap)) = trap_few trap
notices_few (Some (ImmRegRegShift base index scale simm32 trap)) = trap_few trap
notices_few (Some (RipRelative goes_to)) = omega arith

pub none_measured : MeasuredSoFar [] 0 0 0
none_measured = record { sound = none_sound; most = omega arith; few = omega arith }

pub measured_more : (insts : List HqInst) (d : HqInst) (bytes uses i n m a b : ℕ) → MeasuredSoFar (take i insts) bytes uses i → i < length insts → HasSize (get_or insts i d) n m → a ≡ n → b ≡ m → MeasuredSoFar (take (i + 1) insts) (bytes + a) (uses + b) (i + 1)
measured_more insts d bytes uses i n m a b h within size is_a is_b =
    let small : n ≤ 13 = size.most in
    let count : m ≡ core_notices (core_view size.core) = size.count in
    let one : core_notices (core_view size.core) ≤ 1 = notices_few (memory_in (core_view size.core).place) in
    let most = h.most in
    let few = h.few in
    let more : AreSound (take i insts ++ get_or insts i d ∷ []) (bytes + n) (uses + m) = are_more (take i insts) (get_or insts i d) bytes uses n m h.sound size in
    let there : AreSound (take (i + 1) insts) (bytes + n) (uses + m) = subst (λ (l : List HqInst). AreSound l (bytes + n) (uses + m)) (sym (take_more insts i d within)) more in
    record {
      sound = subst (λ (k : ℕ). AreSound (take (i + 1) insts) (bytes + a) (uses + k)) (sym is_b) (subst (λ (k : ℕ). AreSound (take (i + 1) insts) (bytes + k) (uses + m)) (sym is_a) there);
      most = omega (arith, small, most, is_a);
      few = omega (arith, count, one, few, is_b);
    }

pub bytes_few : (done : List HqInst) (bytes uses i n m a : ℕ) (inst : HqInst) → MeasuredSoFar done bytes uses i → i < MOST_SPANS → HasSize inst n m → a ≡ n → bytes + a < 2 ^ 32
bytes_few done bytes uses i n m a inst h small size is =
    let k : n ≤ 13 = size.most in
    let most = h.most in
    omega (arith, k, most, is, small)

pub uses_few : (done : List HqInst) (bytes uses i n m b : ℕ) (inst : HqInst) → MeasuredSoFar done bytes uses i → i < MOST_SPANS → HasSize inst n m → b ≡ m → uses + b < 2 ^ 32
uses_few done bytes uses i n m b inst h small size is =
    let count : m ≡ core_notices (core_view size.core) = size.count in
    let one : core_notices (core_view size.core) ≤ 1 = notices_few (memory_in (core_view size.core).place) in
    let few = h.few in
    omega (arith, count, one, few, is, small)

pub stopped : (insts : List HqInst) (d : HqInst) (bytes uses i : ℕ) (done : HqDone) (status : ℤ) → MeasuredSoFar (take i insts) bytes uses i → i < length insts → IsRefused (get_or insts i d) status → done.items ≡ i → done.bytes ≡ bytes → done.uses ≡ uses → StoppedAt insts done status
stopped insts d bytes uses i done status h within refused items is_bytes is_uses = record {
  before = subst (λ (k : ℕ). AreSound (take k insts) done.bytes done.uses) (sym items) (subst (λ (k : ℕ). AreSound (take i insts) k done.uses) (sym is_bytes) (subst (λ (k : ℕ). AreSound (take i insts) bytes k) (sym is_uses) h.sound));
  inst = get_or insts i d;
  there = ap (λ (k : ℕ). slice_get insts k) items ∙ slice_get-get_or insts i d within;
  refused = refused;
}

pub all_measured : (insts : List HqInst) (bytes uses i : ℕ) → MeasuredSoFar (take i insts) bytes uses i → length insts ≤ i → AreSound insts bytes uses
all_measured insts bytes uses i h end = subst (λ (l : List HqInst). AreSound l bytes uses) (take_all i insts end) h.sound

-- the loop that puts, at the next one
pub at_next : (insts : List HqInst) (d : HqInst) (first code : List ℕ) (before uses : List HqUse) (at count i : ℕ) → PutSoFar (take i insts) (drop i insts) first code before uses at count i → i < length insts → PutSoFar (take i insts) (get_or insts i d ∷ drop (i + 1) insts) first code before uses at count i
at_next insts d first code before uses at count i h within = subst (λ (l : List HqInst). PutSoFar (take i insts) l first code before uses at count i) (drop_more insts i d within) h

pub next_more : (insts : List HqInst) (d : HqInst) (first code code' : List ℕ) (before uses uses' : List HqUse) (at count i at' count' : ℕ) → PutSoFar (take i insts) (drop i insts) first code before uses at count i → i < length insts → PutNext (get_or insts i d) code code' uses uses' at count at' count' → PutSoFar (take (i + 1) insts) (drop (i + 1) insts) first code' before uses' at' count' (i + 1)
next_more insts d first code code' before uses uses' at count i at' count' h within put =
    let more : PutSoFar (take i insts ++ get_or insts i d ∷ []) (drop (i + 1) insts) first code' before uses' (at + put.len) count' (i + 1) = put_more (take i insts) (drop (i + 1) insts) (get_or insts i d) put.core first code code' before uses uses' put.heard at count i put.len count' (at_next insts d first code before uses at count i h within) put.is put.alone put.put put.size put.number put.front put.behind put.places in
    subst (λ (l : List HqInst). PutSoFar l (drop (i + 1) insts) first code' before uses' at' count' (i + 1)) (sym (take_more insts i d within))
    (subst (λ (k : ℕ). PutSoFar (take i insts ++ get_or insts i d ∷ []) (drop (i + 1) insts) first code' before uses' k count' (i + 1)) (sym put.end) more)

pub next_near : (done left : List HqInst) (first code : List ℕ) (before uses : List HqUse) (at count i : ℕ) → PutSoFar done left first code before uses at count i → i < MOST_SPANS → at < 2 ^ 31
next_near done left first code before uses at count i h small = let m = h.most in omega (arith, m, small)

-- One that is put, and what it tells.
pub at_end : (insts : List HqInst) (first code : List ℕ) (before uses : List HqUse) (at count i : ℕ) → PutSoFar (take i insts) (drop i insts) first code before uses at count i → length insts ≤ i → PutEach insts first code before uses at count
at_end insts first code before uses at count i h end =
    put_all insts first code before uses at count i (subst (λ (l : List HqInst). PutSoFar insts l first code before uses at count i) (drop_all i insts end) (subst (λ (l : List HqInst). PutSoFar l (drop i insts) first code before uses at count i) (take_all i insts end) h))

pub given_ok : {E P : Type 0} (r : Result (Unit {0}) E) (v : Unit {0}) → r ≡ Ok v → OnOk r P → P
given_ok (Ok tt) v is h = h
given_ok (Err e) v is h = cc

-- One that is put as whole words, and what it tells.
pub ready_put : (v : CoreView) (at : ℕ) (code part part' : List ℕ) (behind len len' : ℕ) (heard : List HqUse) → at + 16 ≤ length code → part ≡ take (length code - at) (drop at code) → len' ≡ len → (put : PutCode v part part' behind len) → heard ≡ uses_told (line_notices_of (memory_in v.place) at put.adds.line.reads.reading) → PutBehind v at code (take at code ++ (part' ++ drop (length code - at) (drop at code))) len' heard
ready_put v at code part part' behind len len' heard room is same put tells =
    let left : length (drop at code) ≤ length code - at = let k = length-drop at code in omega (arith, k) in
    let whole : part ≡ drop at code = is ∙ take_all (length code - at) (drop at code) left in
    let nothing : drop (length code - at) (drop at code) ≡ [] = drop_all (length code - at) (drop at code) left in
    let behind : drop len part ≡ drop (at + len') code = ap (λ (l : List ℕ). drop len l) whole ∙ drop-drop len at code ∙ ap (λ (n : ℕ). drop (at + n) code) (sym same) in
    record {
      added = put.added;
      is = ap (λ (l : List ℕ). take at code ++ (part' ++ l)) nothing ∙ ap (λ (l : List ℕ). take at code ++ l) (append-nil part' ∙ put.front ∙ ap (λ (l : List ℕ). put.added ++ l) behind);
      count = same ∙ put.count;
      most = subst (λ (n : ℕ). n ≤ 13) (sym same) put.most;
      size = same ∙ put.size;
      adds = put.adds;
      tells = tells;
      number = ap (λ (l : List HqUse). length l) tells ∙ number_told (memory_in v.place) at put.adds.line.reads.reading;
    }

-- One more that can be encoded.

before_next : (n i : ℕ) → n < i + 1 → (n < i) ⊎ (n ≡ i)
before_next n i h = by_test (nat_lt n i) refl
  where
    by_test : (lt : Bool) → nat_lt n i ≡ lt → (n < i) ⊎ (n ≡ i)
    by_test true e = inl (grind (arith, nat_tests, e))
    by_test false e = inr (grind (arith, nat_tests, e, h))

pub ready_more : (insts : List HqInst) (d : HqInst) (i : ℕ) → AreReady insts i → i < length insts → IsReady (get_or insts i d) → IsSized (get_or insts i d) → AreReady insts (i + 1)
ready_more insts d i h within own size =
    let more = measured_more insts d h.bytes h.uses i size.bytes size.uses size.bytes size.uses (record { sound = h.sound; most = h.most; few = h.few }) within size.size refl refl in
    record { bytes = h.bytes + size.bytes; uses = h.uses + size.uses; sound = more.sound; most = more.most; few = more.few; each = λ n inst lt there. by_place n inst there (before_next n i lt) }
  where
    by_place : (n : ℕ) (inst : HqInst) → slice_get insts n ≡ Some inst → (n < i) ⊎ (n ≡ i) → IsReady inst
    by_place n inst there (inl lt) = h.each n inst lt there
    by_place n inst there (inr e) = subst IsReady (ap (λ (o : Option HqInst). unwrap_or o d) (sym (slice_get-get_or insts i d within) ∙ ap (λ (k : ℕ). slice_get insts k) (sym e) ∙ there)) own

pub none_ready : (insts : List HqInst) → AreReady insts 0
none_ready insts = record { bytes = 0; uses = 0; sound = none_sound; most = omega arith; few = omega arith; each = λ n inst lt there. let bad : ⊥ = omega (arith, lt) in absurd bad }

pub all_ready : (insts : List HqInst) (i : ℕ) → AreReady insts i → length insts ≤ i → i ≤ length insts → AreReady insts (length insts)
all_ready insts i h end within =
    let there : i ≡ length insts = omega (arith, end, within) in
    subst (λ (n : ℕ). AreReady insts n) there h

pub ready_at : (insts : List HqInst) (d : HqInst) (n i : ℕ) → AreReady insts n → i < length insts → length insts ≤ n → IsReady (get_or insts i d)
ready_at insts d n i h within end = h.each i (get_or insts i d) (omega (arith, within, end)) (slice_get-get_or insts i d within)

-- There is room for the most that they may have.
pub ready_fits : (insts : List HqInst) (room places : ℕ) → AreReady insts (length insts) → length insts * 13 ≤ room → length insts ≤ places → HasRoomFor insts room places
ready_fits insts room places h r p =
    let most = h.most in
    let few = h.few in
    let whole : take (length insts) insts ≡ insts = take_all (length insts) insts (omega arith) in
    record { bytes = h.bytes; uses = h.uses; sound = subst (λ (l : List HqInst). AreSound l h.bytes h.uses) whole h.sound; fits = omega (arith, most, r); few = omega (arith, few, p) }

-- What an instruction tells, by whether it tells anything.

none_left : (told : List HqUse) → length told ≡ 0 → [] ≡ told
none_left [] h = refl
none_left (heard ∷ later) h = cc

pub tells_nothing : (memory : Option (Amode ℕ)) (at : ℕ) (r : LineReading) → memory_notices memory ≡ 0 → [] ≡ uses_told (line_notices_of memory at r)
tells_nothing memory at r h = none_left (uses_told (line_notices_of memory at r)) (number_told memory at r ∙ h)

pub tells_one : (memory : Option (Amode ℕ)) (at : ℕ) (r : LineReading) (heard : HqUse) → memory_notices memory ≢ 0 → heard ≡ told (slice_get (line_notices_of memory 0 r) 0) → moved at heard ∷ [] ≡ uses_told (line_notices_of memory at r)
tells_one memory at r heard some is = by_first (slice_get (line_notices_of memory 0 r) 0) refl
  where
    by_first : (first : Option Notice) → slice_get (line_notices_of memory 0 r) 0 ≡ first → moved at heard ∷ [] ≡ uses_told (line_notices_of memory at r)
    by_first None e =
        let none : [] ≡ uses_told (line_notices_of memory at r) = ap (λ (n : Option Notice). moved_if at n) (sym e) ∙ all_moved memory at r in
        absurd (some (sym (number_told memory at r) ∙ ap (λ (l : List HqUse). length l) (sym none)))
    by_first (Some notice) e =
        ap (λ (h : HqUse). moved at h ∷ []) (is ∙ ap (λ (n : Option Notice). told n) e)
        ∙ ap (λ (n : Option Notice). moved_if at n) (sym e)
        ∙ all_moved memory at r

pub use_tells : (memory : Option (Amode ℕ)) (at : ℕ) (r : LineReading) (found : Option HqUse) (heard : HqUse) → (memory_notices memory ≡ 0 → found ≡ None) → (memory_notices memory ≢ 0 → found ≡ Some (moved at heard)) → heard ≡ told (slice_get (line_notices_of memory 0 r) 0) → use_list found ≡ uses_told (line_notices_of memory at r)
use_tells memory at r found heard none some is = by_count (memory_notices memory) refl
  where
    by_count : (n : ℕ) → memory_notices memory ≡ n → use_list found ≡ uses_told (line_notices_of memory at r)
    by_count zero e = ap (λ (o : Option HqUse). use_list o) (none e) ∙ tells_nothing memory at r e
    by_count (suc n) e =
        let one : memory_notices memory ≢ 0 = λ z. omega (arith, e, z) in
        ap (λ (o : Option HqUse). use_list o) (some one) ∙ tells_one memory at r heard one is

-- An instruction that can be encoded was put, and what it tells was noted.
pub ready_next : (inst : HqInst) (core : Core) (code code' : List ℕ) (uses uses' heard : List HqUse) (at count at' count' len : ℕ) → plain (core_view core) ≡ inst → PutBehind (core_view core) at code code' len heard → at' ≡ at + len → count' ≡ count + length heard → length code' ≡ length code → take count' uses' ≡ take count uses ++ heard → drop count' uses' ≡ drop count' uses → length uses' ≡ length uses → PutNext inst code code' uses uses' at count at' count'
ready_next inst core code code' uses uses' heard at count at' count' len is put end number size front behind places = record {
  core = core;
  is = is;
  alone = λ other h. same_view inst core other is h;
  len = len;
  heard = heard;
  put = put;
  end = end;
  number = number;
  size = size;
  front = front;
  behind = behind;
  places = places;
}
