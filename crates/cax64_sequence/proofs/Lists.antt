use Rattle.std.proofs.Common.{◌≡◌, ℕ, zero, suc, ◌+◌, ◌-◌, ◌≤◌, ◌↔◌, arith, List, [], ◌∷◌, ◌++◌, Bool, true, false, refl, ◌∙◌, ap, sym, subst, Option, Some, None, Result, Ok, Err, append_assoc, append-nil, take, drop, map, length}
use Rattle.std.specs.Prelude.{option_map, option_and_then, if◌then◌else◌, IfSome, IfErr, OnOk, IsOk}
use Rattle.std.proofs.Math.Seq.{drop-append_seam, take-length}
use Rattle.std.proofs.lemmas.List.{map-append, length-append, length-map, take-append-le, drop-append-le, length-drop}
use Rattle.cax64_encoder.specs.Instruction.{ShortestFor, AddsInstruction}
use Rattle.cax64_encoder.specs.Meant.{Meant, len}
use Rattle.cax64_encoder.specs.Notices.{notices_of}
use Rattle.cax64_encoder.proofs.Bytes.{no_bytes, both_bytes}
use Rattle.cax64_machine_code.specs.Reading.{Parts, read}
use Rattle.cax64_machine_code.specs.Sequence.{Same, EachSame, read_all, total_length, ReadsAs, ReadsAllAs}
use Rattle.cax64_machine_code.specs.declared.reading.Reading.{Reading}
use Rattle.cax64_sequence.specs.List.{each_notices, EachShortest, EachExact, total_len, total_notices, AddsAll, LeavesAll}
use Rattle.cax64_sequence.specs.declared.sequence.Refused.{Refused}
use Rattle.cax64_sequence.proofs.Rooms.{from_ok}
use Rattle.cax64_encoder.proofs.Instructions.{taken_fits}
use Rattle.cax64_sink.specs.FixedSink.{fixed_sink_state}
use Rattle.cax64_sink.specs.Keeps.{Keeps}
use Rattle.cax64_sink.specs.Room.{HasRoom}
use Rattle.cax64_sink.specs.Sink.{State, is_full}
use Rattle.cax64_sink.specs.declared.Notice.{Notice}
use Rattle.cax64_sink.specs.declared.SinkError.{SinkError}
use Rattle.cax64_sink.specs.declared.SinkError.TheVariants.{NoMemory, Full}
use Rattle.cax64_sink.specs.declared.fixed_sink.FixedSink.{FixedSink}
use Rattle.cax64_sink.proofs.Runs.{told_next}
use Rattle.x64_encode.specs.Encode.{SamePut}

some_same : {A : Type 0} (a b : A) → ◌≡◌ {A = Option A} (Some a) (Some b) → a ≡ b
some_same a b e = cc

-- One reading more.

one_more_of : (bytes rest : List ℕ) (r : Reading) → read bytes ≡ Some r → drop r.length bytes ≡ rest → read_all bytes 1 ≡ Some (r ∷ [], rest)
unfolding read_all
one_more_of bytes rest r h e = rw (h, e) refl

later_of : (count : ℕ) (bytes mid rest : List ℕ) (first r : Reading) (rs : List Reading) (o : Option (List Reading × List ℕ)) → read_all (drop first.length bytes) count ≡ o → option_map {T = List Reading × List ℕ} {U = List Reading × List ℕ} (λ later. (first ∷ later.0, later.1)) o ≡ Some (rs, mid) → ((rs' : List Reading) → read_all (drop first.length bytes) count ≡ Some (rs', mid) → read_all (drop first.length bytes) (count + 1) ≡ Some (rs' ++ r ∷ [], rest)) → option_map {T = List Reading × List ℕ} {U = List Reading × List ℕ} (λ later. (first ∷ later.0, later.1)) (read_all (drop first.length bytes) (count + 1)) ≡ Some (rs ++ r ∷ [], rest)
later_of count bytes mid rest first r rs None e h step = cc
later_of count bytes mid rest first r rs (Some later) e h step =
    let same = some_same _ _ h in
    let readings : first ∷ later.0 ≡ rs = ap (λ (z : List Reading × List ℕ). z.0) same in
    let left : later.1 ≡ mid = ap (λ (z : List Reading × List ℕ). z.1) same in
    let k : read_all (drop first.length bytes) count ≡ Some (later.0, mid) = e ∙ ap (λ (z : List ℕ). Some (later.0, z)) left in
    rw (step later.0 k, ← readings) refl

first_of : (count : ℕ) (bytes mid rest : List ℕ) (r : Reading) (rs : List Reading) (o : Option Reading) → read bytes ≡ o → option_and_then {T = Reading} {U = List Reading × List ℕ} (λ first. option_map (λ later. (first ∷ later.0, later.1)) (read_all (drop first.length bytes) count)) o ≡ Some (rs, mid) → ((first : Reading) (rs' : List Reading) → read_all (drop first.length bytes) count ≡ Some (rs', mid) → read_all (drop first.length bytes) (count + 1) ≡ Some (rs' ++ r ∷ [], rest)) → option_and_then {T = Reading} {U = List Reading × List ℕ} (λ first. option_map (λ later. (first ∷ later.0, later.1)) (read_all (drop first.length bytes) (count + 1))) o ≡ Some (rs ++ r ∷ [], rest)
first_of count bytes mid rest r rs None e h step = cc
first_of count bytes mid rest r rs (Some first) e h step = later_of count bytes mid rest first r rs (read_all (drop first.length bytes) count) refl h (step first)

suc_add_one : (n : ℕ) → suc n + 1 ≡ suc (n + 1)
suc_add_one n = omega arith

-- a reading of what some readings left
read_all_more : (count : ℕ) (bytes mid rest : List ℕ) (rs : List Reading) (r : Reading) → read_all bytes count ≡ Some (rs, mid) → read mid ≡ Some r → drop r.length mid ≡ rest → read_all bytes (count + 1) ≡ Some (rs ++ r ∷ [], rest)
unfolding read_all
read_all_more zero bytes mid rest rs r h k e =
    let same = some_same _ _ h in
    let none : [] ≡ rs = ap (λ (z : List Reading × List ℕ). z.0) same in
    let left : bytes ≡ mid = ap (λ (z : List Reading × List ℕ). z.1) same in
    rw (left, ← none) (one_more_of mid rest r k e)
read_all_more (suc count) bytes mid rest rs r h k e = rw (suc_add_one count) (first_of count bytes mid rest r rs (read bytes) refl h (λ first rs' j. read_all_more count (drop first.length bytes) mid rest rs' r j k e))

same_more : (rs : List Reading) (ms : List Parts) (r : Reading) (m : Parts) → EachSame rs ms → Same r m → 1 ≤ r.length → r.length ≤ 13 → EachSame (rs ++ r ∷ []) (ms ++ m ∷ [])
same_more [] [] r m h k least most = (k, least, most, tt)
same_more [] (n ∷ ms) r m h k least most = absurd h
same_more (q ∷ rs) [] r m h k least most = absurd h
same_more (q ∷ rs) (n ∷ ms) r m h k least most = (h.0, h.1, h.2, same_more rs ms r m h.3 k least most)

same_length : (rs : List Reading) (ms : List Parts) → EachSame rs ms → length rs ≡ length ms
same_length [] [] h = refl
same_length [] (n ∷ ms) h = absurd h
same_length (q ∷ rs) [] h = absurd h
same_length (q ∷ rs) (n ∷ ms) h = ap suc (same_length rs ms h.3)

total_more : (rs : List Reading) (r : Reading) → total_length (rs ++ r ∷ []) ≡ total_length rs + r.length
total_more [] r = omega arith
total_more (q ∷ rs) r = omega (arith, total_more rs r)

parts_more : {M : Type 0} (ms : List (Meant M)) (m : Meant M) → map (λ (n : Meant M). n.parts) (ms ++ m ∷ []) ≡ map (λ (n : Meant M). n.parts) ms ++ m.parts ∷ []
parts_more ms m = map-append (λ n. n.parts) ms (m ∷ [])

reads_more : {M : Type 0} (ms : List (Meant M)) (m : Meant M) (a b : List ℕ) → (h : ReadsAllAs (map (λ (n : Meant M). n.parts) ms) a) → (k : ReadsAs m.parts b) → ReadsAllAs (map (λ (n : Meant M). n.parts) (ms ++ m ∷ [])) (a ++ b)
reads_more ms m a b h k =
    let parts = map (λ n. n.parts) ms in
    record {
      readings = h.readings ++ k.reading ∷ [];
      lengths = length-append a b ∙ omega (arith, h.lengths, k.length, total_more h.readings k.reading);
      reads = λ rest.
          let more : read_all (a ++ (b ++ rest)) (length parts + 1) ≡ Some (h.readings ++ k.reading ∷ [], rest) = read_all_more (length parts) (a ++ (b ++ rest)) (b ++ rest) rest h.readings k.reading (h.reads (b ++ rest)) (k.reads rest) (rw k.length (drop-append_seam b rest)) in
          rw (append_assoc a b rest, parts_more ms m, length-append parts (m.parts ∷ [])) more;
      same = rw (parts_more ms m) (same_more h.readings parts k.reading m.parts h.same k.same k.least k.most);
    }

-- Notices.

notices_more : {M : Type 0} (ms : List (Meant M)) (m : Meant M) (at : ℕ) (rs : List Reading) (r : Reading) → length ms ≡ length rs → each_notices (ms ++ m ∷ []) at (rs ++ r ∷ []) ≡ each_notices ms at rs ++ notices_of m.memory (at + total_length rs) r
notices_more [] m at [] r e =
    let zero_more : at + 0 ≡ at = omega arith in
    rw zero_more (append-nil (notices_of m.memory at r))
notices_more [] m at (q ∷ rs) r e = absurd (omega arith)
notices_more (n ∷ ms) m at [] r e = absurd (omega arith)
notices_more (n ∷ ms) m at (q ∷ rs) r e =
    let shorter : length ms ≡ length rs = omega arith in
    let place : at + q.length + total_length rs ≡ at + (q.length + total_length rs) = omega arith in
    ap (λ (x : List Notice). notices_of n.memory at q ++ x) (notices_more ms m (at + q.length) rs r shorter)
    ∙ sym (append_assoc (notices_of n.memory at q) (each_notices ms (at + q.length) rs) (notices_of m.memory (at + q.length + total_length rs) r))
    ∙ ap (λ (p : ℕ). (notices_of n.memory at q ++ each_notices ms (at + q.length) rs) ++ notices_of m.memory p r) place

-- Shortest tails and very bytes.

no_length : (bytes : List ℕ) → length bytes ≡ 0 → bytes ≡ []
no_length [] h = refl
no_length (c ∷ bytes) h = absurd (omega arith)

shortest_more : {M : Type 0} (ms : List (Meant M)) (m : Meant M) (a b : List ℕ) (rs : List Reading) (r : Reading) → length ms ≡ length rs → length a ≡ total_length rs → r.length ≡ length b → EachShortest ms a rs → ShortestFor m.memory b r → EachShortest (ms ++ m ∷ []) (a ++ b) (rs ++ r ∷ [])
shortest_more [] m a b [] r e la lb h k =
    let whole : take r.length b ≡ b = ap (λ (n : ℕ). take n b) lb ∙ take-length b in
    rw (no_length a la, whole) (k, tt)
shortest_more [] m a b (q ∷ rs) r e la lb h k = absurd (omega arith)
shortest_more (n ∷ ms) m a b [] r e la lb h k = absurd h
shortest_more (n ∷ ms) m a b (q ∷ rs) r e la lb h k =
    let within : q.length ≤ length a = omega arith in
    let shorter : length ms ≡ length rs = omega arith in
    let rest : length (drop q.length a) ≡ total_length rs = length-drop q.length a ∙ omega arith in
    rw (take-append-le q.length a b within, drop-append-le q.length a b within)
    (h.0, shortest_more ms m (drop q.length a) b rs r shorter rest lb h.1 k)

exact_more : {M : Type 0} (ms : List (Meant M)) (m : Meant M) (a b : List ℕ) (rs : List Reading) (r : Reading) → length ms ≡ length rs → length a ≡ total_length rs → r.length ≡ length b → EachExact ms a rs → IfSome m.exact (λ very. b ≡ very) → EachExact (ms ++ m ∷ []) (a ++ b) (rs ++ r ∷ [])
exact_more [] m a b [] r e la lb h k =
    let whole : take r.length b ≡ b = ap (λ (n : ℕ). take n b) lb ∙ take-length b in
    rw (no_length a la, whole) (k, tt)
exact_more [] m a b (q ∷ rs) r e la lb h k = absurd (omega arith)
exact_more (n ∷ ms) m a b [] r e la lb h k = absurd h
exact_more (n ∷ ms) m a b (q ∷ rs) r e la lb h k =
    let within : q.length ≤ length a = omega arith in
    let shorter : length ms ≡ length rs = omega arith in
    let rest : length (drop q.length a) ≡ total_length rs = length-drop q.length a ∙ omega arith in
    rw (take-append-le q.length a b within, drop-append-le q.length a b within)
    (h.0, exact_more ms m (drop q.length a) b rs r shorter rest lb h.1 k)

-- Sums.

pub len_more : {M : Type 0} (ms : List (Meant M)) (m : Meant M) → total_len (ms ++ m ∷ []) ≡ total_len ms + len m
len_more [] m = omega arith
len_more (n ∷ ms) m = omega (arith, len_more ms m)

-- fewer instructions have no more bytes
len_of_fewer : {M : Type 0} (ms : List (Meant M)) (i j : ℕ) → i ≤ j → total_len (take i ms) ≤ total_len (take j ms)
len_of_fewer [] zero j h = omega arith
len_of_fewer [] (suc i) zero h = omega arith
len_of_fewer [] (suc i) (suc j) h = omega arith
len_of_fewer (m ∷ ms) zero j h = omega arith
len_of_fewer (m ∷ ms) (suc i) zero h = absurd (omega arith)
len_of_fewer (m ∷ ms) (suc i) (suc j) h = omega (arith, len_of_fewer ms i j (omega arith))

-- One instruction more.

pub adds_none : {M : Type 0} (s : State) → AddsAll {M = M} [] s s
unfolding read_all
adds_none s = record {
  added = [];
  bytes = sym (append-nil s.bytes);
  are_bytes = no_bytes;
  reads = record { readings = []; lengths = refl; reads = λ rest. refl; same = tt };
  notices = no_notices s.records s.notices;
  shortest = tt;
  exact = tt;
  length = refl;
}
  where
    no_notices : (records : Bool) (old : List Notice) → old ≡ (if records then old ++ [] else old)
    no_notices true old = sym (append-nil old)
    no_notices false old = refl

pub adds_more : {M : Type 0} (ms : List (Meant M)) (m : Meant M) (s u t : State) → AddsAll ms s u → Keeps s u → AddsInstruction m u t → AddsAll (ms ++ m ∷ []) s t
unfolding reads_more
adds_more ms m s u t h keeps k =
    let rs = h.reads.readings in
    let parts = map (λ n. n.parts) ms in
    let same_count : length ms ≡ length rs = sym (length-map ms (λ n. n.parts)) ∙ sym (same_length rs parts h.reads.same) in
    let place : length u.bytes ≡ length s.bytes + total_length rs = ap length h.bytes ∙ length-append s.bytes h.added ∙ ap (λ (n : ℕ). length s.bytes + n) h.reads.lengths in
    let told : t.notices ≡ (if s.records then s.notices ++ (each_notices ms (length s.bytes) rs ++ notices_of m.memory (length s.bytes + total_length rs) k.reads.reading) else s.notices) =
    told_next s.records s.notices u.notices t.notices (each_notices ms (length s.bytes) rs) (notices_of m.memory (length s.bytes + total_length rs) k.reads.reading) h.notices (k.notices ∙ rw (keeps.records, place) refl) in
    record {
      added = h.added ++ k.added;
      bytes = k.bytes ∙ ap (λ (x : List ℕ). x ++ k.added) h.bytes ∙ append_assoc s.bytes h.added k.added;
      are_bytes = both_bytes h.added k.added h.are_bytes k.are_bytes;
      reads = reads_more ms m h.added k.added h.reads k.reads;
      notices = told ∙ rw (notices_more ms m (length s.bytes) rs k.reads.reading same_count) refl;
      shortest = shortest_more ms m h.added k.added rs k.reads.reading same_count h.reads.lengths k.reads.length h.shortest k.shortest;
      exact = exact_more ms m h.added k.added rs k.reads.reading same_count h.reads.lengths k.reads.length h.exact k.exact;
      length = length-append h.added k.added ∙ omega (arith, h.length, k.length, len_more ms m);
    }

-- at the end nothing may have changed but the rooms
pub adds_to : {M : Type 0} (ms : List (Meant M)) (s u t : State) → AddsAll ms s u → SamePut u t → AddsAll ms s t
adds_to ms s u t h same = record {
  added = h.added;
  bytes = same.bytes ∙ h.bytes;
  are_bytes = h.are_bytes;
  reads = h.reads;
  notices = same.notices ∙ h.notices;
  shortest = h.shortest;
  exact = h.exact;
  length = h.length;
}

pub take_map : {A B : Type 0} (f : A → B) (xs : List A) (i : ℕ) → take i (map f xs) ≡ map f (take i xs)
take_map f [] zero = refl
take_map f [] (suc i) = refl
take_map f (x ∷ xs) zero = refl
take_map f (x ∷ xs) (suc i) = ap (λ z. f x ∷ z) (take_map f xs i)

-- Lists that a sink has room for.

-- a list that stopped, but not before its end, didn't stop
whole_or_stopped : {M : Type 0} (ms : List (Meant M)) (count : ℕ) (s t : State) (r : Result (Unit {0}) Refused) → length ms ≡ count → IfErr r (λ e. LeavesAll ms e.whole s t) → IfErr r (λ e. count ≤ e.whole) → IsOk r
whole_or_stopped ms count s t (Ok tt) all leaves late = refl
whole_or_stopped ms count s t (Err e) all leaves late = absurd (omega (arith, leaves.within, late))

-- a list is taken where there is room for it
all_taken : {A M : Type 0} (meant : A → Meant M) (xs : List A) (s t : State) (r : Result (Unit {0}) Refused) → HasRoom s.byte_room (total_len (map meant xs)) → HasRoom s.notice_room (total_notices (map meant xs)) → IfErr r (λ e. LeavesAll (map meant xs) e.whole s t) → ((j : ℕ) → j ≤ length xs → HasRoom s.byte_room (total_len (take j (map meant xs))) → HasRoom s.notice_room (total_notices (take j (map meant xs))) → IfErr r (λ e. j ≤ e.whole)) → IsOk r
all_taken meant xs s t r bytes notices leaves room =
    let whole : map meant xs ≡ take (length xs) (map meant xs) = ap (map meant) (sym (take-length xs)) ∙ sym (take_map meant xs (length xs)) in
    whole_or_stopped (map meant xs) (length xs) s t r (length-map xs meant) leaves
    (room (length xs) (omega arith) (subst (λ z. HasRoom s.byte_room (total_len z)) whole bytes) (subst (λ z. HasRoom s.notice_room (total_notices z)) whole notices))

-- Sinks of fixed size.

-- a list that a fixed sink has got, with perhaps more behind it, fitted in what was left
front_fits : {M : Type 0} {N : ℕ} (ms : List (Meant M)) (s t : FixedSink N) (u : State) (left : List ℕ) → AddsAll ms (fixed_sink_state s) u → (fixed_sink_state t).bytes ≡ u.bytes ++ left → total_len ms ≤ N - length (fixed_sink_state s).bytes
front_fits ms s t u left h e =
    let old = (fixed_sink_state s).bytes in
    let fit = taken_fits s t (h.added ++ left) (total_len ms + length left) (e ∙ ap (λ x. x ++ left) h.bytes ∙ append_assoc old h.added left) (length-append h.added left ∙ ap (λ n. n + length left) h.length) in
    omega (arith, fit)

-- a fixed sink takes a list exactly where its bytes fit in what is left
pub fixed_takes_all : {A M : Type 0} {N : ℕ} (meant : A → Meant M) (xs : List A) (s t : FixedSink N) (r : Result (Unit {0}) Refused) → OnOk r (AddsAll (map meant xs) (fixed_sink_state s) (fixed_sink_state t)) → IfErr r (λ e. LeavesAll (map meant xs) e.whole (fixed_sink_state s) (fixed_sink_state t)) → ((j : ℕ) → j ≤ length xs → HasRoom (fixed_sink_state s).byte_room (total_len (take j (map meant xs))) → HasRoom (fixed_sink_state s).notice_room (total_notices (take j (map meant xs))) → IfErr r (λ e. j ≤ e.whole)) → IsOk r ↔ (total_len (map meant xs) ≤ N - length (fixed_sink_state s).bytes)
fixed_takes_all meant xs s t r adds leaves room =
    (λ ok. let h = from_ok r ok adds in taken_fits s t h.added (total_len (map meant xs)) h.bytes h.length, λ fit. all_taken meant xs (fixed_sink_state s) (fixed_sink_state t) r fit tt leaves room)

-- and where they don't, of the fronts of the list exactly those that fit are whole
pub fixed_takes_front : {A M : Type 0} {N : ℕ} (meant : A → Meant M) (xs : List A) (s t : FixedSink N) (r : Result (Unit {0}) Refused) → IfErr r (λ e. LeavesAll (map meant xs) e.whole (fixed_sink_state s) (fixed_sink_state t)) → ((j : ℕ) → j ≤ length xs → HasRoom (fixed_sink_state s).byte_room (total_len (take j (map meant xs))) → HasRoom (fixed_sink_state s).notice_room (total_notices (take j (map meant xs))) → IfErr r (λ e. j ≤ e.whole)) → IfErr r (λ e. (j : ℕ) → j ≤ length xs → (j ≤ e.whole) ↔ (total_len (take j (map meant xs)) ≤ N - length (fixed_sink_state s).bytes))
fixed_takes_front meant xs s t (Ok u) leaves room = tt
fixed_takes_front {N = N} meant xs s t (Err e) leaves room =
    let fit = front_fits (take e.whole (map meant xs)) s t leaves.between leaves.leaves.left leaves.adds leaves.leaves.bytes in
    λ j within. (λ h. omega (arith, fit, len_of_fewer (map meant xs) j e.whole h), λ enough. room j within enough tt)

full_is : (e : SinkError) → is_full e ≡ true → e ≡ Full
full_is NoMemory h = cc
full_is Full h = refl

-- the error of a sink that can answer `Full` alone
pub full_error : (r : Result (Unit {0}) Refused) → IfErr r (λ e. is_full e.error ≡ true) → IfErr r (λ e. e.error ≡ Full)
full_error (Ok u) h = tt
full_error (Err e) h = full_is e.error h
