use Rattle.std.proofs.Common.{◌≡◌, ℕ, ◌+◌, ◌*◌, ◌<◌, ◌≤◌, inl, inr, zero, suc, arith, List, [], ◌∷◌, ◌++◌, refl, ◌∙◌, ap, sym, subst, Option, None, Result, Ok, Err, append_assoc, append-nil, take, length, get_or, All, IsTrue}
use Rattle.std.specs.List.{sum_by}
use Rattle.std.specs.Prelude.{option_and_then, IfErr, OnOk, IsOk}
use Rattle.std.proofs.Math.Seq.{take-length}
use Rattle.std.proofs.lemmas.Bool.{cases_lt}
use Rattle.std.proofs.lemmas.List.{take_more}
use Rattle.std.proofs.lemmas.List.Elements.{All-more}
use Rattle.std.proofs.lemmas.List.Sums.{sum_by_more, sum_by-cons}
use Rattle.std.proofs.lemmas.Option.{slice_get_read}
use Rattle.cax64_encoder.specs.EncodeError.{is_fault, is_refusal}
use Rattle.cax64_encoder.specs.Fault.{first_fault}
use Rattle.cax64_encoder.specs.declared.error.EncodeError.{EncodeError}
use Rattle.cax64_encoder.specs.declared.error.EncodeError.TheVariants as error
use Rattle.cax64_encoder.specs.declared.fault.Fault.{Fault}
use Rattle.cax64_encoder.proofs.Faults.{no_fault, none_is}
use Rattle.cax64_encoder.proofs.Instructions.{one_notice}
use Rattle.cax64_machine_code.specs.Sequence.{IsFront}
use Rattle.cax64_sequence.specs.Each.{AddsEach, LeavesEach, each_fault_at, each_len, each_notice_count}
use Rattle.cax64_sequence.specs.declared.sequence.Refused.{Refused}
use Rattle.cax64_sequence.proofs.Rooms.{keeps_on, keeps_self, falls_on, falls_zero, falls_less, room_left, from_ok}
use Rattle.cax64_sink.specs.Keeps.{Keeps}
use Rattle.cax64_sink.specs.Room.{Room, HasRoom, FallsBy}
use Rattle.cax64_sink.specs.Sink.{State}
use Rattle.cax64_sink.specs.declared.SinkError.{SinkError}
use Rattle.x64_encode.specs.Encode.{AddsMeant, LineMeaning, LineMeant, SamePut, can_encode_by, fault_by, len_by, notices_by}

-- States in turn.

pub same_self : (s : State) → SamePut s s
same_self s = record { bytes = refl; notices = refl; offsets = refl; records = refl }

same_on : {s u t : State} → SamePut s u → SamePut u t → SamePut s t
same_on h k = record { bytes = k.bytes ∙ h.bytes; notices = k.notices ∙ h.notices; offsets = k.offsets ∙ h.offsets; records = k.records ∙ h.records }

keeps_between : {s u t : State} → Keeps s u → Keeps s t → Keeps u t
keeps_between h k = record { offsets = k.offsets ∙ sym h.offsets; records = k.records ∙ sym h.records; answers = k.answers ∙ sym h.answers }

-- one that doesn't depend on the rooms of the state before
abbrev pub FromRooms : {A : Type 0} → (A → State → State → Type 0) → Type 0
FromRooms {A} adds = (i : A) (s u t : State) → SamePut s u → adds i u t → adds i s t

adds_next : {A : Type 0} (adds : A → State → State → Type 0) → FromRooms adds → (xs : List A) (x : A) (s u t : State) → AddsEach adds xs s u → Keeps s u → adds x u t → Keeps u t → AddsEach adds (xs ++ x ∷ []) s t
adds_next adds from [] x s u t h keeps k last = (t, from x s u t h k, keeps_on keeps last, same_self t)
adds_next adds from (y ∷ xs) x s u t h keeps k last = (h.0, h.1, h.2, adds_next adds from xs x h.0 u t h.3 (keeps_between h.2 keeps) k last)

-- a state with other rooms is as good a beginning
pub each_from : {A : Type 0} (adds : A → State → State → Type 0) → FromRooms adds → (xs : List A) (s u t : State) → SamePut s u → Keeps s u → AddsEach adds xs u t → AddsEach adds xs s t
each_from adds from [] s u t same keeps h = same_on same h
each_from adds from (x ∷ xs) s u t same keeps h = (h.0, from x s u h.0 same h.1, keeps_on keeps h.2, h.3)

-- Sums of fronts.

pub sum_next : {A : Type 0} (f : A → ℕ) (xs : List A) (i : ℕ) (x : A) → i < length xs → x ≡ get_or xs i x → sum_by f (take (i + 1) xs) ≡ sum_by f (take i xs) + f x
sum_next f xs i x within is = sum_by_more f xs i x within ∙ ap (λ y. sum_by f (take i xs) + f y) (sym is)

-- fewer have no more
sum_of_fewer : {A : Type 0} (f : A → ℕ) (xs : List A) (i j : ℕ) → i ≤ j → sum_by f (take i xs) ≤ sum_by f (take j xs)
sum_of_fewer f [] zero j h = omega arith
sum_of_fewer f [] (suc i) zero h = omega arith
sum_of_fewer f [] (suc i) (suc j) h = omega arith
sum_of_fewer f (x ∷ xs) zero j h = omega arith
sum_of_fewer f (x ∷ xs) (suc i) zero h = absurd (omega arith)
sum_of_fewer f (x ∷ xs) (suc i) (suc j) h = omega (arith, sum_by-cons f x (take i xs), sum_by-cons f x (take j xs), sum_of_fewer f xs i j (omega arith))

sum_later : {A : Type 0} (f : A → ℕ) (xs : List A) (i j : ℕ) (x : A) → i < length xs → i < j → x ≡ get_or xs i x → sum_by f (take i xs) + f x ≤ sum_by f (take j xs)
sum_later f xs i j x within later is = omega (arith, sum_next f xs i x within is, sum_of_fewer f xs (i + 1) j (omega arith))

sum_whole : {A : Type 0} (f : A → ℕ) (xs : List A) (i : ℕ) (x : A) → i < length xs → x ≡ get_or xs i x → sum_by f (take i xs) + f x ≤ sum_by f xs
sum_whole f xs i x within is =
    let all : sum_by f (take i xs) + f x ≤ sum_by f (take (length xs) xs) = sum_later f xs i (length xs) x within within is in
    rw (take-length xs) at all

-- what was taken of a list that stopped lowers a room by no more than the list
stopped : {A : Type 0} (f : A → ℕ) (xs : List A) (i : ℕ) (x : A) (old mid new : Room) → i < length xs → x ≡ get_or xs i x → FallsBy old mid (sum_by f (take i xs)) → FallsBy mid new (f x) → FallsBy old new (sum_by f xs)
stopped f xs i x old mid new within is before last = falls_less old new (sum_by f (take i xs) + f x) (sum_by f xs) (sum_whole f xs i x within is) (falls_on old mid new (sum_by f (take i xs)) (f x) _ refl before last)

-- A list of which so many are put, one behind the other.

pub record Put {A M : Type 0} (adds : A → State → State → Type 0) (meaning : A → LineMeaning M) (xs : List A) (i : ℕ) (s t : State) : Type 0 where
  pub each : AddsEach adds (take i xs) s t
  pub front : IsFront s.bytes t.bytes
  pub keeps : Keeps s t
  pub byte_room : FallsBy s.byte_room t.byte_room (each_len s meaning (take i xs))
  pub notice_room : FallsBy s.notice_room t.notice_room (each_notice_count s meaning (take i xs))
  pub most : each_len s meaning (take i xs) ≤ 13 * i
  pub most_notices : each_notice_count s meaning (take i xs) ≤ i

pub put_none : {A M : Type 0} (adds : A → State → State → Type 0) (meaning : A → LineMeaning M) (xs : List A) (s : State) → Put adds meaning xs 0 s s
put_none adds meaning xs s = record {
  each = same_self s;
  front = record { rest = []; whole = append-nil s.bytes };
  keeps = keeps_self s;
  byte_room = falls_zero s.byte_room;
  notice_room = falls_zero s.notice_room;
  most = omega arith;
  most_notices = omega arith;
}

-- bytes in front of bytes that are in front
pub front_on : (a b c : List ℕ) → IsFront a b → IsFront b c → IsFront a c
front_on a b c h k = record { rest = h.rest ++ k.rest; whole = sym (append_assoc a h.rest k.rest) ∙ ap (λ (x : List ℕ). x ++ k.rest) h.whole ∙ k.whole }

-- one more is put
pub put_next : {A M : Type 0} (adds : A → State → State → Type 0) (meaning : A → LineMeaning M) (xs : List A) (i : ℕ) (x : A) (s u t : State) → FromRooms adds → i < length xs → x ≡ get_or xs i x → Put adds meaning xs i s u → adds x u t → IsFront u.bytes t.bytes → Keeps u t → FallsBy u.byte_room t.byte_room (len_by u (meaning x)) → FallsBy u.notice_room t.notice_room (notices_by u (meaning x)) → len_by u (meaning x) ≤ 13 → Put adds meaning xs (i + 1) s t
put_next adds meaning xs i x s u t from within is held added front keeps bytes notices most =
    let len : ℕ = len_by s (meaning x) in
    let count : ℕ = notices_by s (meaning x) in
    let byte_room : FallsBy u.byte_room t.byte_room len = rw held.keeps.offsets at bytes in
    let notice_room : FallsBy u.notice_room t.notice_room count = rw held.keeps.offsets at notices in
    let least : len ≤ 13 = rw held.keeps.offsets at most in
    let all_len : each_len s meaning (take (i + 1) xs) ≡ each_len s meaning (take i xs) + len = sum_next (λ y. len_by s (meaning y)) xs i x within is in
    let all_notices : each_notice_count s meaning (take (i + 1) xs) ≡ each_notice_count s meaning (take i xs) + count = sum_next (λ y. notices_by s (meaning y)) xs i x within is in
    let one_more : take (i + 1) xs ≡ take i xs ++ x ∷ [] = take_more xs i x within ∙ ap (λ y. take i xs ++ y ∷ []) (sym is) in
    record {
      each = rw one_more (adds_next adds from (take i xs) x s u t held.each held.keeps added keeps);
      front = front_on s.bytes u.bytes t.bytes held.front front;
      keeps = keeps_on held.keeps keeps;
      byte_room = falls_on _ _ _ (each_len s meaning (take i xs)) len _ all_len held.byte_room byte_room;
      notice_room = falls_on _ _ _ (each_notice_count s meaning (take i xs)) count _ all_notices held.notice_room notice_room;
      most = omega (arith, all_len, held.most, least);
      most_notices = omega (arith, all_notices, held.most_notices, one_notice (meaning x s.offsets).memory);
    }

-- of which the sink refused the next
pub put_leaves : {A M : Type 0} (adds leaves : A → State → State → Type 0) (meaning : A → LineMeaning M) (xs : List A) (i : ℕ) (x : A) (s u t : State) → i < length xs → x ≡ get_or xs i x → Put adds meaning xs i s u → leaves x u t → LeavesEach adds leaves meaning xs i s t
put_leaves adds leaves meaning xs i x s u t within is held refused = record {
  within = within;
  between = u;
  before = held.each;
  keeps = held.keeps;
  byte_room = held.byte_room;
  notice_room = held.notice_room;
  next = x;
  next_is = slice_get_read xs (length xs) i x refl within is;
  refused = refused;
}

-- which comes no earlier than those that there is room for
pub put_late : {A M : Type 0} {adds : A → State → State → Type 0} (meaning : A → LineMeaning M) (xs : List A) (i j : ℕ) (x : A) (s u : State) → i < length xs → x ≡ get_or xs i x → Put adds meaning xs i s u → (HasRoom u.byte_room (len_by u (meaning x)) → HasRoom u.notice_room (notices_by u (meaning x)) → ⊥) → HasRoom s.byte_room (each_len s meaning (take j xs)) → HasRoom s.notice_room (each_notice_count s meaning (take j xs)) → j ≤ i
put_late meaning xs i j x s u within is held refused bytes notices =
    let none : HasRoom u.byte_room (len_by s (meaning x)) → HasRoom u.notice_room (notices_by s (meaning x)) → ⊥ = rw held.keeps.offsets at refused in
    elim (cases_lt i j) [
      | inl later ↦
          absurd (none
          (room_left s.byte_room u.byte_room (each_len s meaning (take i xs)) (len_by s (meaning x)) (each_len s meaning (take j xs)) (sum_later (λ y. len_by s (meaning y)) xs i j x within later is) held.byte_room bytes)
          (room_left s.notice_room u.notice_room (each_notice_count s meaning (take i xs)) (notices_by s (meaning x)) (each_notice_count s meaning (take j xs)) (sum_later (λ y. notices_by s (meaning y)) xs i j x within later is) held.notice_room notices))
      | inr h ↦ h
    ]

-- and lowered the rooms by no more than the list
pub put_bytes_fall : {A M : Type 0} {adds : A → State → State → Type 0} (meaning : A → LineMeaning M) (xs : List A) (i : ℕ) (x : A) (s u t : State) → i < length xs → x ≡ get_or xs i x → Put adds meaning xs i s u → FallsBy u.byte_room t.byte_room (len_by u (meaning x)) → FallsBy s.byte_room t.byte_room (each_len s meaning xs)
put_bytes_fall meaning xs i x s u t within is held bytes = stopped (λ y. len_by s (meaning y)) xs i x s.byte_room u.byte_room t.byte_room within is held.byte_room (rw held.keeps.offsets at bytes)

pub put_notices_fall : {A M : Type 0} {adds : A → State → State → Type 0} (meaning : A → LineMeaning M) (xs : List A) (i : ℕ) (x : A) (s u t : State) → i < length xs → x ≡ get_or xs i x → Put adds meaning xs i s u → FallsBy u.notice_room t.notice_room (notices_by u (meaning x)) → FallsBy s.notice_room t.notice_room (each_notice_count s meaning xs)
put_notices_fall meaning xs i x s u t within is held notices = stopped (λ y. notices_by s (meaning y)) xs i x s.notice_room u.notice_room t.notice_room within is held.notice_room (rw held.keeps.offsets at notices)

-- what room for as many of the longest leaves for the next
pub room_for_bytes : {A M : Type 0} {adds : A → State → State → Type 0} (meaning : A → LineMeaning M) (xs : List A) (i : ℕ) (s u : State) → i < length xs → Put adds meaning xs i s u → HasRoom s.byte_room (13 * length xs) → HasRoom u.byte_room 13
room_for_bytes meaning xs i s u within held room = room_left s.byte_room u.byte_room _ 13 (13 * length xs) (omega (arith, held.most)) held.byte_room room

pub room_for_notices : {A M : Type 0} {adds : A → State → State → Type 0} (meaning : A → LineMeaning M) (xs : List A) (i : ℕ) (s u : State) → i < length xs → Put adds meaning xs i s u → HasRoom s.notice_room (length xs) → HasRoom u.notice_room 1
room_for_notices meaning xs i s u within held room = room_left s.notice_room u.notice_room _ 1 (length xs) (omega (arith, held.most_notices)) held.notice_room room

-- at the end all has been taken
pub all_but_none : {A : Type 0} (xs : List A) (i : ℕ) → length xs ≤ i → i ≤ length xs → take i xs ≡ xs
all_but_none xs i most least =
    let all : i ≡ length xs = omega arith in
    ap (λ (n : ℕ). take n xs) all ∙ take-length xs

-- Each is tested before it is put.

pub few_bytes : {M : Type 0} (m : LineMeant M) (s t : State) → AddsMeant m s t → m.len ≤ 13
few_bytes m s t h = omega (arith, h.length, h.reads.length, h.reads.most)

-- one more that has no fault can be encoded
pub tested_next : {A M : Type 0} (meaning : A → LineMeaning M) (xs : List A) (i : ℕ) (x : A) (s u : State) → i < length xs → x ≡ get_or xs i x → u.offsets ≡ s.offsets → All (λ y. IsTrue (can_encode_by s (meaning y))) (take i xs) → None ≡ fault_by u (meaning x) → All (λ y. IsTrue (can_encode_by s (meaning y))) (take (i + 1) xs)
tested_next {A = A} {M = M} meaning xs i x s u within is offsets before h =
    let m : LineMeant M = meaning x s.offsets in
    let none : None ≡ first_fault s.offsets m.visited m.memory = rw offsets at h in
    let here : IsTrue (can_encode_by s (meaning x)) = (none_is (first_fault s.offsets m.visited m.memory) _ (no_fault s.offsets m.visited m.memory)).0 (sym none) in
    All-more (λ y. IsTrue (can_encode_by s (meaning y))) xs i x within before (subst (λ (y : A). IsTrue (can_encode_by s (meaning y))) is here)

-- the fault is that of the instruction at this place
pub fault_there : {A M : Type 0} (meaning : A → LineMeaning M) (xs : List A) (i : ℕ) (x : A) (s u : State) (why : Option Fault) → i < length xs → x ≡ get_or xs i x → u.offsets ≡ s.offsets → why ≡ fault_by u (meaning x) → why ≡ each_fault_at s meaning xs i
fault_there meaning xs i x s u why within is offsets h =
    let here : why ≡ fault_by s (meaning x) = rw offsets at h in
    here ∙ ap (option_and_then (λ y. fault_by s (meaning y))) (sym (slice_get_read xs (length xs) i x refl within is))

pub fault_then : {P Q : Type 0} (e : EncodeError) → (P → Q) → is_fault P e → is_fault Q e
fault_then (error.Fault why) f h = f h
fault_then (error.Sink why) f h = tt

pub refusal_then : {P Q : SinkError → Type 0} (e : EncodeError) → ((why : SinkError) → P why → Q why) → is_refusal P e → is_refusal Q e
refusal_then (error.Fault why) f h = tt
refusal_then (error.Sink why) f h = f why h

-- what follows where the sink refused although there was room follows of a refusal
pub refused_though : {B N Q : Type 0} (e : EncodeError) → (B → N → is_refusal (λ why. ⊥) e) → ((B → N → ⊥) → Q) → is_refusal (λ why. Q) e
refused_though (error.Fault why) room late = tt
refused_though (error.Sink why) room late = late room

-- All of them, or none.

-- where there was room for all, none is refused
whole_or_stopped : {A M : Type 0} (adds leaves : A → State → State → Type 0) (meaning : A → LineMeaning M) (xs : List A) (s t : State) (r : Result (Unit {0}) Refused) → IfErr r (λ e. LeavesEach adds leaves meaning xs e.whole s t) → IfErr r (λ e. length xs ≤ e.whole) → IsOk r
whole_or_stopped adds leaves meaning xs s t (Ok u) left late = refl
whole_or_stopped adds leaves meaning xs s t (Err e) left late = absurd (omega (arith, left.within, late))

-- A list that a state has room for, which has all else from an earlier state: it is taken, as from the earlier state.
pub whole_list : {A M : Type 0} (adds leaves : A → State → State → Type 0) (meaning : A → LineMeaning M) (xs : List A) (s u t : State) (r : Result (Unit {0}) Refused) → FromRooms adds → SamePut s u → Keeps s u → HasRoom u.byte_room (each_len s meaning xs) → HasRoom u.notice_room (each_notice_count s meaning xs) → OnOk r (AddsEach adds xs u t) → IfErr r (λ e. LeavesEach adds leaves meaning xs e.whole u t) → ((j : ℕ) → j ≤ length xs → HasRoom u.byte_room (each_len u meaning (take j xs)) → HasRoom u.notice_room (each_notice_count u meaning (take j xs)) → IfErr r (λ e. j ≤ e.whole)) → IsOk r × AddsEach adds xs s t
whole_list adds leaves meaning xs s u t r from same keeps bytes notices added left room =
    let all : xs ≡ take (length xs) xs = sym (take-length xs) in
    let byte_room : HasRoom u.byte_room (each_len u meaning (take (length xs) xs)) = rw (all, ← keeps.offsets) at bytes in
    let notice_room : HasRoom u.notice_room (each_notice_count u meaning (take (length xs) xs)) = rw (all, ← keeps.offsets) at notices in
    let ok = whole_or_stopped adds leaves meaning xs u t r left (room (length xs) (omega arith) byte_room notice_room) in
    (ok, each_from adds from xs s u t same keeps (from_ok r ok added))
