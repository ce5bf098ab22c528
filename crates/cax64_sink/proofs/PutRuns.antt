use Rattle.std.proofs.Common.{◌≡◌, Bool, ℕ, ◌+◌, ◌<◌, ◌≤◌, List, [], ◌∷◌, ◌++◌, length, drop, slice_index_or, Result, Ok, Err, refl, sym, ap, ◌∙◌, append_assoc, arith, ◌-◌, take, length-append}
use Rattle.std.proofs.lemmas.List.{drop_more, drop_all, length-take-le, take-take}
use Rattle.std.proofs.Math.Seq.{take-append-add}
use Rattle.std.specs.Prelude.{Vec, vec_len, vec_capacity}
use Rattle.cax64_sink.specs.Sink.{State, bytes_only, is_no_memory, is_full}
use Rattle.cax64_sink.specs.Vec.{vec_state}
use Rattle.cax64_sink.specs.Room.{count}
use Rattle.cax64_sink.specs.Run.{Ran, all_bytes, all_notices}
use Rattle.cax64_sink.specs.Call.{put, Step}
use Rattle.cax64_sink.specs.declared.SinkError.{SinkError}
use Rattle.cax64_sink.proofs.Runs.{ran_none, ran_one, ran_next, ran_halt, ran_bytes}
use Rattle.cax64_sink.specs.Puts.{puts}

pub all_bytes-puts : (bytes : List ℕ) → all_bytes (puts bytes) ≡ bytes
all_bytes-puts [] = refl
all_bytes-puts (byte ∷ bytes) = ap (λ rest. byte ∷ rest) (all_bytes-puts bytes)

pub all_notices-puts : (bytes : List ℕ) (at : ℕ) → all_notices (puts bytes) at ≡ []
all_notices-puts [] at = refl
all_notices-puts (byte ∷ bytes) at = all_notices-puts bytes (at + 1)

pub puts-append : (bytes more : List ℕ) → puts (bytes ++ more) ≡ puts bytes ++ puts more
puts-append [] more = refl
puts-append (byte ∷ bytes) more = ap (λ rest. put (byte ∷ []) ∷ rest) (puts-append bytes more)

-- what runs on with the bytes that are left is a run of them all
pub record Continues (bytes left : List ℕ) (old now : State) : Type 0 where
  pub on : (t : State) (r : Result (Unit {0}) SinkError) → Ran (puts left) now t r → Ran (puts bytes) old t r

pub begun : (bytes : List ℕ) (s : State) → Continues bytes bytes s s
begun bytes s = record { on = λ t r h. h }

pub continued : (bytes : List ℕ) (i : ℕ) (s u v : State) (q : Result (Unit {0}) SinkError) → i < length bytes → Continues bytes (drop i bytes) s u → Step (put (slice_index_or bytes i 0 ∷ [])) u v q → q ≡ Ok tt → Continues bytes (drop (i + 1) bytes) s v
continued bytes i s u v q below h step ok =
    let front : Continues bytes (slice_index_or bytes i 0 ∷ drop (i + 1) bytes) s u = rw (drop_more bytes i 0 below) at h in
    record { on = λ t r left. front.on t r (ran_next step ok left) }

pub halted : (bytes : List ℕ) (i : ℕ) (s u v : State) (q r : Result (Unit {0}) SinkError) (e : SinkError) → i < length bytes → Continues bytes (drop i bytes) s u → Step (put (slice_index_or bytes i 0 ∷ [])) u v q → q ≡ Err e → r ≡ Err e → Ran (puts bytes) s v r
halted bytes i s u v q r e below h step bad same =
    let front : Continues bytes (slice_index_or bytes i 0 ∷ drop (i + 1) bytes) s u = rw (drop_more bytes i 0 below) at h in
    front.on v r (ran_halt (puts (drop (i + 1) bytes)) r step bad same)

pub finished : (bytes : List ℕ) (i : ℕ) (s u : State) → length bytes ≤ i → Continues bytes (drop i bytes) s u → Ran (puts bytes) s u (Ok tt)
finished bytes i s u above h =
    let front : Continues bytes [] s u = rw (drop_all i bytes above) at h in
    front.on u (Ok tt) (ran_none u (Ok tt) refl)

-- the bytes that a run of puts adds
pub puts_add : (bytes : List ℕ) (s t : State) (r : Result (Unit {0}) SinkError) → Ran (puts bytes) s t r → r ≡ Ok tt → t.bytes ≡ s.bytes ++ bytes
puts_add bytes s t r h ok = ran_bytes h ok ∙ ap (λ added. s.bytes ++ added) (all_bytes-puts bytes)

-- Bytes for which there is room, in a sink that keeps bytes alone: at once they are put as one by one.

one_within : (byte : ℕ) (held : List ℕ) (room left : ℕ) (errors : SinkError → Bool) → room ≤ left + 1 → Step (put (byte ∷ [])) (bytes_only held (count room) errors) (bytes_only (held ++ (byte ∷ [])) (count left) errors) (Ok tt)
one_within byte held room left errors h = record {
  bytes = refl;
  notices = refl;
  records = refl;
  offsets = refl;
  answers = refl;
  succeeds = λ _ _. refl;
  byte_room = λ k fit. omega arith;
  notice_room = λ k _. tt;
  refused_byte_room = λ bad. cc;
  refused_notice_room = λ bad. cc;
  error = tt;
}

pub puts_within : (byte : ℕ) (bytes held : List ℕ) (room left : ℕ) (errors : SinkError → Bool) → room ≤ left + (1 + length bytes) → 1 + length bytes ≤ room → Ran (puts (byte ∷ bytes)) (bytes_only held (count room) errors) (bytes_only (held ++ (byte ∷ bytes)) (count left) errors) (Ok tt)
puts_within byte [] held room left errors h k = ran_one (one_within byte held room left errors h)
puts_within byte (next ∷ bytes) held room left errors h k =
    let same : (held ++ (byte ∷ [])) ++ (next ∷ bytes) ≡ held ++ (byte ∷ next ∷ bytes) = append_assoc held (byte ∷ []) (next ∷ bytes) in
    let later : Ran (puts (next ∷ bytes)) (bytes_only (held ++ (byte ∷ [])) (count (left + (1 + length bytes))) errors) (bytes_only ((held ++ (byte ∷ [])) ++ (next ∷ bytes)) (count left) errors) (Ok tt) = puts_within next bytes (held ++ (byte ∷ [])) (left + (1 + length bytes)) left errors (omega arith) (omega arith) in
    ran_next (one_within byte held room (left + (1 + length bytes)) errors (omega (arith, h))) refl (rw same at later)

puts_at_once : (bytes held new : List ℕ) (room left : ℕ) (errors : SinkError → Bool) → 1 ≤ length bytes → new ≡ held ++ bytes → room ≤ left + length bytes → length bytes ≤ room → Ran (puts bytes) (bytes_only held (count room) errors) (bytes_only new (count left) errors) (Ok tt)
puts_at_once [] held new room left errors some is h k = let bad : ⊥ = omega (arith, some) in absurd bad
puts_at_once (byte ∷ bytes) held new room left errors some is h k = rw is (puts_within byte bytes held room left errors (omega (arith, h)) (omega (arith, k)))

-- A word that was appended to a vector, and cut back to its lowest bytes.
pub vec_at_once : {A : Type 0} (v u w : Vec ℕ A) (word : List ℕ) (n : ℕ) → 1 ≤ n → n ≤ length word → length word ≤ vec_capacity v - vec_len v → u.items ≡ v.items ++ word → w.items ≡ take (vec_len v + n) u.items → vec_capacity v ≤ vec_capacity w → Ran (puts (take n word)) (vec_state v) (vec_state w) (Ok tt)
vec_at_once v u w word n some few room added cut grown =
    let size : length (take n word) ≡ n = length-take-le n word few in
    let items : w.items ≡ v.items ++ take n word = cut ∙ ap (λ (xs : List ℕ). take (vec_len v + n) xs) added ∙ ap (λ (k : ℕ). take (k + n) (v.items ++ word)) v.ok.0 ∙ take-append-add v.items word n in
    let longer : length w.items ≡ length v.items + n = ap length items ∙ length-append v.items (take n word) ∙ ap (λ (k : ℕ). length v.items + k) size in
    let had = v.ok.0 in
    let has = w.ok.0 in
    puts_at_once (take n word) v.items w.items (vec_capacity v - vec_len v) (vec_capacity w - vec_len w) is_no_memory (omega (arith, size, some)) items (omega (arith, size, longer, had, has, grown, room, few)) (omega (arith, size, few, room))

-- The same in a sink of fixed size, whose bytes are the front of a table.
pub fixed_at_once : (size len : ℕ) (held after word : List ℕ) (n : ℕ) → 1 ≤ n → n ≤ length word → length word ≤ size - len → length (take len held) ≡ len → take (len + length word) after ≡ take len held ++ word → Ran (puts (take n word)) (bytes_only (take len held) (count (size - length (take len held))) is_full) (bytes_only (take (len + n) after) (count (size - length (take (len + n) after))) is_full) (Ok tt)
fixed_at_once size len held after word n some few room whole added =
    let least : length (take n word) ≡ n = length-take-le n word few in
    let cut : take (len + n) (take (len + length word) after) ≡ take (len + n) after = take-take (len + n) (len + length word) after (omega (arith, few)) in
    let items : take (len + n) after ≡ take len held ++ take n word = sym cut ∙ ap (λ (xs : List ℕ). take (len + n) xs) added ∙ ap (λ (k : ℕ). take (k + n) (take len held ++ word)) (sym whole) ∙ take-append-add (take len held) word n in
    let longer : length (take (len + n) after) ≡ length (take len held) + n = ap length items ∙ length-append (take len held) (take n word) ∙ ap (λ (k : ℕ). length (take len held) + k) least in
    puts_at_once (take n word) (take len held) (take (len + n) after) (size - length (take len held)) (size - length (take (len + n) after)) is_full (omega (arith, least, some)) items (omega (arith, least, longer, whole, room, few)) (omega (arith, least, whole, few, room))
