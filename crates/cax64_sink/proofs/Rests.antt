use Rattle.std.proofs.Common.{◌≡◌, ℕ, ◌+◌, ◌-◌, ◌≤◌, ◌^◌, ◌%◌, ◌/◌, ◌==◌, ◌||◌, Bool, true, false, if◌then◌else◌, List, [], ◌∷◌, ◌++◌, length, take, Option, Some, None, Result, Ok, inl, inr, ◌⊎◌, refl, sym, ap, ◌∙◌, subst, append_assoc, append-nil, length-append, arith, w32, IsTrue}
use Rattle.std.proofs.lemmas.Bool.{or_cases}
use Rattle.std.proofs.lemmas.Bool.Decides.{nat_tests}
use Rattle.std.proofs.lemmas.List.{take-take}
use Rattle.std.proofs.Math.Seq.{take-append-add}
use Rattle.std.specs.Int.{to_le_bytes}
use Rattle.std.specs.Prelude.{Vec, vec_len, vec_capacity}
use Rattle.cax64_sink.specs.Room.{count}
use Rattle.cax64_sink.specs.Sink.{State, bytes_only, is_no_memory}
use Rattle.cax64_sink.specs.Vec.{vec_state}
use Rattle.cax64_sink.specs.Call.{Action, put, trap, target, Step}
use Rattle.cax64_sink.specs.Run.{Ran, all_bytes, byte_total}
use Rattle.cax64_sink.specs.Rest.{RanRoomier, is_imm_len, long_actions, word_actions, rest_actions}
use Rattle.cax64_sink.specs.declared.SinkError.{SinkError}
use Rattle.cax64_sink.proofs.RecordedPuts.{OnlyPuts, only_puts_append}
use Rattle.cax64_sink.proofs.Rooms.{size_is_length}
use Rattle.cax64_sink.proofs.Runs.{ran_none, ran_one, ran_next, all_bytes_append}

-- A displacement and an immediate are puts alone.

long_puts : (long : Option ℕ) → OnlyPuts (long_actions long)
long_puts None = tt
long_puts (Some word) = tt

either_puts : (c : Bool) (acts more : List Action) → OnlyPuts acts → OnlyPuts more → OnlyPuts (if c then acts else more)
either_puts true acts more h k = h
either_puts false acts more h k = k

word_puts : (len word : ℕ) → OnlyPuts (word_actions len word)
word_puts len word = either_puts (len == 1) _ _ tt (either_puts (len == 2) _ _ tt (either_puts (len == 4) _ _ tt tt))

pub rest_puts : (long : Option ℕ) (len word : ℕ) → OnlyPuts (rest_actions long len word)
rest_puts long len word = only_puts_append (long_actions long) (word_actions len word) (long_puts long) (word_puts len word)

-- a displacement that was put at once
pub long_put : {long : Option ℕ} {word : ℕ} {s t : State} {q : Result (Unit {0}) SinkError} → long ≡ Some word → Step (put (to_le_bytes w32 word)) s t q → q ≡ Ok tt → Ran (long_actions long) s t (Ok tt)
long_put is step ok = rw is (ran_one (rw ok at step))

-- no displacement
pub no_long_put : {long : Option ℕ} (s : State) → long ≡ None → Ran (long_actions long) s s (Ok tt)
no_long_put s is = rw is (ran_none s (Ok tt) refl)

-- Their bytes.

is_number : (a b : ℕ) → (a == b) ≡ true → a ≡ b
is_number a b h = grind (arith, nat_tests)

one_of_two : (P : ℕ → Type 0) (m n len : ℕ) → P m → P n → ((len == m) || (len == n)) ≡ true → P len
one_of_two P m n len p q h = pick (or_cases (len == m) (len == n) h)
  where
    pick : ((len == m) ≡ true) ⊎ ((len == n) ≡ true) → P len
    pick (inl e) = subst P (sym (is_number len m e)) p
    pick (inr e) = subst P (sym (is_number len n e)) q

one_or : (P : ℕ → Type 0) (m len : ℕ) (more : Bool) → P m → (more ≡ true → P len) → ((len == m) || more) ≡ true → P len
one_or P m len more p q h = pick (or_cases (len == m) more h)
  where
    pick : ((len == m) ≡ true) ⊎ (more ≡ true) → P len
    pick (inl e) = subst P (sym (is_number len m e)) p
    pick (inr e) = q e

-- what holds of each length of an immediate
pub each_len : (P : ℕ → Type 0) → P 0 → P 1 → P 2 → P 4 → (len : ℕ) → IsTrue (is_imm_len len) → P len
each_len P none one two four len h = one_or P 0 len (len == 1 || (len == 2 || len == 4)) none (one_or P 1 len (len == 2 || len == 4) one (one_of_two P 2 4 len two four)) h

pub long_size : (long : Option ℕ) → length (all_bytes (long_actions long)) ≤ 4
long_size None = omega arith
long_size (Some word) = omega arith

pub len_is_small : (len : ℕ) → IsTrue (is_imm_len len) → len ≤ 4
len_is_small = each_len (λ len. len ≤ 4) (omega arith) (omega arith) (omega arith) (omega arith)

low_two : (word : ℕ) → all_bytes (word_actions 2 word) ≡ take 2 (to_le_bytes w32 word)
low_two word =
    let lowest : word % 2 ^ 16 % 256 ≡ word % 256 = omega arith in
    let next : word % 2 ^ 16 / 256 % 256 ≡ word / 256 % 256 = omega arith in
    ap (λ (b : ℕ). b ∷ word % 2 ^ 16 / 256 % 256 ∷ []) lowest ∙ ap (λ (b : ℕ). word % 256 ∷ b ∷ []) next

word_bytes : (word len : ℕ) → IsTrue (is_imm_len len) → all_bytes (word_actions len word) ≡ take len (to_le_bytes w32 word)
word_bytes word = each_len (λ len. all_bytes (word_actions len word) ≡ take len (to_le_bytes w32 word)) refl refl (low_two word) refl

word_length : (word len : ℕ) → IsTrue (is_imm_len len) → length (all_bytes (word_actions len word)) ≡ len
word_length word = each_len (λ len. length (all_bytes (word_actions len word)) ≡ len) refl refl refl refl

-- an immediate is put at once
pub some_word : (word len : ℕ) → IsTrue (is_imm_len len) → 1 ≤ len → word_actions len word ≡ put (take len (to_le_bytes w32 word)) ∷ []
some_word word = each_len (λ len. 1 ≤ len → word_actions len word ≡ put (take len (to_le_bytes w32 word)) ∷ []) (λ some. let bad : ⊥ = omega (arith, some) in absurd bad) (λ _. refl) (λ _. ap (λ (bytes : List ℕ). put bytes ∷ []) (low_two word)) (λ _. refl)

-- no immediate is put where its length is none of the others
pub no_word : (word len : ℕ) → IsTrue (is_imm_len len) → (len ≡ 1 → ⊥) → (len ≡ 2 → ⊥) → (len ≡ 4 → ⊥) → word_actions len word ≡ []
no_word word = each_len (λ len. (len ≡ 1 → ⊥) → (len ≡ 2 → ⊥) → (len ≡ 4 → ⊥) → word_actions len word ≡ []) (λ _ _ _. refl) (λ one _ _. absurd (one refl)) (λ _ two _. absurd (two refl)) (λ _ _ four. absurd (four refl))

-- how many bytes they have
pub rest_length : (long : Option ℕ) (word len : ℕ) → IsTrue (is_imm_len len) → length (all_bytes (rest_actions long len word)) ≡ length (all_bytes (long_actions long)) + len
rest_length long word len h =
    ap length (all_bytes_append (long_actions long) (word_actions len word))
    ∙ length-append (all_bytes (long_actions long)) (all_bytes (word_actions len word))
    ∙ ap (λ (n : ℕ). length (all_bytes (long_actions long)) + n) (word_length word len h)

-- the front of a displacement with four bytes of an immediate behind it
rest_front : (long : Option ℕ) (word len : ℕ) (all : List ℕ) → IsTrue (is_imm_len len) → take (length (all_bytes (long_actions long)) + 4) all ≡ all_bytes (long_actions long) ++ to_le_bytes w32 word → take (length (all_bytes (long_actions long)) + len) all ≡ all_bytes (rest_actions long len word)
rest_front long word len all h is =
    let bytes : List ℕ = all_bytes (long_actions long) in
    let few = len_is_small len h in
    let cut : take (length bytes + len) (take (length bytes + 4) all) ≡ take (length bytes + len) all = take-take (length bytes + len) (length bytes + 4) all (omega (arith, few)) in
    sym cut
    ∙ ap (take (length bytes + len)) is
    ∙ take-append-add bytes (to_le_bytes w32 word) len
    ∙ ap (λ (xs : List ℕ). bytes ++ xs) (sym (word_bytes word len h))
    ∙ sym (all_bytes_append (long_actions long) (word_actions len word))

-- Puts for which there is room, in a sink that keeps bytes alone.

put_within : (bytes held : List ℕ) (room left : ℕ) (errors : SinkError → Bool) → room ≡ left + length bytes → Step (put bytes) (bytes_only held (count room) errors) (bytes_only (held ++ bytes) (count left) errors) (Ok tt)
put_within bytes held room left errors e = record {
  bytes = refl;
  notices = refl;
  records = refl;
  offsets = refl;
  answers = refl;
  succeeds = λ _ _. refl;
  byte_room = λ k fit. omega (arith, e, fit);
  notice_room = λ k _. tt;
  refused_byte_room = λ bad. cc;
  refused_notice_room = λ bad. cc;
  error = tt;
}

only_within : (acts : List Action) (held new : List ℕ) (room left : ℕ) (errors : SinkError → Bool) → OnlyPuts acts → new ≡ held ++ all_bytes acts → room ≡ left + byte_total acts → Ran acts (bytes_only held (count room) errors) (bytes_only new (count left) errors) (Ok tt)
only_within [] held new room left errors only is e =
    let same : new ≡ held = is ∙ append-nil held in
    let all : room ≡ left = omega (arith, e) in
    rw (same, all) (ran_none (bytes_only held (count left) errors) (Ok tt) refl)
only_within (put bytes ∷ acts) held new room left errors only is e =
    ran_next (put_within bytes held room (left + byte_total acts) errors (omega (arith, e))) refl (only_within acts (held ++ bytes) new (left + byte_total acts) left errors only (is ∙ sym (append_assoc held bytes (all_bytes acts))) refl)
only_within (trap code ∷ acts) held new room left errors only is e = absurd only
only_within (target place ∷ acts) held new room left errors only is e = absurd only

-- a word that was appended to a vector and cut back to the bytes of some puts: the room may be larger afterwards
puts_at_once : {A : Type 0} (v u w : Vec ℕ A) (word : List ℕ) (n : ℕ) (acts : List Action) → OnlyPuts acts → take n word ≡ all_bytes acts → length (all_bytes acts) ≡ n → n ≤ vec_capacity v - vec_len v → u.items ≡ v.items ++ word → w.items ≡ take (vec_len v + n) u.items → vec_capacity v ≤ vec_capacity w → RanRoomier acts (vec_state v) (vec_state w) (Ok tt)
puts_at_once v u w word n acts only is size room added cut grown =
    let total : byte_total acts ≡ length (all_bytes acts) = size_is_length acts in
    let had : vec_len v ≡ length v.items = v.ok.0 in
    let has : vec_len w ≡ length w.items = w.ok.0 in
    let items : w.items ≡ v.items ++ all_bytes acts = cut ∙ ap (λ (xs : List ℕ). take (vec_len v + n) xs) added ∙ ap (λ (k : ℕ). take (k + n) (v.items ++ word)) had ∙ take-append-add v.items word n ∙ ap (λ (xs : List ℕ). v.items ++ xs) is in
    let longer : length w.items ≡ length v.items + length (all_bytes acts) = ap length items ∙ length-append v.items (all_bytes acts) in
    record {
      between = bytes_only w.items (count (vec_capacity v - vec_len v - byte_total acts)) is_no_memory;
      ran = only_within acts v.items w.items (vec_capacity v - vec_len v) (vec_capacity v - vec_len v - byte_total acts) is_no_memory only items (omega (arith, total, size, room));
      roomier = record {
        bytes = refl;
        notices = refl;
        records = refl;
        offsets = refl;
        answers = refl;
        byte_room = λ k fit. omega (arith, fit, total, had, has, longer, grown);
        notice_room = λ k _. tt;
      };
    }

-- the same of a displacement and an immediate
pub rest_at_once : {A : Type 0} (v u w : Vec ℕ A) (long : Option ℕ) (imm len : ℕ) (word : List ℕ) (n : ℕ) → IsTrue (is_imm_len len) → n ≡ length (all_bytes (long_actions long)) + len → take (length (all_bytes (long_actions long)) + 4) word ≡ all_bytes (long_actions long) ++ to_le_bytes w32 imm → 8 ≤ vec_capacity v - vec_len v → u.items ≡ v.items ++ word → w.items ≡ take (vec_len v + n) u.items → vec_capacity v ≤ vec_capacity w → RanRoomier (rest_actions long len imm) (vec_state v) (vec_state w) (Ok tt)
rest_at_once v u w long imm len word n h e is room added cut grown =
    let few = len_is_small len h in
    let four = long_size long in
    puts_at_once v u w word n (rest_actions long len imm) (rest_puts long len imm) (rw e (rest_front long imm len word h is)) (rest_length long imm len h ∙ sym e) (omega (arith, few, four, e, room)) added cut grown
