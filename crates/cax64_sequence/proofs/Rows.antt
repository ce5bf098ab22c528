use Rattle.std.proofs.Common.{◌≡◌, ℕ, ◌+◌, refl, ◌∙◌, ap, sym, subst, ℤ, List, [], ◌∷◌, ◌++◌, Option, Result, Ok, Err, append_assoc, append-nil, take, map}
use Rattle.std.specs.List.{sum_by}
use Rattle.std.specs.Prelude.{option_map, IfErr, OnOk}
use Rattle.std.proofs.lemmas.List.{length-map}
use Rattle.std.proofs.lemmas.List.Sums.{sum_by-cons}
use Rattle.std.proofs.lemmas.Option.{slice_get-map}
use Rattle.cax64_encoder.specs.Instruction.{Adds, AddsInstruction, Leaves, LeavesInstruction, Meaning}
use Rattle.cax64_encoder.specs.Meant.{Meant, len}
use Rattle.cax64_encoder.specs.Notices.{notice_count}
use Rattle.cax64_sequence.specs.Each.{AddsEach, LeavesEach, each_len, each_notice_count}
use Rattle.cax64_sequence.specs.List.{AddsAll, AddsList, LeavesList, list_len, list_notices, meants, total_len, total_notices}
use Rattle.cax64_sequence.proofs.Lists.{adds_more, adds_none, adds_to, take_map}
use Rattle.cax64_sequence.proofs.Rooms.{keeps_on, keeps_self}
use Rattle.cax64_sink.specs.Keeps.{Keeps}
use Rattle.cax64_sink.specs.Room.{FallsBy}
use Rattle.cax64_sink.specs.Sink.{State}
use Rattle.x64_encode.specs.Encode.{LineMeaning, by_line}

-- Rows in turn are a list of rows.

-- what rows mean, said of their lines
abbrev pub by_lines : {A M : Type 0} → (A → Meaning M) → A → LineMeaning M
by_lines meant i offsets = by_line (meant i offsets)

-- Numbers of bytes and notices.

sum_is_len : {A M : Type 0} (f : A → Meant M) (xs : List A) → sum_by (λ i. len (f i)) xs ≡ total_len (map f xs)
sum_is_len f [] = refl
sum_is_len f (x ∷ xs) = sum_by-cons (λ i. len (f i)) x xs ∙ ap (λ n. len (f x) + n) (sum_is_len f xs)

sum_is_count : {A M : Type 0} (f : A → Meant M) (xs : List A) → sum_by (λ i. notice_count (f i)) xs ≡ total_notices (map f xs)
sum_is_count f [] = refl
sum_is_count f (x ∷ xs) = sum_by-cons (λ i. notice_count (f i)) x xs ∙ ap (λ n. notice_count (f x) + n) (sum_is_count f xs)

pub each_len_is : {A M : Type 0} (meant : A → Meaning M) (s : State) (xs : List A) → each_len s (by_lines meant) xs ≡ list_len s meant xs
each_len_is meant s xs = sum_is_len (λ i. meant i s.offsets) xs

pub each_notice_count_is : {A M : Type 0} (meant : A → Meaning M) (s : State) (xs : List A) → each_notice_count s (by_lines meant) xs ≡ list_notices s meant xs
each_notice_count_is meant s xs = sum_is_count (λ i. meant i s.offsets) xs

-- of a front
pub front_len_is : {A M : Type 0} (meant : A → Meaning M) (s : State) (xs : List A) (j : ℕ) → each_len s (by_lines meant) (take j xs) ≡ total_len (take j (meants meant s xs))
front_len_is meant s xs j = each_len_is meant s (take j xs) ∙ ap total_len (sym (take_map (λ i. meant i s.offsets) xs j))

pub front_count_is : {A M : Type 0} (meant : A → Meaning M) (s : State) (xs : List A) (j : ℕ) → each_notice_count s (by_lines meant) (take j xs) ≡ total_notices (take j (meants meant s xs))
front_count_is meant s xs j = each_notice_count_is meant s (take j xs) ∙ ap total_notices (sym (take_map (λ i. meant i s.offsets) xs j))

-- What a sink has got.

adds_on : {A M : Type 0} (meant : A → Meaning M) (ms : List (Meant M)) (later : List A) (s u t : State) → AddsAll ms s u → Keeps s u → AddsEach (λ i. Adds (meant i)) later u t → AddsAll (ms ++ map (λ i. meant i s.offsets) later) s t
adds_on meant ms [] s u t h keeps k = rw (append-nil ms) (adds_to ms s u t h k)
adds_on meant ms (x ∷ later) s u t h keeps k =
    let m = meant x s.offsets in
    let one : AddsInstruction m u k.0 = subst (λ (o : ℕ → Option ℤ). AddsInstruction (meant x o) u k.0) keeps.offsets k.1 in
    rw (← append_assoc ms (m ∷ []) (map (λ i. meant i s.offsets) later)) (adds_on meant (ms ++ m ∷ []) later s k.0 t (adds_more ms m s u k.0 h keeps one) (keeps_on keeps k.2) k.3)

pub each_adds : {A M : Type 0} (meant : A → Meaning M) (xs : List A) (s t : State) → AddsEach (λ i. Adds (meant i)) xs s t → AddsList meant xs s t
each_adds meant xs s t h = adds_on meant [] xs s s t (adds_none s) (keeps_self s) h

pub each_leaves : {A M : Type 0} (meant : A → Meaning M) (xs : List A) (whole : ℕ) (s t : State) → LeavesEach (λ i. Adds (meant i)) (λ i. Leaves (meant i)) (by_lines meant) xs whole s t → LeavesList meant xs whole s t
each_leaves {A = A} {M = M} meant xs whole s t h =
    let f : A → Meant M = λ i. meant i s.offsets in
    record {
      within = rw (length-map xs f) h.within;
      between = h.between;
      adds = rw (take_map f xs whole) (each_adds meant (take whole xs) s h.between h.before);
      keeps = h.keeps;
      byte_room = subst (FallsBy s.byte_room h.between.byte_room) (front_len_is meant s xs whole) h.byte_room;
      notice_room = subst (FallsBy s.notice_room h.between.notice_room) (front_count_is meant s xs whole) h.notice_room;
      next = f h.next;
      next_is = slice_get-map f xs whole ∙ ap (option_map f) h.next_is;
      leaves = subst (λ (o : ℕ → Option ℤ). LeavesInstruction (meant h.next o) h.between t) h.keeps.offsets h.refused;
    }

-- Of answers.

pub ok_then : {E P Q : Type 0} (r : Result (Unit {0}) E) → (P → Q) → OnOk r P → OnOk r Q
ok_then (Ok u) f h = f h
ok_then (Err e) f h = tt

pub err_then : {E : Type 0} {P Q : E → Type 0} (r : Result (Unit {0}) E) → ((e : E) → P e → Q e) → IfErr r P → IfErr r Q
err_then (Ok u) f h = tt
err_then (Err e) f h = f e h
