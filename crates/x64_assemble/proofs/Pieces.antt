use Rattle.std.proofs.Common.{◌≡◌, ℕ, ◌+◌, ◌-◌, ◌<◌, ◌≤◌, ◌⊎◌, inl, inr, arith, refl, ◌∙◌, ap, sym, subst, Option, Some, None, List, [], ◌∷◌, ◌++◌, length, length-append, drop, sum, get_or, append_assoc, append-nil, Bool, true, false}
use Rattle.std.specs.Prelude.{◌==◌, if◌then◌else◌, slice_index}
use Rattle.std.specs.Option.{option_or}
use Rattle.std.proofs.lemmas.Bool.{cases_eq, eq-eqb, ne_eqb}
use Rattle.std.proofs.lemmas.List.{length_push}
use Rattle.std.proofs.lemmas.List.Sums.{sum_by-drop_more}
use Rattle.cax64_sink.specs.Keeps.{Keeps}
use Rattle.cax64_sink.specs.Room.{Room, HasRoom, endless, count}
use Rattle.cax64_sink.specs.Sink.{State}
use Rattle.cax64_sink.specs.declared.DeferredTarget.{DeferredTarget}
use Rattle.cax64_sink.specs.declared.DeferredTarget.TheVariants as target
use Rattle.cax64_sink.specs.declared.Label.{Label}
use Rattle.cax64_sink.specs.declared.Notice.{Notice}
use Rattle.x64_code_buffer.proofs.Laying.{pieces_more}
use Rattle.x64_code_buffer.specs.Binding.{AddsBinding}
use Rattle.x64_code_buffer.specs.Laid.{Laid, Piece, reading_in}
use Rattle.x64_layout.specs.Layout.{place_in}
use Rattle.x64_layout.proofs.Places.{place_more}
use Rattle.x64_assemble.specs.Assembled.{EachReads, IsNoLabelOf, JumpReads, WholeReads, all_told, entries, spot_of}
use Rattle.x64_assemble.specs.Listed.{GotEntry, Listed}
use Rattle.x64_assemble.specs.Putting.{Put}
use Rattle.x64_assemble.specs.declared.item.Item.{Item}
use Rattle.x64_assemble.specs.declared.item.Item.TheVariants as item
use Rattle.x64_assemble.proofs.Items.{counted, entries_push, spot_push}
use Rattle.x64_assemble.proofs.Told.{item_told, pieces_length, pieces_total, told_bind, told_push}

-- A list on its way into a buffer, one item longer.

-- what an item is read as, if it is a span
abbrev pub ItemReads : {I : Type 0} → (I → Listed) → List ℕ → List (Item I) → ℕ → Item I → Piece → Type 0
ItemReads meant lens all n (item.Inst inst) p = WholeReads (meant inst).parts p
ItemReads meant lens all n (item.Jump jump to) p = JumpReads lens n jump (spot_of to.0 all) p
ItemReads meant lens all n (item.Bind bound) p = ⊥

reads_one : {I : Type 0} (meant : I → Listed) (lens : List ℕ) (all : List (Item I)) (n : ℕ) (x : Item I) (p : Piece) → ItemReads meant lens all n x p → (reading_in p).length ≡ slice_index lens n → EachReads meant lens all n (x ∷ []) (p ∷ [])
reads_one meant lens all n (item.Inst inst) p reads len = (reads, len, refl)
reads_one meant lens all n (item.Jump jump to) p reads len = (reads, len, refl)
reads_one meant lens all n (item.Bind bound) p reads len = absurd reads

reads_push : {I : Type 0} (meant : I → Listed) (lens : List ℕ) (all : List (Item I)) (n m : ℕ) (xs : List (Item I)) (ps : List Piece) (x : Item I) (p : Piece) → m ≡ n + entries xs → EachReads meant lens all n xs ps → ItemReads meant lens all m x p → (reading_in p).length ≡ slice_index lens m → EachReads meant lens all n (xs ++ x ∷ []) (ps ++ p ∷ [])
reads_push meant lens all n m [] ps x p e h reads len =
    let here : m ≡ n = omega arith in
    rw h (reads_one meant lens all n x p (subst (λ (k : ℕ). ItemReads meant lens all k x p) here reads) (subst (λ (k : ℕ). (reading_in p).length ≡ slice_index lens k) here len))
reads_push meant lens all n m (item.Inst inst ∷ xs) [] x p e h reads len = absurd h
reads_push meant lens all n m (item.Inst inst ∷ xs) (q ∷ ps) x p e h reads len = (h.0, h.1, reads_push meant lens all (n + 1) m xs ps x p (omega arith) h.2 reads len)
reads_push meant lens all n m (item.Jump jump to ∷ xs) [] x p e h reads len = absurd h
reads_push meant lens all n m (item.Jump jump to ∷ xs) (q ∷ ps) x p e h reads len = (h.0, h.1, reads_push meant lens all (n + 1) m xs ps x p (omega arith) h.2 reads len)
reads_push meant lens all n m (item.Bind bound ∷ xs) ps x p e h reads len = reads_push meant lens all n m xs ps x p e h reads len

reads_bind : {I : Type 0} (meant : I → Listed) (lens : List ℕ) (all : List (Item I)) (n : ℕ) (xs : List (Item I)) (ps : List Piece) (bound : Label) → EachReads meant lens all n xs ps → EachReads meant lens all n (xs ++ item.Bind bound ∷ []) ps
reads_bind meant lens all n [] ps bound h = h
reads_bind meant lens all n (item.Inst inst ∷ xs) [] bound h = absurd h
reads_bind meant lens all n (item.Inst inst ∷ xs) (q ∷ ps) bound h = (h.0, h.1, reads_bind meant lens all (n + 1) xs ps bound h.2)
reads_bind meant lens all n (item.Jump jump to ∷ xs) [] bound h = absurd h
reads_bind meant lens all n (item.Jump jump to ∷ xs) (q ∷ ps) bound h = (h.0, h.1, reads_bind meant lens all (n + 1) xs ps bound h.2)
reads_bind meant lens all n (item.Bind other ∷ xs) ps bound h = reads_bind meant lens all n xs ps bound h

keeps_on : {s u t : State} → Keeps s u → Keeps u t → Keeps s t
keeps_on h k = record { offsets = k.offsets ∙ h.offsets; records = k.records ∙ h.records; answers = k.answers ∙ h.answers }

-- room for so many more has room for fewer
pub fewer : (s : Room) (k room : ℕ) → k ≤ room → HasRoom s room → HasRoom s k
fewer endless k room few h = tt
fewer (count m) k room few h = omega arith

or_none : (o : Option ℕ) → option_or o None ≡ o
or_none None = refl
or_none (Some n) = refl

spot_same : {I : Type 0} (label : ℕ) (xs : List (Item I)) (x : Item I) → counted x ≡ 1 → spot_of label (xs ++ x ∷ []) ≡ spot_of label xs
spot_same label xs (item.Inst inst) one = spot_push label xs (item.Inst inst) ∙ or_none (spot_of label xs)
spot_same label xs (item.Jump jump to) one = spot_push label xs (item.Jump jump to) ∙ or_none (spot_of label xs)
spot_same label xs (item.Bind bound) one = absurd (omega arith)

no_label : {I : Type 0} (xs : List (Item I)) (x : Item I) (goes_to : DeferredTarget) → counted x ≡ 1 → IsNoLabelOf (xs ++ x ∷ []) goes_to → IsNoLabelOf xs goes_to
no_label xs x (target.Label label) one h = sym (spot_same label.0 xs x one) ∙ h
no_label xs x (target.Constant constant) one h = tt
no_label xs x target.None one h = tt

-- Nothing is put yet.
pub put_none : {I : Type 0} (meant : I → Listed) (lens : List ℕ) (all : List (Item I)) (s : State) (places : DeferredTarget → Option ℕ) → HasRoom s.byte_room (13 + sum lens) → HasRoom s.notice_room (1 + length all) → Put meant lens all [] s s places places
put_none meant lens all s places bytes notices = record {
  more = [];
  added = [];
  reads = refl;
  read = refl;
  bytes = sym (append-nil s.bytes);
  told = sym (append-nil s.notices);
  laid = λ pieces h. subst (λ (z : List Piece). Laid z (length s.bytes) s places) (sym (append-nil pieces)) h;
  size = omega arith;
  bound = λ label spot is. cc;
  others = λ goes_to none. refl;
  keeps = record { offsets = refl; records = refl; answers = refl };
  byte_room = bytes;
  notice_room = fewer s.notice_room _ (1 + length all) (omega arith) notices;
}

-- A span more.
pub put_entry : {I : Type 0} (meant : I → Listed) (lens : List ℕ) (all xs : List (Item I)) (x : Item I) (s u t : State) (old mid new : DeferredTarget → Option ℕ) → counted x ≡ 1 → entries xs < length lens → length xs < length all → Put meant lens all xs s u old mid → GotEntry (ItemReads meant lens all (entries xs) x) (item_told meant all x) (slice_index lens (entries xs)) u t mid new → Put meant lens all (xs ++ x ∷ []) s t old new
put_entry {I = I} meant lens all xs x s u t old mid new one within few held got =
    let e : entries (xs ++ x ∷ []) ≡ entries xs + 1 = omega (arith, entries_push xs x, one) in
    let left : sum (drop (entries xs) lens) ≡ get_or lens (entries xs) 0 + sum (drop (entries xs + 1) lens) = sum_by-drop_more (λ (n : ℕ). n) lens (entries xs) 0 within in
    let bytes : 13 + sum (drop (entries xs) lens) ≡ 13 + sum (drop (entries xs + 1) lens) + slice_index lens (entries xs) = omega (arith, left) in
    let room : HasRoom t.byte_room (13 + sum (drop (entries xs + 1) lens)) = got.byte_room (13 + sum (drop (entries xs + 1) lens)) (subst (HasRoom u.byte_room) bytes held.byte_room) in
    let notices : 1 + (length all - length xs) ≡ 1 + (length all - length (xs ++ x ∷ [])) + 1 = omega (arith, length_push xs x) in
    let at : length t.bytes ≡ length s.bytes + place_in lens (entries xs + 1) = omega (arith, got.more, held.size, place_more lens (entries xs)) in
    let p : Piece = got.piece in
    let longer : length t.bytes ≡ length u.bytes + length got.added = ap length got.bytes ∙ length-append u.bytes got.added in
    let len : (reading_in p).length ≡ slice_index lens (entries xs) = omega (arith, got.is.length, got.more, longer) in
    let held_bytes : length u.bytes ≡ length s.bytes + length held.added = ap length held.bytes ∙ length-append s.bytes held.added in
    let here : length u.bytes ≡ length s.bytes + pieces_length held.more = omega (arith, held_bytes, pieces_total held.more held.added held.read) in
    record {
      more = held.more ++ p ∷ [];
      added = held.added ++ got.added;
      reads = reads_push meant lens all 0 (entries xs) xs held.more x p (omega arith) held.reads got.piece_reads len;
      read = pieces_more held.more p held.added got.added held.read got.is.reads got.is.length got.is.least;
      bytes = got.bytes ∙ ap (λ (z : List ℕ). z ++ got.added) held.bytes ∙ append_assoc s.bytes held.added got.added;
      told =
          got.told ∙ ap (λ (z : List Notice). z ++ item_told meant all x (length u.bytes) p) held.told ∙ append_assoc s.notices (all_told meant all (length s.bytes) xs held.more) (item_told meant all x (length u.bytes) p)
          ∙ ap (λ (n : ℕ). s.notices ++ (all_told meant all (length s.bytes) xs held.more ++ item_told meant all x n p)) here
          ∙ ap (λ (z : List Notice). s.notices ++ z) (sym (told_push meant lens all 0 (length s.bytes) xs held.more x p held.reads));
      laid = λ pieces h. subst (λ (z : List Piece). Laid z (length t.bytes) t new) (append_assoc pieces held.more (p ∷ [])) (got.laid (pieces ++ held.more) (held.laid pieces h));
      size = subst (λ (n : ℕ). length t.bytes ≡ length s.bytes + place_in lens n) (sym e) at;
      bound = λ label spot is. got.places (target.Label (record { 0 = label })) ∙ held.bound label spot (sym (spot_same label xs x one) ∙ is);
      others = λ goes_to none. got.places goes_to ∙ held.others goes_to (no_label xs x goes_to one none);
      keeps = keeps_on held.keeps got.keeps;
      byte_room = subst (λ (n : ℕ). HasRoom t.byte_room (13 + sum (drop n lens))) (sym e) room;
      notice_room = got.notice_room (1 + (length all - length (xs ++ x ∷ []))) (subst (HasRoom u.notice_room) notices held.notice_room);
    }

-- A label's position.

abbrev number_of : DeferredTarget → ℕ
number_of (target.Label label) = label.0
number_of (target.Constant constant) = 0
number_of target.None = 0

spot_other : {I : Type 0} (label : ℕ) (xs : List (Item I)) (bound : Label) → (label ≡ bound.0 → ⊥) → spot_of label (xs ++ item.Bind bound ∷ []) ≡ spot_of label xs
spot_other label xs bound ne =
    let not_it : (bound.0 == label) ≡ false = ne_eqb bound.0 label (λ e. ne (sym e)) in
    spot_push label xs (item.Bind bound) ∙ ap (λ (b : Bool). option_or (spot_of label xs) (if b then Some (entries xs) else None)) not_it ∙ or_none (spot_of label xs)

spot_itself : {I : Type 0} (xs : List (Item I)) (bound : Label) → spot_of bound.0 xs ≡ None → spot_of bound.0 (xs ++ item.Bind bound ∷ []) ≡ Some (entries xs)
spot_itself xs bound free =
    let it : (bound.0 == bound.0) ≡ true = eq-eqb bound.0 bound.0 refl in
    spot_push bound.0 xs (item.Bind bound) ∙ ap (λ (b : Bool). option_or (spot_of bound.0 xs) (if b then Some (entries xs) else None)) it ∙ ap (λ (o : Option ℕ). option_or o (Some (entries xs))) free

bound_by : {I : Type 0} (meant : I → Listed) (lens : List ℕ) (all xs : List (Item I)) (bound : Label) (s u : State) (old mid new : DeferredTarget → Option ℕ) (label spot : ℕ) → spot_of bound.0 xs ≡ None → AddsBinding (target.Label bound) (length u.bytes) mid new → Put meant lens all xs s u old mid → spot_of label (xs ++ item.Bind bound ∷ []) ≡ Some spot → (label ≡ bound.0) ⊎ (label ≡ bound.0 → ⊥) → new (target.Label (record { 0 = label })) ≡ Some (length s.bytes + place_in lens spot)
bound_by meant lens all xs bound s u old mid new label spot free adds held is (inl e) =
    let at : spot_of bound.0 (xs ++ item.Bind bound ∷ []) ≡ Some spot = subst (λ (n : ℕ). spot_of n (xs ++ item.Bind bound ∷ []) ≡ Some spot) e is in
    let same : Some (entries xs) ≡ Some spot = sym (spot_itself xs bound free) ∙ at in
    let here : entries xs ≡ spot = cc in
    ap (λ (n : ℕ). new (target.Label (record { 0 = n }))) e ∙ adds.bound ∙ ap (λ (n : ℕ). Some n) (held.size ∙ ap (λ (n : ℕ). length s.bytes + place_in lens n) here)
bound_by meant lens all xs bound s u old mid new label spot free adds held is (inr ne) =
    adds.others (target.Label (record { 0 = label })) (λ e. ne (ap number_of e)) ∙ held.bound label spot (sym (spot_other label xs bound ne) ∙ is)

others_by : {I : Type 0} (meant : I → Listed) (lens : List ℕ) (all xs : List (Item I)) (bound : Label) (s u : State) (old mid new : DeferredTarget → Option ℕ) (label : Label) → spot_of bound.0 xs ≡ None → AddsBinding (target.Label bound) (length u.bytes) mid new → Put meant lens all xs s u old mid → spot_of label.0 (xs ++ item.Bind bound ∷ []) ≡ None → (label.0 ≡ bound.0) ⊎ (label.0 ≡ bound.0 → ⊥) → new (target.Label label) ≡ old (target.Label label)
others_by meant lens all xs bound s u old mid new label free adds held none (inl e) =
    let at : spot_of bound.0 (xs ++ item.Bind bound ∷ []) ≡ None = subst (λ (n : ℕ). spot_of n (xs ++ item.Bind bound ∷ []) ≡ None) e none in
    let same : Some (entries xs) ≡ None = sym (spot_itself xs bound free) ∙ at in
    cc
others_by meant lens all xs bound s u old mid new label free adds held none (inr ne) =
    adds.others (target.Label label) (λ e. ne (ap number_of e)) ∙ held.others (target.Label label) (sym (spot_other label.0 xs bound ne) ∙ none)

others_bind : {I : Type 0} (meant : I → Listed) (lens : List ℕ) (all xs : List (Item I)) (bound : Label) (s u : State) (old mid new : DeferredTarget → Option ℕ) (goes_to : DeferredTarget) → spot_of bound.0 xs ≡ None → AddsBinding (target.Label bound) (length u.bytes) mid new → Put meant lens all xs s u old mid → IsNoLabelOf (xs ++ item.Bind bound ∷ []) goes_to → new goes_to ≡ old goes_to
others_bind meant lens all xs bound s u old mid new (target.Label label) free adds held none = others_by meant lens all xs bound s u old mid new label free adds held none (cases_eq label.0 bound.0)
others_bind meant lens all xs bound s u old mid new (target.Constant constant) free adds held none = adds.others (target.Constant constant) (λ e. cc) ∙ held.others (target.Constant constant) tt
others_bind meant lens all xs bound s u old mid new target.None free adds held none = adds.others target.None (λ e. cc) ∙ held.others target.None tt

pub put_bind : {I : Type 0} (meant : I → Listed) (lens : List ℕ) (all xs : List (Item I)) (bound : Label) (s u t : State) (old mid new : DeferredTarget → Option ℕ) → spot_of bound.0 xs ≡ None → AddsBinding (target.Label bound) (length u.bytes) mid new → t ≡ u → ((pieces : List Piece) (n : ℕ) → Laid pieces n u mid → Laid pieces n t new) → Put meant lens all xs s u old mid → Put meant lens all (xs ++ item.Bind bound ∷ []) s t old new
put_bind meant lens all xs bound s u t old mid new free adds same stays held =
    let e : entries xs ≡ entries (xs ++ item.Bind bound ∷ []) = omega (arith, entries_push xs (item.Bind bound)) in
    subst (λ (z : State). Put meant lens all (xs ++ item.Bind bound ∷ []) s z old new) (sym same)
    (record {
      more = held.more;
      added = held.added;
      reads = reads_bind meant lens all 0 xs held.more bound held.reads;
      read = held.read;
      bytes = held.bytes;
      told = held.told ∙ ap (λ (z : List Notice). s.notices ++ z) (sym (told_bind meant lens all 0 (length s.bytes) xs held.more bound held.reads));
      laid = λ pieces h. subst (λ (z : State). Laid (pieces ++ held.more) (length u.bytes) z new) same (stays (pieces ++ held.more) (length u.bytes) (held.laid pieces h));
      size = subst (λ (n : ℕ). length u.bytes ≡ length s.bytes + place_in lens n) e held.size;
      bound = λ label spot is. bound_by meant lens all xs bound s u old mid new label spot free adds held is (cases_eq label bound.0);
      others = λ goes_to none. others_bind meant lens all xs bound s u old mid new goes_to free adds held none;
      keeps = held.keeps;
      byte_room = subst (λ (n : ℕ). HasRoom u.byte_room (13 + sum (drop n lens))) e held.byte_room;
      notice_room = fewer u.notice_room _ (1 + (length all - length xs)) (omega (arith, length_push xs (item.Bind bound))) held.notice_room;
    })
