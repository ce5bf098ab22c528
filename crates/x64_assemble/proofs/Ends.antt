use Rattle.std.proofs.Common.{◌≡◌, ◌⊎◌, inl, inr, ℕ, ◌+◌, ◌≤◌, arith, refl, ◌∙◌, ap, sym, subst, true, Option, Some, None, List, ◌++◌, length, take, sum, Result, Ok, Err}
use Rattle.std.specs.Prelude.{OnOk, is_ok}
use Rattle.std.proofs.lemmas.List.{length-append, take-append-le, take_all}
use Rattle.std.proofs.lemmas.List.Sums.{sum_by-take-le}
use Rattle.cax64_sink.specs.Sink.{State}
use Rattle.cax64_sink.specs.declared.DeferredTarget.{DeferredTarget}
use Rattle.cax64_sink.specs.declared.DeferredTarget.TheVariants as target
use Rattle.cax64_sink.specs.declared.Label.{Label}
use Rattle.cax64_sink.specs.declared.Notice.{Notice}
use Rattle.x64_code_buffer.proofs.Laying.{uses_more}
use Rattle.x64_code_buffer.specs.Binding.{SamePlaces}
use Rattle.x64_code_buffer.specs.Filled.{Begins, places_told}
use Rattle.x64_code_buffer.specs.Laid.{Laid, Piece, PieceBegins}
use Rattle.x64_code_buffer.specs.Use.{uses_of}
use Rattle.x64_layout.specs.Layout.{IsLeast, place_in}
use Rattle.x64_assemble.specs.Assembled.{Assembled, IsNoLabelOf, PutsList, all_told, entries, spans_of, spot_of}
use Rattle.x64_assemble.specs.Listed.{Listed}
use Rattle.x64_assemble.specs.Putting.{Put}
use Rattle.x64_assemble.specs.declared.item.Item.{Item}
use Rattle.x64_assemble.proofs.Entries.{spans_few}

pub ok_given : {E P : Type 0} (r : Result (Unit {0}) E) → is_ok r ≡ true → OnOk r P → P
ok_given (Ok tt) is h = h
ok_given (Err e) is h = cc

-- the position of the end
pub all_bytes : (lens : List ℕ) (n : ℕ) → length lens ≡ n → place_in lens n ≡ sum lens
all_bytes lens n e = ap sum (take_all n lens (omega arith))

-- What stood in front of a list that was put.

-- a target is bound where it was, or behind what stood
bound_behind : {I : Type 0} (items : List (Item I)) (lens : List ℕ) (from_at end : ℕ) (old new : DeferredTarget → Option ℕ) → from_at + sum lens ≡ end → ((label spot : ℕ) → spot_of label items ≡ Some spot → new (target.Label (record { 0 = label })) ≡ Some (from_at + place_in lens spot)) → ((goes_to : DeferredTarget) → IsNoLabelOf items goes_to → new goes_to ≡ old goes_to) → (goes_to : DeferredTarget) (place : ℕ) → new goes_to ≡ Some place → (old goes_to ≡ Some place) ⊎ ((from_at ≤ place) × (place ≤ end))
bound_behind items lens from_at end old new size bound others goes_to place e = by_target goes_to e
  where
    by_spot : (label : Label) (o : Option ℕ) → spot_of label.0 items ≡ o → new (target.Label label) ≡ Some place → (old (target.Label label) ≡ Some place) ⊎ ((from_at ≤ place) × (place ≤ end))
    by_spot label None is e = inl (sym (others (target.Label label) is) ∙ e)
    by_spot label (Some spot) is e =
        let at : Some (from_at + place_in lens spot) ≡ Some place = sym (bound label.0 spot is) ∙ e in
        let here : from_at + place_in lens spot ≡ place = cc in
        let most : place_in lens spot ≤ sum lens = sum_by-take-le (λ (x : ℕ). x) lens spot in
        inr (omega arith, omega arith)

    by_target : (t : DeferredTarget) → new t ≡ Some place → (old t ≡ Some place) ⊎ ((from_at ≤ place) × (place ≤ end))
    by_target (target.Label label) e = by_spot label (spot_of label.0 items) refl e
    by_target (target.Constant constant) e = inl (sym (others (target.Constant constant) tt) ∙ e)
    by_target target.None e = inl (sym (others target.None tt) ∙ e)

-- a position that a reading or a piece begins at, or that lies behind all of them
stands : (B : ℕ → Type 0) (n end place from_at : ℕ) (was : Type 0) → n ≤ from_at → from_at ≤ end → (was → (B place ⊎ (n ≤ place)) × (place ≤ from_at)) → was ⊎ ((from_at ≤ place) × (place ≤ end)) → (B place ⊎ (n ≤ place)) × (place ≤ end)
stands B n end place from_at was within longer h (inl w) = ((h w).0, omega (arith, (h w).1))
stands B n end place from_at was within longer h (inr k) = (inr (omega (arith, k.0)), k.1)

-- A whole list is put.

pub puts_list : {I : Type 0} (meant : I → Listed) (items : List (Item I)) (lens : List ℕ) (s u t : State) (old mid new : DeferredTarget → Option ℕ) → IsLeast (spans_of (λ i. (meant i).len) items items) lens → u.bytes ≡ s.bytes → u.notices ≡ s.notices → SamePlaces old mid → Put meant lens items items u t mid new → PutsList meant items s t old new
puts_list meant items lens s u t old mid new least bytes notices same put =
    let before : length s.bytes ≡ length u.bytes = ap length (sym bytes) in
    let as_many : length lens ≡ entries items = least.layout.as_many ∙ spans_few (λ i. (meant i).len) items items in
    let all : t.bytes ≡ s.bytes ++ put.added = put.bytes ∙ ap (λ (z : List ℕ). z ++ put.added) bytes in
    let longer : length t.bytes ≡ length s.bytes + length put.added = ap length all ∙ length-append s.bytes put.added in
    let size : length put.added ≡ sum lens = omega (arith, put.size, before, longer, all_bytes lens (entries items) as_many) in
    let more : List Notice = all_told meant items (length s.bytes) items put.more in
    let told : t.notices ≡ s.notices ++ more = put.told ∙ ap (λ (z : List Notice). z ++ all_told meant items (length u.bytes) items put.more) notices ∙ ap (λ (n : ℕ). s.notices ++ all_told meant items n items put.more) (sym before) in
    let bound : (label spot : ℕ) → spot_of label items ≡ Some spot → new (target.Label (record { 0 = label })) ≡ Some (length s.bytes + place_in lens spot) = λ label spot is. put.bound label spot is ∙ ap (λ (n : ℕ). Some (n + place_in lens spot)) (sym before) in
    let others : (goes_to : DeferredTarget) → IsNoLabelOf items goes_to → new goes_to ≡ old goes_to = λ goes_to none. put.others goes_to none ∙ same goes_to in
    let uses : places_told (uses_of t.notices) ≡ places_told (uses_of s.notices) ++ places_told (uses_of more) = ap (λ (z : List Notice). places_told (uses_of z)) told ∙ uses_more s.notices more in
    let end : length s.bytes + sum lens ≡ length t.bytes = omega (arith, longer, size) in
    let where_bound = bound_behind items lens (length s.bytes) (length t.bytes) old new end bound others in
    let front : (n : ℕ) → n ≤ length s.bytes → take n t.bytes ≡ take n s.bytes = λ n within. ap (take n) all ∙ take-append-le n s.bytes put.added within in
    record {
      lens = lens;
      least = least;
      pieces = put.more;
      reads = put.reads;
      added = put.added;
      read = put.read;
      bytes = all;
      told = told;
      bound = bound;
      others = others;
      filled = λ readings n h. record {
        within = omega (arith, h.within, longer);
        reads = rw (front n h.within) h.reads;
        unpatched = h.unpatched;
        told = uses ∙ ap (λ (z : List ℕ). z ++ places_told (uses_of more)) h.told;
        bound = λ goes_to place e. stands (Begins 0 readings) n (length t.bytes) place (length s.bytes) (old goes_to ≡ Some place) h.within (omega (arith, longer)) (h.bound goes_to place) (where_bound goes_to place e);
      };
      laid = λ pieces n h. record {
        within = omega (arith, h.within, longer);
        reads = rw (front n h.within) h.reads;
        opened = h.opened;
        told = uses ∙ ap (λ (z : List ℕ). z ++ places_told (uses_of more)) h.told;
        bound = λ goes_to place e. stands (PieceBegins 0 pieces) n (length t.bytes) place (length s.bytes) (old goes_to ≡ Some place) h.within (omega (arith, longer)) (h.bound goes_to place) (where_bound goes_to place e);
      };
      length = size;
    }

-- and the buffer was laid out up to its end
pub assembled : {I : Type 0} (meant : I → Listed) (items : List (Item I)) (lens : List ℕ) (pieces : List Piece) (s u t : State) (old mid new : DeferredTarget → Option ℕ) → IsLeast (spans_of (λ i. (meant i).len) items items) lens → u.bytes ≡ s.bytes → u.notices ≡ s.notices → SamePlaces old mid → Laid pieces (length s.bytes) u mid → Put meant lens items items u t mid new → Assembled meant items pieces s t old new
unfolding puts_list
assembled meant items lens pieces s u t old mid new least bytes notices same h put =
    let all : PutsList meant items s t old new = puts_list meant items lens s u t old mid new least bytes notices same put in
    let longer : length t.bytes ≡ length s.bytes + length all.added = ap length all.bytes ∙ length-append s.bytes all.added in
    let before : length s.bytes ≡ length u.bytes = ap length (sym bytes) in
    record {
      lens = all.lens;
      least = all.least;
      more = put.more;
      reads = put.reads;
      laid = put.laid pieces (subst (λ (n : ℕ). Laid pieces n u mid) before h);
      told = put.told ∙ ap (λ (z : List Notice). z ++ all_told meant items (length u.bytes) items put.more) notices ∙ ap (λ (n : ℕ). s.notices ++ all_told meant items n items put.more) (sym before);
      length = longer ∙ ap (λ (n : ℕ). length s.bytes + n) all.length;
      bound = all.bound;
      others = all.others;
    }
