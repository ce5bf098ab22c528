use Rattle.std.proofs.Common.{◌≡◌, ℕ, zero, suc, ◌+◌, ◌<◌, ◌≤◌, ◌⊎◌, inl, inr, arith, refl, ◌∙◌, ap, sym, subst, Option, Some, None, List, [], ◌∷◌, ◌++◌, length, take, get_or, slice_get, All, set}
use Rattle.std.specs.Prelude.{IfSome, IsSome, option_map, option_and_then, nat_lt, if◌then◌else◌, Bool, true, false, FitsSigned, slice_index, Ok, Err}
use Rattle.std.specs.Option.{option_or}
use Rattle.std.specs.Int.{w8}
use Rattle.std.proofs.lemmas.Bool.{ltb-true, lt-ltb, cases_lt}
use Rattle.std.proofs.lemmas.List.{take_more, take_more_set, length-take-le}
use Rattle.std.proofs.lemmas.List.Elements.{All-push}
use Rattle.std.proofs.lemmas.Option.{slice_get_read, slice_get_past, slice_get_within, same_Some}
use Rattle.cax64_encoder.specs.declared.fault.Fault.{Fault}
use Rattle.cax64_sink.specs.declared.DeferredTarget.{DeferredTarget}
use Rattle.cax64_sink.specs.declared.DeferredTarget.TheVariants as target
use Rattle.cax64_sink.specs.declared.Label.{Label}
use Rattle.x64_code_buffer.specs.Binding.{bind_answer, unless_bound}
use Rattle.x64_code_buffer.specs.Jump.{short_row}
use Rattle.x64_code_buffer.specs.declared.errors.BindError.{BindError}
use Rattle.x64_code_buffer.specs.declared.errors.BindError.TheVariants.{Unknown}
use Rattle.x64_code_buffer.specs.declared.jump.Condition.{Condition}
use Rattle.x64_code_buffer.specs.declared.jump.Condition.TheVariants as cond
use Rattle.x64_code_buffer.specs.declared.jump.Jump.{Jump}
use Rattle.x64_code_buffer.specs.declared.jump.Jump.TheVariants.{Always, Call, If}
use Rattle.x64_layout.specs.Layout.{AreSpans, IsLayout, IsSpan, Stands}
use Rattle.x64_layout.specs.declared.span.Span.{Span}
use Rattle.x64_assemble.specs.Assembled.{distance_in, entries, long_len, span_of, spans_of, spot_of}
use Rattle.x64_assemble.specs.Listed.{Listed}
use Rattle.x64_assemble.specs.Putting.{AreFree, CanPut}
use Rattle.x64_assemble.specs.Refused.{IsFirstRefusal, bind_refusal, error_in, item_refusal, number_in, refusal_at}
use Rattle.x64_assemble.specs.declared.errors.LayoutError.{LayoutError}
use Rattle.x64_assemble.specs.declared.errors.LayoutError.TheVariants as refusal
use Rattle.x64_assemble.specs.declared.item.Item.{Item}
use Rattle.x64_assemble.specs.declared.item.Item.TheVariants as item
use Rattle.x64_assemble.proofs.Items.{counted, entries_push, entries_most}
use Rattle.x64_layout.specs.declared.span.TheConstants.{MOST_SPANS}

-- One item of a list.

pub get_item : {I : Type 0} (items : List (Item I)) (n : ℕ) (x y : Item I) → n < length items → x ≡ get_or items n x → x ≡ y → slice_get items n ≡ Some y
get_item {I = I} items n x y within is e = slice_get_read items (length items) n x refl within is ∙ ap (λ (z : Item I). Some z) e

pub take_next : {I : Type 0} (items : List (Item I)) (n : ℕ) (x y : Item I) → n < length items → x ≡ get_or items n x → x ≡ y → take (n + 1) items ≡ take n items ++ y ∷ []
take_next {I = I} items n x y within is e = take_more items n x within ∙ ap (λ (z : Item I). take n items ++ z ∷ []) (sym is ∙ e)

pub entries_next : {I : Type 0} (items : List (Item I)) (n : ℕ) (x y : Item I) → n < length items → x ≡ get_or items n x → x ≡ y → entries (take (n + 1) items) ≡ entries (take n items) + counted y
entries_next items n x y within is e = ap entries (take_next items n x y within is e) ∙ entries_push (take n items) y

pub entries_few : {I : Type 0} (items : List (Item I)) (n : ℕ) → n ≤ length items → entries (take n items) ≤ n
entries_few items n within = omega (arith, entries_most (take n items), length-take-le n items within)

-- Refusals.

pub refused_at : {I : Type 0} (fault : I → Option Fault) (given : ℕ) (places : DeferredTarget → Option ℕ) (items : List (Item I)) (n : ℕ) (x : Item I) (why : Option LayoutError) → slice_get items n ≡ Some x → item_refusal fault given places (take n items) n x ≡ why → refusal_at fault given places items n ≡ why
refused_at fault given places items n x why is h = ap (option_and_then (item_refusal fault given places (take n items) n)) is ∙ h

past : {I : Type 0} (fault : I → Option Fault) (given : ℕ) (places : DeferredTarget → Option ℕ) (items : List (Item I)) (m n : ℕ) → ((k : ℕ) → k < m → refusal_at fault given places items k ≡ None) → length items ≤ m → (n < m) ⊎ (m ≤ n) → refusal_at fault given places items n ≡ None
past fault given places items m n h all (inl lt) = h n lt
past fault given places items m n h all (inr le) = ap (option_and_then (item_refusal fault given places (take n items) n)) (slice_get_past items n (omega arith))

pub all_tested : {I : Type 0} (fault : I → Option Fault) (given : ℕ) (places : DeferredTarget → Option ℕ) (items : List (Item I)) (m : ℕ) → ((k : ℕ) → k < m → refusal_at fault given places items k ≡ None) → length items ≤ m → (n : ℕ) → refusal_at fault given places items n ≡ None
all_tested fault given places items m h all = λ n. past fault given places items m n h all (cases_lt n m)

map_none : {A B : Type 0} (f : A → B) (o : Option A) → option_map f o ≡ None → o ≡ None
map_none f None h = refl
map_none f (Some a) h = cc

error_by : (b : Bool) (given label : ℕ) (p s : Option ℕ) → nat_lt label given ≡ b → error_in (if b then unless_bound (option_or p s) else Err Unknown) ≡ None → (label < given) × (p ≡ None) × (s ≡ None)
error_by true given label None None e h = (ltb-true label given e, refl, refl)
error_by true given label None (Some q) e h = cc
error_by true given label (Some q) s e h = cc
error_by false given label p s e h = cc

pub free_label : {I : Type 0} (given : ℕ) (places : DeferredTarget → Option ℕ) (before : List (Item I)) (label : Label) → bind_refusal given places before label.0 ≡ None → (label.0 < given) × (places (target.Label label) ≡ None) × (spot_of label.0 before ≡ None)
free_label given places before label h = error_by (nat_lt label.0 given) given label.0 (places (target.Label label)) (spot_of label.0 before) refl h

pub are_free : {I : Type 0} (fault : I → Option Fault) (given : ℕ) (places : DeferredTarget → Option ℕ) (items : List (Item I)) → ((n : ℕ) → refusal_at fault given places items n ≡ None) → AreFree given places items
are_free fault given places items tested = λ k label is.
    let h : option_map (refusal.Bind k) (bind_refusal given places (take k items) label.0) ≡ None = sym (ap (option_and_then (item_refusal fault given places (take k items) k)) is) ∙ tested k in
    free_label given places (take k items) label (map_none (refusal.Bind k) (bind_refusal given places (take k items) label.0) h)

pub can_put_all : {I : Type 0} (meant : I → Listed) (given : ℕ) (places : DeferredTarget → Option ℕ) (items : List (Item I)) → ((n : ℕ) → refusal_at (λ i. (meant i).fault) given places items n ≡ None) → CanPut meant items
can_put_all {I = I} meant given places items tested = λ k i is.
    let h : option_map (refusal.Fault k) (meant i).fault ≡ None = sym (ap (option_and_then (item_refusal (λ (j : I). (meant j).fault) given places (take k items) k)) is) ∙ tested k in
    map_none (refusal.Fault k) (meant i).fault h

-- Spans.

abbrev pub item_spans : {I : Type 0} → (I → ℕ) → List (Item I) → Item I → List Span
item_spans len all (item.Inst inst) = record { least = len inst; more = 0; spot = None } ∷ []
item_spans len all (item.Jump jump to) = span_of jump (spot_of to.0 all) ∷ []
item_spans len all (item.Bind bound) = []

pub spans_push : {I : Type 0} (len : I → ℕ) (all xs : List (Item I)) (x : Item I) → spans_of len all (xs ++ x ∷ []) ≡ spans_of len all xs ++ item_spans len all x
spans_push len all [] (item.Inst inst) = refl
spans_push len all [] (item.Jump jump to) = refl
spans_push len all [] (item.Bind bound) = refl
spans_push len all (item.Inst inst ∷ xs) x = ap (λ (z : List Span). record { least = len inst; more = 0; spot = None } ∷ z) (spans_push len all xs x)
spans_push len all (item.Jump jump to ∷ xs) x = ap (λ (z : List Span). span_of jump (spot_of to.0 all) ∷ z) (spans_push len all xs x)
spans_push len all (item.Bind bound ∷ xs) x = spans_push len all xs x

pub spans_few : {I : Type 0} (len : I → ℕ) (all xs : List (Item I)) → length (spans_of len all xs) ≡ entries xs
spans_few len all [] = refl
spans_few len all (item.Inst inst ∷ xs) = ap suc (spans_few len all xs)
spans_few len all (item.Jump jump to ∷ xs) = ap suc (spans_few len all xs)
spans_few len all (item.Bind bound ∷ xs) = spans_few len all xs

first_span : {I : Type 0} (len : I → ℕ) (all xs : List (Item I)) (y x : Item I) (s : Span) → y ≡ x → item_spans len all x ≡ s ∷ [] → slice_get (spans_of len all (y ∷ xs)) 0 ≡ Some s
first_span len all xs (item.Inst inst) x s e one = let h : record { least = len inst; more = 0; spot = None } ∷ [] ≡ s ∷ [] = ap (item_spans len all) e ∙ one in cc
first_span len all xs (item.Jump jump to) x s e one = let h : span_of jump (spot_of to.0 all) ∷ [] ≡ s ∷ [] = ap (item_spans len all) e ∙ one in cc
first_span len all xs (item.Bind bound) x s e one = let h : [] ≡ s ∷ [] = ap (item_spans len all) e ∙ one in cc

pub span_there : {I : Type 0} (len : I → ℕ) (all xs : List (Item I)) (k : ℕ) (x : Item I) (s : Span) → slice_get xs k ≡ Some x → item_spans len all x ≡ s ∷ [] → slice_get (spans_of len all xs) (entries (take k xs)) ≡ Some s
span_there len all [] k x s is one = cc
span_there len all (y ∷ xs) zero x s is one = first_span len all xs y x s (same_Some y x is) one
span_there len all (item.Inst inst ∷ xs) (suc k) x s is one = span_there len all xs k x s is one
span_there len all (item.Jump jump to ∷ xs) (suc k) x s is one = span_there len all xs k x s is one
span_there len all (item.Bind bound ∷ xs) (suc k) x s is one = span_there len all xs k x s is one

-- one length, and no jump
abbrev pub plain : ℕ → Span
plain len = record { least = len; more = 0; spot = None }

pub inst_span : (n len : ℕ) → len ≤ 13 → IsSpan n (record { least = len; more = 0; spot = None })
inst_span n len most = record { most = omega arith; within = tt }

pub jump_span : (jump : Jump) (o : Option ℕ) (n : ℕ) → IfSome o (λ s. s ≤ n) → IsSpan n (span_of jump o)
jump_span Call None n h = record { most = omega arith; within = tt }
jump_span Always None n h = record { most = omega arith; within = tt }
jump_span (If condition) None n h = record { most = omega arith; within = tt }
jump_span Call (Some s) n h = record { most = omega arith; within = tt }
jump_span Always (Some s) n h = record { most = omega arith; within = h }
jump_span (If condition) (Some s) n h = record { most = omega arith; within = h }

-- one span more is noted
pub noted_more : (spans noted : List Span) (n : ℕ) (s : Span) → n < length spans → take n spans ≡ noted → take (n + 1) (set spans n s) ≡ noted ++ s ∷ []
noted_more spans noted n s within h = take_more_set spans n s within ∙ ap (λ (z : List Span). z ++ s ∷ []) h

pub each_more : (P : Span → Type 0) (spans : List Span) (n : ℕ) (s : Span) → n < length spans → All P (take n spans) → P s → All P (take (n + 1) (set spans n s))
each_more P spans n s within h here = subst (All P) (sym (take_more_set spans n s within)) (All-push P (take n spans) s h here)

-- What a layout says of the lengths.

pub inst_len : (lens : List ℕ) (n len : ℕ) → Stands lens n (record { least = len; more = 0; spot = None }) (slice_index lens n) → slice_index lens n ≡ len
inst_len lens n len (inl h) = h.0
inst_len lens n len (inr h) = omega arith

pub open_len : (jump : Jump) (lens : List ℕ) (n : ℕ) → Stands lens n (span_of jump None) (slice_index lens n) → slice_index lens n ≡ long_len jump
open_len jump lens n h = inst_len lens n (long_len jump) h

if_short : (condition : Condition) → IsSome (short_row (If condition))
if_short cond.O = refl
if_short cond.No = refl
if_short cond.B = refl
if_short cond.Ae = refl
if_short cond.E = refl
if_short cond.Ne = refl
if_short cond.Be = refl
if_short cond.A = refl
if_short cond.S = refl
if_short cond.Ns = refl
if_short cond.P = refl
if_short cond.Np = refl
if_short cond.L = refl
if_short cond.Ge = refl
if_short cond.Le = refl
if_short cond.G = refl

-- two bytes are those of a form that there is, and reach
pub near_stands : (jump : Jump) (lens : List ℕ) (n spot : ℕ) → Stands lens n (span_of jump (Some spot)) (slice_index lens n) → slice_index lens n ≡ 2 → IsSome (short_row jump) × FitsSigned w8 (distance_in lens n spot)
near_stands Call lens n spot h two = let five : slice_index lens n ≡ 5 = inst_len lens n 5 h in absurd (omega arith)
near_stands Always lens n spot (inl h) two = (refl, h.1)
near_stands Always lens n spot (inr h) two = absurd (omega arith)
near_stands (If condition) lens n spot (inl h) two = (if_short condition, h.1)
near_stands (If condition) lens n spot (inr h) two = absurd (omega arith)

-- and any others are those of the longer form
pub far_stands : (jump : Jump) (lens : List ℕ) (n spot : ℕ) → Stands lens n (span_of jump (Some spot)) (slice_index lens n) → (slice_index lens n ≡ 2 → ⊥) → slice_index lens n ≡ long_len jump
far_stands Call lens n spot h two = inst_len lens n 5 h
far_stands Always lens n spot (inl h) two = absurd (two h.0)
far_stands Always lens n spot (inr h) two = h
far_stands (If condition) lens n spot (inl h) two = absurd (two h.0)
far_stands (If condition) lens n spot (inr h) two = h

-- the next span of a list that is an instruction, or a jump

pub inst_at : {I : Type 0} (len : I → ℕ) (items : List (Item I)) (k : ℕ) (inst : I) (lens : List ℕ) → slice_get items k ≡ Some (item.Inst inst) → IsLayout (spans_of len items items) lens → (entries (take k items) < length lens) × (slice_index lens (entries (take k items)) ≡ len inst)
inst_at len items k inst lens is layout =
    let s : Span = record { least = len inst; more = 0; spot = None } in
    let there : slice_get (spans_of len items items) (entries (take k items)) ≡ Some s = span_there len items items k (item.Inst inst) s is refl in
    let within : entries (take k items) < length (spans_of len items items) = slice_get_within (spans_of len items items) (entries (take k items)) s there in
    (omega (arith, layout.as_many), inst_len lens (entries (take k items)) (len inst) (layout.each (entries (take k items)) s there))

pub jump_at : {I : Type 0} (len : I → ℕ) (items : List (Item I)) (k : ℕ) (jump : Jump) (to : Label) (lens : List ℕ) → slice_get items k ≡ Some (item.Jump jump to) → IsLayout (spans_of len items items) lens → (entries (take k items) < length lens) × Stands lens (entries (take k items)) (span_of jump (spot_of to.0 items)) (slice_index lens (entries (take k items)))
jump_at len items k jump to lens is layout =
    let s : Span = span_of jump (spot_of to.0 items) in
    let there : slice_get (spans_of len items items) (entries (take k items)) ≡ Some s = span_there len items items k (item.Jump jump to) s is refl in
    let within : entries (take k items) < length (spans_of len items items) = slice_get_within (spans_of len items items) (entries (take k items)) s there in
    (omega (arith, layout.as_many), layout.each (entries (take k items)) s there)

pub answer_ok : (given number : ℕ) (o : Option ℕ) → number < given → o ≡ None → bind_answer given number o ≡ Ok tt
answer_ok given number o below none = rw (none, lt-ltb number given below) refl

pub spans_are : {I : Type 0} (len : I → ℕ) (items : List (Item I)) (noted : List Span) → noted ≡ spans_of len items items → All (IsSpan (entries items)) noted → length items ≤ MOST_SPANS → AreSpans noted
spans_are len items noted e each few =
    let as_many : length noted ≡ entries items = ap length e ∙ spans_few len items items in
    record {
      few = omega (arith, as_many, entries_most items);
      each = subst (λ (m : ℕ). All (IsSpan m) noted) (sym as_many) each;
    }

-- A refusal names the item that is refused.

fault_numbered : (n : ℕ) (p : Option Fault) (why : LayoutError) → option_map (refusal.Fault n) p ≡ Some why → number_in why ≡ Some n
fault_numbered n None why h = cc
fault_numbered n (Some f) why h = let is : why ≡ refusal.Fault n f = cc in ap number_in is

bind_numbered : (n : ℕ) (p : Option BindError) (why : LayoutError) → option_map (refusal.Bind n) p ≡ Some why → number_in why ≡ Some n
bind_numbered n None why h = cc
bind_numbered n (Some f) why h = let is : why ≡ refusal.Bind n f = cc in ap number_in is

numbered_by : {I : Type 0} (fault : I → Option Fault) (given : ℕ) (places : DeferredTarget → Option ℕ) (before : List (Item I)) (n : ℕ) (o : Option (Item I)) (why : LayoutError) → option_and_then (item_refusal fault given places before n) o ≡ Some why → number_in why ≡ Some n
numbered_by fault given places before n None why h = cc
numbered_by fault given places before n (Some (item.Inst inst)) why h = fault_numbered n (fault inst) why h
numbered_by fault given places before n (Some (item.Jump jump to)) why h = cc
numbered_by fault given places before n (Some (item.Bind bound)) why h = bind_numbered n (bind_refusal given places before bound.0) why h

pub first_named : {I : Type 0} (fault : I → Option Fault) (given : ℕ) (places : DeferredTarget → Option ℕ) (items : List (Item I)) (why : LayoutError) → ((n : ℕ) × IsFirstRefusal fault given places items n why) → IfSome (number_in why) (λ n. IsFirstRefusal fault given places items n why)
first_named fault given places items why h =
    let n : ℕ = h.0 in
    let is : number_in why ≡ Some n = numbered_by fault given places (take n items) n (slice_get items n) why h.1.is in
    subst (λ (o : Option ℕ). IfSome o (λ (m : ℕ). IsFirstRefusal fault given places items m why)) (sym is) h.1
