use Rattle.std.proofs.Common.{◌≡◌, ◌∙◌, ◌+◌, ◌<◌, ◌≤◌, ◌⊎◌, ℕ, ℤ, pos, ap, sym, subst, false, Option, None, List, [], length}
use Rattle.std.specs.Prelude.{Err, IfSome, Ok, Result, if◌then◌else◌, is_err, is_ok}
use Rattle.cax64_encoder.specs.declared.fault.Fault.{Fault}
use Rattle.cax64_sink.specs.Sink.{State}
use Rattle.cax64_sink.specs.declared.DeferredTarget.{DeferredTarget}
use Rattle.huqmeris_c.proofs.Made.{list_refused}
use Rattle.huqmeris_c.specs.Encodes.{no_offsets}
use Rattle.huqmeris_c.specs.Items.{CantBePut, FirstRefused}
use Rattle.huqmeris_c.specs.Putting.{Begun, HasItems, MakesEach, TellsOf, core_fault}
use Rattle.huqmeris_c.specs.declared.item.HqItem.{HqItem}
use Rattle.x64_assemble.specs.Assembled as laid_out
use Rattle.x64_assemble.specs.Listed.{listed}
use Rattle.x64_assemble.specs.Refused.{IsFirstRefusal, number_in, refusal_at}
use Rattle.x64_assemble.specs.declared.errors.LayoutError.{LayoutError}
use Rattle.x64_assemble.specs.declared.errors.LayoutError.TheVariants as refusal
use Rattle.x64_assemble.specs.declared.item.Item.{Item}
use Rattle.x64_code_buffer.specs.Binding.{SamePlaces}
use Rattle.x64_code_buffer.specs.Buffer.{StaysFilled, buffer_state, label_count, places_of}
use Rattle.x64_code_buffer.specs.Laid.{Laid, Piece}
use Rattle.x64_code_buffer.specs.declared.buffer.CodeBuffer.{CodeBuffer}
use Rattle.x64_core.specs.Core.{core_meant, fault_of}
use Rattle.x64_core.specs.View.{core_view}
use Rattle.x64_core.specs.declared.instruction.Core.{Core}
use Rattle.x64_layout.specs.declared.span.TheConstants.{MOST_SPANS}

-- Labels of a buffer that has nothing else.

one_more : {T E : Type 0} (r : Result T E) (a b : ℕ) → is_err r ≡ false → a ≡ b + (if is_ok r then 1 else 0) → a ≡ b + 1
one_more (Ok v) a b well h = h
one_more (Err e) a b well h = cc

pub begun_more : {A T E : Type 0} (r : Result T E) (n : ℕ) (b d : CodeBuffer A) → is_err r ≡ false → label_count d ≡ label_count b + (if is_ok r then 1 else 0) → buffer_state d ≡ buffer_state b → SamePlaces (places_of b) (places_of d) → StaysFilled b d → Begun n b → Begun (n + 1) d
begun_more r n b d well count state places filled h = record {
  labels = one_more r (label_count d) (label_count b) well count ∙ ap (λ (m : ℕ). m + 1) h.labels;
  bytes = ap (λ (s : State). s.bytes) state ∙ h.bytes;
  notices = ap (λ (s : State). s.notices) state ∙ h.notices;
  offsets = λ key. ap (λ (s : State). s.offsets key) state ∙ h.offsets key;
  places = λ goes_to. places goes_to ∙ h.places goes_to;
  laid = filled.laid [] 0 h.laid;
}

known : (s : State) → ((key : ℕ) → s.offsets key ≡ None) → s.offsets ≡ no_offsets
known s h = λ i key. h key i

pub has_items : {A : Type 0} (items : List HqItem) (xs : List (Item Core)) (b : CodeBuffer A) (t : State) (new : DeferredTarget → Option ℕ) → MakesEach items xs → Begun (label_count b) b → ((pieces : List Piece) → Laid pieces (length (buffer_state b).bytes) (buffer_state b) (places_of b) → laid_out.Assembled (λ core. listed (core_meant (core_view core)) (buffer_state b).offsets) xs pieces (buffer_state b) t (places_of b) new) → ((k : ℕ) → refusal_at (λ core. (listed (core_meant (core_view core)) (buffer_state b).offsets).fault) (label_count b) (places_of b) xs k ≡ None) → HasItems (label_count b) items t new
has_items items xs b t new makes h put tested =
    let s : State = buffer_state b in
    let none : s.offsets ≡ no_offsets = known s h.offsets in
    let start : length s.bytes ≡ 0 = ap (λ (l : List ℕ). length l) h.bytes in
    record {
      list = xs;
      makes = makes;
      before = s;
      old = places_of b;
      bytes = h.bytes;
      notices = h.notices;
      none = h.places;
      put = subst (λ (o : ℕ → Option ℤ). laid_out.Assembled (λ core. listed (core_meant (core_view core)) o) xs [] s t (places_of b) new) none (put [] (subst (λ (m : ℕ). Laid [] m s (places_of b)) (sym start) h.laid));
      tested = subst (λ (o : ℕ → Option ℤ). (k : ℕ) → refusal_at (λ core. (listed (core_meant (core_view core)) o).fault) (label_count b) (places_of b) xs k ≡ None) none tested;
    }

refused_first : (fault : Core → Option Fault) (given : ℕ) (places : DeferredTarget → Option ℕ) (xs : List (Item Core)) (e : LayoutError) (other : Core → Option Fault) → fault ≡ other → IfSome (number_in e) (λ k. IsFirstRefusal fault given places xs k e) → IfSome (number_in e) (λ k. IsFirstRefusal other given places xs k e)
refused_first fault given places xs e other same h = subst (λ (f : Core → Option Fault). IfSome (number_in e) (λ k. IsFirstRefusal f given places xs k e)) same h

pub put_refused : {A : Type 0} (items : List HqItem) (xs : List (Item Core)) (number : ℕ) (status : ℤ) (e : LayoutError) (b : CodeBuffer A) → MakesEach items xs → Begun (label_count b) b → length items ≤ MOST_SPANS → IfSome (number_in e) (λ k. IsFirstRefusal (λ core. (listed (core_meant (core_view core)) (buffer_state b).offsets).fault) (label_count b) (places_of b) xs k e) → (e ≡ refusal.TooMany → MOST_SPANS < length xs) → TellsOf e number status → (status ≡ pos 11) ⊎ FirstRefused (CantBePut (label_count b)) items number status
put_refused items xs number status e b makes h few first many told =
    let none : (buffer_state b).offsets ≡ no_offsets = known (buffer_state b) h.offsets in
    let is : IfSome (number_in e) (λ k. IsFirstRefusal core_fault (label_count b) (places_of b) xs k e) = refused_first (λ core. (listed (core_meant (core_view core)) (buffer_state b).offsets).fault) (label_count b) (places_of b) xs e core_fault (ap {B = Core → Option Fault} (λ (o : ℕ → Option ℤ) (core : Core). fault_of o (core_view core)) none) first in
    list_refused (label_count b) items xs (places_of b) number status e makes few h.places is many told
