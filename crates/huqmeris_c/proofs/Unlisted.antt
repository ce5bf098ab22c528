use Rattle.std.proofs.Common.{◌≡◌, ◌∙◌, ◌+◌, ◌≤◌, ◌⊎◌, inl, inr, ℕ, ℤ, pos, sym, ap, subst, arith, Option, List, [], ◌++◌, drop, length, slice_get, take}
use Rattle.std.proofs.lemmas.List.{length-take-le}
use Rattle.cax64_sink.specs.Sink.{State}
use Rattle.cax64_sink.specs.declared.DeferredTarget.{DeferredTarget}
use Rattle.huqmeris_c.proofs.Made.{can_be_put}
use Rattle.huqmeris_c.proofs.Refusing.{all_can, all_items, behind_refused, code_refused, data_refused, layout_refused}
use Rattle.huqmeris_c.proofs.Splits.{joined, no_data, starts}
use Rattle.huqmeris_c.specs.Data.{items_of_code, data_of}
use Rattle.huqmeris_c.specs.Items.{AreItems, CantBePut, FirstRefused, NoItem, NoneRefused}
use Rattle.huqmeris_c.specs.Putting.{AreData, BadDatum, Behind, Begun, Denied, FirstBehind, HasItems, ListedTo, MakesEach, NoCode, NoneBehind}
use Rattle.huqmeris_c.specs.declared.item.HqItem.{HqItem}
use Rattle.x64_assemble.specs.declared.item.Item.{Item}
use Rattle.x64_code_buffer.specs.Buffer.{buffer_state, label_count, places_of}
use Rattle.x64_code_buffer.specs.declared.buffer.CodeBuffer.{CodeBuffer}
use Rattle.x64_core.specs.declared.instruction.Core.{Core}
use Rattle.x64_layout.specs.declared.span.TheConstants.{MOST_SPANS}

-- Why items aren't listed, and why a list isn't put.

listed_refused : (items : List HqItem) (n : ℕ) (status : ℤ) → FirstRefused (λ before. NoCode) (items_of_code items) n status → FirstRefused NoItem items n status
listed_refused items n status h = subst (λ (l : List HqItem). FirstRefused NoItem l n status) (joined items) (code_refused (items_of_code items) (data_of items) n status (no_data items) h)

pub none_listed : (items : List HqItem) (count n : ℕ) (status : ℤ) → take count items ≡ items_of_code items → (status ≡ pos 11) ⊎ FirstRefused (λ before. NoCode) (take count items) n status → (status ≡ pos 11) ⊎ FirstRefused NoItem items n status
none_listed items count n status is (inl m) = inl m
none_listed items count n status is (inr h) = inr (listed_refused items n status (subst (λ (l : List HqItem). FirstRefused (λ before. NoCode) l n status) is h))

code_length : (items : List HqItem) (count : ℕ) → count ≤ length items → take count items ≡ items_of_code items → length (items_of_code items) ≡ count
code_length items count within is = ap (λ (l : List HqItem). length l) (sym is) ∙ length-take-le count items within

pub few_listed : (items : List HqItem) (count : ℕ) (xs : List (Item Core)) → ListedTo items count xs → length items ≤ MOST_SPANS → length (items_of_code items) ≤ MOST_SPANS
few_listed items count xs h few = let e : length (items_of_code items) ≡ count = code_length items count h.within h.code in let w : count ≤ length items = h.within in omega (arith, few, e, w)

pub bad_listed : (items : List HqItem) (xs : List (Item Core)) (count n : ℕ) → count ≤ length items → take count items ≡ items_of_code items → drop count items ≡ data_of items → MakesEach (take count items) xs → BadDatum (drop count items) n → FirstRefused NoItem items (count + n) (pos 12)
bad_listed items xs count n within is rest makes bad =
    let here : FirstRefused NoItem (items_of_code items ++ data_of items) (length (items_of_code items) + n) (pos 12) = data_refused (items_of_code items) (data_of items) xs n (no_data items) (starts items) (subst (λ (l : List HqItem). MakesEach l xs) is makes) (subst (λ (l : List HqItem). BadDatum l n) rest bad) in
    subst (λ (l : List HqItem). FirstRefused NoItem l (count + n) (pos 12)) (joined items) (subst (λ (m : ℕ). FirstRefused NoItem (items_of_code items ++ data_of items) (m + n) (pos 12)) (code_length items count within is) here)

pub listed_to : (items : List HqItem) (xs : List (Item Core)) (count : ℕ) → count ≤ length items → take count items ≡ items_of_code items → drop count items ≡ data_of items → MakesEach (take count items) xs → AreData (drop count items) → ListedTo items count xs
listed_to items xs count within is rest makes are = record {
  within = within;
  code = is;
  rest = rest;
  makes = subst (λ (l : List HqItem). MakesEach l xs) is makes;
  are_data = subst (λ (l : List HqItem). AreData l) rest are;
}

pub begun_all : {A : Type 0} (count : ℕ) (b : CodeBuffer A) → Begun count b → Begun (label_count b) b
begun_all count b h = subst (λ (n : ℕ). Begun n b) (sym h.labels) h

are_items : (items : List HqItem) (count : ℕ) (xs : List (Item Core)) → ListedTo items count xs → AreItems items
are_items items count xs h = subst (λ (l : List HqItem). AreItems l) (joined items) (all_items (items_of_code items) (data_of items) xs (no_data items) h.makes h.are_data)

refused_items : (items : List HqItem) (given count number : ℕ) (status : ℤ) (xs : List (Item Core)) → ListedTo items count xs → given ≡ length items → FirstRefused (CantBePut given) (items_of_code items ++ data_of items) number status → Denied items number status
refused_items items given count number status xs listed is h =
    inr (inr (inr (are_items items count xs listed, subst (λ (n : ℕ). FirstRefused (CantBePut n) items number status) is (subst (λ (l : List HqItem). FirstRefused (CantBePut given) l number status) (joined items) h))))

-- the list of code isn't put
pub code_unlisted : (items : List HqItem) (given count number : ℕ) (status : ℤ) (xs : List (Item Core)) → ListedTo items count xs → given ≡ length items → (status ≡ pos 11) ⊎ FirstRefused (CantBePut given) (items_of_code items) number status → Denied items number status
code_unlisted items given count number status xs listed is (inl m) = inl m
code_unlisted items given count number status xs listed is (inr h) = refused_items items given count number status xs listed is (layout_refused given (items_of_code items) (data_of items) number status h)

-- data behind it isn't put
data_unlisted : (items : List HqItem) (given count n : ℕ) (status : ℤ) (xs : List (Item Core)) (s : State) (places : DeferredTarget → Option ℕ) → ListedTo items count xs → given ≡ length items → HasItems given (items_of_code items) s places → (status ≡ pos 11) ⊎ FirstBehind given (items_of_code items) (drop count items) n status → Denied items (count + n) status
data_unlisted items given count n status xs s places listed is front (inl m) = inl m
data_unlisted items given count n status xs s places listed is front (inr h) =
    let rest : FirstBehind given (items_of_code items) (data_of items) n status = subst (λ (l : List HqItem). FirstBehind given (items_of_code items) l n status) listed.rest h in
    let here : FirstRefused (CantBePut given) (items_of_code items ++ data_of items) (length (items_of_code items) + n) status = behind_refused given (items_of_code items) (data_of items) n status (λ k x other there denied. can_be_put given (items_of_code items) front.list front.old k x other front.makes there (front.tested k) denied) rest in
    refused_items items given count (count + n) status xs listed is (subst (λ (m : ℕ). FirstRefused (CantBePut given) (items_of_code items ++ data_of items) (m + n) status) (code_length items count listed.within listed.code) here)

-- none is refused
none_refused : (items : List HqItem) (given count : ℕ) (xs : List (Item Core)) (s : State) (places : DeferredTarget → Option ℕ) → ListedTo items count xs → given ≡ length items → HasItems given (items_of_code items) s places → NoneBehind given (items_of_code items) (data_of items) (length (data_of items)) → NoneRefused items
none_refused items given count xs s places listed is front none = (
  are_items items count xs listed,
  λ k item status there denied.
      all_can given (items_of_code items) (data_of items) (λ j x other here c. can_be_put given (items_of_code items) front.list front.old j x other front.makes here (front.tested j) c) none k item status (ap (λ (l : List HqItem). slice_get l k) (joined items) ∙ there)
      (subst (λ (l : List HqItem). CantBePut given (take k l) item status) (sym (joined items)) (subst (λ (n : ℕ). CantBePut n (take k items) item status) (sym is) denied)),
)

pub none_refused_by : {A : Type 0} (items : List HqItem) (count : ℕ) (xs : List (Item Core)) (rest : List HqItem) → rest ≡ drop count items → (b d : CodeBuffer A) → ListedTo items count xs → label_count b ≡ label_count d → label_count d ≡ length items → Behind (label_count d) (items_of_code items) [] (buffer_state b) (places_of b) → (Behind (label_count b) (items_of_code items) [] (buffer_state b) (places_of b) → NoneBehind (label_count b) (items_of_code items) rest (length rest)) → NoneRefused items
none_refused_by items count xs rest all b d listed same is behind tested =
    let here : Behind (label_count b) (items_of_code items) [] (buffer_state b) (places_of b) = subst (λ (m : ℕ). Behind m (items_of_code items) [] (buffer_state b) (places_of b)) (sym same) behind in
    none_refused items (label_count b) count xs here.before here.old listed (same ∙ is) here.items (subst (λ (l : List HqItem). NoneBehind (label_count b) (items_of_code items) l (length l)) (all ∙ listed.rest) (tested here))

pub data_unlisted_by : {A : Type 0} (items : List HqItem) (count n : ℕ) (status : ℤ) (xs : List (Item Core)) (rest : List HqItem) → rest ≡ drop count items → (b d : CodeBuffer A) → ListedTo items count xs → label_count b ≡ label_count d → label_count d ≡ length items → Behind (label_count d) (items_of_code items) [] (buffer_state b) (places_of b) → (Behind (label_count b) (items_of_code items) [] (buffer_state b) (places_of b) → (status ≡ pos 11) ⊎ FirstBehind (label_count b) (items_of_code items) rest n status) → Denied items (count + n) status
data_unlisted_by items count n status xs rest all b d listed same is behind refused =
    let here : Behind (label_count b) (items_of_code items) [] (buffer_state b) (places_of b) = subst (λ (m : ℕ). Behind m (items_of_code items) [] (buffer_state b) (places_of b)) (sym same) behind in
    data_unlisted items (label_count b) count n status xs here.before here.old listed (same ∙ is) here.items (subst (λ (l : List HqItem). (status ≡ pos 11) ⊎ FirstBehind (label_count b) (items_of_code items) l n status) all (refused here))

all_behind : {A : Type 0} (items : List HqItem) (given count : ℕ) (xs : List (Item Core)) (b : CodeBuffer A) → ListedTo items count xs → given ≡ length items → Behind given (items_of_code items) (drop count items) (buffer_state b) (places_of b) → Behind (length items) (items_of_code items) (data_of items) (buffer_state b) (places_of b)
all_behind items given count xs b listed is h = subst (λ (n : ℕ). Behind n (items_of_code items) (data_of items) (buffer_state b) (places_of b)) is (subst (λ (l : List HqItem). Behind given (items_of_code items) l (buffer_state b) (places_of b)) listed.rest h)

pub all_behind_by : {A : Type 0} (items : List HqItem) (count : ℕ) (xs : List (Item Core)) (rest : List HqItem) → rest ≡ drop count items → (b d e : CodeBuffer A) → ListedTo items count xs → label_count b ≡ label_count d → label_count d ≡ length items → Behind (label_count d) (items_of_code items) [] (buffer_state b) (places_of b) → (Behind (label_count b) (items_of_code items) [] (buffer_state b) (places_of b) → Behind (label_count b) (items_of_code items) rest (buffer_state e) (places_of e)) → Behind (length items) (items_of_code items) (data_of items) (buffer_state e) (places_of e)
all_behind_by items count xs rest all b d e listed same is behind put =
    let here : Behind (label_count b) (items_of_code items) [] (buffer_state b) (places_of b) = subst (λ (m : ℕ). Behind m (items_of_code items) [] (buffer_state b) (places_of b)) (sym same) behind in
    all_behind items (label_count b) count xs e listed (same ∙ is) (subst (λ (l : List HqItem). Behind (label_count b) (items_of_code items) l (buffer_state e) (places_of e)) all (put here))
