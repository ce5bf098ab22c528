use Rattle.std.proofs.Common.{◌≡◌, ◌∙◌, ◌+◌, ◌-◌, ◌<◌, ◌≤◌, ◌⊎◌, inl, inr, ℕ, zero, suc, ℤ, pos, refl, sym, ap, subst, arith, Bool, true, false, Option, Some, None, List, [], ◌∷◌, ◌++◌, get_or, length, take, slice_get}
use Rattle.std.proofs.lemmas.Bool.{cases_lt, eq-eqb, eqb-true}
use Rattle.std.proofs.lemmas.Option.{same_Some, slice_get-get_or}
use Rattle.std.specs.Prelude.{◌==◌, ◌||◌}
use Rattle.huqmeris_c.proofs.Made.{MadeOf, jump_not, made_of, no_code_made}
use Rattle.huqmeris_c.proofs.Splits.{Starts, data_before, get_within, high_get, high_take, low_get, low_take, none_at, none_taken}
use Rattle.huqmeris_c.specs.Data.{is_data}
use Rattle.huqmeris_c.specs.Items.{AreItems, CantBePut, FirstRefused, IsCode, NoItem, has_data, jump_named}
use Rattle.huqmeris_c.specs.Putting.{AreData, BadDatum, FirstBehind, IsDatum, MakesEach, NoCode, NoneBehind}
use Rattle.huqmeris_c.specs.declared.item.HqItem.{HqItem}
use Rattle.x64_assemble.specs.declared.item.Item.{Item}
use Rattle.x64_code_buffer.specs.declared.jump.Jump.{Jump}
use Rattle.x64_core.specs.declared.instruction.Core.{Core}

-- What is none among code is none among all items, and what can't stand where data does.

both : true ≡ false → ⊥
both e = cc

code_none : (before : List HqItem) (h : HqItem) (status : ℤ) → has_data before ≡ false → is_data h.kind ≡ false → NoCode h status → NoItem before h status
code_none before h status none apart (inl c) = inl (c.0, c.1, c.2, c.3, apart)
code_none before h status none apart (inr c) = inr (inr (inr (c.0, c.1, none, c.2)))

kind_data : (kind n : ℕ) → kind ≡ n → is_data n ≡ true → is_data kind ≡ false → ⊥
kind_data kind n e is not = both (sym is ∙ ap is_data (sym e) ∙ not)

none_code : (before : List HqItem) (h : HqItem) (status : ℤ) → has_data before ≡ false → is_data h.kind ≡ false → NoItem before h status → NoCode h status
none_code before h status none apart (inl c) = inl (c.0, c.1, c.2, c.3)
none_code before h status none apart (inr (inl c)) = absurd (both (sym c.2 ∙ none))
none_code before h status none apart (inr (inr (inl (s, inl c)))) = absurd (kind_data h.kind 21 c.0 refl apart)
none_code before h status none apart (inr (inr (inl (s, inr c)))) = absurd (kind_data h.kind 22 c.0 refl apart)
none_code before h status none apart (inr (inr (inr c))) = inr (c.0, c.1, c.3)

code_not : (kind n : ℕ) → kind ≡ n → jump_named n ≡ None → (n ≡ 0 → ⊥) → IsCode kind → ⊥
code_not kind n e none not_inst (inl c) = not_inst (sym e ∙ c)
code_not kind n e none not_inst (inr c) = jump_not kind n c.0 c.1 none e

differ : (kind a b : ℕ) → kind ≡ a → kind ≡ b → (a ≡ b → ⊥) → ⊥
differ kind a b e f d = d (sym e ∙ f)

-- a kind of data is an item wherever it stands
datum_is : (before : List HqItem) (h : HqItem) (status : ℤ) (n : ℕ) → h.kind ≡ n → jump_named n ≡ None → (n ≡ 0 → ⊥) → ((n ≡ 1) ⊎ (is_data n ≡ true)) → ((n ≡ 21) → h.number ≤ 24) → ((n ≡ 22) → h.number ≤ 6) → NoItem before h status → ⊥
datum_is before h status n e none not_inst (inl one) bytes padding (inl c) = c.2 (e ∙ one)
datum_is before h status n e none not_inst (inr is) bytes padding (inl c) = kind_data h.kind n e is c.4
datum_is before h status n e none not_inst is bytes padding (inr (inl c)) = code_not h.kind n e none not_inst c.1
datum_is before h status n e none not_inst is bytes padding (inr (inr (inl (s, inl c)))) = let m : h.number ≤ 24 = bytes (sym e ∙ c.0) in omega (arith, m, c.1)
datum_is before h status n e none not_inst is bytes padding (inr (inr (inl (s, inr c)))) = let m : h.number ≤ 6 = padding (sym e ∙ c.0) in omega (arith, m, c.1)
datum_is before h status n e none not_inst is bytes padding (inr (inr (inr c))) = not_inst (sym e ∙ c.1)

datum_is_item : (before : List HqItem) (h : HqItem) (status : ℤ) → IsDatum h → NoItem before h status → ⊥
datum_is_item before h status (inl e) = datum_is before h status 1 e refl (λ z. cc) (inl refl) (λ z. cc) (λ z. cc)
datum_is_item before h status (inr (inl e)) = datum_is before h status 20 e refl (λ z. omega (arith, z)) (inr refl) (λ z. omega (arith, z)) (λ z. omega (arith, z))
datum_is_item before h status (inr (inr (inl e))) = datum_is before h status 21 e.0 refl (λ z. omega (arith, z)) (inr refl) (λ z. e.1) (λ z. omega (arith, z))
datum_is_item before h status (inr (inr (inr e))) = datum_is before h status 22 e.0 refl (λ z. omega (arith, z)) (inr refl) (λ z. omega (arith, z)) (λ z. e.1)

-- an item of these positions is one
pub item_at : (front rest : List HqItem) (xs : List (Item Core)) (k : ℕ) (h : HqItem) (status : ℤ) → has_data front ≡ false → MakesEach front xs → ((j : ℕ) → k ≡ length front + j → slice_get rest j ≡ Some h → IsDatum h) → slice_get (front ++ rest) k ≡ Some h → NoItem (take k (front ++ rest)) h status → ⊥
item_at front rest xs k h status none makes good is lacks = by_place (cases_lt k (length front))
  where
    by_place : (k < length front) ⊎ (length front ≤ k) → ⊥
    by_place (inl low) =
        let there : slice_get front k ≡ Some h = sym (low_get front rest k low) ∙ is in
        let of : MadeOf front xs k h = made_of front xs k h makes there in
        let here : NoItem (take k front) h status = subst (λ (l : List HqItem). NoItem l h status) (low_take front rest k (omega (arith, low))) lacks in
        no_code_made h of.x status of.makes (none_code (take k front) h status (none_taken front k none) (none_at front k h none there) here)
    by_place (inr high) =
        let j : ℕ = k - length front in
        let e : k ≡ length front + j = omega (arith, high) in
        let there : slice_get rest j ≡ Some h = sym (high_get front rest j) ∙ ap (slice_get (front ++ rest)) (sym e) ∙ is in
        datum_is_item (take k (front ++ rest)) h status (good j e there) lacks

-- the first of code that is none
pub code_refused : (front rest : List HqItem) (n : ℕ) (status : ℤ) → has_data front ≡ false → FirstRefused (λ before. NoCode) front n status → FirstRefused NoItem (front ++ rest) n status
code_refused front rest n status none h =
    let within : n < length front = get_within front n h.item h.there in
    record {
      item = h.item;
      there = low_get front rest n within ∙ h.there;
      why = subst (λ (l : List HqItem). NoItem l h.item status) (sym (low_take front rest n (omega (arith, within)))) (code_none (take n front) h.item status (none_taken front n none) (none_at front n h.item none h.there) h.why);
      first = λ k earlier other lt is lacks.
          let low : k < length front = omega (arith, lt, within) in
          let there : slice_get front k ≡ Some earlier = sym (low_get front rest k low) ∙ is in
          let here : NoItem (take k front) earlier other = subst (λ (l : List HqItem). NoItem l earlier other) (low_take front rest k (omega (arith, low))) lacks in
          h.first k earlier other lt there (none_code (take k front) earlier other (none_taken front k none) (none_at front k earlier none there) here);
    }

-- what can't stand where data does

same_by : (k n : ℕ) (b : Bool) → (k == n) ≡ b → (k ≡ n) ⊎ (k ≡ n → ⊥)
same_by k n true e = inl (eqb-true k n e)
same_by k n false e = inr (λ same. both (sym (eq-eqb k n same) ∙ e))

pub same_or : (k n : ℕ) → (k ≡ n) ⊎ (k ≡ n → ⊥)
same_or k n = same_by k n (k == n) refl

three_by : (kind : ℕ) (a b c : Bool) → (kind == 20) ≡ a → (kind == 21) ≡ b → (kind == 22) ≡ c → (a || (b || c)) ≡ true → (kind ≡ 20) ⊎ ((kind ≡ 21) ⊎ (kind ≡ 22))
three_by kind true b c d e f h = inl (eqb-true kind 20 d)
three_by kind false true c d e f h = inr (inl (eqb-true kind 21 e))
three_by kind false false true d e f h = inr (inr (eqb-true kind 22 f))
three_by kind false false false d e f h = cc

pub three : (kind : ℕ) → is_data kind ≡ true → (kind ≡ 20) ⊎ ((kind ≡ 21) ⊎ (kind ≡ 22))
three kind h = three_by kind (kind == 20) (kind == 21) (kind == 22) refl refl refl h

abbrev Lacks : List HqItem → HqItem → Type 0
Lacks before h = NoItem before h (pos 12)

bad_data : (before : List HqItem) (h : HqItem) → (IsDatum h → ⊥) → (h.kind ≡ 20) ⊎ ((h.kind ≡ 21) ⊎ (h.kind ≡ 22)) → (24 < h.number) ⊎ (h.number ≤ 24) → (6 < h.number) ⊎ (h.number ≤ 6) → Lacks before h
bad_data before h bad (inl e) m k = absurd (bad (inr (inl e)))
bad_data before h bad (inr (inl e)) (inl m) k = inr (inr (inl (refl, inl (e, m))))
bad_data before h bad (inr (inl e)) (inr m) k = absurd (bad (inr (inr (inl (e, m)))))
bad_data before h bad (inr (inr e)) m (inl k) = inr (inr (inl (refl, inr (e, k))))
bad_data before h bad (inr (inr e)) m (inr k) = absurd (bad (inr (inr (inr (e, k)))))

bad_code : (before : List HqItem) (h : HqItem) (o : Option Jump) → jump_named h.kind ≡ o → is_data h.kind ≡ false → (IsDatum h → ⊥) → has_data before ≡ true → (h.kind ≡ 0) ⊎ (h.kind ≡ 0 → ⊥) → Lacks before h
bad_code before h (Some jump) is apart bad some either = inr (inl (refl, inr (jump, is), some))
bad_code before h None is apart bad some (inl e) = inr (inl (refl, inl e, some))
bad_code before h None is apart bad some (inr e) = inl (refl, e, λ one. bad (inl one), is, apart)

bad_by : (before : List HqItem) (h : HqItem) (b : Bool) → is_data h.kind ≡ b → (IsDatum h → ⊥) → (is_data h.kind ≡ true) ⊎ (has_data before ≡ true) → Lacks before h
bad_by before h true e bad some = bad_data before h bad (three h.kind e) (cases_lt 24 h.number) (cases_lt 6 h.number)
bad_by before h false e bad (inl is) = absurd (both (sym is ∙ e))
bad_by before h false e bad (inr some) = bad_code before h (jump_named h.kind) refl e bad some (same_or h.kind 0)

pub bad_item : (before : List HqItem) (h : HqItem) → (IsDatum h → ⊥) → (is_data h.kind ≡ true) ⊎ (has_data before ≡ true) → NoItem before h (pos 12)
bad_item before h bad some = bad_by before h (is_data h.kind) refl bad some

-- an item of data is data, or stands behind data
stands_behind : (front rest : List HqItem) (n : ℕ) (h : HqItem) → Starts rest → slice_get rest n ≡ Some h → (is_data h.kind ≡ true) ⊎ (has_data (take (length front + n) (front ++ rest)) ≡ true)
stands_behind front [] n h st is = cc
stands_behind front (x ∷ rest) zero h st is = let same : x ≡ h = same_Some x h is in inl (ap (λ (i : HqItem). is_data i.kind) (sym same) ∙ st)
stands_behind front (x ∷ rest) (suc n) h st is =
    let within : suc n < length (x ∷ rest) = get_within (x ∷ rest) (suc n) h is in
    inr (ap has_data (high_take front (x ∷ rest) (suc n)) ∙ data_before front (x ∷ rest) n st within)

-- the first of data that is none
pub data_refused : (front rest : List HqItem) (xs : List (Item Core)) (n : ℕ) → has_data front ≡ false → Starts rest → MakesEach front xs → BadDatum rest n → FirstRefused NoItem (front ++ rest) (length front + n) (pos 12)
data_refused front rest xs n none st makes h = record {
  item = h.item;
  there = high_get front rest n ∙ h.there;
  why = bad_item (take (length front + n) (front ++ rest)) h.item h.bad (stands_behind front rest n h.item st h.there);
  first = λ k earlier other lt is lacks. item_at front rest xs k earlier other none makes (λ j e there. h.first j earlier (omega (arith, lt, e)) there) is lacks;
}

-- all are items
pub all_items : (front rest : List HqItem) (xs : List (Item Core)) → has_data front ≡ false → MakesEach front xs → AreData rest → AreItems (front ++ rest)
all_items front rest xs none makes good = λ k h status is lacks. item_at front rest xs k h status none makes (λ j e there. good j h there) is lacks

-- the first of code that can't be put
pub layout_refused : (given : ℕ) (front rest : List HqItem) (n : ℕ) (status : ℤ) → FirstRefused (CantBePut given) front n status → FirstRefused (CantBePut given) (front ++ rest) n status
layout_refused given front rest n status h =
    let within : n < length front = get_within front n h.item h.there in
    record {
      item = h.item;
      there = low_get front rest n within ∙ h.there;
      why = subst (λ (l : List HqItem). CantBePut given l h.item status) (sym (low_take front rest n (omega (arith, within)))) h.why;
      first = λ k earlier other lt is c.
          let low : k < length front = omega (arith, lt, within) in
          h.first k earlier other lt (sym (low_get front rest k low) ∙ is) (subst (λ (l : List HqItem). CantBePut given l earlier other) (low_take front rest k (omega (arith, low))) c);
    }

-- the first of data that can't be put
pub behind_refused : (given : ℕ) (front rest : List HqItem) (n : ℕ) (status : ℤ) → ((k : ℕ) (h : HqItem) (other : ℤ) → slice_get front k ≡ Some h → CantBePut given (take k front) h other → ⊥) → FirstBehind given front rest n status → FirstRefused (CantBePut given) (front ++ rest) (length front + n) status
behind_refused given front rest n status good h = record {
  item = h.item;
  there = high_get front rest n ∙ h.there;
  why = subst (λ (l : List HqItem). CantBePut given l h.item status) (sym (high_take front rest n)) h.why;
  first = λ k earlier other lt is c. by_place k earlier other lt is c (cases_lt k (length front));
}
  where
    by_place : (k : ℕ) (earlier : HqItem) (other : ℤ) → k < length front + n → slice_get (front ++ rest) k ≡ Some earlier → CantBePut given (take k (front ++ rest)) earlier other → (k < length front) ⊎ (length front ≤ k) → ⊥
    by_place k earlier other lt is c (inl low) = good k earlier other (sym (low_get front rest k low) ∙ is) (subst (λ (l : List HqItem). CantBePut given l earlier other) (low_take front rest k (omega (arith, low))) c)
    by_place k earlier other lt is c (inr high) =
        let j : ℕ = k - length front in
        let e : k ≡ length front + j = omega (arith, high) in
        h.first j earlier other (omega (arith, lt, e)) (sym (high_get front rest j) ∙ ap (slice_get (front ++ rest)) (sym e) ∙ is) (subst (λ (l : List HqItem). CantBePut given l earlier other) (ap (λ (m : ℕ). take m (front ++ rest)) e ∙ high_take front rest j) c)

-- all can be put
pub all_can : (given : ℕ) (front rest : List HqItem) → ((k : ℕ) (h : HqItem) (other : ℤ) → slice_get front k ≡ Some h → CantBePut given (take k front) h other → ⊥) → NoneBehind given front rest (length rest) → (k : ℕ) (h : HqItem) (other : ℤ) → slice_get (front ++ rest) k ≡ Some h → CantBePut given (take k (front ++ rest)) h other → ⊥
all_can given front rest good none k h other is c = by_place (cases_lt k (length front))
  where
    by_place : (k < length front) ⊎ (length front ≤ k) → ⊥
    by_place (inl low) = good k h other (sym (low_get front rest k low) ∙ is) (subst (λ (l : List HqItem). CantBePut given l h other) (low_take front rest k (omega (arith, low))) c)
    by_place (inr high) =
        let j : ℕ = k - length front in
        let e : k ≡ length front + j = omega (arith, high) in
        let there : slice_get rest j ≡ Some h = sym (high_get front rest j) ∙ ap (slice_get (front ++ rest)) (sym e) ∙ is in
        none j h other (get_within rest j h there) there (subst (λ (l : List HqItem). CantBePut given l h other) (ap (λ (m : ℕ). take m (front ++ rest)) e ∙ high_take front rest j) c)

pub none_at_end : (given : ℕ) (front items : List HqItem) (i : ℕ) → length items ≤ i → NoneBehind given front items i → NoneBehind given front items (length items)
none_at_end given front items i end none = λ k earlier other lt is denied. none k earlier other (omega (arith, lt, end)) is denied

-- Items up to one can stand where data does.
abbrev pub DataUpTo : List HqItem → ℕ → Type 0
DataUpTo items i = (k : ℕ) (h : HqItem) → k < i → slice_get items k ≡ Some h → IsDatum h

pub up_more : (items : List HqItem) (d : HqItem) (i : ℕ) → i < length items → IsDatum (get_or items i d) → DataUpTo items i → DataUpTo items (i + 1)
up_more items d i within datum before = λ k h lt is. by_place k h lt is (cases_lt k i)
  where
    by_place : (k : ℕ) (h : HqItem) → k < i + 1 → slice_get items k ≡ Some h → (k < i) ⊎ (i ≤ k) → IsDatum h
    by_place k h lt is (inl low) = before k h low is
    by_place k h lt is (inr high) =
        let e : k ≡ i = omega (arith, lt, high) in
        subst (λ (x : HqItem). IsDatum x) (same_Some (get_or items i d) h (sym (slice_get-get_or items i d within) ∙ ap (slice_get items) (sym e) ∙ is)) datum

pub bad_at : (items : List HqItem) (d : HqItem) (i : ℕ) → i < length items → (IsDatum (get_or items i d) → ⊥) → DataUpTo items i → BadDatum items i
bad_at items d i within bad before = record { item = get_or items i d; there = slice_get-get_or items i d within; bad = bad; first = before }

pub all_up : (items : List HqItem) (i : ℕ) → length items ≤ i → DataUpTo items i → AreData items
all_up items i all before = λ k h is. let within : k < length items = get_within items k h is in before k h (omega (arith, within, all)) is
