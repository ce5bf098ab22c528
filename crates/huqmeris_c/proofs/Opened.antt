use Rattle.std.proofs.Common.{◌≡◌, ◌∙◌, ◌+◌, ◌<◌, ◌≤◌, ◌⊎◌, inl, inr, ℕ, sym, ap, subst, arith, Option, Some, None, List, length, slice_get, get_or}
use Rattle.std.proofs.lemmas.Bool.{cases_lt}
use Rattle.std.proofs.lemmas.Option.{same_Some, slice_get-get_or}
use Rattle.cax64_sink.specs.declared.DeferredTarget.{DeferredTarget}
use Rattle.cax64_sink.specs.declared.DeferredTarget.TheVariants as target
use Rattle.huqmeris_c.proofs.Behind.{some_or_none}
use Rattle.huqmeris_c.proofs.Splits.{get_within}
use Rattle.huqmeris_c.specs.Items.{IsPlaceless, NoneUnbound, UnboundAt}
use Rattle.huqmeris_c.specs.Putting.{HasPlaces, LacksPlace, NoneOpens, OpenAt, Opens}
use Rattle.huqmeris_c.specs.declared.item.HqItem.{HqItem}

-- What has no place in a buffer has none among the items that were put.

placeless : (items : List HqItem) (places : DeferredTarget → Option ℕ) (goes_to : DeferredTarget) → HasPlaces places items → LacksPlace places goes_to → IsPlaceless items goes_to
placeless items places (target.Label label) h lacks = λ binds. h.labels label.0 binds lacks
placeless items places (target.Constant constant) h lacks = λ binds. h.constants constant.0 binds lacks
placeless items places target.None h lacks = lacks

lacking : (items : List HqItem) (places : DeferredTarget → Option ℕ) (goes_to : DeferredTarget) → HasPlaces places items → IsPlaceless items goes_to → LacksPlace places goes_to
lacking items places (target.Label label) h none = by_place (some_or_none (places (target.Label label)))
  where
    by_place : (places (target.Label label) ≡ None) ⊎ ((place : ℕ) × (places (target.Label label) ≡ Some place)) → places (target.Label label) ≡ None
    by_place (inl e) = e
    by_place (inr place) = absurd (none (h.only_labels label.0 place.0 place.1))
lacking items places (target.Constant constant) h none = by_place (some_or_none (places (target.Constant constant)))
  where
    by_place : (places (target.Constant constant) ≡ None) ⊎ ((place : ℕ) × (places (target.Constant constant) ≡ Some place)) → places (target.Constant constant) ≡ None
    by_place (inl e) = e
    by_place (inr place) = absurd (none (h.only_constants constant.0 place.0 place.1))
lacking items places target.None h none = none

pub unbound_at : (items : List HqItem) (places : DeferredTarget → Option ℕ) (number : ℕ) → HasPlaces places items → OpenAt places items number → UnboundAt items number
unbound_at items places number h found = record {
  item = found.item;
  there = found.there;
  goes_to = found.opens.0;
  refers = found.opens.1;
  unbound = placeless items places found.opens.0 h found.opens.2;
  first = λ k earlier other lt is refers none. found.first k earlier lt is (other, refers, lacking items places other h none);
}

pub none_unbound : (items : List HqItem) (places : DeferredTarget → Option ℕ) → HasPlaces places items → NoneOpens places items → NoneUnbound items
none_unbound items places h none = λ k item goes_to is refers placeless. none k item is (goes_to, refers, lacking items places goes_to h placeless)

-- none of the first refers to what has no place
abbrev pub NoneOpen : (DeferredTarget → Option ℕ) → List HqItem → ℕ → Type 0
NoneOpen places items i = (k : ℕ) (earlier : HqItem) → k < i → slice_get items k ≡ Some earlier → Opens places earlier → ⊥

pub open_at : (places : DeferredTarget → Option ℕ) (items : List HqItem) (d : HqItem) (i : ℕ) → i < length items → Opens places (get_or items i d) → NoneOpen places items i → OpenAt places items i
open_at places items d i within opens before = record { item = get_or items i d; there = slice_get-get_or items i d within; opens = opens; first = before }

pub none_more : (places : DeferredTarget → Option ℕ) (items : List HqItem) (d : HqItem) (i : ℕ) → i < length items → (Opens places (get_or items i d) → ⊥) → NoneOpen places items i → NoneOpen places items (i + 1)
none_more places items d i within shut before = λ k earlier lt is opens. by_order k earlier lt is opens (cases_lt k i)
  where
    by_order : (k : ℕ) (earlier : HqItem) → k < i + 1 → slice_get items k ≡ Some earlier → Opens places earlier → (k < i) ⊎ (i ≤ k) → ⊥
    by_order k earlier lt is opens (inl less) = before k earlier less is opens
    by_order k earlier lt is opens (inr more) =
        let here : k ≡ i = omega (arith, lt, more) in
        let same : get_or items i d ≡ earlier = same_Some (get_or items i d) earlier (sym (slice_get-get_or items i d within) ∙ ap (slice_get items) (sym here) ∙ is) in
        shut (subst (λ (x : HqItem). Opens places x) (sym same) opens)

pub none_opens : (places : DeferredTarget → Option ℕ) (items : List HqItem) (i : ℕ) → length items ≤ i → NoneOpen places items i → NoneOpens places items
none_opens places items i end before = λ k item is opens. let within : k < length items = get_within items k item is in before k item (omega (arith, within, end)) is opens
