use Rattle.std.proofs.Common.{◌≡◌, ◌∙◌, ◌+◌, ◌<◌, ◌≤◌, ◌⊎◌, inl, inr, ℕ, ℤ, pos, refl, sym, ap, subst, arith, Bool, true, false, Option, Some, None, List, [], ◌∷◌, ◌++◌, get_or, length, take, slice_get, append-nil, append_assoc, length-append}
use Rattle.std.proofs.lemmas.Bool.{cases_lt, eq-eqb, eqb-true}
use Rattle.std.proofs.lemmas.List.{take-replicate, take_more}
use Rattle.std.specs.Prelude.{◌==◌, ◌^◌, OnOk, Result, if◌then◌else◌, replicate}
use Rattle.std.proofs.lemmas.Option.{same_Some, slice_get-get_or}
use Rattle.cax64_sink.specs.Sink.{State}
use Rattle.cax64_sink.specs.declared.DeferredTarget.{DeferredTarget}
use Rattle.cax64_sink.specs.declared.DeferredTarget.TheVariants as target
use Rattle.huqmeris_c.proofs.Made.{binds_spot, jump_not, spot_binds}
use Rattle.huqmeris_c.proofs.Refusing.{same_or}
use Rattle.huqmeris_c.proofs.Splits.{if_false, if_true}
use Rattle.huqmeris_c.specs.Data.{AreBound, IsBound, data_from, data_in, struct_bytes}
use Rattle.huqmeris_c.specs.Items.{Binds, CantBePut}
use Rattle.huqmeris_c.specs.Putting.{Behind, BindsAt, DatumRefused, FirstBehind, HasItems, HasPlaces, Holds, IsDatum, MakesEach, NoneBehind, PutsDatum}
use Rattle.huqmeris_c.specs.declared.data_items.TheConstants.{ZEROS}
use Rattle.huqmeris_c.specs.declared.item.HqItem.{HqItem}
use Rattle.x64_assemble.specs.Assembled.{spot_of}
use Rattle.x64_assemble.specs.declared.item.Item.{Item}
use Rattle.x64_assemble.specs.declared.item.Item.TheVariants as item
use Rattle.x64_code_buffer.specs.Binding.{AddsBinding}
use Rattle.x64_code_buffer.specs.Buffer.{buffer_state, label_count, places_of}
use Rattle.x64_code_buffer.specs.Padding.{missing_to}
use Rattle.x64_code_buffer.specs.declared.buffer.CodeBuffer.{CodeBuffer}
use Rattle.x64_core.specs.declared.instruction.Core.{Core}

-- What items are the places of, and what has a place in a buffer.

pub no_place : (places : DeferredTarget → Option ℕ) (t : DeferredTarget) (place : ℕ) → places t ≡ Some place → places t ≡ None → ⊥
no_place places t place some none = let k : ◌≡◌ {A = Option ℕ} (Some place) None = sym some ∙ none in cc

kinds : (kind a b : ℕ) → kind ≡ a → kind ≡ b → (a ≡ b → ⊥) → ⊥
kinds kind a b e f d = d (sym e ∙ f)

-- code is the place of no constant
no_constants : (hs : List HqItem) (xs : List (Item Core)) (n : ℕ) → MakesEach hs xs → Binds 20 n hs → ⊥
no_constants [] xs n e b = b
no_constants (g ∷ hs) [] n e b = absurd e
no_constants (g ∷ hs) (item.Inst core ∷ xs) n e (inl b) = kinds g.kind 0 20 e.0.0 b.0 (λ z. cc)
no_constants (g ∷ hs) (item.Bind bound ∷ xs) n e (inl b) = kinds g.kind 1 20 e.0.0 b.0 (λ z. omega (arith, z))
no_constants (g ∷ hs) (item.Jump jump to ∷ xs) n e (inl b) = jump_not g.kind 20 jump e.0.0 refl b.0
no_constants (g ∷ hs) (x ∷ xs) n e (inr b) = no_constants hs xs n e.1 b

pub some_or_none : (o : Option ℕ) → (o ≡ None) ⊎ ((spot : ℕ) × (o ≡ Some spot))
some_or_none None = inl refl
some_or_none (Some spot) = inr (spot, refl)

front_places : (given : ℕ) (front : List HqItem) (s : State) (places : DeferredTarget → Option ℕ) → HasItems given front s places → HasPlaces places front
front_places given front s places h = record {
  labels = λ n binds none. by_spot n binds none (some_or_none (spot_of n h.list));
  only_labels = λ n place some. by_place n place some (some_or_none (spot_of n h.list));
  constants = λ n binds none. no_constants front h.list n h.makes binds;
  only_constants = λ n place some. absurd (no_place places (target.Constant (record { 0 = n })) place some (h.put.others (target.Constant (record { 0 = n })) tt ∙ h.none (target.Constant (record { 0 = n }))));
}
  where
    by_spot : (n : ℕ) → Binds 1 n front → places (target.Label (record { 0 = n })) ≡ None → (spot_of n h.list ≡ None) ⊎ ((spot : ℕ) × (spot_of n h.list ≡ Some spot)) → ⊥
    by_spot n binds none (inl e) = binds_spot front h.list n h.makes binds e
    by_spot n binds none (inr spot) = no_place places (target.Label (record { 0 = n })) _ (h.put.bound n spot.0 spot.1) none

    by_place : (n place : ℕ) → places (target.Label (record { 0 = n })) ≡ Some place → (spot_of n h.list ≡ None) ⊎ ((spot : ℕ) × (spot_of n h.list ≡ Some spot)) → Binds 1 n front
    by_place n place some (inl e) = absurd (no_place places (target.Label (record { 0 = n })) place some (h.put.others (target.Label (record { 0 = n })) e ∙ h.none (target.Label (record { 0 = n }))))
    by_place n place some (inr spot) = spot_binds front h.list n spot.0 h.makes spot.1

binds_either : (kind n : ℕ) (xs : List HqItem) (x : HqItem) → Binds kind n (xs ++ x ∷ []) → Binds kind n xs ⊎ ((x.kind ≡ kind) × (x.number ≡ n))
binds_either kind n [] x (inl b) = inr b
binds_either kind n [] x (inr b) = absurd b
binds_either kind n (y ∷ xs) x (inl b) = inl (inl b)
binds_either kind n (y ∷ xs) x (inr b) = later (binds_either kind n xs x b)
  where
    later : Binds kind n xs ⊎ ((x.kind ≡ kind) × (x.number ≡ n)) → Binds kind n (y ∷ xs) ⊎ ((x.kind ≡ kind) × (x.number ≡ n))
    later (inl c) = inl (inr c)
    later (inr c) = inr c

binds_before : (kind n : ℕ) (xs : List HqItem) (x : HqItem) → Binds kind n xs → Binds kind n (xs ++ x ∷ [])
binds_before kind n [] x b = absurd b
binds_before kind n (y ∷ xs) x (inl b) = inl b
binds_before kind n (y ∷ xs) x (inr b) = inr (binds_before kind n xs x b)

binds_last : (kind n : ℕ) (xs : List HqItem) (x : HqItem) → x.kind ≡ kind → x.number ≡ n → Binds kind n (xs ++ x ∷ [])
binds_last kind n [] x e f = inl (e, f)
binds_last kind n (y ∷ xs) x e f = inr (binds_last kind n xs x e f)

-- what had a place has it still
stays_bound : (t : DeferredTarget) (at : ℕ) (old new : DeferredTarget → Option ℕ) → AddsBinding t at old new → (other : DeferredTarget) (place : ℕ) → old other ≡ Some place → new other ≡ Some place
stays_bound t at old new h other place some = h.others other (λ same. no_place old other place some (ap old same ∙ h.free)) ∙ some

pub all_stay : (given at : ℕ) (x : HqItem) (old new : DeferredTarget → Option ℕ) → BindsAt given at x old new → (other : DeferredTarget) (place : ℕ) → old other ≡ Some place → new other ≡ Some place
all_stay given at x old new (inl h) = stays_bound (target.Label (record { 0 = x.number })) at old new h.2
all_stay given at x old new (inr (inl h)) = stays_bound (target.Constant (record { 0 = x.number })) at old new h.1
all_stay given at x old new (inr (inr h)) = λ other place some. h.2 other ∙ some

-- what has none now had none, and isn't the one that is bound
other_none : (t : DeferredTarget) (at : ℕ) (old new : DeferredTarget → Option ℕ) → AddsBinding t at old new → (other : DeferredTarget) → new other ≡ None → old other ≡ None
other_none t at old new h other none = sym (h.others other (λ same. no_place new t at h.bound (ap new (sym same) ∙ none))) ∙ none

abbrev number_of : DeferredTarget → ℕ
number_of (target.Label label) = label.0
number_of (target.Constant constant) = constant.0
number_of target.None = 0

abbrev label_of : ℕ → DeferredTarget
label_of n = target.Label (record { 0 = n })

abbrev constant_of : ℕ → DeferredTarget
constant_of n = target.Constant (record { 0 = n })

-- the targets of one sort, which items of one kind bind, have a place where such an item is their place
record Sort (kind : ℕ) (of : ℕ → DeferredTarget) (places : DeferredTarget → Option ℕ) (items : List HqItem) : Type 0 where
  pub has : (n : ℕ) → Binds kind n items → places (of n) ≡ None → ⊥
  pub only : (n place : ℕ) → places (of n) ≡ Some place → Binds kind n items

both_sorts : (places : DeferredTarget → Option ℕ) (items : List HqItem) → Sort 1 label_of places items → Sort 20 constant_of places items → HasPlaces places items
both_sorts places items l c = record { labels = l.has; only_labels = l.only; constants = c.has; only_constants = c.only }

module _ (kind : ℕ) (of : ℕ → DeferredTarget) (xs : List HqItem) (x : HqItem) (old new : DeferredTarget → Option ℕ) (h : Sort kind of old xs) where
  -- one more item that is the place of none of them
  other_more : (x.kind ≡ kind → ⊥) → ((n : ℕ) → new (of n) ≡ old (of n)) → Sort kind of new (xs ++ x ∷ [])
  other_more d same = record {
    has = λ n binds none. has n none (binds_either kind n xs x binds);
    only = λ n place some. binds_before kind n xs x (h.only n place (sym (same n) ∙ some));
  }
    where
      has : (n : ℕ) → new (of n) ≡ None → Binds kind n xs ⊎ ((x.kind ≡ kind) × (x.number ≡ n)) → ⊥
      has n none (inl b) = h.has n b (sym (same n) ∙ none)
      has n none (inr b) = d b.0

  -- one more that is the place of one
  own_more : (at : ℕ) → ((n m : ℕ) → of n ≡ of m → n ≡ m) → x.kind ≡ kind → AddsBinding (of x.number) at old new → Sort kind of new (xs ++ x ∷ [])
  own_more at apart is adds = record {
    has = λ n binds none. has n none (binds_either kind n xs x binds);
    only = λ n place some. only n place some (same_or n x.number);
  }
    where
      has : (n : ℕ) → new (of n) ≡ None → Binds kind n xs ⊎ ((x.kind ≡ kind) × (x.number ≡ n)) → ⊥
      has n none (inl b) = h.has n b (other_none (of x.number) at old new adds (of n) none)
      has n none (inr b) = no_place new (of x.number) at adds.bound (ap (λ (m : ℕ). new (of m)) b.1 ∙ none)

      only : (n place : ℕ) → new (of n) ≡ Some place → (n ≡ x.number) ⊎ (n ≡ x.number → ⊥) → Binds kind n (xs ++ x ∷ [])
      only n place some (inl e) = binds_last kind n xs x is (sym e)
      only n place some (inr d) = binds_before kind n xs x (h.only n place (sym (adds.others (of n) (λ e. d (apart n x.number e))) ∙ some))

places_more : (given at : ℕ) (xs : List HqItem) (x : HqItem) (old new : DeferredTarget → Option ℕ) → BindsAt given at x old new → HasPlaces old xs → HasPlaces new (xs ++ x ∷ [])
places_more given at xs x old new binds h = by_kind binds
  where
    labels : Sort 1 label_of old xs
    labels = record { has = h.labels; only = h.only_labels }

    constants : Sort 20 constant_of old xs
    constants = record { has = h.constants; only = h.only_constants }

    by_kind : BindsAt given at x old new → HasPlaces new (xs ++ x ∷ [])
    by_kind (inl b) = both_sorts new (xs ++ x ∷ []) (own_more 1 label_of xs x old new labels at (λ n m e. ap number_of e) b.0 b.2) (other_more 20 constant_of xs x old new constants (λ k. kinds x.kind 1 20 b.0 k (λ z. omega (arith, z))) (λ n. b.2.others (constant_of n) (λ e. cc)))
    by_kind (inr (inl b)) = both_sorts new (xs ++ x ∷ []) (other_more 1 label_of xs x old new labels (λ k. kinds x.kind 1 20 k b.0 (λ z. omega (arith, z))) (λ n. b.1.others (label_of n) (λ e. cc))) (own_more 20 constant_of xs x old new constants at (λ n m e. ap number_of e) b.0 b.1)
    by_kind (inr (inr b)) = both_sorts new (xs ++ x ∷ []) (other_more 1 label_of xs x old new labels b.0 (λ n. b.2 (label_of n))) (other_more 20 constant_of xs x old new constants b.1 (λ n. b.2 (constant_of n)))

-- What items of data hold, and where they are.

from_more : (at : ℕ) (xs : List HqItem) (x : HqItem) → data_from at (xs ++ x ∷ []) ≡ data_from at xs ++ data_in (at + length (data_from at xs)) x
from_more at [] x = let e : at + 0 ≡ at = omega arith in append-nil (data_in at x) ∙ ap (λ (n : ℕ). data_in n x) (sym e)
from_more at (y ∷ xs) x =
    let size : length (data_in at y ++ data_from (at + length (data_in at y)) xs) ≡ length (data_in at y) + length (data_from (at + length (data_in at y)) xs) = length-append (data_in at y) (data_from (at + length (data_in at y)) xs) in
    let here : at + length (data_in at y) + length (data_from (at + length (data_in at y)) xs) ≡ at + length (data_in at y ++ data_from (at + length (data_in at y)) xs) = omega (arith, size) in
    ap (λ (l : List ℕ). data_in at y ++ l) (from_more (at + length (data_in at y)) xs x)
    ∙ sym (append_assoc (data_in at y) (data_from (at + length (data_in at y)) xs) (data_in (at + length (data_in at y) + length (data_from (at + length (data_in at y)) xs)) x))
    ∙ ap (λ (n : ℕ). (data_in at y ++ data_from (at + length (data_in at y)) xs) ++ data_in n x) here

-- what padding holds are zeros

not_equal : (k n : ℕ) (b : Bool) → (k == n) ≡ b → (k ≡ n → ⊥) → (k == n) ≡ false
not_equal k n true e not = absurd (not (eqb-true k n e))
not_equal k n false e not = e

padding_by : (at : ℕ) (x : HqItem) (count : ℕ) → (x.kind == 21) ≡ false → Holds x → count ≡ missing_to at (2 ^ x.number) → count ≤ 64 → take count ZEROS ≡ data_in at x
padding_by at x count other (inl h) is few = let k : true ≡ false = sym (eq-eqb x.kind 21 h.0) ∙ other in cc
padding_by at x count other (inr h) is few =
    take-replicate count 64 0 few
    ∙ ap (λ (n : ℕ). replicate n 0) is
    ∙ sym (if_true (x.kind == 22) (replicate (missing_to at (2 ^ x.number)) 0) [] (eq-eqb x.kind 22 h.0))
    ∙ sym (if_false (x.kind == 21) (take x.number (struct_bytes x.inst)) (if x.kind == 22 then replicate (missing_to at (2 ^ x.number)) 0 else []) other)

abbrev Adds : List ℕ → List ℕ → List ℕ → Type 0
Adds old new added = new ≡ old ++ added

pub padding_put : {T E : Type 0} (r : Result T E) (old new : List ℕ) (x : HqItem) (count : ℕ) → (x.kind ≡ 21 → ⊥) → Holds x → count ≡ missing_to (length old) (2 ^ x.number) → count ≤ 64 → OnOk r (Adds old new (take count ZEROS)) → OnOk r (Adds old new (data_in (length old) x))
padding_put r old new x count other h is few adds = subst (λ (l : List ℕ). OnOk r (Adds old new l)) (padding_by (length old) x count (not_equal x.kind 21 (x.kind == 21) refl other) h is few) adds

bound_stays : (old new : DeferredTarget → Option ℕ) (at : ℕ) (xs : List HqItem) → ((t : DeferredTarget) (place : ℕ) → old t ≡ Some place → new t ≡ Some place) → AreBound old at xs → AreBound new at xs
bound_stays old new at [] stays h = tt
bound_stays old new at (x ∷ xs) stays h = (record { label = λ e. stays (target.Label (record { 0 = x.number })) at (h.0.label e); constant = λ e. stays (target.Constant (record { 0 = x.number })) at (h.0.constant e) }, bound_stays old new (at + length (data_in at x)) xs stays h.1)

bound_more : (places : DeferredTarget → Option ℕ) (at : ℕ) (xs : List HqItem) (x : HqItem) → AreBound places at xs → IsBound places (at + length (data_from at xs)) x → AreBound places at (xs ++ x ∷ [])
bound_more places at [] x h k = let e : at + 0 ≡ at = omega arith in (subst (λ (n : ℕ). IsBound places n x) e k, tt)
bound_more places at (y ∷ xs) x h k =
    let size : length (data_in at y ++ data_from (at + length (data_in at y)) xs) ≡ length (data_in at y) + length (data_from (at + length (data_in at y)) xs) = length-append (data_in at y) (data_from (at + length (data_in at y)) xs) in
    let here : at + length (data_in at y ++ data_from (at + length (data_in at y)) xs) ≡ at + length (data_in at y) + length (data_from (at + length (data_in at y)) xs) = omega (arith, size) in
    (h.0, bound_more places (at + length (data_in at y)) xs x h.1 (subst (λ (n : ℕ). IsBound places n x) here k))

is_bound : (given at : ℕ) (x : HqItem) (old new : DeferredTarget → Option ℕ) → BindsAt given at x old new → IsBound new at x
is_bound given at x old new (inl b) = record { label = λ e. b.2.bound; constant = λ e. absurd (kinds x.kind 1 20 b.0 e (λ z. omega (arith, z))) }
is_bound given at x old new (inr (inl b)) = record { label = λ e. absurd (kinds x.kind 1 20 e b.0 (λ z. omega (arith, z))); constant = λ e. b.1.bound }
is_bound given at x old new (inr (inr b)) = record { label = λ e. absurd (b.0 e); constant = λ e. absurd (b.1 e) }

-- A buffer with code, and behind it data.

pub none_behind : (given : ℕ) (front : List HqItem) (s : State) (places : DeferredTarget → Option ℕ) → HasItems given front s places → Behind given front [] s places
none_behind given front s places h = record {
  before = s;
  old = places;
  items = h;
  bytes = sym (append-nil s.bytes);
  notices = refl;
  laid = h.put.laid;
  stays = λ t place some. some;
  bound = tt;
  are = subst (λ (l : List HqItem). HasPlaces places l) (sym (append-nil front)) (front_places given front s places h);
}

behind_more : {A : Type 0} (given : ℕ) (front done : List HqItem) (x : HqItem) (b d : CodeBuffer A) → Behind given front done (buffer_state b) (places_of b) → PutsDatum x b d → Behind given front (done ++ x ∷ []) (buffer_state d) (places_of d)
behind_more given front done x b d h put =
    let at : ℕ = length h.before.bytes in
    let here : length (buffer_state b).bytes ≡ at + length (data_from at done) = ap (λ (l : List ℕ). length l) h.bytes ∙ length-append h.before.bytes (data_from at done) in
    record {
      before = h.before;
      old = h.old;
      items = h.items;
      bytes =
          put.bytes
          ∙ ap (λ (l : List ℕ). l ++ data_in (length (buffer_state b).bytes) x) h.bytes
          ∙ ap (λ (n : ℕ). (h.before.bytes ++ data_from at done) ++ data_in n x) here
          ∙ append_assoc h.before.bytes (data_from at done) (data_in (at + length (data_from at done)) x)
          ∙ ap (λ (l : List ℕ). h.before.bytes ++ l) (sym (from_more at done x));
      notices = put.notices ∙ h.notices;
      laid = put.filled.laid h.items.put.more at h.laid;
      stays = λ t place some. all_stay (label_count b) (length (buffer_state b).bytes) x (places_of b) (places_of d) put.binds t place (h.stays t place some);
      bound = bound_more (places_of d) at done x (bound_stays (places_of b) (places_of d) at done (all_stay (label_count b) (length (buffer_state b).bytes) x (places_of b) (places_of d) put.binds) h.bound) (subst (λ (n : ℕ). IsBound (places_of d) n x) here (is_bound (label_count b) (length (buffer_state b).bytes) x (places_of b) (places_of d) put.binds));
      are = subst (λ (l : List HqItem). HasPlaces (places_of d) l) (append_assoc front done (x ∷ [])) (places_more (label_count b) (length (buffer_state b).bytes) (front ++ done) x (places_of b) (places_of d) put.binds h.are);
    }

-- One that was put can be.

datum_kind : (x : HqItem) → IsDatum x → x.kind ≡ 0 → ⊥
datum_kind x (inl e) z = kinds x.kind 1 0 e z (λ k. cc)
datum_kind x (inr (inl e)) z = kinds x.kind 20 0 e z (λ k. omega (arith, k))
datum_kind x (inr (inr (inl e))) z = kinds x.kind 21 0 e.0 z (λ k. omega (arith, k))
datum_kind x (inr (inr (inr e))) z = kinds x.kind 22 0 e.0 z (λ k. omega (arith, k))

pub put_can : (given at : ℕ) (xs : List HqItem) (x : HqItem) (other : ℤ) (old new : DeferredTarget → Option ℕ) → IsDatum x → BindsAt given at x old new → HasPlaces old xs → CantBePut given xs x other → ⊥
put_can given at xs x other old new datum b h (inl c) = datum_kind x datum c.0
put_can given at xs x other old new datum (inl b) h (inr (inl c)) = let lt : x.number < given = b.1 in omega (arith, lt, c.2)
put_can given at xs x other old new datum (inr (inl b)) h (inr (inl c)) = kinds x.kind 1 20 c.1 b.0 (λ z. omega (arith, z))
put_can given at xs x other old new datum (inr (inr b)) h (inr (inl c)) = b.0 c.1
put_can given at xs x other old new datum (inl b) h (inr (inr c)) = h.labels x.number (subst (λ (k : ℕ). Binds k x.number xs) b.0 c.2) b.2.free
put_can given at xs x other old new datum (inr (inl b)) h (inr (inr c)) = h.constants x.number (subst (λ (k : ℕ). Binds k x.number xs) b.0 c.2) b.1.free
put_can given at xs x other old new datum (inr (inr b)) h (inr (inr (s, inl one, c))) = b.0 one
put_can given at xs x other old new datum (inr (inr b)) h (inr (inr (s, inr twenty, c))) = b.1 twenty

pub refused_can : (given : ℕ) (xs : List HqItem) (x : HqItem) (status : ℤ) (places : DeferredTarget → Option ℕ) → HasPlaces places xs → DatumRefused given places x status → (status ≡ pos 11) ⊎ CantBePut given xs x status
refused_can given xs x status places h (inl m) = inl m
refused_can given xs x status places h (inr (inl c)) = inr (inr (inl c))
refused_can given xs x status places h (inr (inr (inl c))) = inr (inr (inr (c.0, inl c.1, subst (λ (k : ℕ). Binds k x.number xs) (sym c.1) (h.only_labels x.number c.2.0 c.2.1))))
refused_can given xs x status places h (inr (inr (inr c))) = inr (inr (inr (c.0, inr c.1, subst (λ (k : ℕ). Binds k x.number xs) (sym c.1) (h.only_constants x.number c.2.0 c.2.1))))

-- Items of data put one after the other.

-- what the loop keeps
abbrev pub PutUpTo : {A : Type 0} → ℕ → List HqItem → List HqItem → CodeBuffer A → ℕ → Type 0
PutUpTo given front items b i = Behind given front (take i items) (buffer_state b) (places_of b) × NoneBehind given front items i

pub put_more : {A : Type 0} (given : ℕ) (front items : List HqItem) (d : HqItem) (i : ℕ) (b c : CodeBuffer A) → i < length items → IsDatum (get_or items i d) → label_count b ≡ given → PutsDatum (get_or items i d) b c → PutUpTo given front items b i → PutUpTo given front items c (i + 1)
put_more given front items d i b c within datum count put h =
    let binds : BindsAt given (length (buffer_state b).bytes) (get_or items i d) (places_of b) (places_of c) = subst (λ (n : ℕ). BindsAt n (length (buffer_state b).bytes) (get_or items i d) (places_of b) (places_of c)) count put.binds in (
      subst (λ (l : List HqItem). Behind given front l (buffer_state c) (places_of c)) (sym (take_more items i d within)) (behind_more given front (take i items) (get_or items i d) b c h.0 put),
      λ k earlier other lt is denied. by_order k earlier other lt is denied binds (cases_lt k i),
    )
  where
    by_order : (k : ℕ) (earlier : HqItem) (other : ℤ) → k < i + 1 → slice_get items k ≡ Some earlier → CantBePut given (front ++ take k items) earlier other → BindsAt given (length (buffer_state b).bytes) (get_or items i d) (places_of b) (places_of c) → (k < i) ⊎ (i ≤ k) → ⊥
    by_order k earlier other lt is denied binds (inl less) = h.1 k earlier other less is denied
    by_order k earlier other lt is denied binds (inr more) =
        let here : k ≡ i = omega (arith, lt, more) in
        let same : earlier ≡ get_or items i d = same_Some earlier (get_or items i d) (sym is ∙ ap (slice_get items) here ∙ slice_get-get_or items i d within) in
        put_can given (length (buffer_state b).bytes) (front ++ take i items) (get_or items i d) other (places_of b) (places_of c) datum binds h.0.are (subst (λ (x : HqItem). CantBePut given (front ++ take i items) x other) same (subst (λ (n : ℕ). CantBePut given (front ++ take n items) earlier other) here denied))

first_by : {A : Type 0} (given : ℕ) (front items : List HqItem) (d : HqItem) (i : ℕ) (status : ℤ) (b : CodeBuffer A) → i < length items → PutUpTo given front items b i → (status ≡ pos 11) ⊎ CantBePut given (front ++ take i items) (get_or items i d) status → (status ≡ pos 11) ⊎ FirstBehind given front items i status
first_by given front items d i status b within h (inl m) = inl m
first_by given front items d i status b within h (inr c) = inr (record { item = get_or items i d; there = slice_get-get_or items i d within; why = c; first = h.1 })

pub put_refused : {A : Type 0} (given : ℕ) (front items : List HqItem) (d : HqItem) (i : ℕ) (status told : ℤ) (b : CodeBuffer A) → i < length items → label_count b ≡ given → told ≡ status → PutUpTo given front items b i → DatumRefused (label_count b) (places_of b) (get_or items i d) status → (told ≡ pos 11) ⊎ FirstBehind given front items i told
put_refused given front items d i status told b within count is h refused =
    let by : DatumRefused given (places_of b) (get_or items i d) told = subst (λ (n : ℕ). DatumRefused n (places_of b) (get_or items i d) told) count (subst (λ (z : ℤ). DatumRefused (label_count b) (places_of b) (get_or items i d) z) (sym is) refused) in
    first_by given front items d i told b within h (refused_can given (front ++ take i items) (get_or items i d) told (places_of b) h.0.are by)
