use Rattle.std.proofs.Common.{◌≡◌, ◌∙◌, ◌+◌, ◌-◌, ◌<◌, ◌≤◌, ℕ, zero, suc, refl, sym, ap, subst, arith, Bool, true, false, Option, Some, List, [], ◌∷◌, ◌++◌, drop, get_or, length, take, slice_get}
use Rattle.std.proofs.lemmas.List.{length-drop, take_all, take_more}
use Rattle.std.proofs.lemmas.Option.{slice_get-get_or}
use Rattle.std.specs.Prelude.{◌||◌, IfSome, if◌then◌else◌}
use Rattle.huqmeris_c.specs.Data.{items_of_code, data_of, is_data}
use Rattle.huqmeris_c.specs.Items.{has_data}
use Rattle.huqmeris_c.specs.declared.item.HqItem.{HqItem}

-- Items of code, and data behind them.

pub if_true : {A : Type 0} (b : Bool) (x y : A) → b ≡ true → (if b then x else y) ≡ x
if_true true x y e = refl
if_true false x y e = cc

pub if_false : {A : Type 0} (b : Bool) (x y : A) → b ≡ false → (if b then x else y) ≡ y
if_false true x y e = cc
if_false false x y e = refl

neither : (a b : Bool) → (a || b) ≡ false → (a ≡ false) × (b ≡ false)
neither true b e = cc
neither false b e = (refl, e)

or_else : (a b : Bool) → b ≡ true → (a || b) ≡ true
or_else true b e = refl
or_else false b e = e

-- a first item is data
abbrev pub Starts : List HqItem → Type 0
Starts items = IfSome (slice_get items 0) (λ x. is_data x.kind ≡ true)

pub split_code : (items : List HqItem) (n : ℕ) → has_data (take n items) ≡ false → IfSome (slice_get items n) (λ x. is_data x.kind ≡ true) → take n items ≡ items_of_code items
split_code [] zero none here = refl
split_code [] (suc n) none here = refl
split_code (x ∷ later) zero none here = sym (if_true (is_data x.kind) [] (x ∷ items_of_code later) here)
split_code (x ∷ later) (suc n) none here =
    let apart = neither (is_data x.kind) (has_data (take n later)) none in
    ap (λ (l : List HqItem). x ∷ l) (split_code later n apart.1 here) ∙ sym (if_false (is_data x.kind) [] (x ∷ items_of_code later) apart.0)

pub split_data : (items : List HqItem) (n : ℕ) → has_data (take n items) ≡ false → IfSome (slice_get items n) (λ x. is_data x.kind ≡ true) → drop n items ≡ data_of items
split_data [] zero none here = refl
split_data [] (suc n) none here = refl
split_data (x ∷ later) zero none here = sym (if_true (is_data x.kind) (x ∷ later) (data_of later) here)
split_data (x ∷ later) (suc n) none here =
    let apart = neither (is_data x.kind) (has_data (take n later)) none in
    split_data later n apart.1 here ∙ sym (if_false (is_data x.kind) (x ∷ later) (data_of later) apart.0)

joined_by : (x : HqItem) (later : List HqItem) (b : Bool) → items_of_code later ++ data_of later ≡ later → (if b then [] else x ∷ items_of_code later) ++ (if b then x ∷ later else data_of later) ≡ x ∷ later
joined_by x later true e = refl
joined_by x later false e = ap (λ (l : List HqItem). x ∷ l) e

pub joined : (items : List HqItem) → items_of_code items ++ data_of items ≡ items
joined [] = refl
joined (x ∷ later) = joined_by x later (is_data x.kind) (joined later)

no_data_by : (x : HqItem) (later : List HqItem) (b : Bool) → is_data x.kind ≡ b → has_data (items_of_code later) ≡ false → has_data (if b then [] else x ∷ items_of_code later) ≡ false
no_data_by x later true e h = refl
no_data_by x later false e h = ap (λ (c : Bool). c || has_data (items_of_code later)) e ∙ h

pub no_data : (items : List HqItem) → has_data (items_of_code items) ≡ false
no_data [] = refl
no_data (x ∷ later) = no_data_by x later (is_data x.kind) refl (no_data later)

starts_by : (x : HqItem) (later : List HqItem) (b : Bool) → is_data x.kind ≡ b → Starts (data_of later) → Starts (if b then x ∷ later else data_of later)
starts_by x later true e h = e
starts_by x later false e h = h

pub starts : (items : List HqItem) → Starts (data_of items)
starts [] = tt
starts (x ∷ later) = starts_by x later (is_data x.kind) refl (starts later)

pub none_taken : (items : List HqItem) (n : ℕ) → has_data items ≡ false → has_data (take n items) ≡ false
none_taken [] zero e = refl
none_taken [] (suc n) e = refl
none_taken (x ∷ later) zero e = refl
none_taken (x ∷ later) (suc n) e =
    let apart = neither (is_data x.kind) (has_data later) e in
    ap (λ (c : Bool). c || has_data (take n later)) apart.0 ∙ none_taken later n apart.1

pub none_at : (items : List HqItem) (n : ℕ) (x : HqItem) → has_data items ≡ false → slice_get items n ≡ Some x → is_data x.kind ≡ false
none_at [] n x e is = cc
none_at (y ∷ later) zero x e is = let same : y ≡ x = cc in ap (λ (i : HqItem). is_data i.kind) (sym same) ∙ (neither (is_data y.kind) (has_data later) e).0
none_at (y ∷ later) (suc n) x e is = none_at later n x (neither (is_data y.kind) (has_data later) e).1 is

pub one_less : (items : List HqItem) (x : HqItem) → has_data items ≡ false → is_data x.kind ≡ false → has_data (items ++ x ∷ []) ≡ false
one_less [] x e f = ap (λ (c : Bool). c || false) f
one_less (y ∷ later) x e f =
    let apart = neither (is_data y.kind) (has_data later) e in
    ap (λ (c : Bool). c || has_data (later ++ x ∷ [])) apart.0 ∙ one_less later x apart.1 f

pub data_behind : (front later : List HqItem) → has_data later ≡ true → has_data (front ++ later) ≡ true
data_behind [] later e = e
data_behind (x ∷ front) later e = or_else (is_data x.kind) (has_data (front ++ later)) (data_behind front later e)

first_there : (x : HqItem) (later : List HqItem) (n : ℕ) → is_data x.kind ≡ true → has_data (x ∷ take n later) ≡ true
first_there x later n e = ap (λ (c : Bool). c || has_data (take n later)) e

-- behind the first item of data there is data
pub data_before : (front rest : List HqItem) (n : ℕ) → Starts rest → suc n < length rest → has_data (front ++ take (suc n) rest) ≡ true
data_before front [] n e lt = absurd (omega arith)
data_before front (x ∷ rest) n e lt = data_behind front (take (suc n) (x ∷ rest)) (first_there x rest n e)

-- Parts of two lists.

pub get_within : {A : Type 0} (xs : List A) (n : ℕ) (x : A) → slice_get xs n ≡ Some x → n < length xs
get_within [] n x is = cc
get_within (y ∷ xs) zero x is = omega arith
get_within (y ∷ xs) (suc n) x is = let k = get_within xs n x is in omega (arith, k)

pub low_get : {A : Type 0} (a b : List A) (k : ℕ) → k < length a → slice_get (a ++ b) k ≡ slice_get a k
low_get [] b k lt = absurd (omega arith)
low_get (x ∷ a) b zero lt = refl
low_get (x ∷ a) b (suc k) lt = low_get a b k (omega arith)

pub low_take : {A : Type 0} (a b : List A) (k : ℕ) → k ≤ length a → take k (a ++ b) ≡ take k a
low_take [] b zero le = refl
low_take [] b (suc k) le = absurd (omega arith)
low_take (x ∷ a) b zero le = refl
low_take {A = A} (x ∷ a) b (suc k) le = ap (λ (l : List A). x ∷ l) (low_take a b k (omega arith))

pub high_get : {A : Type 0} (a b : List A) (j : ℕ) → slice_get (a ++ b) (length a + j) ≡ slice_get b j
high_get {A = A} [] b j = let e : length {A = A} [] + j ≡ j = omega arith in ap (slice_get b) e
high_get (x ∷ a) b j = let e : length (x ∷ a) + j ≡ suc (length a + j) = omega arith in ap (slice_get (x ∷ a ++ b)) e ∙ high_get a b j

pub high_take : {A : Type 0} (a b : List A) (j : ℕ) → take (length a + j) (a ++ b) ≡ a ++ take j b
high_take {A = A} [] b j = let e : length {A = A} [] + j ≡ j = omega arith in ap (λ (n : ℕ). take n b) e
high_take {A = A} (x ∷ a) b j = let e : length (x ∷ a) + j ≡ suc (length a + j) = omega arith in ap (λ (n : ℕ). take n (x ∷ a ++ b)) e ∙ ap (λ (l : List A). x ∷ l) (high_take a b j)

-- where the first item of data stands, and where there is none

pub here_is : (items : List HqItem) (d : HqItem) (i : ℕ) → i < length items → is_data (get_or items i d).kind ≡ true → IfSome (slice_get items i) (λ x. is_data x.kind ≡ true)
here_is items d i within e = subst (λ (o : Option HqItem). IfSome o (λ x. is_data x.kind ≡ true)) (sym (slice_get-get_or items i d within)) e

pub none_there : (items : List HqItem) (n : ℕ) → length items ≤ n → IfSome (slice_get items n) (λ x. is_data x.kind ≡ true)
none_there [] zero e = tt
none_there [] (suc n) e = tt
none_there (x ∷ later) zero e = absurd (omega arith)
none_there (x ∷ later) (suc n) e = none_there later n (omega arith)

pub none_more : (items : List HqItem) (d : HqItem) (i : ℕ) → i < length items → is_data (get_or items i d).kind ≡ false → has_data (take i items) ≡ false → has_data (take (i + 1) items) ≡ false
none_more items d i within e none = ap has_data (take_more items i d within) ∙ one_less (take i items) (get_or items i d) none e

-- all that stands from one on
pub rest_is : {A : Type 0} (at : ℕ) (xs : List A) → take (length xs - at) (drop at xs) ≡ drop at xs
rest_is at xs = take_all (length xs - at) (drop at xs) (let e = length-drop at xs in omega (arith, e))
