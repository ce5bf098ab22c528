use Rattle.std.proofs.Common.{◌≡◌, ℕ, zero, suc, ◌+◌, ◌-◌, ◌<◌, ◌≤◌, ◌≢◌, ◌⊎◌, inl, inr, arith, List, length, take, set, get_or, sum, ap, subst}
use Rattle.std.proofs.lemmas.Bool.{cases_lt, cases_eq}
use Rattle.std.proofs.lemmas.List.{take_all, get_or_past, get_or-set_same, get_or-set_other, take-set-le, ext_get_or}
use Rattle.std.proofs.lemmas.List.Sums.{sum_by_more, sum_by-set}
use Rattle.x64_layout.specs.Layout.{place_in, NoLonger}

-- Places, where some spans are longer.

place_past : (lens : List ℕ) (n : ℕ) → length lens ≤ n → place_in lens (n + 1) ≡ place_in lens n + get_or lens n 0
place_past lens n past =
    let next : take (n + 1) lens ≡ lens = take_all (n + 1) lens (omega arith) in
    let here : take n lens ≡ lens = take_all n lens past in
    let none : get_or lens n 0 ≡ 0 = get_or_past lens n 0 past in
    rw (next, here, none) (omega arith)

place_by : (lens : List ℕ) (n : ℕ) → (n < length lens) ⊎ (length lens ≤ n) → place_in lens (n + 1) ≡ place_in lens n + get_or lens n 0
place_by lens n (inl within) = sum_by_more (λ x. x) lens n 0 within
place_by lens n (inr past) = place_past lens n past

-- the next position
pub place_more : (lens : List ℕ) (n : ℕ) → place_in lens (n + 1) ≡ place_in lens n + get_or lens n 0
place_more lens n = place_by lens n (cases_lt n (length lens))

-- what is between two spans has no fewer bytes
gap_by : (a b : List ℕ) (i d : ℕ) → NoLonger a b → place_in a (i + d) + place_in b i ≤ place_in b (i + d) + place_in a i
gap_by a b i zero longer = let here : i + zero ≡ i = omega arith in rw here (omega arith)
gap_by a b i (suc d) longer =
    let before : place_in a (i + d) + place_in b i ≤ place_in b (i + d) + place_in a i = gap_by a b i d longer in
    let here : get_or a (i + d) 0 ≤ get_or b (i + d) 0 = longer (i + d) in
    let next : i + suc d ≡ i + d + 1 = omega arith in
    rw (next, place_more a (i + d), place_more b (i + d)) (omega arith)

pub gap_grows : (a b : List ℕ) (i k : ℕ) → NoLonger a b → i ≤ k → place_in a k + place_in b i ≤ place_in b k + place_in a i
gap_grows a b i k longer le =
    let far : i + (k - i) ≡ k = omega arith in
    subst (λ (n : ℕ). place_in a n + place_in b i ≤ place_in b n + place_in a i) far (gap_by a b i (k - i) longer)

-- a later span has no earlier position
order_by : (a : List ℕ) (i d : ℕ) → place_in a i ≤ place_in a (i + d)
order_by a i zero = let here : i + zero ≡ i = omega arith in rw here (omega arith)
order_by a i (suc d) =
    let before : place_in a i ≤ place_in a (i + d) = order_by a i d in
    let next : i + suc d ≡ i + d + 1 = omega arith in
    rw (next, place_more a (i + d)) (omega arith)

pub in_order : (a : List ℕ) (i k : ℕ) → i ≤ k → place_in a i ≤ place_in a k
in_order a i k le =
    let far : i + (k - i) ≡ k = omega arith in
    subst (λ (n : ℕ). place_in a i ≤ place_in a n) far (order_by a i (k - i))

-- each position is no earlier, and all have no fewer bytes
pub places_grow : (a b : List ℕ) (n : ℕ) → NoLonger a b → place_in a n ≤ place_in b n
places_grow a b n longer = omega (arith, gap_grows a b 0 n longer (omega arith))

pub sum_grows : (a b : List ℕ) → NoLonger a b → sum a ≤ sum b
sum_grows a b longer =
    let n : ℕ = length a + length b in
    let all_a : take n a ≡ a = take_all n a (omega arith) in
    let all_b : take n b ≡ b = take_all n b (omega arith) in
    omega (arith, places_grow a b n longer, ap sum all_a, ap sum all_b)

pub same_lens : (a b : List ℕ) → length a ≡ length b → NoLonger a b → NoLonger b a → a ≡ b
same_lens a b e ab ba = ext_get_or 0 a b e (λ i h. omega (arith, ab i, ba i))

-- One span is longer.

pub place_before : (lens : List ℕ) (n y k : ℕ) → k ≤ n → place_in (set lens n y) k ≡ place_in lens k
place_before lens n y k le = ap sum (take-set-le k lens n y le)

behind_by : (lens : List ℕ) (n y d : ℕ) → n < length lens → place_in (set lens n y) (n + 1 + d) + get_or lens n 0 ≡ place_in lens (n + 1 + d) + y
behind_by lens n y zero within =
    let e : n + 1 + zero ≡ n + 1 = omega arith in
    rw (e, place_more (set lens n y) n, place_more lens n) (omega (arith, place_before lens n y n (omega arith), get_or-set_same lens n y 0 within))
behind_by lens n y (suc d) within =
    let before : place_in (set lens n y) (n + 1 + d) + get_or lens n 0 ≡ place_in lens (n + 1 + d) + y = behind_by lens n y d within in
    let ne : n + 1 + d ≢ n = omega arith in
    let here : get_or (set lens n y) (n + 1 + d) 0 ≡ get_or lens (n + 1 + d) 0 = get_or-set_other lens n (n + 1 + d) y 0 ne in
    let next : n + 1 + suc d ≡ n + 1 + d + 1 = omega arith in
    rw (next, place_more (set lens n y) (n + 1 + d), place_more lens (n + 1 + d)) (omega arith)

pub place_behind : (lens : List ℕ) (n y k : ℕ) → n < length lens → n < k → place_in (set lens n y) k + get_or lens n 0 ≡ place_in lens k + y
place_behind lens n y k within lt =
    let far : n + 1 + (k - (n + 1)) ≡ k = omega arith in
    subst (λ (m : ℕ). place_in (set lens n y) m + get_or lens n 0 ≡ place_in lens m + y) far (behind_by lens n y (k - (n + 1)) within)

set_by : (a b : List ℕ) (n y i : ℕ) → n < length a → NoLonger a b → y ≤ get_or b n 0 → (i ≡ n) ⊎ (i ≢ n) → get_or (set a n y) i 0 ≤ get_or b i 0
set_by a b n y i within longer le (inl e) = rw e (omega (arith, get_or-set_same a n y 0 within))
set_by a b n y i within longer le (inr ne) = omega (arith, get_or-set_other a n i y 0 ne, longer i)

pub set_no_longer : (a b : List ℕ) (n y : ℕ) → n < length a → NoLonger a b → y ≤ get_or b n 0 → NoLonger (set a n y) b
set_no_longer a b n y within longer le = λ i. set_by a b n y i within longer le (cases_eq i n)

longer_by : (a : List ℕ) (n y i : ℕ) → n < length a → get_or a n 0 ≤ y → (i ≡ n) ⊎ (i ≢ n) → get_or a i 0 ≤ get_or (set a n y) i 0
longer_by a n y i within le (inl e) = rw e (omega (arith, get_or-set_same a n y 0 within))
longer_by a n y i within le (inr ne) = omega (arith, get_or-set_other a n i y 0 ne)

pub no_longer_set : (a : List ℕ) (n y : ℕ) → n < length a → get_or a n 0 ≤ y → NoLonger a (set a n y)
no_longer_set a n y within le = λ i. longer_by a n y i within le (cases_eq i n)

pub sum_set_grows : (lens : List ℕ) (n y : ℕ) → n < length lens → get_or lens n 0 < y → sum lens < sum (set lens n y)
sum_set_grows lens n y within lt = omega (arith, sum_by-set (λ x. x) lens n y 0 within)
