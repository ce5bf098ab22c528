use Rattle.std.proofs.Common.{◌≡◌, ℕ, ◌+◌, ◌-◌, ◌≤◌, sym, ap, ◌∙◌, List, ◌++◌, length, take, drop, append_assoc, arith}
use Rattle.std.proofs.lemmas.List.{drop_at, drop-drop, drop-append-le, take-append-le, take-append-drop, length-take-le, length-drop}

-- what is left of the front, and all behind it
rest_is : (k n : ℕ) (xs : List ℕ) → k ≤ n → n ≤ length xs → drop k (take n xs) ++ drop n xs ≡ drop k xs
rest_is k n xs h room =
    let is : length (take n xs) ≡ n = length-take-le n xs room in
    let within : k ≤ length (take n xs) = omega (arith, h, is) in
    sym (drop-append-le k (take n xs) (drop n xs) within) ∙ ap (drop k) (take-append-drop n xs)

-- Some bytes written over the front, with more than these where others are: what is too much is as before.
placed : (k n : ℕ) (bytes xs : List ℕ) → k ≤ n → n ≤ length xs → (take k bytes ++ drop k (take n xs)) ++ drop n xs ≡ take k bytes ++ drop k xs
placed k n bytes xs h room = append_assoc (take k bytes) (drop k (take n xs)) (drop n xs) ∙ ap (λ (ys : List ℕ). take k bytes ++ ys) (rest_is k n xs h room)

-- one word over the front, and one over what stands behind so many of its bytes
pub both_placed : (count more : ℕ) (front rest second old mid new : List ℕ) → count ≤ 8 → more ≤ 8 → 16 ≤ length old → length front ≡ 8 → second ≡ take more rest ++ drop more (take 8 (drop count old)) → mid ≡ front ++ drop 8 old → new ≡ take count mid ++ second ++ drop (count + 8) mid → new ≡ take count front ++ take more rest ++ drop (count + more) old
both_placed count more front rest second old mid new few few_more room long is_second put put_second =
    let left : length (drop count old) ≡ length old - count = length-drop count old in
    let swap : count + 8 ≡ 8 + count = omega arith in
    let before : take count mid ≡ take count front = ap (take count) put ∙ take-append-le count front (drop 8 old) (omega (arith, few, long)) in
    let beyond : drop 8 mid ≡ drop 8 old = ap (drop 8) put ∙ drop_at front (drop 8 old) 8 long in
    let further : drop (count + 8) mid ≡ drop 8 (drop count old) =
    ap (λ (n : ℕ). drop n mid) swap ∙ sym (drop-drop count 8 mid) ∙ ap (drop count) beyond ∙ drop-drop count 8 old ∙ ap (λ (n : ℕ). drop n old) (sym swap) ∙ sym (drop-drop 8 count old) in
    put_second
    ∙ ap (λ (xs : List ℕ). xs ++ second ++ drop (count + 8) mid) before
    ∙ ap (λ (xs : List ℕ). take count front ++ second ++ xs) further
    ∙ append_assoc (take count front) second (drop 8 (drop count old))
    ∙ ap (λ (xs : List ℕ). take count front ++ (xs ++ drop 8 (drop count old))) is_second
    ∙ ap (λ (xs : List ℕ). take count front ++ xs) (placed more 8 rest (drop count old) few_more (omega (arith, left, room, few)))
    ∙ ap (λ (xs : List ℕ). take count front ++ (take more rest ++ xs)) (drop-drop more count old)
    ∙ sym (append_assoc (take count front) (take more rest) (drop (count + more) old))
