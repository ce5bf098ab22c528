use Rattle.std.proofs.Common.{◌≡◌, ℕ, zero, suc, ◌+◌, ◌-◌, ◌*◌, ◌/◌, ◌%◌, ◌^◌, ◌<◌, ◌≤◌, refl, sym, ap, ◌∙◌, List, [], ◌∷◌, ◌++◌, length, take, drop, w64, arith, slice_index_or, bit_and, bit_or}
use Rattle.std.proofs.lemmas.List.{take_at, drop_at}
use Rattle.std.proofs.lemmas.Nat.{and_mask}
use Rattle.std.proofs.lemmas.Nat.Bits.{and_high_mask}
use Rattle.std.specs.Int.{byte_at, bytes_low_first, to_le_bytes}
use Rattle.std.specs.Int.Bits.{or_shifted_r}
use Rattle.std.proofs.Math.Nat.{div-div-eq-div-mul, div-one, add-mul-mod_self_right, add-mul-div_right, div-lt_iff_lt-mul, mul_assoc, pow-suc, pow-le-pow_right, one-le-pow, mod-lt, mod-add-div'}

-- The lowest bytes of a number.

abbrev low : ℕ → ℕ → List ℕ
low zero n = []
low (suc k) n = n % 256 ∷ low k (n / 256)

low_length : (k n : ℕ) → length (low k n) ≡ k
low_length zero n = refl
low_length (suc k) n = ap suc (low_length k (n / 256))

byte_is : (i n : ℕ) → byte_at i n ≡ n / 256 ^ i % 256
byte_is zero n = ap (λ (m : ℕ). m % 256) (sym (div-one n))
byte_is (suc i) n = refl

next_is : (i n : ℕ) → n / 256 ^ i / 256 ≡ n / 256 ^ suc i
next_is i n = div-div-eq-div-mul n (256 ^ i) 256 ∙ ap (λ (m : ℕ). n / m) (sym (pow-suc 256 i))

from_byte : (i k n : ℕ) → bytes_low_first i k n ≡ low k (n / 256 ^ i)
from_byte i zero n = refl
from_byte i (suc k) n =
    ap (λ (b : ℕ). b ∷ bytes_low_first (suc i) k n) (byte_is i n) ∙ ap (λ (bs : List ℕ). n / 256 ^ i % 256 ∷ bs) (from_byte (suc i) k n ∙ ap (low k) (sym (next_is i n)))

word_is : (n : ℕ) → to_le_bytes w64 n ≡ low 8 n
word_is n = from_byte 0 8 n ∙ ap (low 8) (div-one n)

-- a number in two parts
low_append : (l m k w v : ℕ) → k ≡ l + m → w < 256 ^ l → low k (w + v * 256 ^ l) ≡ low l w ++ low m v
low_append zero m k w v e h =
    let same : k ≡ m = omega (arith, e) in
    let all : w + v * 1 ≡ v = omega (arith, h) in
    rw (same, all) refl
low_append (suc l) m k w v e h =
    let is : k ≡ suc (l + m) = omega (arith, e) in
    let p : v * 256 ^ suc l ≡ v * 256 ^ l * 256 = ap (λ (n : ℕ). v * n) (pow-suc 256 l) ∙ sym (mul_assoc v (256 ^ l) 256) in
    let head : (w + v * 256 ^ suc l) % 256 ≡ w % 256 = ap (λ (n : ℕ). (w + n) % 256) p ∙ add-mul-mod_self_right w (v * 256 ^ l) 256 in
    let rest : (w + v * 256 ^ suc l) / 256 ≡ w / 256 + v * 256 ^ l = ap (λ (n : ℕ). (w + n) / 256) p ∙ add-mul-div_right w (v * 256 ^ l) (omega arith) in
    let small : w / 256 < 256 ^ l = (div-lt_iff_lt-mul (omega arith)).1 (rw (pow-suc 256 l) at h) in
    ap (λ (n : ℕ). low n (w + v * 256 ^ suc l)) is
    ∙ ap (λ (x : ℕ). x ∷ low (l + m) ((w + v * 256 ^ suc l) / 256)) head
    ∙ ap (λ (n : ℕ). w % 256 ∷ low (l + m) n) rest
    ∙ ap (λ (bs : List ℕ). w % 256 ∷ bs) (low_append l m (l + m) (w / 256) v refl small)

below : (l n : ℕ) → n % 256 ^ l < 256 ^ l
below l n = mod-lt n (one-le-pow l 256 (omega arith))

parts : (l m n : ℕ) → l + m ≡ 8 → to_le_bytes w64 n ≡ low l (n % 256 ^ l) ++ low m (n / 256 ^ l)
parts l m n e = word_is n ∙ ap (low 8) (sym (mod-add-div' n (256 ^ l))) ∙ low_append l m 8 (n % 256 ^ l) (n / 256 ^ l) (sym e) (below l n)

-- the lowest bytes of one word below those of another
blend : (l w o : ℕ) → l ≤ 8 → to_le_bytes w64 (w % 256 ^ l + o / 256 ^ l * 256 ^ l) ≡ take l (to_le_bytes w64 w) ++ drop l (to_le_bytes w64 o)
blend l w o h =
    let e : l + (8 - l) ≡ 8 = omega (arith, h) in
    let front : take l (to_le_bytes w64 w) ≡ low l (w % 256 ^ l) = ap (take l) (parts l (8 - l) w e) ∙ take_at (low l (w % 256 ^ l)) (low (8 - l) (w / 256 ^ l)) l (low_length l (w % 256 ^ l)) in
    let back : drop l (to_le_bytes w64 o) ≡ low (8 - l) (o / 256 ^ l) = ap (drop l) (parts l (8 - l) o e) ∙ drop_at (low l (o % 256 ^ l)) (low (8 - l) (o / 256 ^ l)) l (low_length l (o % 256 ^ l)) in
    word_is (w % 256 ^ l + o / 256 ^ l * 256 ^ l)
    ∙ low_append l (8 - l) 8 (w % 256 ^ l) (o / 256 ^ l) (sym e) (below l w)
    ∙ ap (λ (bs : List ℕ). bs ++ low (8 - l) (o / 256 ^ l)) (sym front)
    ∙ ap (λ (bs : List ℕ). take l (to_le_bytes w64 w) ++ bs) (sym back)

-- The masks.

abbrev above : List ℕ
above = 0xFFFF_FFFF_FFFF_FFFF ∷ 0xFFFF_FFFF_FFFF_FF00 ∷ 0xFFFF_FFFF_FFFF_0000 ∷ 0xFFFF_FFFF_FF00_0000 ∷ 0xFFFF_FFFF_0000_0000 ∷ 0xFFFF_FF00_0000_0000 ∷ 0xFFFF_0000_0000_0000 ∷ 0xFF00_0000_0000_0000 ∷ 0 ∷ []

each_count : (P : ℕ → Type 0) → P 0 → P 1 → P 2 → P 3 → P 4 → P 5 → P 6 → P 7 → P 8 → (l : ℕ) → l ≤ 8 → P l
each_count P a b c d e f g i j zero h = a
each_count P a b c d e f g i j (suc zero) h = b
each_count P a b c d e f g i j (suc (suc zero)) h = c
each_count P a b c d e f g i j (suc (suc (suc zero))) h = d
each_count P a b c d e f g i j (suc (suc (suc (suc zero)))) h = e
each_count P a b c d e f g i j (suc (suc (suc (suc (suc zero))))) h = f
each_count P a b c d e f g i j (suc (suc (suc (suc (suc (suc zero)))))) h = g
each_count P a b c d e f g i j (suc (suc (suc (suc (suc (suc (suc zero))))))) h = i
each_count P a b c d e f g i j (suc (suc (suc (suc (suc (suc (suc (suc zero)))))))) h = j
each_count P a b c d e f g i j (suc (suc (suc (suc (suc (suc (suc (suc (suc l))))))))) h = let bad : ⊥ = omega (arith, h) in absurd bad

mask_is : (l : ℕ) → l ≤ 8 → slice_index_or above l 0 ≡ 2 ^ 64 - 2 ^ (8 * l)
mask_is = each_count (λ l. slice_index_or above l 0 ≡ 2 ^ 64 - 2 ^ (8 * l)) refl refl refl refl refl refl refl refl refl

bits_are : (l : ℕ) → l ≤ 8 → 2 ^ (8 * l) ≡ 256 ^ l
bits_are = each_count (λ l. 2 ^ (8 * l) ≡ 256 ^ l) refl refl refl refl refl refl refl refl refl

masked : (k w o mask : ℕ) → k ≤ 64 → o < 2 ^ 64 → mask ≡ 2 ^ 64 - 2 ^ k → bit_or (bit_and w (2 ^ 64 - 1 - mask)) (bit_and o mask) ≡ w % 2 ^ k + o / 2 ^ k * 2 ^ k
masked k w o mask h fits e =
    let some : 1 ≤ 2 ^ k = one-le-pow k 2 (omega arith) in
    let most : 2 ^ k ≤ 2 ^ 64 = pow-le-pow_right {n = 2} (omega arith) {i = k} {j = 64} h in
    let turned : 2 ^ 64 - 1 - mask ≡ 2 ^ k - 1 = omega (arith, e, some, most) in
    let lowest : bit_and w (2 ^ 64 - 1 - mask) ≡ w % 2 ^ k = ap (bit_and w) turned ∙ and_mask w k in
    let others : bit_and o mask ≡ o / 2 ^ k * 2 ^ k = ap (bit_and o) e ∙ and_high_mask 64 k h o fits in
    let swap : o / 2 ^ k * 2 ^ k + w % 2 ^ k ≡ w % 2 ^ k + o / 2 ^ k * 2 ^ k = omega arith in
    ap (λ (n : ℕ). bit_or n (bit_and o mask)) lowest
    ∙ ap (bit_or (w % 2 ^ k)) others
    ∙ or_shifted_r (o / 2 ^ k) k (w % 2 ^ k) (mod-lt w some)
    ∙ swap

pub blended_bytes : (l w o : ℕ) → l ≤ 8 → o < 2 ^ 64 → to_le_bytes w64 (bit_or (bit_and w (2 ^ 64 - 1 - slice_index_or above l 0)) (bit_and o (slice_index_or above l 0))) ≡ take l (to_le_bytes w64 w) ++ drop l (to_le_bytes w64 o)
blended_bytes l w o h fits =
    let few : 8 * l ≤ 64 = omega (arith, h) in
    let number = masked (8 * l) w o (slice_index_or above l 0) few fits (mask_is l h) in
    ap (to_le_bytes w64) number
    ∙ ap (λ (n : ℕ). to_le_bytes w64 (w % n + o / n * n)) (bits_are l h)
    ∙ blend l w o h
