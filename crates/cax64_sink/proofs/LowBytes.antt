use Rattle.std.proofs.Common.{◌≡◌, ℕ, zero, suc, ◌+◌, ◌*◌, ◌/◌, ◌%◌, ◌^◌, ◌<◌, ◌≤◌, refl, sym, ap, ◌∙◌, List, [], ◌∷◌, ◌++◌, length, take, w64, arith}
use Rattle.std.proofs.lemmas.List.{length-take-le}
use Rattle.std.proofs.lemmas.Nat.{pow-add}
use Rattle.std.specs.Int.{byte_at, bytes_low_first, to_le_bytes}
use Rattle.std.proofs.Math.Nat.{div-div-eq-div-mul, div-one, add-mul-mod_self_right, add-mul-div_right, div-lt_iff_lt-mul, mul-le-mul_right, mul_assoc, pow-suc, pow-le-pow_right, one-le-pow, mod-eq_of_lt}

-- The lowest bytes of a number.

abbrev low : ℕ → ℕ → List ℕ
low zero n = []
low (suc k) n = n % 256 ∷ low k (n / 256)

byte_is : (i n : ℕ) → byte_at i n ≡ n / 256 ^ i % 256
byte_is zero n = ap (λ (m : ℕ). m % 256) (sym (div-one n))
byte_is (suc i) n = refl

next_is : (i n : ℕ) → n / 256 ^ i / 256 ≡ n / 256 ^ suc i
next_is i n = div-div-eq-div-mul n (256 ^ i) 256 ∙ ap (λ (m : ℕ). n / m) (sym (pow-suc 256 i))

from_byte : (i k n : ℕ) → bytes_low_first i k n ≡ low k (n / 256 ^ i)
from_byte i zero n = refl
from_byte i (suc k) n =
    ap (λ (b : ℕ). b ∷ bytes_low_first (suc i) k n) (byte_is i n) ∙ ap (λ (bs : List ℕ). n / 256 ^ i % 256 ∷ bs) (from_byte (suc i) k n ∙ ap (low k) (sym (next_is i n)))

word_is : (n : ℕ) → to_le_bytes w64 n ≡ low 8 n
word_is n = from_byte 0 8 n ∙ ap (low 8) (div-one n)

take_low : (l k n : ℕ) → l ≤ k → take l (low k n) ≡ low l n
take_low zero k n h = refl
take_low (suc l) zero n h = let bad : ⊥ = omega (arith, h) in absurd bad
take_low (suc l) (suc k) n h = ap (λ (bs : List ℕ). n % 256 ∷ bs) (take_low l k (n / 256) (omega (arith, h)))

pub shift_is : (l : ℕ) → l < 8 → 2 ^ (8 * l) ≡ 256 ^ l
shift_is zero h = refl
shift_is (suc zero) h = refl
shift_is (suc (suc zero)) h = refl
shift_is (suc (suc (suc zero))) h = refl
shift_is (suc (suc (suc (suc zero)))) h = refl
shift_is (suc (suc (suc (suc (suc zero))))) h = refl
shift_is (suc (suc (suc (suc (suc (suc zero)))))) h = refl
shift_is (suc (suc (suc (suc (suc (suc (suc zero))))))) h = refl
shift_is (suc (suc (suc (suc (suc (suc (suc (suc l)))))))) h = let bad : ⊥ = omega (arith, h) in absurd bad

-- how many bytes a word shows
pub view_length : (l w : ℕ) → l ≤ 8 → length (take l (to_le_bytes w64 w)) ≡ l
view_length l w h = length-take-le l (to_le_bytes w64 w) h

-- A word with the bytes of another behind its own.

low_append : (l m k w v : ℕ) → k ≡ l + m → w < 256 ^ l → v < 256 ^ m → low k (w + v * 256 ^ l) ≡ low l w ++ low m v
low_append zero m k w v e h hv =
    let same : k ≡ m = omega (arith, e) in
    let all : w + v * 1 ≡ v = omega (arith, h) in
    rw (same, all) refl
low_append (suc l) m k w v e h hv =
    let is : k ≡ suc (l + m) = omega (arith, e) in
    let p : v * 256 ^ suc l ≡ v * 256 ^ l * 256 = ap (λ (n : ℕ). v * n) (pow-suc 256 l) ∙ sym (mul_assoc v (256 ^ l) 256) in
    let head : (w + v * 256 ^ suc l) % 256 ≡ w % 256 = ap (λ (n : ℕ). (w + n) % 256) p ∙ add-mul-mod_self_right w (v * 256 ^ l) 256 in
    let rest : (w + v * 256 ^ suc l) / 256 ≡ w / 256 + v * 256 ^ l = ap (λ (n : ℕ). (w + n) / 256) p ∙ add-mul-div_right w (v * 256 ^ l) (omega arith) in
    let small : w / 256 < 256 ^ l = (div-lt_iff_lt-mul (omega arith)).1 (rw (pow-suc 256 l) at h) in
    ap (λ (n : ℕ). low n (w + v * 256 ^ suc l)) is
    ∙ ap (λ (x : ℕ). x ∷ low (l + m) ((w + v * 256 ^ suc l) / 256)) head
    ∙ ap (λ (n : ℕ). w % 256 ∷ low (l + m) n) rest
    ∙ ap (λ (bs : List ℕ). w % 256 ∷ bs) (low_append l m (l + m) (w / 256) v refl small hv)

pub view_append : (l m w v : ℕ) → l + m ≤ 8 → w < 256 ^ l → v < 256 ^ m → take (l + m) (to_le_bytes w64 (w + v * 256 ^ l)) ≡ take l (to_le_bytes w64 w) ++ take m (to_le_bytes w64 v)
view_append l m w v room h hv =
    let left : take l (to_le_bytes w64 w) ≡ low l w = ap (take l) (word_is w) ∙ take_low l 8 w (omega (arith, room)) in
    let right : take m (to_le_bytes w64 v) ≡ low m v = ap (take m) (word_is v) ∙ take_low m 8 v (omega (arith, room)) in
    ap (take (l + m)) (word_is (w + v * 256 ^ l)) ∙ take_low (l + m) 8 (w + v * 256 ^ l) room ∙ low_append l m (l + m) w v refl h hv ∙ rw (left, right) refl

pub both_below : (l m w v : ℕ) → w < 256 ^ l → v < 256 ^ m → w + v * 256 ^ l < 256 ^ (l + m)
both_below l m w v h hv =
    let most : suc v * 256 ^ l ≤ 256 ^ m * 256 ^ l = mul-le-mul_right (256 ^ l) (omega (arith, hv)) in
    let more : suc v * 256 ^ l ≡ v * 256 ^ l + 256 ^ l = omega arith in
    rw (pow-add 256 l m) (omega (arith, h, most, more))

both_room : (l m : ℕ) → l + m ≤ 8 → 256 ^ (l + m) ≤ 2 ^ 64
both_room l m h = pow-le-pow_right {n = 256} (omega arith) {i = l + m} {j = 8} h

pub word_shifted : (l m v k : ℕ) → l < 8 → l + m ≤ 8 → v < 256 ^ m → k ≡ l → v * 2 ^ (8 * k) % 2 ^ 64 ≡ v * 256 ^ l
word_shifted l m v k few room h same =
    let below : 0 + v * 256 ^ l < 256 ^ (l + m) = both_below l m 0 v (one-le-pow l 256 (omega arith)) h in
    let most = both_room l m room in
    rw (same, shift_is l few) (mod-eq_of_lt (omega (arith, below, most)))

pub both_fit : (l m w v : ℕ) → l + m ≤ 8 → w < 256 ^ l → v < 256 ^ m → w + v * 256 ^ l < 2 ^ 64
both_fit l m w v room h hv =
    let below = both_below l m w v h hv in
    let most = both_room l m room in
    omega (arith, below, most)
