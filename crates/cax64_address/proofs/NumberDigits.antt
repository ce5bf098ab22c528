-- The digits of a number are those of its front, and then a fixed number of others.
use Rattle.std.proofs.Common.{◌≡◌, ℕ, zero, suc, ◌+◌, ◌/◌, ◌%◌, ◌^◌, ◌<◌, ◌≤◌, arith, refl, ap, sym, ◌∙◌, Bool, false, cond, List, [], ◌∷◌, ◌++◌, length, append_assoc, ◌⊎◌, inl, inr}
use Rattle.std.specs.Fmt.{decimal, digit_glyph, digits, digits_onto}
use Rattle.std.proofs.lemmas.Fmt.{decimal_step}
use Rattle.std.proofs.lemmas.List.{length_push}
use Rattle.cax64_address.specs.Digits.{two_digits, four_digits, eight_digits}
use borrow.Author.Tests.{eq-eqb, ne_eqb, lt-ltb}

abbrev spell : ℕ → ℕ → List ℕ → List ℕ
spell k n acc = digits_onto k 16 false n acc

abbrev last : ℕ → ℕ
last n = digit_glyph false (n % 16)

split_at : (n k : ℕ) → (n < k) ⊎ (k ≤ n)
split_at n zero = inr (omega arith)
split_at zero (suc k) = inl (omega arith)
split_at (suc n) (suc k) = elim (split_at n k) [ inl h ↦ inl (omega (arith, h)) | inr h ↦ inr (omega (arith, h)) ]

spell_last : (k n : ℕ) (acc : List ℕ) → n < 16 → spell (suc k) n acc ≡ last n ∷ acc
spell_last k n acc h = ap (λ (t : Bool). cond t (last n ∷ acc) (spell k (n / 16) (last n ∷ acc))) (eq-eqb (n / 16) 0 (omega arith))

spell_next : (k n : ℕ) (acc : List ℕ) → 16 ≤ n → spell (suc k) n acc ≡ spell k (n / 16) (last n ∷ acc)
spell_next k n acc h = ap (λ (t : Bool). cond t (last n ∷ acc) (spell k (n / 16) (last n ∷ acc))) (ne_eqb (n / 16) 0 (λ e. omega arith))

spell-append : (k n : ℕ) (acc : List ℕ) → spell k n acc ≡ spell k n [] ++ acc
spell-append zero n acc = refl
spell-append (suc k) n acc = elim (split_at n 16) [
  | inl l ↦ spell_last k n acc l ∙ ap (λ x. x ++ acc) (sym (spell_last k n [] l))
  | inr l ↦ spell_next k n acc l ∙ spell-append k (n / 16) (last n ∷ acc) ∙ sym (append_assoc (spell k (n / 16) []) (last n ∷ []) acc) ∙ ap (λ x. x ++ acc) (sym (spell_next k n [] l ∙ spell-append k (n / 16) (last n ∷ [])))
]

-- how many digits there may be doesn't matter where it is enough
spell_enough : (j k n : ℕ) (acc : List ℕ) → n < 16 ^ suc j → n < 16 ^ suc k → spell (suc j) n acc ≡ spell (suc k) n acc
spell_enough zero k n acc p q = spell_last zero n acc (omega arith) ∙ sym (spell_last k n acc (omega arith))
spell_enough (suc j) zero n acc p q = spell_last (suc j) n acc (omega arith) ∙ sym (spell_last zero n acc (omega arith))
spell_enough (suc j) (suc k) n acc p q = elim (split_at n 16) [
  | inl l ↦ spell_last (suc j) n acc l ∙ sym (spell_last (suc k) n acc l)
  | inr l ↦ spell_next (suc j) n acc l ∙ spell_enough j k (n / 16) (last n ∷ acc) (omega arith) (omega arith) ∙ sym (spell_next (suc k) n acc l)
]

digits_is_spell : (n : ℕ) → spell 64 n [] ≡ digits 16 false n
unfolding digits
digits_is_spell n = refl

hex_step : (n : ℕ) → 16 ≤ n → n < 2 ^ 64 → digits 16 false n ≡ digits 16 false (n / 16) ++ (last n ∷ [])
hex_step n h small =
    sym (digits_is_spell n) ∙ spell_next 63 n [] h ∙ spell_enough 62 63 (n / 16) (last n ∷ []) (omega arith) (omega arith) ∙ spell-append 64 (n / 16) (last n ∷ [])
    ∙ ap (λ x. x ++ (last n ∷ [])) (digits_is_spell (n / 16))

pub hex_two : (n : ℕ) → 256 ≤ n → n < 2 ^ 64 → digits 16 false n ≡ digits 16 false (n / 256) ++ two_digits (n % 256)
hex_two n h small =
    let front : n / 16 / 16 ≡ n / 256 = omega arith in
    let high : n / 16 % 16 ≡ n % 256 / 16 = omega arith in
    let low : n % 16 ≡ n % 256 % 16 = omega arith in
    rw (hex_step n (omega arith) small, hex_step (n / 16) (omega arith) (omega arith), append_assoc, front, high, low) refl

pub hex_four : (n : ℕ) → 65536 ≤ n → n < 2 ^ 64 → digits 16 false n ≡ digits 16 false (n / 65536) ++ four_digits (n % 65536)
hex_four n h small =
    let front : n / 256 / 256 ≡ n / 65536 = omega arith in
    let high : n / 256 % 256 ≡ n % 65536 / 256 = omega arith in
    let low : n % 256 ≡ n % 65536 % 256 = omega arith in
    rw (hex_two n (omega arith) small, hex_two (n / 256) (omega arith) (omega arith), append_assoc, front, high, low) refl

pub hex_eight : (n : ℕ) → 4294967296 ≤ n → n < 2 ^ 64 → digits 16 false n ≡ digits 16 false (n / 4294967296) ++ eight_digits (n % 4294967296)
hex_eight n h small =
    let front : n / 65536 / 65536 ≡ n / 4294967296 = omega arith in
    let high : n / 65536 % 65536 ≡ n % 4294967296 / 65536 = omega arith in
    let low : n % 65536 ≡ n % 4294967296 % 65536 = omega arith in
    rw (hex_four n (omega arith) small, hex_four (n / 65536) (omega arith) (omega arith), append_assoc, front, high, low) refl

-- how many digits there are

spell-length-le : (k n : ℕ) (acc : List ℕ) → length (spell k n acc) ≤ k + length acc
spell-length-le zero n acc = omega arith
spell-length-le (suc k) n acc = elim (split_at n 16) [
  | inl l ↦ rw (spell_last k n acc l) (omega arith)
  | inr l ↦ rw (spell_next k n acc l) (omega (arith, spell-length-le k (n / 16) (last n ∷ acc)))
]

pub hex_at_most : (n : ℕ) → n < 2 ^ 64 → length (digits 16 false n) ≤ 16
hex_at_most n small = rw (← digits_is_spell n, spell_enough 63 15 n [] (omega arith) (omega arith)) (spell-length-le 16 n [])

pub hex_length_one : (n : ℕ) → n < 16 → length (digits 16 false n) ≡ 1
hex_length_one n h = rw (← digits_is_spell n, spell_last 63 n [] h) refl

pub hex_length_more : (n : ℕ) → 16 ≤ n → n < 2 ^ 64 → length (digits 16 false n) ≡ length (digits 16 false (n / 16)) + 1
hex_length_more n h small = ap length (hex_step n h small) ∙ length_push (digits 16 false (n / 16)) (last n)

-- the digits of the front, and then the others

join : (old mid new front rest whole : List ℕ) → whole ≡ front ++ rest → mid ≡ old ++ front → new ≡ mid ++ rest → new ≡ old ++ whole
join old mid new front rest whole w a b = b ∙ ap (λ x. x ++ rest) a ∙ append_assoc old front rest ∙ ap (λ x. old ++ x) (sym w)

pub add_two : (old mid new : List ℕ) (n : ℕ) → 256 ≤ n → n < 2 ^ 64 → mid ≡ old ++ digits 16 false (n / 256) → new ≡ mid ++ two_digits (n % 256) → new ≡ old ++ digits 16 false n
add_two old mid new n h small a b = join old mid new _ _ _ (hex_two n h small) a b

pub add_four : (old mid new : List ℕ) (n : ℕ) → 65536 ≤ n → n < 2 ^ 64 → mid ≡ old ++ digits 16 false (n / 65536) → new ≡ mid ++ four_digits (n % 65536) → new ≡ old ++ digits 16 false n
add_four old mid new n h small a b = join old mid new _ _ _ (hex_four n h small) a b

pub add_eight : (old mid new : List ℕ) (n : ℕ) → 4294967296 ≤ n → n < 2 ^ 64 → mid ≡ old ++ digits 16 false (n / 4294967296) → new ≡ mid ++ eight_digits (n % 4294967296) → new ≡ old ++ digits 16 false n
add_eight old mid new n h small a b = join old mid new _ _ _ (hex_eight n h small) a b

-- decimal digits: those of the front, and then the last

decimal_glyph : (d : ℕ) → d < 10 → digit_glyph false d ≡ 48 + d
decimal_glyph d h = ap (λ (b : Bool). cond b (48 + d) (87 + d)) (lt-ltb d 10 h)

pub add_last : (old mid new : List ℕ) (n : ℕ) → 10 ≤ n → n < 2 ^ 64 → mid ≡ old ++ decimal (n / 10) → new ≡ mid ++ (digit_glyph false (n % 10) ∷ []) → new ≡ old ++ decimal n
add_last old mid new n h small a b =
    join old mid new _ _ _ (decimal_step n h small) a (b ∙ ap (λ d. mid ++ (d ∷ [])) (decimal_glyph (n % 10) (omega arith)))
