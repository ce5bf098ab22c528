-- That operands which print alike agree: each part of a text ends at a mark that it doesn't hold.
use Rattle.std.proofs.Common.{◌≡◌, ◌↔◌, ℕ, zero, suc, ◌+◌, ◌<◌, ◌≤◌, ◌^◌, arith, refl, ap, sym, ◌∙◌, ℤ, pos, negsuc, Bool, true, false, List, [], ◌∷◌, ◌++◌, Option, Some, None, get_or, append_assoc, IsTrue, ◌⊎◌, inl, inr}
use Rattle.std.specs.Prelude.{nat_lt, if◌then◌else◌, ◌==◌, codes}
use Rattle.std.specs.Char.{digit_value}
use Rattle.std.specs.Fmt.{digits, decimal}
use Rattle.std.specs.Str.Parse.{AllDigits, digits_value}
use Rattle.std.proofs.lemmas.Bool.Decides.{nat_tests}
use Rattle.std.proofs.lemmas.Fmt.{digits_is_IsNumeral, decimal_is_IsNumeral, decimal_digit}
use Rattle.cax64_address.specs.Offset.{fits_i32}
use Rattle.cax64_text.specs.PrintedAlike.{hardware_text, IsKey, IsBased, SamePrinted}
use Rattle.cax64_address.specs.Text.{short_number, hexadecimal, magnitude_text, offset_text, late_text, comma, scale_text, amode_text}
use Rattle.cax64_address.specs.declared.amode.Amode.{Amode}
use Rattle.cax64_address.specs.declared.amode.Amode.TheVariants.{ImmReg, ImmRegRegShift, RipRelative}
use Rattle.cax64_address.specs.declared.amode.Scale.{Scale}
use Rattle.cax64_address.specs.declared.amode.Scale.TheVariants.{One, Two, Four, Eight}
use Rattle.cax64_address.specs.declared.text.Dialect.{Dialect}
use Rattle.cax64_address.specs.declared.text.Dialect.TheVariants.{Att, Xed}
use Rattle.cax64_register.specs.Names.{gpr_name, gpr_names}
use Rattle.cax64_register.specs.declared.gpr.Size.TheVariants.{Quadword}

first : (x y : ℕ) (xs ys : List ℕ) → (x ∷ xs) ≡ (y ∷ ys) → x ≡ y
first x y xs ys e = cc

later : (x y : ℕ) (xs ys : List ℕ) → (x ∷ xs) ≡ (y ∷ ys) → xs ≡ ys
later x y xs ys e = cc

cancel : (p r s : List ℕ) → p ++ r ≡ p ++ s → r ≡ s
cancel [] r s e = e
cancel (x ∷ p) r s e = cancel p r s (later x x _ _ e)

clash : (value : ℕ → ℕ) (radix m x : ℕ) → value x < radix → radix ≤ value m → m ≡ x → ⊥
clash value radix m x p h e = omega (arith, p, h, ap value e)

-- digits end at what is no digit
cut : (radix m : ℕ) (ds es r s : List ℕ) → AllDigits radix ds → AllDigits radix es → radix ≤ digit_value m → ds ++ (m ∷ r) ≡ es ++ (m ∷ s) → (ds ≡ es) × (r ≡ s)
cut radix m [] [] r s p q h e = (refl, later m m r s e)
cut radix m [] (x ∷ es) r s p q h e = absurd (clash digit_value radix m x q.0 h (first m x _ _ e))
cut radix m (x ∷ ds) [] r s p q h e = absurd (clash digit_value radix m x p.0 h (sym (first x m _ _ e)))
cut radix m (x ∷ ds) (y ∷ es) r s p q h e =
    let rest = cut radix m ds es r s p.1 q.1 h (later x y _ _ e) in
    let head = first x y _ _ e in
    (cc (head, rest.0), rest.1)

hex_cut : (n k m : ℕ) (r s : List ℕ) → n < 16 ^ 64 → k < 16 ^ 64 → 16 ≤ digit_value m → digits 16 false n ++ (m ∷ r) ≡ digits 16 false k ++ (m ∷ s) → (n ≡ k) × (r ≡ s)
hex_cut n k m r s hn hk h e =
    let a = digits_is_IsNumeral 16 false (omega arith) (omega arith) n hn in
    let b = digits_is_IsNumeral 16 false (omega arith) (omega arith) k hk in
    let c = cut 16 m _ _ r s a.0.1 b.0.1 h e in
    (sym a.1 ∙ (ap (digits_value 16) c.0 ∙ b.1), c.1)

decimal_cut : (n k m : ℕ) (r s : List ℕ) → n < 256 → k < 256 → 10 ≤ digit_value m → decimal n ++ (m ∷ r) ≡ decimal k ++ (m ∷ s) → (n ≡ k) × (r ≡ s)
decimal_cut n k m r s hn hk h e =
    let a = decimal_is_IsNumeral n (omega arith) in
    let b = decimal_is_IsNumeral k (omega arith) in
    let c = cut 10 m _ _ r s a.0.1 b.0.1 h e in
    (sym a.1 ∙ (ap (digits_value 10) c.0 ∙ b.1), c.1)

below : (n k : ℕ) → n < k → nat_lt n k ≡ true
below n k h = grind (arith, nat_tests)

not_below : (n k : ℕ) → k ≤ n → nat_lt n k ≡ false
not_below n k h = grind (arith, nat_tests)

is_below : (n k : ℕ) → nat_lt n k ≡ true → n < k
is_below n k h = grind (arith, nat_tests)

short_below : (n : ℕ) → n < 10 → short_number n ≡ (48 + n) ∷ []
short_below n h = rw (below n 10 h) (decimal_digit n h)

short_above : (n : ℕ) → 10 ≤ n → short_number n ≡ hexadecimal n
short_above n h = rw (not_below n 10 h) refl

split_at : (n k : ℕ) → (n < k) ⊎ (k ≤ n)
split_at n zero = inr (omega arith)
split_at zero (suc k) = inl (omega arith)
split_at (suc n) (suc k) = elim (split_at n k) [ inl h ↦ inl (omega (arith, h)) | inr h ↦ inr (omega (arith, h)) ]

short_cut : (n k : ℕ) (r s : List ℕ) → n < 16 ^ 64 → k < 16 ^ 64 → short_number n ++ (40 ∷ r) ≡ short_number k ++ (40 ∷ s) → (n ≡ k) × (r ≡ s)
short_cut n k r s hn hk e = elim (split_at n 10) [
  | inl a ↦ elim (split_at k 10) [
    | inl b ↦
        let f : (48 + n) ∷ (40 ∷ r) ≡ (48 + k) ∷ (40 ∷ s) = ap (λ z. z ++ (40 ∷ r)) (sym (short_below n a)) ∙ (e ∙ ap (λ z. z ++ (40 ∷ s)) (short_below k b)) in
        let h : 48 + n ≡ 48 + k = first _ _ _ _ f in
        (omega (arith, h), later _ _ _ _ (later _ _ _ _ f))
    | inr b ↦
        let f : (48 + n) ∷ (40 ∷ r) ≡ hexadecimal k ++ (40 ∷ s) = ap (λ z. z ++ (40 ∷ r)) (sym (short_below n a)) ∙ (e ∙ ap (λ z. z ++ (40 ∷ s)) (short_above k b)) in
        let h : 40 ≡ 120 = first _ _ _ _ (later _ _ _ _ f) in
        absurd (omega (arith, h))
  ]
  | inr a ↦ elim (split_at k 10) [
    | inl b ↦
        let f : hexadecimal n ++ (40 ∷ r) ≡ (48 + k) ∷ (40 ∷ s) = ap (λ z. z ++ (40 ∷ r)) (sym (short_above n a)) ∙ (e ∙ ap (λ z. z ++ (40 ∷ s)) (short_below k b)) in
        let h : 120 ≡ 40 = first _ _ _ _ (later _ _ _ _ f) in
        absurd (omega (arith, h))
    | inr b ↦
        let f : hexadecimal n ++ (40 ∷ r) ≡ hexadecimal k ++ (40 ∷ s) = ap (λ z. z ++ (40 ∷ r)) (sym (short_above n a)) ∙ (e ∙ ap (λ z. z ++ (40 ∷ s)) (short_above k b)) in
        hex_cut n k 40 r s hn hk (omega arith) (later _ _ _ _ (later _ _ _ _ f))
  ]
]

magnitude_cut : (d : Dialect) (n k : ℕ) (r s : List ℕ) → n < 16 ^ 64 → k < 16 ^ 64 → magnitude_text d n ++ (40 ∷ r) ≡ magnitude_text d k ++ (40 ∷ s) → (n ≡ k) × (r ≡ s)
magnitude_cut Att n k r s hn hk e = short_cut n k r s hn hk e
magnitude_cut Xed n k r s hn hk e = hex_cut n k 40 r s hn hk (omega arith) (later _ _ _ _ (later _ _ _ _ e))

-- a magnitude begins with a digit
magnitude_head : (d : Dialect) (n c : ℕ) (r s : List ℕ) → magnitude_text d n ++ r ≡ c ∷ s → (48 ≤ c) × (c ≤ 57)
magnitude_head Att n c r s e = elim (split_at n 10) [
  | inl a ↦
      let h : 48 + n ≡ c = first _ _ _ _ (ap (λ z. z ++ r) (sym (short_below n a)) ∙ e) in
      (omega (arith, h), omega (arith, h))
  | inr a ↦
      let h : 48 ≡ c = first _ _ _ _ (ap (λ z. z ++ r) (sym (short_above n a)) ∙ e) in
      (omega (arith, h), omega (arith, h))
]
magnitude_head Xed n c r s e = let h : 48 ≡ c = first _ _ _ _ e in (omega (arith, h), omega (arith, h))

small : (n : ℕ) → nat_lt n (2 ^ 31) ≡ true → n < 2 ^ 31
small n h = is_below n (2 ^ 31) h

wide : (n : ℕ) → n < 2 ^ 31 → suc n < 16 ^ 64
wide n h = omega (arith, h)

wide_pos : (n : ℕ) → IsTrue (fits_i32 (pos (suc n))) → suc n < 16 ^ 64
wide_pos n h = omega (arith, small (suc n) h)

not_digit : (d : Dialect) (n c : ℕ) (r s : List ℕ) → c < 48 → magnitude_text d n ++ r ≡ c ∷ s → ⊥
not_digit d n c r s h e = let k = magnitude_head d n c r s e in omega (arith, h, k.0)

not_above : (d : Dialect) (n c : ℕ) (r s : List ℕ) → 57 < c → magnitude_text d n ++ r ≡ c ∷ s → ⊥
not_above d n c r s h e = let k = magnitude_head d n c r s e in omega (arith, h, k.1)

numbers_differ : (a b : ℕ) → a < b → a ≡ b → ⊥
numbers_differ a b h e = omega (arith, h, e)

offset_cut : (d : Dialect) (x y : ℤ) (r s : List ℕ) → IsTrue (fits_i32 x) → IsTrue (fits_i32 y) → offset_text d x ++ (40 ∷ r) ≡ offset_text d y ++ (40 ∷ s) → (x ≡ y) × (r ≡ s)
offset_cut d (pos zero) (pos zero) r s hx hy e = (refl, later _ _ _ _ e)
offset_cut d (pos zero) (pos (suc k)) r s hx hy e = absurd (not_digit d (suc k) 40 _ r (omega arith) (sym e))
offset_cut d (pos zero) (negsuc k) r s hx hy e = absurd (numbers_differ 40 45 (omega arith) (first _ _ _ _ e))
offset_cut d (pos (suc n)) (pos zero) r s hx hy e = absurd (not_digit d (suc n) 40 _ s (omega arith) e)
offset_cut d (pos (suc n)) (pos (suc k)) r s hx hy e =
    let c = magnitude_cut d (suc n) (suc k) r s (wide_pos n hx) (wide_pos k hy) e in
    (ap pos c.0, c.1)
offset_cut d (pos (suc n)) (negsuc k) r s hx hy e = absurd (not_digit d (suc n) 45 _ _ (omega arith) e)
offset_cut d (negsuc n) (pos zero) r s hx hy e = absurd (numbers_differ 40 45 (omega arith) (sym (first _ _ _ _ e)))
offset_cut d (negsuc n) (pos (suc k)) r s hx hy e = absurd (not_digit d (suc k) 45 _ _ (omega arith) (sym e))
offset_cut d (negsuc n) (negsuc k) r s hx hy e =
    let c = magnitude_cut d (suc n) (suc k) r s (wide n (small n hx)) (wide k (small k hy)) (later _ _ _ _ e) in
    let same : n ≡ k = omega (arith, c.0) in
    (ap negsuc same, c.1)

-- a displacement and what follows it don't begin as a late offset does
offset_head : (d : Dialect) (x : ℤ) (r s : List ℕ) → offset_text d x ++ (40 ∷ r) ≡ 60 ∷ s → ⊥
offset_head d (pos zero) r s e = numbers_differ 40 60 (omega arith) (first _ _ _ _ e)
offset_head d (pos (suc n)) r s e = not_above d (suc n) 60 _ s (omega arith) e
offset_head d (negsuc n) r s e = numbers_differ 45 60 (omega arith) (first _ _ _ _ e)

key_text : (key : ℕ) (xs : List ℕ) → late_text (Some key) ++ xs ≡ codes "<offset:" ++ (decimal key ++ (62 ∷ 43 ∷ xs))
key_text key xs = ap (λ z. codes "<offset:" ++ z) (append_assoc (decimal key) (62 ∷ 43 ∷ []) xs)

key_cut : (n k : ℕ) (xs ys : List ℕ) → n < 256 → k < 256 → late_text (Some n) ++ xs ≡ late_text (Some k) ++ ys → (n ≡ k) × (xs ≡ ys)
key_cut n k xs ys hn hk e =
    let f = sym (key_text n xs) ∙ (e ∙ key_text k ys) in
    let g = cancel (codes "<offset:") (decimal n ++ (62 ∷ 43 ∷ xs)) (decimal k ++ (62 ∷ 43 ∷ ys)) f in
    let c = decimal_cut n k 62 (43 ∷ xs) (43 ∷ ys) hn hk (omega arith) g in
    (c.0, later _ _ _ _ c.1)

late_cut : (d : Dialect) (o p : Option ℕ) (x y : ℤ) (r s : List ℕ) → IsKey o → IsKey p → late_text o ++ (offset_text d x ++ (40 ∷ r)) ≡ late_text p ++ (offset_text d y ++ (40 ∷ s)) → (o ≡ p) × (offset_text d x ++ (40 ∷ r) ≡ offset_text d y ++ (40 ∷ s))
late_cut d None None x y r s ho hp e = (refl, e)
late_cut d None (Some k) x y r s ho hp e = absurd (offset_head d x r _ e)
late_cut d (Some n) None x y r s ho hp e = absurd (offset_head d y s _ (sym e))
late_cut d (Some n) (Some k) x y r s ho hp e =
    let c = key_cut n k _ _ ho hp e in
    (ap Some c.0, c.1)

starts : List ℕ → List ℕ → Bool
starts [] xs = true
starts (p ∷ ps) [] = false
starts (p ∷ ps) (x ∷ xs) = if p == x then starts ps xs else false

find : ℕ → List (List ℕ) → List ℕ → ℕ
find at [] xs = at
find at (name ∷ names) xs = if starts name xs then at else find (suc at) names xs

abbrev name : ℕ → List ℕ
name n = gpr_name n Quadword

found : (n : ℕ) → n < 16 → (r : List ℕ) → find 0 (gpr_names Quadword) (name n ++ r) ≡ n
unfolding gpr_names find starts
found zero h r = refl
found (suc zero) h r = refl
found (suc (suc zero)) h r = refl
found (suc (suc (suc zero))) h r = refl
found (suc (suc (suc (suc zero)))) h r = refl
found (suc (suc (suc (suc (suc zero))))) h r = refl
found (suc (suc (suc (suc (suc (suc zero)))))) h r = refl
found (suc (suc (suc (suc (suc (suc (suc zero))))))) h r = refl
found (suc (suc (suc (suc (suc (suc (suc (suc zero)))))))) h r = refl
found (suc (suc (suc (suc (suc (suc (suc (suc (suc zero))))))))) h r = refl
found (suc (suc (suc (suc (suc (suc (suc (suc (suc (suc zero)))))))))) h r = refl
found (suc (suc (suc (suc (suc (suc (suc (suc (suc (suc (suc zero))))))))))) h r = refl
found (suc (suc (suc (suc (suc (suc (suc (suc (suc (suc (suc (suc zero)))))))))))) h r = refl
found (suc (suc (suc (suc (suc (suc (suc (suc (suc (suc (suc (suc (suc zero))))))))))))) h r = refl
found (suc (suc (suc (suc (suc (suc (suc (suc (suc (suc (suc (suc (suc (suc zero)))))))))))))) h r = refl
found (suc (suc (suc (suc (suc (suc (suc (suc (suc (suc (suc (suc (suc (suc (suc zero))))))))))))))) h r = refl
found (suc (suc (suc (suc (suc (suc (suc (suc (suc (suc (suc (suc (suc (suc (suc (suc n)))))))))))))))) h r = absurd (omega (arith, h))

name_cut : (n k : ℕ) (r s : List ℕ) → n < 16 → k < 16 → name n ++ r ≡ name k ++ s → (n ≡ k) × (r ≡ s)
name_cut n k r s hn hk e =
    let same = sym (found n hn r) ∙ (ap (λ z. find 0 (gpr_names Quadword) z) e ∙ found k hk s) in
    (same, cancel (name n) r s (e ∙ ap (λ z. name z ++ s) (sym same)))

scale_at : ℕ → Scale
scale_at c = if c == 50 then Two else (if c == 52 then Four else (if c == 56 then Eight else One))

scale_place : Dialect → ℕ
scale_place Att = 2
scale_place Xed = 1

scale_back : (d : Dialect) (a : Scale) → scale_at (get_or (scale_text d a ++ codes ")") (scale_place d) 0) ≡ a
unfolding scale_at scale_place
scale_back Att One = refl
scale_back Att Two = refl
scale_back Att Four = refl
scale_back Att Eight = refl
scale_back Xed One = refl
scale_back Xed Two = refl
scale_back Xed Four = refl
scale_back Xed Eight = refl

scale_cut : (d : Dialect) (a b : Scale) → scale_text d a ++ codes ")" ≡ scale_text d b ++ codes ")" → a ≡ b
scale_cut d a b e = sym (scale_back d a) ∙ (ap (λ z. scale_at (get_or z (scale_place d) 0)) e ∙ scale_back d b)

comma_cut : (d : Dialect) (r s : List ℕ) → comma d ++ r ≡ comma d ++ s → r ≡ s
comma_cut d r s e = cancel (comma d) r s e

no_comma : (d : Dialect) (r : List ℕ) → codes ")" ≡ comma d ++ r → ⊥
no_comma Att r e = numbers_differ 41 44 (omega arith) (first _ _ _ _ e)
no_comma Xed r e = numbers_differ 41 44 (omega arith) (first _ _ _ _ e)

abbrev base_text : Dialect → Option ℕ → ℤ → ℕ → List ℕ
base_text d o v n = late_text o ++ (offset_text d v ++ (40 ∷ (name n ++ codes ")")))

abbrev index_text : Dialect → ℤ → ℕ → ℕ → Scale → List ℕ
index_text d v n i scale = offset_text d v ++ (40 ∷ (name n ++ (comma d ++ (name i ++ (scale_text d scale ++ codes ")")))))

base_cut : (d : Dialect) (o p : Option ℕ) (x y : ℤ) (n k : ℕ) → IsKey o → IsKey p → IsTrue (fits_i32 x) → IsTrue (fits_i32 y) → n < 16 → k < 16 → base_text d o x n ≡ base_text d p y k → (n ≡ k) × (o ≡ p) × (x ≡ y)
base_cut d o p x y n k ho hp hx hy hn hk e =
    let l = late_cut d o p x y _ _ ho hp e in
    let f = offset_cut d x y _ _ hx hy l.1 in
    let r = name_cut n k _ _ hn hk f.1 in
    (r.0, l.0, f.0)

mixed : (d : Dialect) (o : Option ℕ) (x y : ℤ) (n k i : ℕ) (scale : Scale) → IsKey o → IsTrue (fits_i32 x) → IsTrue (fits_i32 y) → n < 16 → k < 16 → base_text d o x n ≡ index_text d y k i scale → ⊥
mixed d o x y n k i scale ho hx hy hn hk e =
    let l = late_cut d o None x y _ _ ho tt e in
    let f = offset_cut d x y _ _ hx hy l.1 in
    let r = name_cut n k _ _ hn hk f.1 in
    no_comma d _ r.1

index_cut : (d : Dialect) (x y : ℤ) (n k i j : ℕ) (a b : Scale) → IsTrue (fits_i32 x) → IsTrue (fits_i32 y) → n < 16 → k < 16 → i < 16 → j < 16 → index_text d x n i a ≡ index_text d y k j b → (n ≡ k) × (i ≡ j) × (a ≡ b) × (x ≡ y)
index_cut d x y n k i j a b hx hy hn hk hi hj e =
    let f = offset_cut d x y _ _ hx hy e in
    let r = name_cut n k _ _ hn hk f.1 in
    let q = name_cut i j _ _ hi hj (comma_cut d _ _ r.1) in
    (r.0, q.0, scale_cut d a b q.1, f.0)

base_same : (d : Dialect) (o p : Option ℕ) (x y : ℤ) (n k : ℕ) → n ≡ k → o ≡ p → x ≡ y → base_text d o x n ≡ base_text d p y k
base_same d o p x y n k a b c =
    ap (λ z. base_text d z x n) b ∙ (ap (λ z. base_text d p z n) c ∙ ap (λ z. base_text d p y z) a)

index_same : (d : Dialect) (x y : ℤ) (n k i j : ℕ) (a b : Scale) → n ≡ k → i ≡ j → a ≡ b → x ≡ y → index_text d x n i a ≡ index_text d y k j b
index_same d x y n k i j a b p q r s =
    ap (λ z. index_text d z n i a) s ∙ (ap (λ z. index_text d y z i a) p ∙ (ap (λ z. index_text d y k z a) q ∙ ap (λ z. index_text d y k j z) r))

regroup_base : (a b c : List ℕ) → (((a ++ b) ++ (40 ∷ [])) ++ c) ++ (41 ∷ []) ≡ a ++ (b ++ (40 ∷ (c ++ (41 ∷ []))))
regroup_base a b c = simp append_assoc

regroup_index : (a b k c f : List ℕ) → (((((a ++ (40 ∷ [])) ++ b) ++ k) ++ c) ++ f) ++ (41 ∷ []) ≡ a ++ (40 ∷ (b ++ (k ++ (c ++ (f ++ (41 ∷ []))))))
regroup_index a b k c f = simp append_assoc

base_form : (d : Dialect) (o : Option ℕ) (v : ℤ) (n : ℕ) → late_text o ++ offset_text d v ++ codes "(" ++ name n ++ codes ")" ≡ base_text d o v n
base_form d o v n = regroup_base (late_text o) (offset_text d v) (name n)

index_form : (d : Dialect) (v : ℤ) (n i : ℕ) (scale : Scale) → offset_text d v ++ codes "(" ++ name n ++ comma d ++ name i ++ scale_text d scale ++ codes ")" ≡ index_text d v n i scale
index_form d v n i scale = regroup_index (offset_text d v) (name n) (comma d) (name i) (scale_text d scale)

pub alike : {R : Type 0} (enc : R → ℕ) (d : Dialect) (a b : Amode R) → IsBased enc a → IsBased enc b → (amode_text (hardware_text enc) d a ≡ amode_text (hardware_text enc) d b) ↔ SamePrinted enc a b
alike enc d (ImmReg base simm32 trap) (ImmReg base2 simm32-2 trap2) p q = (
  λ e. base_cut d simm32.offset simm32-2.offset simm32.simm32 simm32-2.simm32 (enc base) (enc base2) p.1 q.1 p.2 q.2 p.0 q.0 (sym (base_form d simm32.offset simm32.simm32 (enc base)) ∙ (e ∙ base_form d simm32-2.offset simm32-2.simm32 (enc base2))),
  λ h. base_form d simm32.offset simm32.simm32 (enc base) ∙ (base_same d simm32.offset simm32-2.offset simm32.simm32 simm32-2.simm32 (enc base) (enc base2) h.0 h.1 h.2 ∙ sym (base_form d simm32-2.offset simm32-2.simm32 (enc base2))),
)
alike enc d (ImmReg base simm32 trap) (ImmRegRegShift base2 index2 scale2 simm32-2 trap2) p q = (
  λ e. mixed d simm32.offset simm32.simm32 simm32-2 (enc base) (enc base2) (enc index2) scale2 p.1 p.2 q.2 p.0 q.0 (sym (base_form d simm32.offset simm32.simm32 (enc base)) ∙ (e ∙ index_form d simm32-2 (enc base2) (enc index2) scale2)),
  λ h. absurd h,
)
alike enc d (ImmReg base simm32 trap) (RipRelative target2) p q = absurd q
alike enc d (ImmRegRegShift base index scale simm32 trap) (ImmReg base2 simm32-2 trap2) p q = (
  λ e. mixed d simm32-2.offset simm32-2.simm32 simm32 (enc base2) (enc base) (enc index) scale q.1 q.2 p.2 q.0 p.0 (sym (base_form d simm32-2.offset simm32-2.simm32 (enc base2)) ∙ (sym e ∙ index_form d simm32 (enc base) (enc index) scale)),
  λ h. absurd h,
)
alike enc d (ImmRegRegShift base index scale simm32 trap) (ImmRegRegShift base2 index2 scale2 simm32-2 trap2) p q = (
  λ e. index_cut d simm32 simm32-2 (enc base) (enc base2) (enc index) (enc index2) scale scale2 p.2 q.2 p.0 q.0 p.1 q.1 (sym (index_form d simm32 (enc base) (enc index) scale) ∙ (e ∙ index_form d simm32-2 (enc base2) (enc index2) scale2)),
  λ h. index_form d simm32 (enc base) (enc index) scale ∙ (index_same d simm32 simm32-2 (enc base) (enc base2) (enc index) (enc index2) scale scale2 h.0 h.1 h.2 h.3 ∙ sym (index_form d simm32-2 (enc base2) (enc index2) scale2)),
)
alike enc d (ImmRegRegShift base index scale simm32 trap) (RipRelative target2) p q = absurd q
alike enc d (RipRelative target) b p q = absurd p
