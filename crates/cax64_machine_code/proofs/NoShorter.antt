use Rattle.std.proofs.Common.{◌≡◌, ◌≢◌, ℕ, ◌+◌, ◌*◌, ◌%◌, ◌<◌, ◌≤◌, arith, List, [], ◌∷◌, Bool, true, false, Some, None, Option, refl, ℤ, pos, negsuc, ◌∙◌, ap, sym, length}
use Rattle.std.specs.Prelude.{◌==◌, ◌&&◌, if◌then◌else◌, nat_lt, ◌*ℤ◌}
use Rattle.std.specs.Int.{w8}
use Rattle.std.specs.Int.RustNames.{FitsSigned}
use Rattle.std.proofs.lemmas.Bool.Decides.{nat_tests}
use Rattle.std.proofs.lemmas.Int.{ints}
use Rattle.std.proofs.lemmas.Option.{same_Some}
use Rattle.cax64_machine_code.specs.Fields.{IsBytes, mod_of, reg_of, rm_of, base_of, s8, number_at}
use Rattle.cax64_machine_code.specs.Len.{disp_len, base_disp_len, at_least_one, sib_len, one_if, least_tail}
use Rattle.cax64_machine_code.specs.Tail.{Tail, read_tail, sib_at, disp_at, disp8_at, disp32_at, displaced, scaled_index}
use Rattle.cax64_machine_code.specs.declared.reading.RegView.TheVariants.{Low}
use Rattle.cax64_machine_code.specs.declared.reading.Place.{Place}
use Rattle.cax64_machine_code.specs.declared.reading.Place.TheVariants.{Reg, Mem, Rip}
use Rattle.cax64_machine_code.proofs.Forms.{first_byte, later_bytes, disp32_length, true_is, not_both}
use Rattle.cax64_machine_code.proofs.Tails.{differ}

-- no string of bytes that reads as a tail is shorter than `least_tail` says

-- a choice of two numbers
choice_most : (t : Bool) (a b n : ℕ) → a ≤ n → b ≤ n → (if t then a else b) ≤ n
choice_most true a b n h k = h
choice_most false a b n h k = k

disp_most : (v : ℤ) → disp_len v ≤ 4
disp_most (pos n) = choice_most (n == 0) 0 _ 4 (omega arith) (choice_most (nat_lt n 128) 1 4 4 (omega arith) (omega arith))
disp_most (negsuc n) = choice_most (nat_lt n 128) 1 4 4 (omega arith) (omega arith)

below : (a b : ℕ) → a < b → nat_lt a b ≡ true
below a b h = grind (arith, nat_tests)

byte_most : (v : ℤ) → FitsSigned w8 v → disp_len v ≤ 1
byte_most (pos n) f =
    let small : n < 128 = omega (arith, ints) in
    rw (below n 128 small) (choice_most (n == 0) 0 1 1 (omega arith) (omega arith))
byte_most (negsuc n) f =
    let small : n < 128 = omega (arith, ints) in
    rw (below n 128 small) (omega arith)

base_disp_most : (base : ℕ) (v : ℤ) (n : ℕ) → 1 ≤ n → disp_len v ≤ n → base_disp_len base v ≤ n
base_disp_most base v n h k = choice_most (base % 8 == 5) (at_least_one (disp_len v)) (disp_len v) n (choice_most (disp_len v == 0) 1 (disp_len v) n h k) k

pub byte_fits : (c : ℕ) → c < 256 → FitsSigned w8 (s8 c)
byte_fits c h = grind (arith, ints)

pub alone : (q : ℤ) → q *ℤ pos 1 ≡ q
alone q = omega (arith, ints)

-- one byte of displacement is a signed byte
pub disp8_is : (bytes : List ℕ) (d : ℤ × List ℕ) → IsBytes bytes → disp8_at 1 bytes ≡ Some d → FitsSigned w8 d.0 × (length bytes ≡ 1 + length d.1)
unfolding number_at
disp8_is [] d hb h = cc
disp8_is (c ∷ bytes) d hb h =
    let e = same_Some _ _ h in
    let value : s8 (c + 256 * 0) *ℤ pos 1 ≡ d.0 = ap (λ (z : ℤ × List ℕ). z.0) e in
    let left : bytes ≡ d.1 = ap (λ (z : ℤ × List ℕ). z.1) e in
    let same : c + 256 * 0 ≡ c = omega arith in
    let is : s8 c ≡ d.0 = sym (alone (s8 c)) ∙ rw same at value in
    (rw (← is) (byte_fits c (first_byte c bytes hb)), rw (← left) (omega arith))

-- a displacement beside a base has no fewer bytes than are counted
disp_by_mode : (base mode : ℕ) (bytes : List ℕ) (d : ℤ × List ℕ) (t0 t1 : Bool) → (mode == 0) ≡ t0 → IsBytes bytes → (base % 8 ≡ 5 → mode ≢ 0) → (if t0 then Some (pos 0, bytes) else (if t1 then disp8_at 1 bytes else disp32_at bytes)) ≡ Some d → base_disp_len base d.0 + length d.1 ≤ length bytes
disp_by_mode base mode bytes d true t1 m hb h5 h =
    let e = same_Some _ _ h in
    let value : pos 0 ≡ d.0 = ap (λ (z : ℤ × List ℕ). z.0) e in
    let left : bytes ≡ d.1 = ap (λ (z : ℤ × List ℕ). z.1) e in
    let zero : mode ≡ 0 = true_is mode 0 m in
    let other : (base % 8 == 5) ≡ false = differ (base % 8) 5 (λ f. h5 f zero) in
    rw (← value, ← left, other) (omega arith)
disp_by_mode base mode bytes d false true m hb h5 h =
    let o = disp8_is bytes d hb h in
    let most : base_disp_len base d.0 ≤ 1 = base_disp_most base d.0 1 (omega arith) (byte_most d.0 o.0) in
    omega (arith, o.1)
disp_by_mode base mode bytes d false false m hb h5 h =
    let four : length bytes ≡ 4 + length d.1 = disp32_length bytes d h in
    let most : base_disp_len base d.0 ≤ 4 = base_disp_most base d.0 4 (omega arith) (disp_most d.0) in
    omega arith

disp_least : (base mode : ℕ) (bytes : List ℕ) (d : ℤ × List ℕ) → IsBytes bytes → (base % 8 ≡ 5 → mode ≢ 0) → disp_at mode 1 bytes ≡ Some d → base_disp_len base d.0 + length d.1 ≤ length bytes
unfolding disp_at
disp_least base mode bytes d hb h5 h = disp_by_mode base mode bytes d (mode == 0) (mode == 1) refl hb h5 h

-- what a displaced place is read from
pub record IsDisplaced (reg : ℕ) (place : ℤ → Place) (o : Option (ℤ × List ℕ)) (t : Tail) : Type 0 where
  pub disp : ℤ
  pub rest : List ℕ
  pub found : o ≡ Some (disp, rest)
  pub tail : t ≡ record { reg = reg; place = place disp; rest = rest }

pub displaced_is : (reg : ℕ) (place : ℤ → Place) (o : Option (ℤ × List ℕ)) (t : Tail) → displaced reg place o ≡ Some t → IsDisplaced reg place o t
displaced_is reg place None t h = cc
displaced_is reg place (Some d) t h = record { disp = d.0; rest = d.1; found = refl; tail = sym (same_Some _ _ h) }

low_of : (low b : ℕ) → low < 8 → (low + 8 * b) % 8 ≡ low
low_of low b h = omega arith

sib_most : (base : ℕ) (index : Option (ℕ × ℕ)) → sib_len base index ≤ 1
sib_most base None = choice (base % 8 == 4)
  where
    choice : (t : Bool) → one_if t ≤ 1
    choice true = omega arith
    choice false = omega arith
sib_most base (Some index) = omega arith

-- a tail of this many bytes is no shorter than the least
abbrev pub AtLeast : List ℕ → Tail → Type 0
AtLeast u t = least_tail t.place + length t.rest ≤ length u

relative_least : (reg modrm : ℕ) (bytes : List ℕ) (t : Tail) → displaced reg Rip (disp32_at bytes) ≡ Some t → AtLeast (modrm ∷ bytes) t
relative_least reg modrm bytes t h =
    let d = displaced_is reg Rip (disp32_at bytes) t h in
    let four : length bytes ≡ 4 + length d.rest = disp32_length bytes (d.disp, d.rest) d.found in
    rw d.tail (omega arith)

plain_least : (b modrm : ℕ) (bytes : List ℕ) (t : Tail) → IsBytes bytes → (rm_of modrm == 4) ≡ false → ((rm_of modrm == 5) && (mod_of modrm == 0)) ≡ false → displaced (reg_of modrm) (Mem (Some (rm_of modrm + 8 * b)) None) (disp_at (mod_of modrm) 1 bytes) ≡ Some t → AtLeast (modrm ∷ bytes) t
plain_least b modrm bytes t hb h4 h5 h =
    let d = displaced_is (reg_of modrm) (Mem (Some (rm_of modrm + 8 * b)) None) (disp_at (mod_of modrm) 1 bytes) t h in
    let low : (rm_of modrm + 8 * b) % 8 ≡ rm_of modrm = low_of (rm_of modrm) b (omega arith) in
    let field : base_disp_len (rm_of modrm + 8 * b) d.disp + length d.rest ≤ length bytes = disp_least (rm_of modrm + 8 * b) (mod_of modrm) bytes (d.disp, d.rest) hb (λ e. not_both (rm_of modrm) (mod_of modrm) h5 (sym low ∙ e)) d.found in
    let none : sib_len (rm_of modrm + 8 * b) None ≡ 0 = rw (low, h4) refl in
    rw d.tail (omega (arith, field, none))

based_least : (x b modrm sib : ℕ) (bytes : List ℕ) (t : Tail) → IsBytes bytes → ((base_of sib == 5) && (mod_of modrm == 0)) ≡ false → displaced (reg_of modrm) (Mem (Some (base_of sib + 8 * b)) (scaled_index x sib)) (disp_at (mod_of modrm) 1 bytes) ≡ Some t → AtLeast (modrm ∷ sib ∷ bytes) t
based_least x b modrm sib bytes t hb h5 h =
    let d = displaced_is (reg_of modrm) (Mem (Some (base_of sib + 8 * b)) (scaled_index x sib)) (disp_at (mod_of modrm) 1 bytes) t h in
    let low : (base_of sib + 8 * b) % 8 ≡ base_of sib = low_of (base_of sib) b (omega arith) in
    let field : base_disp_len (base_of sib + 8 * b) d.disp + length d.rest ≤ length bytes = disp_least (base_of sib + 8 * b) (mod_of modrm) bytes (d.disp, d.rest) hb (λ e. not_both (base_of sib) (mod_of modrm) h5 (sym low ∙ e)) d.found in
    let most : sib_len (base_of sib + 8 * b) (scaled_index x sib) ≤ 1 = sib_most (base_of sib + 8 * b) (scaled_index x sib) in
    rw d.tail (omega (arith, field, most))

no_base_least : (x reg modrm sib : ℕ) (bytes : List ℕ) (t : Tail) → displaced reg (Mem None (scaled_index x sib)) (disp32_at bytes) ≡ Some t → AtLeast (modrm ∷ sib ∷ bytes) t
no_base_least x reg modrm sib bytes t h =
    let d = displaced_is reg (Mem None (scaled_index x sib)) (disp32_at bytes) t h in
    let four : length bytes ≡ 4 + length d.rest = disp32_length bytes (d.disp, d.rest) d.found in
    rw d.tail (omega arith)

sib_tests : (x b modrm sib : ℕ) (bytes : List ℕ) (t : Tail) (t5 : Bool) → IsBytes bytes → ((base_of sib == 5) && (mod_of modrm == 0)) ≡ t5 → (if t5 then displaced (reg_of modrm) (Mem None (scaled_index x sib)) (disp32_at bytes) else displaced (reg_of modrm) (Mem (Some (base_of sib + 8 * b)) (scaled_index x sib)) (disp_at (mod_of modrm) 1 bytes)) ≡ Some t → AtLeast (modrm ∷ sib ∷ bytes) t
sib_tests x b modrm sib bytes t true hb h5 h = no_base_least x (reg_of modrm) modrm sib bytes t h
sib_tests x b modrm sib bytes t false hb h5 h = based_least x b modrm sib bytes t hb h5 h

sib_least : (x b modrm : ℕ) (bytes : List ℕ) (t : Tail) → IsBytes bytes → sib_at x b 1 (mod_of modrm) (reg_of modrm) bytes ≡ Some t → AtLeast (modrm ∷ bytes) t
unfolding sib_at
sib_least x b modrm [] t hb h = cc
sib_least x b modrm (sib ∷ bytes) t hb h = sib_tests x b modrm sib bytes t ((base_of sib == 5) && (mod_of modrm == 0)) (later_bytes sib bytes hb) refl h

tail_tests : (x b modrm : ℕ) (bytes : List ℕ) (t : Tail) (t3 t4 t5 : Bool) → IsBytes bytes → (rm_of modrm == 4) ≡ t4 → ((rm_of modrm == 5) && (mod_of modrm == 0)) ≡ t5 → (if t3 then Some (record { reg = reg_of modrm; place = Reg (Low (rm_of modrm + 8 * b)); rest = bytes }) else (if t4 then sib_at x b 1 (mod_of modrm) (reg_of modrm) bytes else (if t5 then displaced (reg_of modrm) Rip (disp32_at bytes) else displaced (reg_of modrm) (Mem (Some (rm_of modrm + 8 * b)) None) (disp_at (mod_of modrm) 1 bytes)))) ≡ Some t → AtLeast (modrm ∷ bytes) t
tail_tests x b modrm bytes t true t4 t5 hb h4 h5 h =
    let e : t ≡ record { reg = reg_of modrm; place = Reg (Low (rm_of modrm + 8 * b)); rest = bytes } = sym (same_Some _ _ h) in
    rw e (omega arith)
tail_tests x b modrm bytes t false true t5 hb h4 h5 h = sib_least x b modrm bytes t hb h
tail_tests x b modrm bytes t false false true hb h4 h5 h = relative_least (reg_of modrm) modrm bytes t h
tail_tests x b modrm bytes t false false false hb h4 h5 h = plain_least b modrm bytes t hb h4 h5 h

-- what is read as a tail, and what is left, are at least so many bytes
pub no_shorter : (x b : ℕ) (bytes : List ℕ) (t : Tail) → IsBytes bytes → read_tail x b 1 bytes ≡ Some t → AtLeast bytes t
unfolding read_tail
no_shorter x b [] t hb h = cc
no_shorter x b (modrm ∷ bytes) t hb h =
    tail_tests x b modrm bytes t (mod_of modrm == 3) (rm_of modrm == 4) ((rm_of modrm == 5) && (mod_of modrm == 0)) (later_bytes modrm bytes hb) refl refl h
