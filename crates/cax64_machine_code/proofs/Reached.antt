use Rattle.std.proofs.Common.{◌≡◌, ◌≢◌, ◌↔◌, ℕ, ◌+◌, ◌*◌, ◌/◌, ◌%◌, ◌^◌, ◌<◌, ◌≤◌, arith, List, [], ◌∷◌, ◌++◌, Bool, true, false, Some, None, Option, refl, ℤ, pos, negsuc, ◌∙◌, ap, sym, length}
use Rattle.std.specs.Prelude.{◌==◌, ◌&&◌, if◌then◌else◌, nat_lt}
use Rattle.std.specs.Int.{cast_unsigned, to_le_bytes, w8, w32}
use Rattle.std.specs.Int.RustNames.{FitsSigned}
use Rattle.std.proofs.lemmas.Bool.Decides.{nat_tests}
use Rattle.std.proofs.lemmas.Int.{ints}
use Rattle.std.proofs.lemmas.List.{append-nil}
use Rattle.std.proofs.lemmas.List.Elements.{All-nil, All-cons}
use Rattle.std.proofs.lemmas.Option.{same_Some}
use Rattle.cax64_machine_code.specs.Fields.{IsBytes, mod_of, reg_of, rm_of, base_of, s32, number_at}
use Rattle.cax64_machine_code.specs.Len.{disp_len, base_disp_len, at_least_one, sib_len, least_tail}
use Rattle.cax64_machine_code.specs.Shortest.{Shortest}
use Rattle.cax64_machine_code.specs.Tail.{Tail, IsTail, read_tail, sib_at, disp_at, disp8_at, disp32_at, displaced, scaled_index}
use Rattle.cax64_machine_code.specs.declared.reading.RegView.TheVariants.{Low}
use Rattle.cax64_machine_code.specs.declared.reading.Place.{Place}
use Rattle.cax64_machine_code.specs.declared.reading.Place.TheVariants.{Reg, Mem, Rip}
use Rattle.cax64_machine_code.proofs.Bytes.{mod_is, reg_is, rm_is, s8_back, s32_back, one_back, four_back}
use Rattle.cax64_machine_code.proofs.Forms.{first_byte, later_bytes, true_is, false_is}
use Rattle.cax64_machine_code.proofs.NoShorter.{no_shorter, alone, disp8_is, displaced_is}
use Rattle.cax64_machine_code.proofs.Tails.{base_back, unless_both, differ}

-- of each place that has a tail, some tail is as short as `least_tail` says

pub no_bytes : IsBytes []
no_bytes = All-nil (λ (byte : ℕ). byte < 256)

pub more_bytes : (byte : ℕ) (bytes : List ℕ) → byte < 256 → IsBytes bytes → IsBytes (byte ∷ bytes)
more_bytes byte bytes small h = All-cons (λ (byte : ℕ). byte < 256) byte bytes small h

four : (a b c d : ℕ) → a < 256 → b < 256 → c < 256 → d < 256 → IsBytes (a ∷ b ∷ c ∷ d ∷ [])
four a b c d ha hb hc hd = more_bytes a (b ∷ c ∷ d ∷ []) ha (more_bytes b (c ∷ d ∷ []) hb (more_bytes c (d ∷ []) hc (more_bytes d [] hd no_bytes)))

-- a displacement that is read fits in 32 bits

long_fits : (a b c d : ℕ) → a < 256 → b < 256 → c < 256 → d < 256 → FitsSigned w32 (s32 (a + 256 * (b + 256 * (c + 256 * (d + 256 * 0)))))
long_fits a b c d ha hb hc hd = grind (arith, ints)

disp32_fits : (bytes : List ℕ) (r : ℤ × List ℕ) → IsBytes bytes → disp32_at bytes ≡ Some r → FitsSigned w32 r.0
unfolding number_at
disp32_fits [] r hb h = cc
disp32_fits (a ∷ []) r hb h = cc
disp32_fits (a ∷ b ∷ []) r hb h = cc
disp32_fits (a ∷ b ∷ c ∷ []) r hb h = cc
disp32_fits (a ∷ b ∷ c ∷ d ∷ rest) r hb h =
    let value : s32 (a + 256 * (b + 256 * (c + 256 * (d + 256 * 0)))) ≡ r.0 = ap (λ (z : ℤ × List ℕ). z.0) (same_Some _ _ h) in
    let hb1 = later_bytes a (b ∷ c ∷ d ∷ rest) hb in
    let hb2 = later_bytes b (c ∷ d ∷ rest) hb1 in
    let hb3 = later_bytes c (d ∷ rest) hb2 in
    rw (← value) (long_fits a b c d (first_byte a (b ∷ c ∷ d ∷ rest) hb) (first_byte b (c ∷ d ∷ rest) hb1) (first_byte c (d ∷ rest) hb2) (first_byte d rest hb3))

fits_by_mode : (bytes : List ℕ) (r : ℤ × List ℕ) (t0 t1 : Bool) → IsBytes bytes → (if t0 then Some (pos 0, bytes) else (if t1 then disp8_at 1 bytes else disp32_at bytes)) ≡ Some r → FitsSigned w32 r.0
fits_by_mode bytes r true t1 hb h =
    let value : pos 0 ≡ r.0 = ap (λ (z : ℤ × List ℕ). z.0) (same_Some _ _ h) in
    rw (← value) (omega (arith, ints))
fits_by_mode bytes r false true hb h = let o = disp8_is bytes r hb h in omega (arith, ints, o.0)
fits_by_mode bytes r false false hb h = disp32_fits bytes r hb h

disp_fits : (mode : ℕ) (bytes : List ℕ) (r : ℤ × List ℕ) → IsBytes bytes → disp_at mode 1 bytes ≡ Some r → FitsSigned w32 r.0
unfolding disp_at
disp_fits mode bytes r hb h = fits_by_mode bytes r (mode == 0) (mode == 1) hb h

-- the least displacement field beside a base
pub record Field (base : ℕ) (disp : ℤ) : Type 0 where
  pub mode : ℕ
  pub bytes : List ℕ
  pub mode_below : mode < 3
  pub are_bytes : IsBytes bytes
  pub reads : (rest : List ℕ) → disp_at mode 1 (bytes ++ rest) ≡ Some (disp, rest)
  pub base_five : base % 8 ≡ 5 → mode ≢ 0
  pub length_is : length bytes ≡ base_disp_len base disp

none_field : (base : ℕ) → (base % 8 == 5) ≡ false → Field base (pos 0)
unfolding disp_at
none_field base h = record {
  mode = 0;
  bytes = [];
  mode_below = omega arith;
  are_bytes = no_bytes;
  reads = λ rest. refl;
  base_five = λ e. grind (arith, nat_tests);
  length_is = rw h refl;
}

byte_field : (base : ℕ) (disp : ℤ) → FitsSigned w8 disp → base_disp_len base disp ≡ 1 → Field base disp
unfolding disp_at
byte_field base disp f e = record {
  mode = 1;
  bytes = cast_unsigned w8 disp ∷ [];
  mode_below = omega arith;
  are_bytes = let small : cast_unsigned w8 disp < 256 = omega (arith, ints) in more_bytes (cast_unsigned w8 disp) [] small no_bytes;
  reads = λ rest. rw (one_back (cast_unsigned w8 disp) rest, s8_back disp f, alone disp) refl;
  base_five = λ _. omega arith;
  length_is = sym e;
}

four_bytes : (n : ℕ) → IsBytes (to_le_bytes w32 n)
four_bytes n = four (n % 256) (n / 256 % 256) (n / 65536 % 256) (n / 16777216 % 256) (omega arith) (omega arith) (omega arith) (omega arith)

long_field : (base : ℕ) (disp : ℤ) → FitsSigned w32 disp → base_disp_len base disp ≡ 4 → Field base disp
unfolding disp_at
long_field base disp f e = record {
  mode = 2;
  bytes = to_le_bytes w32 (cast_unsigned w32 disp);
  mode_below = omega arith;
  are_bytes = four_bytes (cast_unsigned w32 disp);
  reads = λ rest. let small : cast_unsigned w32 disp < 2 ^ 32 = omega (arith, ints) in rw (four_back (cast_unsigned w32 disp) rest small, s32_back disp f) refl;
  base_five = λ _. omega arith;
  length_is = sym e;
}

below : (a b : ℕ) → nat_lt a b ≡ true → a < b
below a b h = grind (arith, nat_tests)

choice_same : (t : Bool) (a n : ℕ) → a ≡ n → at_least_one a ≡ n → (if t then at_least_one a else a) ≡ n
choice_same true a n e k = k
choice_same false a n e k = e

-- a displacement of one byte or of four, wherever it stands
any_base : (base n : ℕ) (v : ℤ) → 1 ≤ n → disp_len v ≡ n → base_disp_len base v ≡ n
any_base base n v h e =
    let some : (n == 0) ≡ false = differ n 0 (λ z. omega arith) in
    choice_same (base % 8 == 5) (disp_len v) n e (rw (e, some) refl)

zero_field : (base : ℕ) (five : Bool) → (base % 8 == 5) ≡ five → Field base (pos 0)
zero_field base true h = byte_field base (pos 0) (omega (arith, ints)) (rw h refl)
zero_field base false h = none_field base h

positive_field : (base n : ℕ) (zero small : Bool) → (n == 0) ≡ zero → nat_lt n 128 ≡ small → FitsSigned w32 (pos n) → Field base (pos n)
positive_field base n true small hz hs f = rw (true_is n 0 hz) (zero_field base (base % 8 == 5) refl)
positive_field base n false true hz hs f =
    let h = below n 128 hs in
    byte_field base (pos n) (omega (arith, ints)) (any_base base 1 (pos n) (omega arith) (rw (hz, hs) refl))
positive_field base n false false hz hs f = long_field base (pos n) f (any_base base 4 (pos n) (omega arith) (rw (hz, hs) refl))

negative_field : (base n : ℕ) (small : Bool) → nat_lt n 128 ≡ small → FitsSigned w32 (negsuc n) → Field base (negsuc n)
negative_field base n true hs f =
    let h = below n 128 hs in
    byte_field base (negsuc n) (omega (arith, ints)) (any_base base 1 (negsuc n) (omega arith) (rw hs refl))
negative_field base n false hs f = long_field base (negsuc n) f (any_base base 4 (negsuc n) (omega arith) (rw hs refl))

field : (base : ℕ) (disp : ℤ) → FitsSigned w32 disp → Field base disp
field base (pos n) f = positive_field base n (n == 0) (nat_lt n 128) refl refl f
field base (negsuc n) f = negative_field base n (nat_lt n 128) refl f

-- a tail with the least number of bytes
abbrev pub Reached : ℕ → ℕ → ℕ → Place → Type 0
Reached x b reg place = (t : List ℕ) × IsBytes t × IsTail x b 1 reg place t × (length t ≡ least_tail place)

byte_of : (mode reg low : ℕ) → mode < 3 → reg < 8 → low < 8 → mode * 64 + reg * 8 + low < 256
byte_of mode reg low hm hr hl = omega arith

-- a base and no SIB byte
plain_reached : (x b reg low : ℕ) (disp : ℤ) → reg < 8 → low < 8 → low ≢ 4 → FitsSigned w32 disp → Reached x b reg (Mem (Some (low + 8 * b)) None disp)
plain_reached x b reg low disp hr hl h4 f =
    let base : ℕ = low + 8 * b in
    let low_is : base % 8 ≡ low = omega arith in
    let field = field base disp f in
    let none : sib_len base None ≡ 0 = rw (low_is, differ low 4 h4) refl in (
      (field.mode * 64 + reg * 8 + low) ∷ field.bytes,
      more_bytes _ field.bytes (byte_of field.mode reg low field.mode_below hr hl) field.are_bytes,
      record { reads = λ rest. base_back x b 1 field.mode reg low field.bytes rest disp hr hl field.mode_below h4 (λ e. field.base_five (low_is ∙ e)) (field.reads rest) },
      omega (arith, field.length_is, none),
    )

-- a base and the SIB byte that is there
kept_reads : (x b mode reg sib : ℕ) (ds rest : List ℕ) (v : ℤ) → reg < 8 → mode < 3 → (base_of sib ≡ 5 → mode ≢ 0) → disp_at mode 1 (ds ++ rest) ≡ Some (v, rest) → read_tail x b 1 (((mode * 64 + reg * 8 + 4) ∷ sib ∷ ds) ++ rest) ≡ Some (record { reg = reg; place = Mem (Some (base_of sib + 8 * b)) (scaled_index x sib) v; rest = rest })
unfolding read_tail sib_at
kept_reads x b mode reg sib ds rest v hr hm h5 hd =
    let h4 : 4 < 8 = omega arith in
    rw (mod_is mode reg 4 hr h4, reg_is mode reg 4 hr h4, rm_is mode reg 4 hr h4)
    (let e3 : (mode == 3) ≡ false = differ mode 3 (λ e. omega arith) in
    let e5 : ((base_of sib == 5) && (mode == 0)) ≡ false = unless_both (base_of sib) mode h5 in
    rw (e3, e5, hd) refl)

kept_reached : (x b reg sib : ℕ) (disp : ℤ) → reg < 8 → sib < 256 → FitsSigned w32 disp → sib_len (base_of sib + 8 * b) (scaled_index x sib) ≡ 1 → Reached x b reg (Mem (Some (base_of sib + 8 * b)) (scaled_index x sib) disp)
kept_reached x b reg sib disp hr hs f one =
    let base : ℕ = base_of sib + 8 * b in
    let low_is : base % 8 ≡ base_of sib = omega arith in
    let field = field base disp f in (
      (field.mode * 64 + reg * 8 + 4) ∷ sib ∷ field.bytes,
      more_bytes _ (sib ∷ field.bytes) (byte_of field.mode reg 4 field.mode_below hr (omega arith)) (more_bytes sib field.bytes hs field.are_bytes),
      record { reads = λ rest. kept_reads x b field.mode reg sib field.bytes rest disp hr field.mode_below (λ e. field.base_five (low_is ∙ e)) (field.reads rest) },
      omega (arith, field.length_is, one),
    )

sib_reached : (x b reg sib : ℕ) (disp : ℤ) (index : Option (ℕ × ℕ)) (stack : Bool) → scaled_index x sib ≡ index → (base_of sib == 4) ≡ stack → reg < 8 → sib < 256 → FitsSigned w32 disp → Reached x b reg (Mem (Some (base_of sib + 8 * b)) (scaled_index x sib) disp)
sib_reached x b reg sib disp (Some index) stack hi hs hr hb f = kept_reached x b reg sib disp hr hb f (rw hi refl)
sib_reached x b reg sib disp None true hi hs hr hb f =
    let low_is : (base_of sib + 8 * b) % 8 ≡ base_of sib = omega arith in
    kept_reached x b reg sib disp hr hb f (rw (hi, low_is, hs) refl)
sib_reached x b reg sib disp None false hi hs hr hb f =
    rw hi (plain_reached x b reg (base_of sib) disp hr (omega arith) (λ e. grind (arith, nat_tests)) f)

-- a SIB byte without a base
record First (disp : ℤ) : Type 0 where
  bytes : List ℕ
  are_bytes : IsBytes bytes
  reads : (rest : List ℕ) → disp32_at (bytes ++ rest) ≡ Some (disp, rest)
  length_is : length bytes ≡ 4

first_four : (disp : ℤ) → FitsSigned w32 disp → First disp
first_four disp f = record {
  bytes = to_le_bytes w32 (cast_unsigned w32 disp);
  are_bytes = four_bytes (cast_unsigned w32 disp);
  reads = λ rest. let small : cast_unsigned w32 disp < 2 ^ 32 = omega (arith, ints) in rw (four_back (cast_unsigned w32 disp) rest small, s32_back disp f) refl;
  length_is = refl;
}

no_base_reads : (x b modrm sib : ℕ) (ds rest : List ℕ) (v : ℤ) → (mod_of modrm == 3) ≡ false → (rm_of modrm == 4) ≡ true → ((base_of sib == 5) && (mod_of modrm == 0)) ≡ true → disp32_at (ds ++ rest) ≡ Some (v, rest) → read_tail x b 1 ((modrm ∷ sib ∷ ds) ++ rest) ≡ Some (record { reg = reg_of modrm; place = Mem None (scaled_index x sib) v; rest = rest })
unfolding read_tail sib_at
no_base_reads x b modrm sib ds rest v h3 h4 h5 hd = rw (h3, h4, h5, hd) refl

no_base_reached : (x b modrm sib : ℕ) (disp : ℤ) → modrm < 256 → sib < 256 → FitsSigned w32 disp → (mod_of modrm == 3) ≡ false → (rm_of modrm == 4) ≡ true → ((base_of sib == 5) && (mod_of modrm == 0)) ≡ true → Reached x b (reg_of modrm) (Mem None (scaled_index x sib) disp)
no_base_reached x b modrm sib disp hm hs f h3 h4 h5 =
    let field = first_four disp f in (
      modrm ∷ sib ∷ field.bytes,
      more_bytes modrm (sib ∷ field.bytes) hm (more_bytes sib field.bytes hs field.are_bytes),
      record { reads = λ rest. no_base_reads x b modrm sib field.bytes rest disp h3 h4 h5 (field.reads rest) },
      omega (arith, field.length_is),
    )

relative_reads : (x b modrm : ℕ) (ds rest : List ℕ) (v : ℤ) → (mod_of modrm == 3) ≡ false → (rm_of modrm == 4) ≡ false → ((rm_of modrm == 5) && (mod_of modrm == 0)) ≡ true → disp32_at (ds ++ rest) ≡ Some (v, rest) → read_tail x b 1 ((modrm ∷ ds) ++ rest) ≡ Some (record { reg = reg_of modrm; place = Rip v; rest = rest })
unfolding read_tail
relative_reads x b modrm ds rest v h3 h4 h5 hd = rw (h3, h4, h5, hd) refl

relative_reached : (x b modrm : ℕ) (disp : ℤ) → modrm < 256 → FitsSigned w32 disp → (mod_of modrm == 3) ≡ false → (rm_of modrm == 4) ≡ false → ((rm_of modrm == 5) && (mod_of modrm == 0)) ≡ true → Reached x b (reg_of modrm) (Rip disp)
relative_reached x b modrm disp hm f h3 h4 h5 =
    let field = first_four disp f in (
      modrm ∷ field.bytes,
      more_bytes modrm field.bytes hm field.are_bytes,
      record { reads = λ rest. relative_reads x b modrm field.bytes rest disp h3 h4 h5 (field.reads rest) },
      omega (arith, field.length_is),
    )

register_reads : (x b modrm : ℕ) (rest : List ℕ) → (mod_of modrm == 3) ≡ true → read_tail x b 1 (modrm ∷ rest) ≡ Some (record { reg = reg_of modrm; place = Reg (Low (rm_of modrm + 8 * b)); rest = rest })
unfolding read_tail
register_reads x b modrm rest h3 = rw h3 refl

-- by what the first bytes are

abbrev pub ReachedBy : ℕ → ℕ → Tail → Type 0
ReachedBy x b t = Reached x b t.reg t.place

sib_tests : (x b modrm sib : ℕ) (bytes : List ℕ) (t : Tail) (t5 : Bool) → IsBytes (modrm ∷ sib ∷ bytes) → (mod_of modrm == 3) ≡ false → (rm_of modrm == 4) ≡ true → ((base_of sib == 5) && (mod_of modrm == 0)) ≡ t5 → (if t5 then displaced (reg_of modrm) (Mem None (scaled_index x sib)) (disp32_at bytes) else displaced (reg_of modrm) (Mem (Some (base_of sib + 8 * b)) (scaled_index x sib)) (disp_at (mod_of modrm) 1 bytes)) ≡ Some t → ReachedBy x b t
sib_tests x b modrm sib bytes t true hb h3 h4 h5 h =
    let d = displaced_is (reg_of modrm) (Mem None (scaled_index x sib)) (disp32_at bytes) t h in
    let later = later_bytes modrm (sib ∷ bytes) hb in
    let f = disp32_fits bytes (d.disp, d.rest) (later_bytes sib bytes later) d.found in
    rw d.tail (no_base_reached x b modrm sib d.disp (first_byte modrm (sib ∷ bytes) hb) (first_byte sib bytes later) f h3 h4 h5)
sib_tests x b modrm sib bytes t false hb h3 h4 h5 h =
    let d = displaced_is (reg_of modrm) (Mem (Some (base_of sib + 8 * b)) (scaled_index x sib)) (disp_at (mod_of modrm) 1 bytes) t h in
    let later = later_bytes modrm (sib ∷ bytes) hb in
    let f = disp_fits (mod_of modrm) bytes (d.disp, d.rest) (later_bytes sib bytes later) d.found in
    rw d.tail (sib_reached x b (reg_of modrm) sib d.disp (scaled_index x sib) (base_of sib == 4) refl refl (omega arith) (first_byte sib bytes later) f)

sib_bytes : (x b modrm : ℕ) (bytes : List ℕ) (t : Tail) → IsBytes (modrm ∷ bytes) → (mod_of modrm == 3) ≡ false → (rm_of modrm == 4) ≡ true → sib_at x b 1 (mod_of modrm) (reg_of modrm) bytes ≡ Some t → ReachedBy x b t
unfolding sib_at
sib_bytes x b modrm [] t hb h3 h4 h = cc
sib_bytes x b modrm (sib ∷ bytes) t hb h3 h4 h = sib_tests x b modrm sib bytes t ((base_of sib == 5) && (mod_of modrm == 0)) hb h3 h4 refl h

tail_tests : (x b modrm : ℕ) (bytes : List ℕ) (t : Tail) (t3 t4 t5 : Bool) → IsBytes (modrm ∷ bytes) → (mod_of modrm == 3) ≡ t3 → (rm_of modrm == 4) ≡ t4 → ((rm_of modrm == 5) && (mod_of modrm == 0)) ≡ t5 → (if t3 then Some (record { reg = reg_of modrm; place = Reg (Low (rm_of modrm + 8 * b)); rest = bytes }) else (if t4 then sib_at x b 1 (mod_of modrm) (reg_of modrm) bytes else (if t5 then displaced (reg_of modrm) Rip (disp32_at bytes) else displaced (reg_of modrm) (Mem (Some (rm_of modrm + 8 * b)) None) (disp_at (mod_of modrm) 1 bytes)))) ≡ Some t → ReachedBy x b t
tail_tests x b modrm bytes t true t4 t5 hb h3 h4 h5 h =
    let e : t ≡ record { reg = reg_of modrm; place = Reg (Low (rm_of modrm + 8 * b)); rest = bytes } = sym (same_Some _ _ h) in
    rw e (modrm ∷ [], more_bytes modrm [] (first_byte modrm bytes hb) no_bytes, record { reads = λ rest. register_reads x b modrm rest h3 }, refl)
tail_tests x b modrm bytes t false true t5 hb h3 h4 h5 h = sib_bytes x b modrm bytes t hb h3 h4 h
tail_tests x b modrm bytes t false false true hb h3 h4 h5 h =
    let d = displaced_is (reg_of modrm) Rip (disp32_at bytes) t h in
    let f = disp32_fits bytes (d.disp, d.rest) (later_bytes modrm bytes hb) d.found in
    rw d.tail (relative_reached x b modrm d.disp (first_byte modrm bytes hb) f h3 h4 h5)
tail_tests x b modrm bytes t false false false hb h3 h4 h5 h =
    let d = displaced_is (reg_of modrm) (Mem (Some (rm_of modrm + 8 * b)) None) (disp_at (mod_of modrm) 1 bytes) t h in
    let f = disp_fits (mod_of modrm) bytes (d.disp, d.rest) (later_bytes modrm bytes hb) d.found in
    rw d.tail (plain_reached x b (reg_of modrm) (rm_of modrm) d.disp (omega arith) (omega arith) (false_is (rm_of modrm) 4 h4) f)

-- where a tail is read, one of the least number of bytes names the same
pub reached : (x b : ℕ) (bytes : List ℕ) (t : Tail) → IsBytes bytes → read_tail x b 1 bytes ≡ Some t → ReachedBy x b t
unfolding read_tail
reached x b [] t hb h = cc
reached x b (modrm ∷ bytes) t hb h =
    tail_tests x b modrm bytes t (mod_of modrm == 3) (rm_of modrm == 4) ((rm_of modrm == 5) && (mod_of modrm == 0)) hb refl refl refl h

-- a tail read alone
alone_reads : (x b reg : ℕ) (place : Place) (t : List ℕ) → IsTail x b 1 reg place t → read_tail x b 1 t ≡ Some (record { reg = reg; place = place; rest = [] })
alone_reads x b reg place t h =
    let whole : t ++ [] ≡ t = append-nil t in
    rw whole at (h.reads [])

least_of : (x b reg : ℕ) (place : Place) (t : List ℕ) → IsBytes t → IsTail x b 1 reg place t → Shortest x b 1 reg place t → length t ≡ least_tail place
least_of x b reg place t hb h s =
    let reads = alone_reads x b reg place t h in
    let r = reached x b t _ hb reads in
    let least = no_shorter x b t _ hb reads in
    let most : length t ≤ length r.0 = s.least r.0 r.1 (alone_reads x b reg place r.0 r.2) in
    omega (arith, least, most, r.3)

shortest_of : (x b reg : ℕ) (place : Place) (t : List ℕ) → length t ≡ least_tail place → Shortest x b 1 reg place t
shortest_of x b reg place t e = record { least = λ u hu hr. let least = no_shorter x b u _ hu hr in omega (arith, least, e) }

-- a tail is the shortest exactly where it has the least number of bytes
pub shortest : (x b reg : ℕ) (place : Place) (t : List ℕ) → IsBytes t → IsTail x b 1 reg place t → Shortest x b 1 reg place t ↔ (length t ≡ least_tail place)
shortest x b reg place t hb h = (least_of x b reg place t hb h, shortest_of x b reg place t)
