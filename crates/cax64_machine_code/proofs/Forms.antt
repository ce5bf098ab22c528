use Rattle.std.proofs.Common.{◌≡◌, ◌≢◌, ℕ, ◌+◌, ◌*◌, ◌<◌, ◌≤◌, ◌%◌, arith, List, [], ◌∷◌, Bool, true, false, Some, None, Option, refl, ℤ, ◌∙◌, ap, sym, suc, length}
use Rattle.std.specs.Prelude.{◌==◌, ◌&&◌, if◌then◌else◌, is_some}
use Rattle.std.proofs.lemmas.Bool.Decides.{nat_tests}
use Rattle.std.proofs.lemmas.Option.{same_Some}
use Rattle.cax64_machine_code.specs.Fields.{IsBytes, mod_of, reg_of, rm_of, base_of, number_at}
use Rattle.cax64_machine_code.specs.Tail.{Tail, read_tail, sib_at, disp_at, disp32_at, displaced, scaled_index}
use Rattle.cax64_machine_code.specs.declared.reading.RegView.TheVariants.{Low}
use Rattle.cax64_machine_code.specs.declared.reading.Place.{Place}
use Rattle.cax64_machine_code.specs.declared.reading.Place.TheVariants.{Reg, Mem, Rip}

-- the forms that a string which reads as a memory operand can have

zero_below : (n : ℕ) → 0 < suc n
zero_below n = omega arith

suc_below : (k n : ℕ) → k < n → suc k < suc n
suc_below k n h = omega arith

pub first_byte : (byte : ℕ) (bytes : List ℕ) → IsBytes (byte ∷ bytes) → byte < 256
first_byte byte bytes h = h 0 0 (zero_below (length bytes))

pub later_bytes : (byte : ℕ) (bytes : List ℕ) → IsBytes (byte ∷ bytes) → IsBytes bytes
later_bytes byte bytes h k d lt = h (suc k) d (suc_below k (length bytes) lt)

pub true_is : (a b : ℕ) → (a == b) ≡ true → a ≡ b
true_is a b h = grind (arith, nat_tests)

pub false_is : (a b : ℕ) → (a == b) ≡ false → a ≢ b
false_is a b h = grind (arith, nat_tests)

pub not_both : (low mode : ℕ) → ((low == 5) && (mode == 0)) ≡ false → low ≡ 5 → mode ≢ 0
not_both low mode h = grind (arith, nat_tests)

-- a string that reads as a base, an index and a displacement: one byte or two, then the displacement
pub record MemForm (x b factor base : ℕ) (index : Option (ℕ × ℕ)) (disp : ℤ) (u : List ℕ) : Type 0 where
  pub mode : ℕ
  pub before : ℕ
  pub field : List ℕ
  pub mode_below : mode < 3
  pub before_least : 1 ≤ before
  pub length_is : length u ≡ before + length field
  pub bytes : IsBytes field
  pub reads : disp_at mode factor field ≡ Some (disp, [])
  pub base_five : base % 8 ≡ 5 → mode ≢ 0
  pub base_four : base % 8 ≡ 4 → before ≡ 2
  pub indexed : is_some index ≡ true → before ≡ 2

displaced_is : (reg : ℕ) (place : ℤ → Place) (o : Option (ℤ × List ℕ)) (t : Tail) → displaced reg place o ≡ Some t → (d : ℤ × List ℕ) × (o ≡ Some d) × (place d.0 ≡ t.place) × (d.1 ≡ t.rest)
displaced_is reg place None t h = cc
displaced_is reg place (Some d) t h = let e = same_Some _ _ h in (d, refl, ap (λ (z : Tail). z.place) e, ap (λ (z : Tail). z.rest) e)

same_mem : (a c : Option ℕ) (i j : Option (ℕ × ℕ)) (v w : ℤ) → ◌≡◌ {A = Place} (Mem a i v) (Mem c j w) → (a ≡ c) × (i ≡ j) × (v ≡ w)
same_mem a c i j v w e = (cc, cc, cc)

low_of : (low b base : ℕ) → low < 8 → low + 8 * b ≡ base → base % 8 ≡ low
low_of low b base h e = omega arith

read_pair : (mode factor : ℕ) (field rest : List ℕ) (disp v : ℤ) (d : ℤ × List ℕ) → disp_at mode factor field ≡ Some d → d.0 ≡ disp → d.1 ≡ [] → disp_at mode factor field ≡ Some (disp, [])
read_pair mode factor field rest disp v d h e f = h ∙ rw (← e, ← f) refl

-- without a SIB byte
plain_form : (x b factor base : ℕ) (index : Option (ℕ × ℕ)) (disp : ℤ) (modrm : ℕ) (bytes : List ℕ) (t : Tail) → IsBytes (modrm ∷ bytes) → t.place ≡ Mem (Some base) index disp → t.rest ≡ [] → (mod_of modrm == 3) ≡ false → (rm_of modrm == 4) ≡ false → ((rm_of modrm == 5) && (mod_of modrm == 0)) ≡ false → displaced (reg_of modrm) (Mem (Some (rm_of modrm + 8 * b)) None) (disp_at (mod_of modrm) factor bytes) ≡ Some t → MemForm x b factor base index disp (modrm ∷ bytes)
plain_form x b factor base index disp modrm bytes t hb hp hr h3 h4 h5 h =
    let d = displaced_is (reg_of modrm) (Mem (Some (rm_of modrm + 8 * b)) None) (disp_at (mod_of modrm) factor bytes) t h in
    let parts = same_mem _ _ _ _ _ _ (d.2 ∙ hp) in
    let below : modrm < 256 = first_byte modrm bytes hb in
    let not_three : mod_of modrm ≢ 3 = false_is (mod_of modrm) 3 h3 in
    let not_four : rm_of modrm ≢ 4 = false_is (rm_of modrm) 4 h4 in
    let is_base : rm_of modrm + 8 * b ≡ base = same_Some _ _ parts.0 in
    let low : base % 8 ≡ rm_of modrm = low_of (rm_of modrm) b base (omega arith) is_base in
    record {
      mode = mod_of modrm;
      before = 1;
      field = bytes;
      mode_below = omega arith;
      before_least = omega arith;
      length_is = omega arith;
      bytes = later_bytes modrm bytes hb;
      reads = read_pair (mod_of modrm) factor bytes [] disp disp d.0 d.1 parts.2 (d.3 ∙ hr);
      base_five = λ e. not_both (rm_of modrm) (mod_of modrm) h5 (sym low ∙ e);
      base_four = λ e. absurd (not_four (sym low ∙ e));
      indexed = λ e. let none : is_some index ≡ false = ap is_some (sym parts.1) in cc;
    }

-- with a SIB byte
sib_form : (x b factor base : ℕ) (index : Option (ℕ × ℕ)) (disp : ℤ) (modrm sib : ℕ) (bytes : List ℕ) (t : Tail) → IsBytes (modrm ∷ sib ∷ bytes) → t.place ≡ Mem (Some base) index disp → t.rest ≡ [] → (mod_of modrm == 3) ≡ false → ((base_of sib == 5) && (mod_of modrm == 0)) ≡ false → displaced (reg_of modrm) (Mem (Some (base_of sib + 8 * b)) (scaled_index x sib)) (disp_at (mod_of modrm) factor bytes) ≡ Some t → MemForm x b factor base index disp (modrm ∷ sib ∷ bytes)
sib_form x b factor base index disp modrm sib bytes t hb hp hr h3 h5 h =
    let d = displaced_is (reg_of modrm) (Mem (Some (base_of sib + 8 * b)) (scaled_index x sib)) (disp_at (mod_of modrm) factor bytes) t h in
    let parts = same_mem _ _ _ _ _ _ (d.2 ∙ hp) in
    let below : modrm < 256 = first_byte modrm (sib ∷ bytes) hb in
    let not_three : mod_of modrm ≢ 3 = false_is (mod_of modrm) 3 h3 in
    let is_base : base_of sib + 8 * b ≡ base = same_Some _ _ parts.0 in
    let low : base % 8 ≡ base_of sib = low_of (base_of sib) b base (omega arith) is_base in
    record {
      mode = mod_of modrm;
      before = 2;
      field = bytes;
      mode_below = omega arith;
      before_least = omega arith;
      length_is = omega arith;
      bytes = later_bytes sib bytes (later_bytes modrm (sib ∷ bytes) hb);
      reads = read_pair (mod_of modrm) factor bytes [] disp disp d.0 d.1 parts.2 (d.3 ∙ hr);
      base_five = λ e. not_both (base_of sib) (mod_of modrm) h5 (sym low ∙ e);
      base_four = λ e. refl;
      indexed = λ e. refl;
    }

no_base : (reg : ℕ) (index other : Option (ℕ × ℕ)) (base : ℕ) (disp : ℤ) (o : Option (ℤ × List ℕ)) (t : Tail) → t.place ≡ Mem (Some base) index disp → displaced reg (Mem None other) o ≡ Some t → ⊥
no_base reg index other base disp o t hp h =
    let d = displaced_is reg (Mem None other) o t h in
    let parts = same_mem _ _ _ _ _ _ (d.2 ∙ hp) in
    cc parts.0

sib_cases : (x b factor base : ℕ) (index : Option (ℕ × ℕ)) (disp : ℤ) (modrm sib : ℕ) (bytes : List ℕ) (t : Tail) (t5 : Bool) → IsBytes (modrm ∷ sib ∷ bytes) → t.place ≡ Mem (Some base) index disp → t.rest ≡ [] → (mod_of modrm == 3) ≡ false → ((base_of sib == 5) && (mod_of modrm == 0)) ≡ t5 → (if t5 then displaced (reg_of modrm) (Mem None (scaled_index x sib)) (disp32_at bytes) else displaced (reg_of modrm) (Mem (Some (base_of sib + 8 * b)) (scaled_index x sib)) (disp_at (mod_of modrm) factor bytes)) ≡ Some t → MemForm x b factor base index disp (modrm ∷ sib ∷ bytes)
sib_cases x b factor base index disp modrm sib bytes t true hb hp hr h3 h5 h = absurd (no_base (reg_of modrm) index (scaled_index x sib) base disp (disp32_at bytes) t hp h)
sib_cases x b factor base index disp modrm sib bytes t false hb hp hr h3 h5 h = sib_form x b factor base index disp modrm sib bytes t hb hp hr h3 h5 h

sib_bytes : (x b factor base : ℕ) (index : Option (ℕ × ℕ)) (disp : ℤ) (modrm : ℕ) (bytes : List ℕ) (t : Tail) → IsBytes (modrm ∷ bytes) → t.place ≡ Mem (Some base) index disp → t.rest ≡ [] → (mod_of modrm == 3) ≡ false → sib_at x b factor (mod_of modrm) (reg_of modrm) bytes ≡ Some t → MemForm x b factor base index disp (modrm ∷ bytes)
unfolding sib_at
sib_bytes x b factor base index disp modrm [] t hb hp hr h3 h = cc
sib_bytes x b factor base index disp modrm (sib ∷ bytes) t hb hp hr h3 h = sib_cases x b factor base index disp modrm sib bytes t ((base_of sib == 5) && (mod_of modrm == 0)) hb hp hr h3 refl h

by_tests : (x b factor base : ℕ) (index : Option (ℕ × ℕ)) (disp : ℤ) (modrm : ℕ) (bytes : List ℕ) (t : Tail) (t3 t4 t5 : Bool) → IsBytes (modrm ∷ bytes) → t.place ≡ Mem (Some base) index disp → t.rest ≡ [] → (mod_of modrm == 3) ≡ t3 → (rm_of modrm == 4) ≡ t4 → ((rm_of modrm == 5) && (mod_of modrm == 0)) ≡ t5 → (if t3 then Some (record { reg = reg_of modrm; place = Reg (Low (rm_of modrm + 8 * b)); rest = bytes }) else (if t4 then sib_at x b factor (mod_of modrm) (reg_of modrm) bytes else (if t5 then displaced (reg_of modrm) Rip (disp32_at bytes) else displaced (reg_of modrm) (Mem (Some (rm_of modrm + 8 * b)) None) (disp_at (mod_of modrm) factor bytes)))) ≡ Some t → MemForm x b factor base index disp (modrm ∷ bytes)
by_tests x b factor base index disp modrm bytes t true t4 t5 hb hp hr h3 h4 h5 h =
    let e : Reg (Low (rm_of modrm + 8 * b)) ≡ t.place = ap (λ (z : Tail). z.place) (same_Some _ _ h) in cc
by_tests x b factor base index disp modrm bytes t false true t5 hb hp hr h3 h4 h5 h = sib_bytes x b factor base index disp modrm bytes t hb hp hr h3 h
by_tests x b factor base index disp modrm bytes t false false true hb hp hr h3 h4 h5 h =
    let d = displaced_is (reg_of modrm) Rip (disp32_at bytes) t h in
    let e : Rip d.0.0 ≡ Mem (Some base) index disp = d.2 ∙ hp in cc
by_tests x b factor base index disp modrm bytes t false false false hb hp hr h3 h4 h5 h = plain_form x b factor base index disp modrm bytes t hb hp hr h3 h4 h5 h

-- each string of bytes that reads as a base, an index and a displacement is of this form
pub mem_form : (x b factor base : ℕ) (index : Option (ℕ × ℕ)) (disp : ℤ) (u : List ℕ) (t : Tail) → IsBytes u → t.place ≡ Mem (Some base) index disp → t.rest ≡ [] → read_tail x b factor u ≡ Some t → MemForm x b factor base index disp u
unfolding read_tail
mem_form x b factor base index disp [] t hb hp hr h = cc
mem_form x b factor base index disp (modrm ∷ bytes) t hb hp hr h =
    by_tests x b factor base index disp modrm bytes t (mod_of modrm == 3) (rm_of modrm == 4) ((rm_of modrm == 5) && (mod_of modrm == 0)) hb hp hr refl refl refl h

-- four bytes of displacement are four bytes
pub disp32_length : (bytes : List ℕ) (r : ℤ × List ℕ) → disp32_at bytes ≡ Some r → length bytes ≡ 4 + length r.1
unfolding number_at
disp32_length [] r h = cc
disp32_length (a ∷ []) r h = cc
disp32_length (a ∷ b ∷ []) r h = cc
disp32_length (a ∷ b ∷ c ∷ []) r h = cc
disp32_length (a ∷ b ∷ c ∷ d ∷ rest) r h =
    let e : rest ≡ r.1 = ap (λ (z : ℤ × List ℕ). z.1) (same_Some _ _ h) in
    let same : length rest ≡ length r.1 = ap length e in
    omega arith

no_memory : (reg : ℕ) (base : Option ℕ) (index : Option (ℕ × ℕ)) (disp : ℤ) (o : Option (ℤ × List ℕ)) (t : Tail) → t.place ≡ Rip disp → displaced reg (Mem base index) o ≡ Some t → ⊥
no_memory reg base index disp o t hp h =
    let d = displaced_is reg (Mem base index) o t h in
    let e : Mem base index d.0.0 ≡ Rip disp = d.2 ∙ hp in cc

no_sib : (x b factor mode reg : ℕ) (bytes : List ℕ) (disp : ℤ) (t : Tail) → t.place ≡ Rip disp → sib_at x b factor mode reg bytes ≡ Some t → ⊥
unfolding sib_at
no_sib x b factor mode reg [] disp t hp h = cc
no_sib x b factor mode reg (sib ∷ bytes) disp t hp h = choose ((base_of sib == 5) && (mode == 0)) _ _ (Some t)
    (no_memory reg None (scaled_index x sib) disp (disp32_at bytes) t hp)
    (no_memory reg (Some (base_of sib + 8 * b)) (scaled_index x sib) disp (disp_at mode factor bytes) t hp) h
  where
    choose : {X : Type 0} (t : Bool) (a b r : X) → (a ≡ r → ⊥) → (b ≡ r → ⊥) → (if t then a else b) ≡ r → ⊥
    choose true a b r f g h = f h
    choose false a b r f g h = g h

rip_tests : (x b factor : ℕ) (disp : ℤ) (modrm : ℕ) (bytes : List ℕ) (t : Tail) (t3 t4 t5 : Bool) → t.place ≡ Rip disp → t.rest ≡ [] → (if t3 then Some (record { reg = reg_of modrm; place = Reg (Low (rm_of modrm + 8 * b)); rest = bytes }) else (if t4 then sib_at x b factor (mod_of modrm) (reg_of modrm) bytes else (if t5 then displaced (reg_of modrm) Rip (disp32_at bytes) else displaced (reg_of modrm) (Mem (Some (rm_of modrm + 8 * b)) None) (disp_at (mod_of modrm) factor bytes)))) ≡ Some t → 5 ≤ length (modrm ∷ bytes)
rip_tests x b factor disp modrm bytes t true t4 t5 hp hr h =
    let e : Reg (Low (rm_of modrm + 8 * b)) ≡ t.place = ap (λ (z : Tail). z.place) (same_Some _ _ h) in cc
rip_tests x b factor disp modrm bytes t false true t5 hp hr h = absurd (no_sib x b factor (mod_of modrm) (reg_of modrm) bytes disp t hp h)
rip_tests x b factor disp modrm bytes t false false true hp hr h =
    let d = displaced_is (reg_of modrm) Rip (disp32_at bytes) t h in
    let four : length bytes ≡ 4 + length d.0.1 = disp32_length bytes d.0 d.1 in
    omega arith
rip_tests x b factor disp modrm bytes t false false false hp hr h = absurd (no_memory (reg_of modrm) (Some (rm_of modrm + 8 * b)) None disp (disp_at (mod_of modrm) factor bytes) t hp h)

-- a string that reads relative to the end has five bytes
pub rip_length : (x b factor : ℕ) (disp : ℤ) (u : List ℕ) (t : Tail) → t.place ≡ Rip disp → t.rest ≡ [] → read_tail x b factor u ≡ Some t → 5 ≤ length u
unfolding read_tail
rip_length x b factor disp [] t hp hr h = cc
rip_length x b factor disp (modrm ∷ bytes) t hp hr h =
    rip_tests x b factor disp modrm bytes t (mod_of modrm == 3) (rm_of modrm == 4) ((rm_of modrm == 5) && (mod_of modrm == 0)) hp hr h
