use Rattle.std.proofs.Common.{◌≡◌, ℕ, zero, suc, ◌+◌, ◌<◌, ◌≤◌, arith, List, [], ◌∷◌, length, Bool, true, false, refl, ap, sym, Option, Some, None, ℤ, pos}
use Rattle.std.specs.Prelude.{◌==◌, ◌&&◌, if◌then◌else◌, option_map, option_and_then}
use Rattle.cax64_machine_code.specs.Fields.{number_at, mod_of, reg_of, rm_of, base_of}
use Rattle.cax64_machine_code.specs.Tail.{Tail, disp8_at, disp32_at, disp_at, displaced, sib_at, read_tail}
use Rattle.cax64_reader.specs.Lengths.{Within}
use Rattle.cax64_machine_code.specs.declared.reading.Place.{Place}

pub some_same : {A : Type 0} (a b : A) → ◌≡◌ {A = Option A} (Some a) (Some b) → a ≡ b
some_same a b e = cc

-- what a map or a chain was made of

pub mapped_from : {A B : Type 0} (f : A → B) (o : Option A) (r : B) → option_map f o ≡ Some r → (x : A) × (o ≡ Some x) × (f x ≡ r)
mapped_from f None r h = cc
mapped_from f (Some x) r h = (x, refl, some_same (f x) r h)

pub chained_from : {A B : Type 0} (f : A → Option B) (o : Option A) (r : B) → option_and_then f o ≡ Some r → (x : A) × (o ≡ Some x) × (f x ≡ Some r)
chained_from f None r h = cc
chained_from f (Some x) r h = (x, refl, h)

pub either_from : {B : Type 0} (t : Bool) (a b : Option B) (r : B) (P : Type 0) → (a ≡ Some r → P) → (b ≡ Some r → P) → (if t then a else b) ≡ Some r → P
either_from true a b r P f g h = f h
either_from false a b r P f g h = g h

-- how many bytes a number takes

pub number_length : (size : ℕ) (bytes : List ℕ) (r : ℕ × List ℕ) → number_at size bytes ≡ Some r → length bytes ≡ length r.1 + size
unfolding number_at
number_length zero bytes r h = let e : ◌≡◌ {A = ℕ × List ℕ} (0, bytes) r = some_same _ _ h in let l = ap (λ (z : ℕ × List ℕ). length z.1) e in omega arith
number_length (suc size) [] r h = cc
number_length (suc size) (byte ∷ bytes) r h =
    let m = mapped_from _ (number_at size bytes) r h in
    let l = number_length size bytes m.0 m.1 in
    let e = ap (λ (z : ℕ × List ℕ). length z.1) m.2 in
    omega arith

pub disp32_length : (bytes : List ℕ) (d : ℤ × List ℕ) → disp32_at bytes ≡ Some d → Within bytes d.1 4
disp32_length bytes d h =
    let m = mapped_from _ (number_at 4 bytes) d h in
    let l = number_length 4 bytes m.0 m.1 in
    let e = ap (λ (z : ℤ × List ℕ). length z.1) m.2 in
    record { part = omega arith; close = omega arith }

disp8_length : (factor : ℕ) (bytes : List ℕ) (d : ℤ × List ℕ) → disp8_at factor bytes ≡ Some d → Within bytes d.1 4
disp8_length factor bytes d h =
    let m = mapped_from _ (number_at 1 bytes) d h in
    let l = number_length 1 bytes m.0 m.1 in
    let e = ap (λ (z : ℤ × List ℕ). length z.1) m.2 in
    record { part = omega arith; close = omega arith }

disp_length : (mode factor : ℕ) (bytes : List ℕ) (d : ℤ × List ℕ) → disp_at mode factor bytes ≡ Some d → Within bytes d.1 4
unfolding disp_at
disp_length mode factor bytes d h =
    either_from (mode == 0) (Some (pos 0, bytes)) (if mode == 1 then disp8_at factor bytes else disp32_at bytes) d (Within bytes d.1 4)
    (λ e. let q : ◌≡◌ {A = ℤ × List ℕ} (pos 0, bytes) d = some_same _ _ e in let l = ap (λ (z : ℤ × List ℕ). length z.1) q in record { part = omega arith; close = omega arith })
    (either_from (mode == 1) (disp8_at factor bytes) (disp32_at bytes) d (Within bytes d.1 4) (disp8_length factor bytes d) (disp32_length bytes d))
    h

displaced_length : (reg : ℕ) (make : ℤ → Place) (bytes : List ℕ) (o : Option (ℤ × List ℕ)) (t : Tail) → ((d : ℤ × List ℕ) → o ≡ Some d → Within bytes d.1 4) → displaced reg make o ≡ Some t → Within bytes t.rest 4
displaced_length reg make bytes o t w h =
    let m = mapped_from _ o t h in
    let l = w m.0 m.1 in
    let e = ap (λ (z : Tail). length z.rest) m.2 in
    record { part = omega arith; close = omega arith }

sib_length : (x b factor mode reg : ℕ) (bytes : List ℕ) (t : Tail) → sib_at x b factor mode reg bytes ≡ Some t → Within bytes t.rest 5
unfolding sib_at
sib_length x b factor mode reg [] t h = cc
sib_length x b factor mode reg (sib ∷ bytes) t h =
    let w : Within bytes t.rest 4 = either_from ((base_of sib == 5) && (mode == 0)) _ _ t (Within bytes t.rest 4)
    (displaced_length reg _ bytes (disp32_at bytes) t (disp32_length bytes))
    (displaced_length reg _ bytes (disp_at mode factor bytes) t (disp_length mode factor bytes)) h in
    record { part = omega arith; close = omega arith }

nearer : (byte : ℕ) (bytes rest : List ℕ) → Within bytes rest 5 → Within (byte ∷ bytes) rest 6
nearer byte bytes rest w = record { part = omega arith; close = omega arith }

wider : (bytes rest : List ℕ) (m n : ℕ) → m ≤ n → Within bytes rest m → Within bytes rest n
wider bytes rest m n h w = record { part = omega arith; close = omega arith }

pub tail_length : (x b factor : ℕ) (bytes : List ℕ) (t : Tail) → read_tail x b factor bytes ≡ Some t → Within bytes t.rest 6
unfolding read_tail
tail_length x b factor [] t h = cc
tail_length x b factor (modrm ∷ bytes) t h = nearer modrm bytes t.rest
    (either_from (mod_of modrm == 3) _ _ t (Within bytes t.rest 5)
    (λ e. let q = some_same _ _ e in let l = ap (λ (z : Tail). length z.rest) q in record { part = omega arith; close = omega arith })
    (either_from (rm_of modrm == 4) _ _ t (Within bytes t.rest 5) (sib_length x b factor (mod_of modrm) (reg_of modrm) bytes t)
    (either_from ((rm_of modrm == 5) && (mod_of modrm == 0)) _ _ t (Within bytes t.rest 5)
    (λ e. wider bytes t.rest 4 5 (omega arith) (displaced_length (reg_of modrm) _ bytes (disp32_at bytes) t (disp32_length bytes) e))
    (λ e. wider bytes t.rest 4 5 (omega arith) (displaced_length (reg_of modrm) _ bytes (disp_at (mod_of modrm) factor bytes) t (disp_length (mod_of modrm) factor bytes) e)))) h)

-- the reg field is that of the ModR/M byte

displaced_reg : (reg : ℕ) (make : ℤ → Place) (o : Option (ℤ × List ℕ)) (t : Tail) → displaced reg make o ≡ Some t → t.reg ≡ reg
displaced_reg reg make o t h = let m = mapped_from _ o t h in sym (ap (λ (z : Tail). z.reg) m.2)

sib_reg : (x b factor mode reg : ℕ) (bytes : List ℕ) (t : Tail) → sib_at x b factor mode reg bytes ≡ Some t → t.reg ≡ reg
unfolding sib_at
sib_reg x b factor mode reg [] t h = cc
sib_reg x b factor mode reg (sib ∷ bytes) t h = either_from ((base_of sib == 5) && (mode == 0)) _ _ t (t.reg ≡ reg)
    (displaced_reg reg _ (disp32_at bytes) t)
    (displaced_reg reg _ (disp_at mode factor bytes) t) h

tail_reg_is : (x b factor modrm : ℕ) (bytes : List ℕ) (t : Tail) → read_tail x b factor (modrm ∷ bytes) ≡ Some t → t.reg ≡ reg_of modrm
unfolding read_tail
tail_reg_is x b factor modrm bytes t h =
    either_from (mod_of modrm == 3) _ _ t (t.reg ≡ reg_of modrm)
    (λ e. let q = some_same _ _ e in sym (ap (λ (z : Tail). z.reg) q))
    (either_from (rm_of modrm == 4) _ _ t (t.reg ≡ reg_of modrm) (sib_reg x b factor (mod_of modrm) (reg_of modrm) bytes t)
    (either_from ((rm_of modrm == 5) && (mod_of modrm == 0)) _ _ t (t.reg ≡ reg_of modrm)
    (displaced_reg (reg_of modrm) _ (disp32_at bytes) t)
    (displaced_reg (reg_of modrm) _ (disp_at (mod_of modrm) factor bytes) t))) h

pub tail_reg : (x b factor modrm : ℕ) (bytes : List ℕ) (t : Tail) → read_tail x b factor (modrm ∷ bytes) ≡ Some t → t.reg < 8
tail_reg x b factor modrm bytes t h = let e = tail_reg_is x b factor modrm bytes t h in omega arith
