use Rattle.std.proofs.Common.{◌≡◌, ℕ, ◌+◌, ◌*◌, List, [], ◌∷◌, ◌++◌, Bool, true, false, Some, None, Option, refl, ℤ, pos, ◌∙◌, ap, sym, suc, zero}
use Rattle.std.specs.Prelude.{◌==◌, ◌&&◌, if◌then◌else◌, option_map}
use Rattle.cax64_machine_code.specs.Fields.{mod_of, reg_of, rm_of, base_of, number_at, s32}
use Rattle.cax64_machine_code.specs.Tail.{Tail, read_tail, sib_at, disp_at, disp8_at, disp32_at, displaced, scaled_index}
use Rattle.cax64_machine_code.specs.declared.reading.RegView.TheVariants.{Low}
use Rattle.cax64_machine_code.specs.declared.reading.Place.{Place}
use Rattle.cax64_machine_code.specs.declared.reading.Place.TheVariants.{Reg, Mem, Rip}

-- what is read at the front of some bytes is read of longer ones too, and more is left

number_of_none : (more : List ℕ) (size : ℕ) (o : Option (ℕ × List ℕ)) (byte : ℕ) (r : ℕ × List ℕ) (bytes : List ℕ) → ((s : ℕ × List ℕ) → o ≡ Some s → number_at size (bytes ++ more) ≡ Some (s.0, s.1 ++ more)) → option_map {T = ℕ × List ℕ} {U = ℕ × List ℕ} (λ higher. (byte + 256 * higher.0, higher.1)) o ≡ Some r → option_map {T = ℕ × List ℕ} {U = ℕ × List ℕ} (λ higher. (byte + 256 * higher.0, higher.1)) (number_at size (bytes ++ more)) ≡ Some (r.0, r.1 ++ more)
number_of_none more size None byte r bytes later h = cc
number_of_none more size (Some s) byte r bytes later h =
    let e : ◌≡◌ {A = ℕ × List ℕ} (byte + 256 * s.0, s.1) r = cc in
    rw (later s refl, ← e) refl

pub number_at_more : (size : ℕ) (bytes more : List ℕ) (r : ℕ × List ℕ) → number_at size bytes ≡ Some r → number_at size (bytes ++ more) ≡ Some (r.0, r.1 ++ more)
unfolding number_at
number_at_more zero bytes more r h = let e : ◌≡◌ {A = ℕ × List ℕ} (0, bytes) r = cc in rw (← e) refl
number_at_more (suc size) [] more r h = cc
number_at_more (suc size) (byte ∷ bytes) more r h = number_of_none more size (number_at size bytes) byte r bytes (λ s e. number_at_more size bytes more s e) h

-- a map of what is found
pub mapped : {A B : Type 0} (f : A → B) (o o' : Option (A × List ℕ)) (more : List ℕ) (r : B × List ℕ) → ((s : A × List ℕ) → o ≡ Some s → o' ≡ Some (s.0, s.1 ++ more)) → option_map {T = A × List ℕ} {U = B × List ℕ} (λ n. (f n.0, n.1)) o ≡ Some r → option_map {T = A × List ℕ} {U = B × List ℕ} (λ n. (f n.0, n.1)) o' ≡ Some (r.0, r.1 ++ more)
mapped {A} {B} f None o' more r later h = cc
mapped {A} {B} f (Some s) o' more r later h =
    let e : ◌≡◌ {A = B × List ℕ} (f s.0, s.1) r = cc in
    rw (later s refl, ← e) refl

disp8_more : (n : ℕ) (bytes more : List ℕ) (r : ℤ × List ℕ) → disp8_at n bytes ≡ Some r → disp8_at n (bytes ++ more) ≡ Some (r.0, r.1 ++ more)
disp8_more n bytes more r h = mapped _ (number_at 1 bytes) (number_at 1 (bytes ++ more)) more r (number_at_more 1 bytes more) h

pub disp32_more : (bytes more : List ℕ) (r : ℤ × List ℕ) → disp32_at bytes ≡ Some r → disp32_at (bytes ++ more) ≡ Some (r.0, r.1 ++ more)
disp32_more bytes more r h = mapped s32 (number_at 4 bytes) (number_at 4 (bytes ++ more)) more r (number_at_more 4 bytes more) h

-- a choice between two ways to read
either : {X Y : Type 0} (t : Bool) (a b : Option X) (a' b' : Option Y) (r : X) (s : Y) → (a ≡ Some r → a' ≡ Some s) → (b ≡ Some r → b' ≡ Some s) → (if t then a else b) ≡ Some r → (if t then a' else b') ≡ Some s
either true a b a' b' r s f g h = f h
either false a b a' b' r s f g h = g h

pub disp_at_more : (mode n : ℕ) (bytes more : List ℕ) (r : ℤ × List ℕ) → disp_at mode n bytes ≡ Some r → disp_at mode n (bytes ++ more) ≡ Some (r.0, r.1 ++ more)
unfolding disp_at
disp_at_more mode n bytes more r h =
    either (mode == 0) _ _ _ _ r (r.0, r.1 ++ more) (λ e. let k : ◌≡◌ {A = ℤ × List ℕ} (pos 0, bytes) r = cc in rw (← k) refl)
    (either (mode == 1) _ _ _ _ r (r.0, r.1 ++ more) (disp8_more n bytes more r) (disp32_more bytes more r)) h

-- a tail with more behind it
abbrev pub longer : List ℕ → Tail → Tail
longer more t = record { reg = t.reg; place = t.place; rest = t.rest ++ more }

displaced_more : (reg : ℕ) (place : ℤ → Place) (o o' : Option (ℤ × List ℕ)) (more : List ℕ) (t : Tail) → ((s : ℤ × List ℕ) → o ≡ Some s → o' ≡ Some (s.0, s.1 ++ more)) → displaced reg place o ≡ Some t → displaced reg place o' ≡ Some (longer more t)
displaced_more reg place None o' more t later h = cc
displaced_more reg place (Some s) o' more t later h =
    let e : ◌≡◌ {A = Tail} (record { reg = reg; place = place s.0; rest = s.1 }) t = cc in
    rw (later s refl, ← e) refl

sib_at_more : (x b n mode reg : ℕ) (bytes more : List ℕ) (t : Tail) → sib_at x b n mode reg bytes ≡ Some t → sib_at x b n mode reg (bytes ++ more) ≡ Some (longer more t)
unfolding sib_at
sib_at_more x b n mode reg [] more t h = cc
sib_at_more x b n mode reg (sib ∷ bytes) more t h =
    either ((base_of sib == 5) && (mode == 0)) _ _ _ _ t (longer more t)
    (displaced_more reg (Mem None (scaled_index x sib)) _ _ more t (disp32_more bytes more))
    (displaced_more reg (Mem (Some (base_of sib + 8 * b)) (scaled_index x sib)) _ _ more t (disp_at_more mode n bytes more)) h

-- a tail is read of longer bytes too
pub read_tail_more : (x b n : ℕ) (bytes more : List ℕ) (t : Tail) → read_tail x b n bytes ≡ Some t → read_tail x b n (bytes ++ more) ≡ Some (longer more t)
unfolding read_tail
read_tail_more x b n [] more t h = cc
read_tail_more x b n (modrm ∷ bytes) more t h =
    either (mod_of modrm == 3) _ _ _ _ t (longer more t)
    (λ e. let k : ◌≡◌ {A = Tail} (record { reg = reg_of modrm; place = Reg (Low (rm_of modrm + 8 * b)); rest = bytes }) t = cc in rw (← k) refl)
    (either (rm_of modrm == 4) _ _ _ _ t (longer more t) (sib_at_more x b n (mod_of modrm) (reg_of modrm) bytes more t)
    (either ((rm_of modrm == 5) && (mod_of modrm == 0)) _ _ _ _ t (longer more t)
    (displaced_more (reg_of modrm) Rip _ _ more t (disp32_more bytes more))
    (displaced_more (reg_of modrm) (Mem (Some (rm_of modrm + 8 * b)) None) _ _ more t (disp_at_more (mod_of modrm) n bytes more)))) h

nothing_more : (a more : List ℕ) → a ++ more ≡ [] → more ≡ []
nothing_more [] more h = h
nothing_more (c ∷ a) more h = cc

-- no tail is a proper front of another
pub tail_no_front : (x b n : ℕ) (t more : List ℕ) (first second : Tail) → read_tail x b n t ≡ Some first → first.rest ≡ [] → read_tail x b n (t ++ more) ≡ Some second → second.rest ≡ [] → more ≡ []
tail_no_front x b n t more first second h he k ke =
    let e : second ≡ longer more first = cc (read_tail_more x b n t more first h) in
    let r : second.rest ≡ first.rest ++ more = ap (λ (z : Tail). z.rest) e in
    nothing_more first.rest more (sym r ∙ ke)
