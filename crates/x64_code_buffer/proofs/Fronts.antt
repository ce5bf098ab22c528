use Rattle.std.proofs.Common.{◌≡◌, ℕ, ◌/◌, ◌%◌, refl, ◌∙◌, ap, sym, List, [], ◌∷◌, ◌++◌, Bool, true, false, Option, Some, None, append_assoc}
use Rattle.std.specs.Prelude.{◌==◌, ◌&&◌, ◌||◌, not, if◌then◌else◌}
use Rattle.cax64_machine_code.specs.Prefix.{no_legacy, legacy_at, Rex, rex_of, rex_at, Vex, vex_two_byte, vex_three_byte, is_vex_map, vex_at, Prefix, legacy_prefix, vex_prefix, begins_vex, is_no_legacy, after_vex, after_legacy, prefix_at}
use Rattle.cax64_machine_code.specs.declared.line.LegacySet.{LegacySet}

-- What is read at the front depends on that front alone: the same is read of it with anything else behind it.

some_same : {A : Type 0} (a b : A) → ◌≡◌ {A = Option A} (Some a) (Some b) → a ≡ b
some_same a b e = cc

first_same : {A B : Type 0} (a c : A) (b d : B) → ◌≡◌ {A = A × B} (a, b) (c, d) → a ≡ c
first_same {A} {B} a c b d e = ap (λ (z : A × B). z.0) e

second_same : {A B : Type 0} (a c : A) (b d : B) → ◌≡◌ {A = A × B} (a, b) (c, d) → b ≡ d
second_same {A} {B} a c b d e = ap (λ (z : A × B). z.1) e

-- a front of some bytes, behind which p finds x whatever follows, and leaves c and that
abbrev pub Front : {X : Type 0} → (List ℕ → X) → (List ℕ → X) → List ℕ → List ℕ → Type 0
Front p found bytes rest = (v : List ℕ) × (bytes ≡ v ++ rest) × ((s : List ℕ) → p (v ++ s) ≡ found s)

front_if : {X : Type 0} (t : Bool) (f g found : List ℕ → X) (bytes rest : List ℕ) → (f bytes ≡ found rest → Front f found bytes rest) → (g bytes ≡ found rest → Front g found bytes rest) → (if t then f bytes else g bytes) ≡ found rest → Front (λ z. if t then f z else g z) found bytes rest
front_if true f g found bytes rest hf hg h = hf h
front_if false f g found bytes rest hf hg h = hg h

front_under : {X : Type 0} (byte : ℕ) (p q found : List ℕ → X) (bytes rest : List ℕ) → ((s : List ℕ) → p (byte ∷ s) ≡ q s) → Front q found bytes rest → Front p found (byte ∷ bytes) rest
front_under byte p q found bytes rest same h = (byte ∷ h.0, ap (λ (z : List ℕ). byte ∷ z) h.1, λ s. same (h.0 ++ s) ∙ h.2 s)

-- a byte that isn't taken
stops : {A : Type 0} (x y : A) (byte c : ℕ) (bytes rest : List ℕ) → ◌≡◌ {A = A × List ℕ} (x, byte ∷ bytes) (y, c ∷ rest) → Front {X = A × List ℕ} (λ z. (x, byte ∷ z)) (λ s. (y, c ∷ s)) bytes rest
stops x y byte c bytes rest h =
    let p : x ≡ y = first_same _ _ _ _ h in
    let q : byte ∷ bytes ≡ c ∷ rest = second_same _ _ _ _ h in
    let r : byte ≡ c = cc in
    let same : bytes ≡ rest = cc in
    ([], same, λ s. ap (λ z. (z, byte ∷ s)) p ∙ ap (λ (z : ℕ). (y, z ∷ s)) r)

-- all of it is taken
takes : {A : Type 0} (x y : A) (c : ℕ) (bytes rest : List ℕ) → ◌≡◌ {A = A × List ℕ} (x, bytes) (y, c ∷ rest) → Front {X = A × List ℕ} (λ z. (x, z)) (λ s. (y, c ∷ s)) bytes rest
takes x y c bytes rest h =
    let p : x ≡ y = first_same _ _ _ _ h in
    let q : bytes ≡ c ∷ rest = second_same _ _ _ _ h in
    (c ∷ [], q, λ s. ap (λ z. (z, c ∷ s)) p)

legacy_front : (bytes : List ℕ) (seen l : LegacySet) (c : ℕ) (rest : List ℕ) → legacy_at seen bytes ≡ (l, c ∷ rest) → Front (legacy_at seen) (λ s. (l, c ∷ s)) bytes rest
unfolding legacy_at
legacy_front [] seen l c rest h = let p : ◌≡◌ {A = List ℕ} [] (c ∷ rest) = second_same _ _ _ _ h in cc
legacy_front (byte ∷ bytes) seen l c rest h =
    let found : List ℕ → LegacySet × List ℕ = λ s. (l, c ∷ s) in
    let stop : List ℕ → LegacySet × List ℕ = λ z. (seen, byte ∷ z) in
    let fourth : List ℕ → LegacySet × List ℕ = λ z. if (byte == 0xF3) && not (seen.repne || seen.rep) then legacy_at (record seen { rep = true }) z else stop z in
    let third : List ℕ → LegacySet × List ℕ = λ z. if (byte == 0xF2) && not (seen.repne || seen.rep) then legacy_at (record seen { repne = true }) z else fourth z in
    let second : List ℕ → LegacySet × List ℕ = λ z. if (byte == 0x66) && not seen.operand_size then legacy_at (record seen { operand_size = true }) z else third z in
    let first : List ℕ → LegacySet × List ℕ = λ z. if (byte == 0xF0) && not seen.lock then legacy_at (record seen { lock = true }) z else second z in
    front_under byte (legacy_at seen) first found bytes rest (λ s. refl)
    (front_if ((byte == 0xF0) && not seen.lock) (legacy_at (record seen { lock = true })) second found bytes rest (legacy_front bytes (record seen { lock = true }) l c rest)
    (front_if ((byte == 0x66) && not seen.operand_size) (legacy_at (record seen { operand_size = true })) third found bytes rest (legacy_front bytes (record seen { operand_size = true }) l c rest)
    (front_if ((byte == 0xF2) && not (seen.repne || seen.rep)) (legacy_at (record seen { repne = true })) fourth found bytes rest (legacy_front bytes (record seen { repne = true }) l c rest)
    (front_if ((byte == 0xF3) && not (seen.repne || seen.rep)) (legacy_at (record seen { rep = true })) stop found bytes rest (legacy_front bytes (record seen { rep = true }) l c rest)
    (stops seen l byte c bytes rest)))) h)

rex_front : (byte : ℕ) (bytes : List ℕ) (o : Option Rex) (c : ℕ) (rest : List ℕ) → rex_at (byte ∷ bytes) ≡ (o, c ∷ rest) → Front (λ z. rex_at (byte ∷ z)) (λ s. (o, c ∷ s)) bytes rest
unfolding rex_at
rex_front byte bytes o c rest h =
    front_if (byte / 16 == 4) (λ z. (Some (rex_of byte), z)) (λ z. (None, byte ∷ z)) (λ s. (o, c ∷ s)) bytes rest (takes (Some (rex_of byte)) o c bytes rest) (stops None o byte c bytes rest) h

front_some : {X : Type 0} (p found : List ℕ → X) (bytes rest : List ℕ) → Front p found bytes rest → Front {X = Option X} (λ z. Some (p z)) (λ s. Some (found s)) bytes rest
front_some p found bytes rest h = (h.0, h.1, λ s. ap Some (h.2 s))

vex_front : (byte : ℕ) (bytes : List ℕ) (w : Vex) (c : ℕ) (rest : List ℕ) → vex_at (byte ∷ bytes) ≡ Some (w, c ∷ rest) → Front (λ z. vex_at (byte ∷ z)) (λ s. Some (w, c ∷ s)) bytes rest
unfolding vex_at
vex_front byte [] w c rest h = cc
vex_front byte (second ∷ []) w c rest h = absurd (short (byte == 0xC5) h)
  where
    short : (t : Bool) → ◌≡◌ {A = Option (Vex × List ℕ)} (if◌then◌else◌ {A = Option (Vex × List ℕ)} t (Some (vex_two_byte second, [])) None) (Some (w, c ∷ rest)) → ⊥
    short true e = let q : ◌≡◌ {A = List ℕ} [] (c ∷ rest) = second_same _ _ _ _ (some_same _ _ e) in cc
    short false e = cc
vex_front byte (second ∷ third ∷ more) w c rest h =
    let found : List ℕ → Option (Vex × List ℕ) = λ s. Some (w, c ∷ s) in
    front_under second (λ z. vex_at (byte ∷ z)) (λ z. vex_at (byte ∷ second ∷ z)) found (third ∷ more) rest (λ s. refl)
    (front_under third (λ z. vex_at (byte ∷ second ∷ z)) (λ z. vex_at (byte ∷ second ∷ third ∷ z)) found more rest (λ s. refl)
    (front_if (byte == 0xC5) (λ z. Some (vex_two_byte second, third ∷ z)) (λ z. if (byte == 0xC4) && is_vex_map (second % 32) then Some (vex_three_byte second third, z) else None) found more rest
    (λ e. front_some (λ z. (vex_two_byte second, third ∷ z)) (λ s. (w, c ∷ s)) more rest (stops (vex_two_byte second) w third c more rest (some_same _ _ e)))
    (front_if ((byte == 0xC4) && is_vex_map (second % 32)) (λ z. Some (vex_three_byte second third, z)) (λ z. None) found more rest
    (λ e. front_some (λ z. (vex_three_byte second third, z)) (λ s. (w, c ∷ s)) more rest (takes (vex_three_byte second third) w c more rest (some_same _ _ e)))
    (λ e. cc)) h))

after_vex_front : (byte : ℕ) (bytes : List ℕ) (o : Option (Vex × List ℕ)) (p : Prefix) (c : ℕ) (rest : List ℕ) → vex_at (byte ∷ bytes) ≡ o → after_vex o ≡ Some (p, c ∷ rest) → Front (λ z. after_vex (vex_at (byte ∷ z))) (λ s. Some (p, c ∷ s)) bytes rest
after_vex_front byte bytes None p c rest e h = cc
after_vex_front byte bytes (Some w) p c rest e h =
    let k = some_same _ _ h in
    let q : vex_prefix w.0 ≡ p = first_same _ _ _ _ k in
    let left : w.1 ≡ c ∷ rest = second_same _ _ _ _ k in
    let f = vex_front byte bytes w.0 c rest (e ∙ ap (λ (z : List ℕ). Some (w.0, z)) left) in
    (f.0, f.1, λ s. ap after_vex (f.2 s) ∙ ap (λ (z : Prefix). Some (z, c ∷ s)) q)

after_legacy_front : (l : LegacySet) (byte : ℕ) (bytes : List ℕ) (p : Prefix) (c : ℕ) (rest : List ℕ) → after_legacy l (rex_at (byte ∷ bytes)) ≡ Some (p, c ∷ rest) → Front (λ z. after_legacy l (rex_at (byte ∷ z))) (λ s. Some (p, c ∷ s)) bytes rest
after_legacy_front l byte bytes p c rest h =
    let k = some_same _ _ h in
    let q : legacy_prefix l (rex_at (byte ∷ bytes)).0 ≡ p = first_same _ _ _ _ k in
    let left : (rex_at (byte ∷ bytes)).1 ≡ c ∷ rest = second_same _ _ _ _ k in
    let pair : rex_at (byte ∷ bytes) ≡ ((rex_at (byte ∷ bytes)).0, c ∷ rest) = ap (λ (z : List ℕ). ((rex_at (byte ∷ bytes)).0, z)) left in
    let f = rex_front byte bytes (rex_at (byte ∷ bytes)).0 c rest pair in
    (f.0, f.1, λ s. ap (after_legacy l) (f.2 s) ∙ ap (λ (z : Prefix). Some (z, c ∷ s)) q)

none_left : (l : LegacySet) (t : Bool) (p : Prefix) (c : ℕ) (rest : List ℕ) → (if t && false then after_vex (vex_at []) else after_legacy l (rex_at [])) ≡ Some (p, c ∷ rest) → ⊥
unfolding vex_at rex_at
none_left l true p c rest h = let q : ◌≡◌ {A = List ℕ} [] (c ∷ rest) = second_same _ _ _ _ (some_same _ _ h) in cc
none_left l false p c rest h = let q : ◌≡◌ {A = List ℕ} [] (c ∷ rest) = second_same _ _ _ _ (some_same _ _ h) in cc

prefix_by : (l : LegacySet) (ls bytes : List ℕ) (p : Prefix) (c : ℕ) (rest : List ℕ) → legacy_at no_legacy bytes ≡ (l, ls) → (if is_no_legacy l && begins_vex ls then after_vex (vex_at ls) else after_legacy l (rex_at ls)) ≡ Some (p, c ∷ rest) → Front prefix_at (λ s. Some (p, c ∷ s)) bytes rest
unfolding prefix_at
prefix_by l [] bytes p c rest e h = absurd (none_left l (is_no_legacy l) p c rest h)
prefix_by l (d ∷ ls) bytes p c rest e h =
    let first = legacy_front bytes no_legacy l d ls e in
    let second : Front (λ z. if is_no_legacy l && begins_vex (d ∷ z) then after_vex (vex_at (d ∷ z)) else after_legacy l (rex_at (d ∷ z))) (λ s. Some (p, c ∷ s)) ls rest =
    front_if (is_no_legacy l && begins_vex (d ∷ ls)) (λ z. after_vex (vex_at (d ∷ z))) (λ z. after_legacy l (rex_at (d ∷ z))) (λ s. Some (p, c ∷ s)) ls rest (after_vex_front d ls (vex_at (d ∷ ls)) p c rest refl) (after_legacy_front l d ls p c rest) h in
    (first.0 ++ second.0, first.1 ∙ ap (λ (z : List ℕ). first.0 ++ z) second.1 ∙ sym (append_assoc first.0 second.0 rest), λ s. rw (append_assoc first.0 second.0 s, first.2 (second.0 ++ s)) (second.2 s))

-- a prefix that something follows
pub prefix_front : (bytes : List ℕ) (p : Prefix) (c : ℕ) (rest : List ℕ) → prefix_at bytes ≡ Some (p, c ∷ rest) → Front prefix_at (λ s. Some (p, c ∷ s)) bytes rest
unfolding prefix_at
prefix_front bytes p c rest h = prefix_by (legacy_at no_legacy bytes).0 (legacy_at no_legacy bytes).1 bytes p c rest refl h
