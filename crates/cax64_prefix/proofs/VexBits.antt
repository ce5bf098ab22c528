use Rattle.std.proofs.Common.{◌≡◌, ℕ, ◌+◌, ◌-◌, ◌*◌, ◌/◌, ◌%◌, ◌<◌, ◌≤◌, arith, refl, Bool, true, false, List, [], ◌∷◌, ◌++◌, length, length-append, Option, Some, None, ap, ◌⊎◌, inl, inr}
use Rattle.std.specs.Prelude.{IsTrue, ◌↔◌, ◌==◌, ◌&&◌, if◌then◌else◌, IfSome, unwrap_or}
use Rattle.std.proofs.lemmas.Bool.Decides.{nat_tests}
use Rattle.cax64_machine_code.specs.Prefix.{Vex, vex_at, vex_two_byte, vex_three_byte, is_vex_map}
use Rattle.cax64_prefix.specs.declared.vex.VexPrefix.{VexPrefix}
use Rattle.cax64_prefix.specs.declared.vex.VexPrefix.TheVariants.{TwoByte, ThreeByte}
use Rattle.cax64_prefix.specs.Vex.{vex_bytes, vex_fields, VexReadsAs, IsShortestVex, fits_two_bytes}
use Rattle.cax64_prefix.proofs.Bits.{bool_below}

-- fields that a VEX prefix can hold
pub record IsVex (vex : Vex) : Type 0 where
  pub w : vex.w < 2
  pub r : vex.r < 2
  pub x : vex.x < 2
  pub b : vex.b < 2
  pub vvvv : vex.vvvv < 16
  pub l : vex.l < 2
  pub pp : vex.pp < 4
  pub map_low : 1 ≤ vex.map
  pub map_high : vex.map ≤ 3

zeros_of : (x b w map : ℕ) → ((x == 0) && ((b == 0) && ((w == 0) && (map == 1)))) ≡ true → (x ≡ 0) × (b ≡ 0) × (w ≡ 0) × (map ≡ 1)
zeros_of x b w map h = (grind (arith, nat_tests), grind (arith, nat_tests), grind (arith, nat_tests), grind (arith, nat_tests))

two_is : (vex : Vex) (last : ℕ) → IsVex vex → fits_two_bytes vex ≡ true → last ≡ (1 - vex.r) * 128 + (15 - vex.vvvv) * 8 + vex.l * 4 + vex.pp → vex_two_byte last ≡ vex
two_is vex last h fits e =
    let hr = h.r in let hv = h.vvvv in let hl = h.l in let hp = h.pp in
    let z = zeros_of vex.x vex.b vex.w vex.map fits in
    let r : 1 - last / 128 % 2 ≡ vex.r = omega arith in
    let vvvv : 15 - last / 8 % 16 ≡ vex.vvvv = omega arith in
    let l : last / 4 % 2 ≡ vex.l = omega arith in
    let pp : last % 4 ≡ vex.pp = omega arith in
    rw (r, vvvv, l, pp, z.0, z.1, z.2, z.3) refl

two_at : (vex : Vex) (last : ℕ) (rest : List ℕ) → vex_two_byte last ≡ vex → vex_at (0xC5 ∷ last ∷ rest) ≡ Some (vex, rest)
unfolding vex_at
two_at vex last [] is = ap (λ v. Some (v, [])) is
two_at vex last (third ∷ rest) is = ap (λ v. Some (v, third ∷ rest)) is

pub two_reads : (vex : Vex) (last : ℕ) → IsVex vex → fits_two_bytes vex ≡ true → last ≡ (1 - vex.r) * 128 + (15 - vex.vvvv) * 8 + vex.l * 4 + vex.pp → VexReadsAs vex (0xC5 ∷ last ∷ [])
two_reads vex last h fits e = let is : vex_two_byte last ≡ vex = two_is vex last h fits e in record { reads = λ rest. two_at vex last rest is }

three_is : (vex : Vex) (second last : ℕ) → IsVex vex → second ≡ (1 - vex.r) * 128 + (1 - vex.x) * 64 + (1 - vex.b) * 32 + vex.map → last ≡ vex.w * 128 + (15 - vex.vvvv) * 8 + vex.l * 4 + vex.pp → vex_three_byte second last ≡ vex
three_is vex second last h e f =
    let hw = h.w in let hr = h.r in let hx = h.x in let hb = h.b in let hv = h.vvvv in let hl = h.l in let hp = h.pp in let hm = h.map_high in
    let w : last / 128 % 2 ≡ vex.w = omega arith in
    let r : 1 - second / 128 % 2 ≡ vex.r = omega arith in
    let x : 1 - second / 64 % 2 ≡ vex.x = omega arith in
    let b : 1 - second / 32 % 2 ≡ vex.b = omega arith in
    let vvvv : 15 - last / 8 % 16 ≡ vex.vvvv = omega arith in
    let l : last / 4 % 2 ≡ vex.l = omega arith in
    let pp : last % 4 ≡ vex.pp = omega arith in
    let map : second % 32 ≡ vex.map = omega arith in
    rw (w, r, x, b, vvvv, l, pp, map) refl

map_is : (map : ℕ) → 1 ≤ map → map ≤ 3 → is_vex_map map ≡ true
map_is map low high = grind (arith, nat_tests)

three_at : (vex : Vex) (second last : ℕ) (rest : List ℕ) → is_vex_map (second % 32) ≡ true → vex_three_byte second last ≡ vex → vex_at (0xC4 ∷ second ∷ last ∷ rest) ≡ Some (vex, rest)
unfolding vex_at
three_at vex second last rest map is = rw map (ap (λ v. Some (v, rest)) is)

pub three_reads : (vex : Vex) (second last : ℕ) → IsVex vex → second ≡ (1 - vex.r) * 128 + (1 - vex.x) * 64 + (1 - vex.b) * 32 + vex.map → last ≡ vex.w * 128 + (15 - vex.vvvv) * 8 + vex.l * 4 + vex.pp → VexReadsAs vex (0xC4 ∷ second ∷ last ∷ [])
three_reads vex second last h e f =
    let hr = h.r in let hx = h.x in let hb = h.b in let low = h.map_low in let high = h.map_high in
    let map : is_vex_map (second % 32) ≡ true = map_is (second % 32) (omega arith) (omega arith) in
    let is : vex_three_byte second last ≡ vex = three_is vex second last h e f in
    record { reads = λ rest. three_at vex second last rest map is }

-- a reading of the fields, with what is left
abbrev both : Vex → List ℕ → Vex × List ℕ
both vex rest = (vex, rest)

abbrev found : Vex → List ℕ → Option (Vex × List ℕ)
found vex rest = Some (both vex rest)

-- A reading takes two bytes, and then holds no more than they can, or it takes three.
pub record TwoOrThree (bytes rest : List ℕ) (vex : Vex) : Type 0 where
  pub either : ((length bytes ≡ length rest + 2) × (fits_two_bytes vex ≡ true)) ⊎ (length bytes ≡ length rest + 3)

two_of : (byte second : ℕ) (left rest : List ℕ) (vex : Vex) → found (vex_two_byte second) left ≡ found vex rest → TwoOrThree (byte ∷ second ∷ left) rest vex
two_of byte second left rest vex h =
    let e : both (vex_two_byte second) left ≡ both vex rest = cc in
    let is : vex_two_byte second ≡ vex = ap (λ p. p.0) e in
    let same : left ≡ rest = ap (λ p. p.1) e in
    rw (← is, ← same) (record { either = inl (omega arith, refl) })

three_of : (byte second third : ℕ) (left rest : List ℕ) (vex : Vex) → found (vex_three_byte second third) left ≡ found vex rest → TwoOrThree (byte ∷ second ∷ third ∷ left) rest vex
three_of byte second third left rest vex h =
    let e : both (vex_three_byte second third) left ≡ both vex rest = cc in
    let same : left ≡ rest = ap (λ p. p.1) e in
    rw (← same) (record { either = inr (omega arith) })

two_by_test : (t : Bool) (byte second : ℕ) (rest : List ℕ) (vex : Vex) → (if t then found (vex_two_byte second) [] else None) ≡ found vex rest → TwoOrThree (byte ∷ second ∷ []) rest vex
two_by_test true byte second rest vex h = two_of byte second [] rest vex h
two_by_test false byte second rest vex h = cc

three_by_tests : (t u : Bool) (byte second third : ℕ) (left rest : List ℕ) (vex : Vex) → (if t then found (vex_two_byte second) (third ∷ left) else (if u then found (vex_three_byte second third) left else None)) ≡ found vex rest → TwoOrThree (byte ∷ second ∷ third ∷ left) rest vex
three_by_tests true u byte second third left rest vex h = two_of byte second (third ∷ left) rest vex h
three_by_tests false true byte second third left rest vex h = three_of byte second third left rest vex h
three_by_tests false false byte second third left rest vex h = cc

pub two_or_three : (bytes rest : List ℕ) (vex : Vex) → vex_at bytes ≡ found vex rest → TwoOrThree bytes rest vex
unfolding vex_at
two_or_three [] rest vex h = cc
two_or_three (byte ∷ []) rest vex h = cc
two_or_three (byte ∷ second ∷ []) rest vex h = two_by_test (byte == 0xC5) byte second rest vex h
two_or_three (byte ∷ second ∷ third ∷ left) rest vex h =
    three_by_tests (byte == 0xC5) ((byte == 0xC4) && is_vex_map (second % 32)) byte second third left rest vex h

least_two : (other rest : List ℕ) (vex : Vex) → TwoOrThree (other ++ rest) rest vex → 2 ≤ length other
least_two other rest vex h = elim h.either [ inl p ↦ (let e = p.0 in omega (arith, length-append other rest)) | inr e ↦ omega (arith, length-append other rest) ]

least_three : (other rest : List ℕ) (vex : Vex) → fits_two_bytes vex ≡ false → TwoOrThree (other ++ rest) rest vex → 3 ≤ length other
least_three other rest vex f h = elim h.either [ inl p ↦ (let t = p.1 in cc) | inr e ↦ omega (arith, length-append other rest) ]

pub two_shortest : (vex : Vex) (last : ℕ) → IsShortestVex vex (0xC5 ∷ last ∷ [])
two_shortest vex last = record { least = λ other rest h. least_two other rest vex (two_or_three (other ++ rest) rest vex h) }

pub three_shortest : (vex : Vex) (second last : ℕ) → fits_two_bytes vex ≡ false → IsShortestVex vex (0xC4 ∷ second ∷ last ∷ [])
three_shortest vex second last f = record { least = λ other rest h. least_three other rest vex f (two_or_three (other ++ rest) rest vex h) }

-- an absent register is register 0
pub register_below : (bound : ℕ) (register : Option ℕ) → 0 < bound → IfSome register (λ n. n < bound) → unwrap_or register 0 < bound
register_below bound None above h = above
register_below bound (Some n) above h = h

pub is_vex : (w : Bool) (reg vvvv : ℕ) (operand : Option ℕ × Option ℕ) (l pp map : ℕ) → reg < 16 → vvvv < 16 → IfSome operand.0 (λ b. b < 16) → IfSome operand.1 (λ x. x < 16) → l < 2 → pp < 4 → 1 ≤ map → map ≤ 3 → IsVex (vex_fields reg vvvv operand l pp map w)
is_vex w reg vvvv operand l pp map hr hv hb hx hl hp low high =
    let b : unwrap_or operand.0 0 < 16 = register_below 16 operand.0 (omega arith) hb in
    let x : unwrap_or operand.1 0 < 16 = register_below 16 operand.1 (omega arith) hx in
    record { w = bool_below w; r = omega arith; x = omega arith; b = omega arith; vvvv = hv; l = hl; pp = hp; map_low = low; map_high = high }

-- the length of a VEX prefix, of which it is known when it is 2
pub vex_length : (prefix : VexPrefix) (fits : Bool) → ((length (vex_bytes prefix) ≡ 2) ↔ IsTrue fits) → length (vex_bytes prefix) ≡ (if fits then 2 else 3)
vex_length (TwoByte last) true h = refl
vex_length (TwoByte last) false h = let bad : false ≡ true = h.0 refl in cc
vex_length (ThreeByte second last) true h = h.1 refl
vex_length (ThreeByte second last) false h = refl
