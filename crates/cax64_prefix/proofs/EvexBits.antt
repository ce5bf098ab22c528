use Rattle.std.proofs.Common.{◌≡◌, ℕ, ◌+◌, ◌-◌, ◌*◌, ◌/◌, ◌%◌, ◌<◌, arith, refl, List, [], ◌∷◌, Some, ap}
use Rattle.cax64_machine_code.specs.Evex.{Evex, evex_of, evex_at}
use Rattle.cax64_machine_code.specs.Apx.{Apx, apx_of, apx_at}
use Rattle.cax64_prefix.specs.Evex.{EvexReadsAs}
use Rattle.cax64_prefix.specs.Apx.{ApxReadsAs}
use Rattle.cax64_prefix.proofs.RexBits.{equal}

-- fields that an EVEX prefix without a mask can hold
pub record IsEvex (evex : Evex) : Type 0 where
  pub r3 : evex.r3 < 2
  pub r4 : evex.r4 < 2
  pub b3 : evex.b3 < 2
  pub x3 : evex.x3 < 2
  pub vvvv : evex.vvvv < 32
  pub ll : evex.ll < 4
  pub pp : evex.pp < 4
  pub mmm : evex.mmm < 8
  pub w : evex.w < 2
  pub broadcast : evex.broadcast < 2
  pub z : evex.z ≡ 0
  pub aaa : evex.aaa ≡ 0

-- the bytes that hold some fields
pub record HoldsEvex (evex : Evex) (second third fourth : ℕ) : Type 0 where
  pub registers : second ≡ (1 - evex.r3) * 128 + (1 - evex.x3) * 64 + (1 - evex.b3) * 32 + (1 - evex.r4) * 16 + evex.mmm
  pub operation : third ≡ evex.w * 128 + (15 - evex.vvvv % 16) * 8 + 4 + evex.pp
  pub last : fourth ≡ evex.ll * 32 + evex.broadcast * 16 + (1 - evex.vvvv / 16) * 8

evex_is : (evex : Evex) (second third fourth : ℕ) → IsEvex evex → HoldsEvex evex second third fourth → evex_of second third fourth ≡ evex
evex_is evex second third fourth h held =
    let hr3 = h.r3 in let hr4 = h.r4 in let hb3 = h.b3 in let hx3 = h.x3 in let hm = h.mmm in let e2 = held.registers in
    let hw = h.w in let hv = h.vvvv in let hp = h.pp in let e3 = held.operation in
    let hl = h.ll in let hb = h.broadcast in let e4 = held.last in
    let r3 : 1 - second / 128 % 2 ≡ evex.r3 = omega arith in
    let x3 : 1 - second / 64 % 2 ≡ evex.x3 = omega arith in
    let b3 : 1 - second / 32 % 2 ≡ evex.b3 = omega arith in
    let r4 : 1 - second / 16 % 2 ≡ evex.r4 = omega arith in
    let mmm : second % 8 ≡ evex.mmm = omega arith in
    let w : third / 128 % 2 ≡ evex.w = omega arith in
    let low : 15 - third / 8 % 16 ≡ evex.vvvv % 16 = omega arith in
    let high : 1 - fourth / 8 % 2 ≡ evex.vvvv / 16 = omega arith in
    let vvvv : evex.vvvv % 16 + 16 * (evex.vvvv / 16) ≡ evex.vvvv = omega arith in
    let pp : third % 4 ≡ evex.pp = omega arith in
    let ll : fourth / 32 % 4 ≡ evex.ll = omega arith in
    let broadcast : fourth / 16 % 2 ≡ evex.broadcast = omega arith in
    let z : fourth / 128 % 2 ≡ evex.z = omega arith in
    let aaa : fourth % 8 ≡ evex.aaa = omega arith in
    rw (r3, x3, b3, r4, mmm, w, low, high, vvvv, pp, ll, broadcast, z, aaa) refl

evex_found : (evex : Evex) (second third fourth : ℕ) (rest : List ℕ) → second / 8 % 2 ≡ 0 → third / 4 % 2 ≡ 1 → evex_of second third fourth ≡ evex → evex_at (0x62 ∷ second ∷ third ∷ fourth ∷ rest) ≡ Some (evex, rest)
unfolding evex_at
evex_found evex second third fourth rest zero one is =
    rw (equal (second / 8 % 2) 0 zero, equal (third / 4 % 2) 1 one) (ap (λ e. Some (e, rest)) is)

pub evex_reads : (evex : Evex) (second third fourth : ℕ) → IsEvex evex → HoldsEvex evex second third fourth → EvexReadsAs evex (0x62 ∷ second ∷ third ∷ fourth ∷ [])
evex_reads evex second third fourth h held =
    let hr4 = h.r4 in let hm = h.mmm in let e2 = held.registers in let hp = h.pp in let e3 = held.operation in
    let zero : second / 8 % 2 ≡ 0 = omega arith in
    let one : third / 4 % 2 ≡ 1 = omega arith in
    record { reads = λ rest. evex_found evex second third fourth rest zero one (evex_is evex second third fourth h held) }

-- fields that the form for general registers can hold
pub record IsApx (apx : Apx) : Type 0 where
  pub r3 : apx.r3 < 2
  pub r4 : apx.r4 < 2
  pub b3 : apx.b3 < 2
  pub b4 : apx.b4 < 2
  pub x3 : apx.x3 < 2
  pub x4 : apx.x4 < 2
  pub vvvv : apx.vvvv < 32
  pub pp : apx.pp < 4
  pub mmm : apx.mmm < 8
  pub w : apx.w < 2
  pub nd : apx.nd < 2
  pub nf : apx.nf < 2

-- the bytes that hold some fields
pub record HoldsApx (apx : Apx) (second third fourth : ℕ) : Type 0 where
  pub registers : second ≡ (1 - apx.r3) * 128 + (1 - apx.x3) * 64 + (1 - apx.b3) * 32 + (1 - apx.r4) * 16 + apx.b4 * 8 + apx.mmm
  pub operation : third ≡ apx.w * 128 + (15 - apx.vvvv % 16) * 8 + (1 - apx.x4) * 4 + apx.pp
  pub last : fourth ≡ apx.nd * 16 + (1 - apx.vvvv / 16) * 8 + apx.nf * 4

apx_is : (apx : Apx) (second third fourth : ℕ) → IsApx apx → HoldsApx apx second third fourth → apx_of second third fourth ≡ apx
apx_is apx second third fourth h held =
    let hr3 = h.r3 in let hr4 = h.r4 in let hb3 = h.b3 in let hb4 = h.b4 in let hx3 = h.x3 in let hm = h.mmm in let e2 = held.registers in
    let hw = h.w in let hv = h.vvvv in let hx4 = h.x4 in let hp = h.pp in let e3 = held.operation in
    let hd = h.nd in let hf = h.nf in let e4 = held.last in
    let r3 : 1 - second / 128 % 2 ≡ apx.r3 = omega arith in
    let x3 : 1 - second / 64 % 2 ≡ apx.x3 = omega arith in
    let b3 : 1 - second / 32 % 2 ≡ apx.b3 = omega arith in
    let r4 : 1 - second / 16 % 2 ≡ apx.r4 = omega arith in
    let b4 : second / 8 % 2 ≡ apx.b4 = omega arith in
    let mmm : second % 8 ≡ apx.mmm = omega arith in
    let w : third / 128 % 2 ≡ apx.w = omega arith in
    let low : 15 - third / 8 % 16 ≡ apx.vvvv % 16 = omega arith in
    let high : 1 - fourth / 8 % 2 ≡ apx.vvvv / 16 = omega arith in
    let vvvv : apx.vvvv % 16 + 16 * (apx.vvvv / 16) ≡ apx.vvvv = omega arith in
    let x4 : 1 - third / 4 % 2 ≡ apx.x4 = omega arith in
    let pp : third % 4 ≡ apx.pp = omega arith in
    let nd : fourth / 16 % 2 ≡ apx.nd = omega arith in
    let nf : fourth / 4 % 2 ≡ apx.nf = omega arith in
    rw (r3, x3, b3, r4, b4, mmm, w, low, high, vvvv, x4, pp, nd, nf) refl

apx_found : (apx : Apx) (second third fourth : ℕ) (rest : List ℕ) → fourth / 32 ≡ 0 → fourth % 4 ≡ 0 → apx_of second third fourth ≡ apx → apx_at (0x62 ∷ second ∷ third ∷ fourth ∷ rest) ≡ Some (apx, rest)
unfolding apx_at
apx_found apx second third fourth rest top bottom is =
    rw (equal (fourth / 32) 0 top, equal (fourth % 4) 0 bottom) (ap (λ a. Some (a, rest)) is)

pub apx_reads : (apx : Apx) (second third fourth : ℕ) → IsApx apx → HoldsApx apx second third fourth → ApxReadsAs apx (0x62 ∷ second ∷ third ∷ fourth ∷ [])
apx_reads apx second third fourth h held =
    let hd = h.nd in let hf = h.nf in let e4 = held.last in
    let top : fourth / 32 ≡ 0 = omega arith in
    let bottom : fourth % 4 ≡ 0 = omega arith in
    record { reads = λ rest. apx_found apx second third fourth rest top bottom (apx_is apx second third fourth h held) }
