use Rattle.std.proofs.Common.{◌≡◌, ◌≢◌, ℕ, ◌+◌, ◌*◌, ◌<◌, ◌^◌, arith, List, [], ◌∷◌, ◌++◌, false, Some, None, refl, ℤ, pos}
use Rattle.std.specs.Prelude.{◌==◌, ◌&&◌, if◌then◌else◌}
use Rattle.std.proofs.lemmas.Bool.Decides.{nat_tests}
use Rattle.cax64_machine_code.specs.Tail.{read_tail, sib_at, disp_at, disp32_at}
use Rattle.cax64_machine_code.specs.declared.reading.RegView.TheVariants.{Low}
use Rattle.cax64_machine_code.specs.declared.reading.Place.TheVariants.{Reg, Mem, Rip}
use Rattle.cax64_machine_code.proofs.Bytes.{mod_is, reg_is, rm_is}

pub differ : (a b : ℕ) → a ≢ b → (a == b) ≡ false
differ a b h = grind (arith, nat_tests)

-- the mode and low bits do not name a relative place or a missing base
pub unless_both : (low mode : ℕ) → (low ≡ 5 → mode ≢ 0) → ((low == 5) && (mode == 0)) ≡ false
unless_both low mode h = grind (arith, nat_tests)

-- a register
pub register_back : (x b n field low : ℕ) (rest : List ℕ) → field < 8 → low < 8 → read_tail x b n ((3 * 64 + field * 8 + low) ∷ rest) ≡ Some (record { reg = field; place = Reg (Low (low + 8 * b)); rest = rest })
unfolding read_tail
register_back x b n field low rest hf hl =
    rw (mod_is 3 field low hf hl, reg_is 3 field low hf hl, rm_is 3 field low hf hl) refl

-- a base with no SIB byte
pub base_back : (x b n mode field low : ℕ) (ds rest : List ℕ) (v : ℤ) → field < 8 → low < 8 → mode < 3 → low ≢ 4 → (low ≡ 5 → mode ≢ 0) → disp_at mode n (ds ++ rest) ≡ Some (v, rest) → read_tail x b n (((mode * 64 + field * 8 + low) ∷ ds) ++ rest) ≡ Some (record { reg = field; place = Mem (Some (low + 8 * b)) None v; rest = rest })
unfolding read_tail
base_back x b n mode field low ds rest v hf hl hm h4 h5 hd =
    rw (mod_is mode field low hf hl, reg_is mode field low hf hl, rm_is mode field low hf hl)
    (let e3 : (mode == 3) ≡ false = differ mode 3 (λ e. omega arith) in
    let e4 : (low == 4) ≡ false = differ low 4 h4 in
    let e5 : ((low == 5) && (mode == 0)) ≡ false = unless_both low mode h5 in
    rw (e3, e4, e5, hd) refl)

-- a SIB byte with a base
pub sib_back : (x b n mode field scale index low : ℕ) (ds rest : List ℕ) (v : ℤ) → field < 8 → low < 8 → mode < 3 → index < 8 → (low ≡ 5 → mode ≢ 0) → disp_at mode n (ds ++ rest) ≡ Some (v, rest) → read_tail x b n (((mode * 64 + field * 8 + 4) ∷ (scale * 64 + index * 8 + low) ∷ ds) ++ rest) ≡ Some (record { reg = field; place = Mem (Some (low + 8 * b)) (if (index == 4) && (x == 0) then None else Some (index + 8 * x, 2 ^ scale)) v; rest = rest })
unfolding read_tail sib_at
sib_back x b n mode field scale index low ds rest v hf hl hm hi h5 hd =
    let h4 : 4 < 8 = omega arith in
    rw (mod_is mode field 4 hf h4, reg_is mode field 4 hf h4, rm_is mode field 4 hf h4)
    (let e3 : (mode == 3) ≡ false = differ mode 3 (λ e. omega arith) in
    let e5 : ((low == 5) && (mode == 0)) ≡ false = unless_both low mode h5 in
    rw (e3, mod_is scale index low hi hl, reg_is scale index low hi hl, rm_is scale index low hi hl, e5, hd) refl)

-- no displacement
pub none_back : (n : ℕ) (rest : List ℕ) → disp_at 0 n ([] ++ rest) ≡ Some (pos 0, rest)
unfolding disp_at
none_back n rest = refl

-- a place relative to the end
pub relative_back : (x b n field : ℕ) (ds rest : List ℕ) (v : ℤ) → field < 8 → disp32_at (ds ++ rest) ≡ Some (v, rest) → read_tail x b n (((0 * 64 + field * 8 + 5) ∷ ds) ++ rest) ≡ Some (record { reg = field; place = Rip v; rest = rest })
unfolding read_tail
relative_back x b n field ds rest v hf e =
    let h5 : 5 < 8 = omega arith in
    rw (mod_is 0 field 5 hf h5, reg_is 0 field 5 hf h5, rm_is 0 field 5 hf h5, e) refl
