use Rattle.std.proofs.Common.{◌≡◌, ◌≢◌, ℕ, ◌+◌, ◌*◌, ◌/◌, ◌%◌, ◌<◌, arith, refl, sym, subst, List, [], ◌∷◌, ℤ, pos, Bool, true, false}
use Rattle.std.specs.Prelude.{◌==◌}
use Rattle.std.specs.Int.{cast_unsigned, w8, w32, to_le_bytes}
use Rattle.std.specs.Int.RustNames.{FitsSigned}
use Rattle.std.proofs.lemmas.Bool.Decides.{nat_tests}
use Rattle.std.proofs.lemmas.Int.{ints}
use Rattle.std.proofs.lemmas.List.Elements.{All-nil, All-cons}
use Rattle.cax64_machine_code.specs.Fields.{IsBytes}
use Rattle.cax64_sink.specs.Run.{all_bytes}
use Rattle.cax64_sink.specs.Call.{Action, put, target}
use Rattle.cax64_sink.specs.declared.DeferredTarget.{DeferredTarget}
use Rattle.cax64_address.specs.Displacement.{IsClassOf, mode_of, disp_actions, forced}
use Rattle.cax64_address.specs.declared.disp.Disp.{Disp}
use Rattle.cax64_address.specs.declared.disp.Disp.TheVariants.{None, Imm8, Imm32}
use Rattle.cax64_address.proofs.Emits.{Chosen, mode_below}

-- what is put for a tail are bytes

no_bytes : IsBytes []
no_bytes = All-nil (λ (byte : ℕ). byte < 256)

more_bytes : (byte : ℕ) (bytes : List ℕ) → byte < 256 → IsBytes bytes → IsBytes (byte ∷ bytes)
more_bytes byte bytes small h = All-cons (λ (byte : ℕ). byte < 256) byte bytes small h

four : (a b c d : ℕ) → a < 256 → b < 256 → c < 256 → d < 256 → IsBytes (a ∷ b ∷ c ∷ d ∷ [])
four a b c d ha hb hc hd = more_bytes a (b ∷ c ∷ d ∷ []) ha (more_bytes b (c ∷ d ∷ []) hb (more_bytes c (d ∷ []) hc (more_bytes d [] hd no_bytes)))

four_bytes : (n : ℕ) → IsBytes (to_le_bytes w32 n)
four_bytes n = four (n % 256) (n / 256 % 256) (n / 65536 % 256) (n / 16777216 % 256) (omega arith) (omega arith) (omega arith) (omega arith)

signed_byte : (v : ℤ) → FitsSigned w8 v → cast_unsigned w8 v < 256
signed_byte v h = omega (arith, ints)

zero_fits : FitsSigned w8 (pos 0)
zero_fits = omega (arith, ints)

one_byte : (v : ℤ) → FitsSigned w8 v → IsBytes (cast_unsigned w8 v ∷ [])
one_byte v h = more_bytes (cast_unsigned w8 v) [] (signed_byte v h) no_bytes

class_bytes : (n : ℕ) (v : ℤ) (d : Disp) → IsClassOf n v d → IsBytes (all_bytes (disp_actions d))
class_bytes n v None h = no_bytes
class_bytes n v (Imm8 q) h = one_byte q h.1
class_bytes n v (Imm32 w) h = four_bytes (cast_unsigned w32 w)

forced_bytes : (n : ℕ) (v : ℤ) (d : Disp) → IsClassOf n v d → IsBytes (all_bytes (disp_actions (forced d)))
forced_bytes n v None h = one_byte (pos 0) zero_fits
forced_bytes n v (Imm8 q) h = one_byte q h.1
forced_bytes n v (Imm32 w) h = four_bytes (cast_unsigned w32 w)

by_low : (n base : ℕ) (v : ℤ) (d e : Disp) (five : Bool) → (base % 8 == 5) ≡ five → Chosen n base v d e → IsBytes (all_bytes (disp_actions e))
by_low n base v d e true is h =
    let low : base % 8 ≡ 5 = grind (arith, nat_tests) in
    rw (h.five low) (forced_bytes n v d h.class)
by_low n base v d e false is h =
    let low : base % 8 ≢ 5 = grind (arith, nat_tests) in
    rw (h.other low) (class_bytes n v d h.class)

chosen_bytes : (n base : ℕ) (v : ℤ) (d e : Disp) {acts : List Action} → acts ≡ disp_actions e → Chosen n base v d e → IsBytes (all_bytes acts)
chosen_bytes n base v d e is h = subst (λ (acts : List Action). IsBytes (all_bytes acts)) (sym is) (by_low n base v d e (base % 8 == 5) refl h)

-- without a SIB byte
pub base_bytes : (n reg base low m : ℕ) (v : ℤ) (d e : Disp) {acts : List Action} → acts ≡ disp_actions e → Chosen n base v d e → reg < 8 → low < 8 → m ≡ mode_of e * 64 + reg * 8 + low → IsBytes (all_bytes (put (m ∷ []) ∷ acts))
base_bytes n reg base low m v d e {acts} is h hf hl em =
    let small : m < 256 = omega (arith, mode_below e) in
    more_bytes m (all_bytes acts) small (chosen_bytes n base v d e is h)

-- with one
pub sib_bytes : (n reg base low m sib : ℕ) (v : ℤ) (d e : Disp) {acts : List Action} → acts ≡ disp_actions e → Chosen n base v d e → reg < 8 → low < 8 → m ≡ mode_of e * 64 + reg * 8 + low → sib < 256 → IsBytes (all_bytes (put (m ∷ []) ∷ put (sib ∷ []) ∷ acts))
sib_bytes n reg base low m sib v d e {acts} is h hf hl em hs =
    let small : m < 256 = omega (arith, mode_below e) in
    more_bytes m (sib ∷ all_bytes acts) small (more_bytes sib (all_bytes acts) hs (chosen_bytes n base v d e is h))

-- relative to the end
pub relative_bytes : (reg m word : ℕ) (place : DeferredTarget) → reg < 8 → m ≡ reg * 8 + 5 → IsBytes (all_bytes (put (m ∷ []) ∷ target place ∷ put (to_le_bytes w32 word) ∷ []))
relative_bytes reg m word place hf em =
    let small : m < 256 = omega arith in
    more_bytes m (to_le_bytes w32 word) small (four_bytes word)
