-- Different registers have different names, and a name is letters, digits and a percent sign.
use Rattle.std.proofs.Common.{◌≡◌, ℕ, zero, suc, ◌<◌, Bool, true, false, ◌&&◌, ◌||◌, ◌==◌, List, [], ◌∷◌, refl, sym, ◌∙◌, ap, inl, inr, arith}
use Rattle.std.specs.Prelude.{nat_eq, nat_le, if◌then◌else◌}
use Rattle.std.specs.List.{list_all}
use Rattle.std.specs.Cmp.Lexicographic.{pointwise}
use Rattle.std.proofs.lemmas.Bool.{eqb-true}
use Rattle.std.proofs.lemmas.Bool.Decides.{eqb_tells}
use Rattle.cax64_register.specs.declared.gpr.Size.{Size}
use Rattle.cax64_register.specs.declared.gpr.Size.TheVariants.{Byte, Word, Doubleword, Quadword}
use Rattle.cax64_register.specs.Names.{gpr_names, gpr_name, xmm_names, xmm_name}

-- the place of a name in a list of names
abbrev index_of : List ℕ → List (List ℕ) → ℕ
index_of name [] = 0
index_of name (x ∷ xs) = if pointwise nat_eq x name then 0 else suc (index_of name xs)

abbrev all_below : (ℕ → Bool) → ℕ → Bool
all_below p zero = true
all_below p (suc n) = p n && all_below p n

and_left : (a b : Bool) → (a && b) ≡ true → a ≡ true
and_left true b h = refl
and_left false b h = h

and_right : (a b : Bool) → (a && b) ≡ true → b ≡ true
and_right true b h = h
and_right false b h = cc

holds_below : (p : ℕ → Bool) (n k : ℕ) → all_below p n ≡ true → k < n → p k ≡ true
holds_below p zero k h lt = absurd (omega arith)
holds_below p (suc n) k h lt =
    elim (eqb_tells k n) as (λ _. p k ≡ true) [
      | inl w ↦ ap p w.1 ∙ and_left (p n) (all_below p n) h
      | inr w ↦ holds_below p n k (and_right (p n) (all_below p n) h) (omega (arith, w.1))
    ]

-- a general register's number, read back from its name at a size
abbrev gpr_back : Size → ℕ → Bool
gpr_back s n = index_of (gpr_name n s) (gpr_names s) == n

gpr_back_holds : (s : Size) → all_below (gpr_back s) 16 ≡ true
unfolding gpr_names
gpr_back_holds Byte = refl
gpr_back_holds Word = refl
gpr_back_holds Doubleword = refl
gpr_back_holds Quadword = refl

gpr_back_is : (s : Size) (n : ℕ) → n < 16 → index_of (gpr_name n s) (gpr_names s) ≡ n
gpr_back_is s n h = eqb-true _ n (holds_below (gpr_back s) 16 n (gpr_back_holds s) h)

-- general registers of one name at a size are one register
pub gpr_name-injective : (s : Size) (m n : ℕ) → m < 16 → n < 16 → gpr_name m s ≡ gpr_name n s → m ≡ n
gpr_name-injective s m n below_m below_n same =
    sym (gpr_back_is s m below_m) ∙ ap (λ name. index_of name (gpr_names s)) same ∙ gpr_back_is s n below_n

abbrev xmm_back : ℕ → Bool
xmm_back n = index_of (xmm_name n) xmm_names == n

xmm_back_holds : all_below xmm_back 16 ≡ true
unfolding xmm_names
xmm_back_holds = refl

xmm_back_is : (n : ℕ) → n < 16 → index_of (xmm_name n) xmm_names ≡ n
xmm_back_is n h = eqb-true _ n (holds_below xmm_back 16 n xmm_back_holds h)

-- XMM registers of one name are one register
pub xmm_name-injective : (m n : ℕ) → m < 16 → n < 16 → xmm_name m ≡ xmm_name n → m ≡ n
xmm_name-injective m n below_m below_n same =
    sym (xmm_back_is m below_m) ∙ ap (λ name. index_of name xmm_names) same ∙ xmm_back_is n below_n

-- a byte of a name: a percent sign, a digit or a small letter
abbrev pub is_name_byte : ℕ → Bool
is_name_byte b = (b == 37) || ((nat_le 48 b && nat_le b 57) || (nat_le 97 b && nat_le b 122))

abbrev gpr_plain : Size → ℕ → Bool
gpr_plain s n = list_all is_name_byte (gpr_name n s)

gpr_plain_holds : (s : Size) → all_below (gpr_plain s) 16 ≡ true
unfolding gpr_names
gpr_plain_holds Byte = refl
gpr_plain_holds Word = refl
gpr_plain_holds Doubleword = refl
gpr_plain_holds Quadword = refl

-- so no name holds a comma, a parenthesis or a space
pub gpr_name-plain : (s : Size) (n : ℕ) → n < 16 → list_all is_name_byte (gpr_name n s) ≡ true
gpr_name-plain s n h = holds_below (gpr_plain s) 16 n (gpr_plain_holds s) h

xmm_plain_holds : all_below (λ n. list_all is_name_byte (xmm_name n)) 16 ≡ true
unfolding xmm_names
xmm_plain_holds = refl

pub xmm_name-plain : (n : ℕ) → n < 16 → list_all is_name_byte (xmm_name n) ≡ true
xmm_name-plain n h = holds_below (λ k. list_all is_name_byte (xmm_name k)) 16 n xmm_plain_holds h
