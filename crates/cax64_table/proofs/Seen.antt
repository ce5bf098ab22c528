use Rattle.std.proofs.Common.{◌≡◌, ℕ, List, [], ◌∷◌, refl, ap, sym, ◌∙◌, Option, Some, None, Bool, true, false}
use Rattle.std.specs.Prelude.{◌==◌, ◌&&◌, ◌||◌, not, if◌then◌else◌}
use Rattle.cax64_machine_code.specs.Prefix.{legacy_at}
use Rattle.cax64_machine_code.specs.declared.line.LegacySet.{LegacySet}
use Rattle.cax64_table.specs.Cursor.{next_byte}
use Rattle.cax64_table.specs.LegacyNumber.{added}

some_same : {A : Type 0} (a b : A) → ◌≡◌ {A = Option A} (Some a) (Some b) → a ≡ b
some_same a b e = cc

pub front_is : (bytes rest : List ℕ) (byte : ℕ) → ◌≡◌ {A = Option (ℕ × List ℕ)} (Some (byte, rest)) (next_byte bytes) → bytes ≡ byte ∷ rest
front_is [] rest byte h = cc
front_is (first ∷ bytes) rest byte h =
    let e : ◌≡◌ {A = ℕ × List ℕ} (byte, rest) (first, bytes) = some_same _ _ h in
    let p : byte ≡ first = ap (λ (z : ℕ × List ℕ). z.0) e in
    let q : rest ≡ bytes = ap (λ (z : ℕ × List ℕ). z.1) e in
    rw (p, q) refl

-- the legacy prefixes, one at a time

abbrev after_added : LegacySet → ℕ → List ℕ → Option LegacySet → LegacySet × List ℕ
after_added seen byte bytes None = (seen, byte ∷ bytes)
after_added seen byte bytes (Some more) = legacy_at more bytes

pushed : {A B : Type 0} (f : Option A → B) (t : Bool) (a b : Option A) → f (if t then a else b) ≡ (if t then f a else f b)
pushed f true a b = refl
pushed f false a b = refl

branch : {A : Type 0} (t : Bool) (a b c : A) → b ≡ c → (if t then a else b) ≡ (if t then a else c)
branch t a b c e = ap (λ z. if t then a else z) e

legacy_step : (seen : LegacySet) (byte : ℕ) (bytes : List ℕ) → legacy_at seen (byte ∷ bytes) ≡ after_added seen byte bytes (added seen byte)
unfolding legacy_at
legacy_step seen byte bytes =
    let f : Option LegacySet → LegacySet × List ℕ = after_added seen byte bytes in
    sym (pushed f ((byte == 0xF0) && not seen.lock) _ _
    ∙ branch ((byte == 0xF0) && not seen.lock) _ _ _ (pushed f ((byte == 0x66) && not seen.operand_size) _ _
    ∙ branch ((byte == 0x66) && not seen.operand_size) _ _ _ (pushed f ((byte == 0xF2) && not (seen.repne || seen.rep)) _ _
    ∙ branch ((byte == 0xF2) && not (seen.repne || seen.rep)) _ _ _ (pushed f ((byte == 0xF3) && not (seen.repne || seen.rep)) _ _))))

pub legacy_none : (seen : LegacySet) (bytes : List ℕ) → None ≡ next_byte bytes → ◌≡◌ {A = LegacySet × List ℕ} (seen, bytes) (legacy_at seen bytes)
unfolding legacy_at
legacy_none seen [] h = refl
legacy_none seen (byte ∷ bytes) h = cc

legacy_by : (seen : LegacySet) (byte : ℕ) (bytes : List ℕ) (o : Option LegacySet) → o ≡ added seen byte → legacy_at seen (byte ∷ bytes) ≡ after_added seen byte bytes o
legacy_by seen byte bytes o e = legacy_step seen byte bytes ∙ ap (after_added seen byte bytes) (sym e)

pub legacy_more : (seen more : LegacySet) (byte : ℕ) (bytes rest : List ℕ) → ◌≡◌ {A = Option (ℕ × List ℕ)} (Some (byte, rest)) (next_byte bytes) → Some more ≡ added seen byte → legacy_at more rest ≡ legacy_at seen bytes
legacy_more seen more byte bytes rest h e = rw (front_is bytes rest byte h) (sym (legacy_by seen byte rest (Some more) e))

pub legacy_last : (seen : LegacySet) (byte : ℕ) (bytes rest : List ℕ) → ◌≡◌ {A = Option (ℕ × List ℕ)} (Some (byte, rest)) (next_byte bytes) → None ≡ added seen byte → ◌≡◌ {A = LegacySet × List ℕ} (seen, bytes) (legacy_at seen bytes)
legacy_last seen byte bytes rest h e = rw (front_is bytes rest byte h) (sym (legacy_by seen byte rest None e))
