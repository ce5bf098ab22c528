use Rattle.std.proofs.Common.{◌≡◌, ◌∙◌, ◌+◌, ◌<◌, ◌≤◌, ℕ, refl, sym, subst, arith, Bool, true, false}
use Rattle.std.proofs.lemmas.Bool.{and_parts}
use Rattle.std.proofs.lemmas.Bool.Decides.{nat_tests}
use Rattle.std.specs.Prelude.{◌==◌, ◌||◌, ◌&&◌, nat_le, nat_lt, slice_index_or}
use Rattle.x64_place.specs.Tail.{kind_number}
use Rattle.x64_place.specs.declared.place.PlaceKind.{PlaceKind}
use Rattle.x64_place.specs.declared.place.PlaceKind.TheVariants.{Absent, Register, Base, BaseAndIndex, Label, Constant, NoTarget}
use Rattle.x64_plain.specs.Named.{is_whole, is_within}
use Rattle.x64_plain.specs.declared.place.HqPlace.{HqPlace}
use Rattle.x64_plain.specs.declared.place.Most.{Most}
use Rattle.x64_plain.specs.declared.place.TheConstants.{MOST}

-- What is at most the largest numbers of a kind is whole.

and_later : (a b c : Bool) → (a && (b && c)) ≡ ((a && b) && c)
and_later true b c = refl
and_later false b c = refl

chains : (b i s s0 s4 t h h0 h2 o d g r b' i' t' d' g' : Bool) → b ≡ b' → i ≡ i' → s ≡ (s0 && s4) → t ≡ t' → h ≡ (h0 && h2) → d ≡ d' → g ≡ g' → ((((((((b && i) && s) && t) && h) && o) && d) && g) && r) ≡ ((((((((((b' && i') && s0) && s4) && t') && h0) && h2) && o) && d') && g') && r)
chains b i s s0 s4 t h h0 h2 o d g r b' i' t' d' g' eb ei es et eh ed eg =
    let first : ((b' && i') && (s0 && s4)) ≡ (((b' && i') && s0) && s4) = and_later (b' && i') s0 s4 in
    let second : (((((b' && i') && s0) && s4) && t') && (h0 && h2)) ≡ ((((((b' && i') && s0) && s4) && t') && h0) && h2) = and_later ((((b' && i') && s0) && s4) && t') h0 h2 in
    cc

-- two tests with one answer

same_by : (a b : Bool) → (a ≡ true → b ≡ true) → (b ≡ true → a ≡ true) → a ≡ b
same_by true true f g = refl
same_by true false f g = sym (f refl)
same_by false true f g = g refl
same_by false false f g = refl

both_true : (a b : Bool) → a ≡ true → b ≡ true → (a && b) ≡ true
both_true true b e f = f
both_true false b e f = e

none : (n : ℕ) → nat_le n 0 ≡ (false || (n == 0))
none n = same_by (nat_le n 0) (n == 0) (λ h. grind (arith, nat_tests, h)) (λ h. grind (arith, nat_tests, h))

any : (n : ℕ) → n ≤ 255 → nat_le n 255 ≡ true
any n h = grind (arith, nat_tests, h)

no_more : (n m : ℕ) → 0 < m → nat_le n 0 ≡ ((false || (n == 0)) && nat_lt n m)
no_more n m least =
    same_by (nat_le n 0) ((n == 0) && nat_lt n m)
    (λ h. both_true (n == 0) (nat_lt n m) (grind (arith, nat_tests, h)) (grind (arith, nat_tests, h, least)))
    (λ h. let k = and_parts (n == 0) (nat_lt n m) h in let z : (n == 0) ≡ true = k.0 in grind (arith, nat_tests, z))

up_to : (n m k : ℕ) → k ≡ m + 1 → nat_le n m ≡ nat_lt n k
up_to n m k e = same_by (nat_le n m) (nat_lt n k) (λ h. grind (arith, nat_tests, h, e)) (λ h. grind (arith, nat_tests, h, e))

within_by : (kind : PlaceKind) (s : HqPlace) (d : Most) → s.base ≤ 255 → s.index ≤ 255 → s.trap ≤ 255 → is_within (slice_index_or MOST (kind_number kind) d) s ≡ is_whole kind s
within_by Absent s d base index trap = chains _ _ _ (s.scale == 0) (nat_lt s.scale 4) _ _ (s.has_offset == 0) (nat_lt s.has_offset 2) _ _ _ _ _ _ _ _ _ (none s.base) (none s.index) (no_more s.scale 4 (omega arith)) (none s.trap) (no_more s.has_offset 2 (omega arith)) refl refl
within_by Register s d base index trap = chains _ _ _ (s.scale == 0) (nat_lt s.scale 4) _ _ (s.has_offset == 0) (nat_lt s.has_offset 2) _ _ _ _ _ _ _ _ _ (any s.base base) (none s.index) (no_more s.scale 4 (omega arith)) (none s.trap) (no_more s.has_offset 2 (omega arith)) refl refl
within_by Base s d base index trap = chains _ _ _ (s.scale == 0) (nat_lt s.scale 4) _ _ true (nat_lt s.has_offset 2) _ _ _ _ _ _ _ _ _ (any s.base base) (none s.index) (no_more s.scale 4 (omega arith)) (any s.trap trap) (up_to s.has_offset 1 2 refl) refl refl
within_by BaseAndIndex s d base index trap = chains _ _ _ true (nat_lt s.scale 4) _ _ (s.has_offset == 0) (nat_lt s.has_offset 2) _ _ _ _ _ _ _ _ _ (any s.base base) (any s.index index) (up_to s.scale 3 4 refl) (any s.trap trap) (no_more s.has_offset 2 (omega arith)) refl refl
within_by Label s d base index trap = chains _ _ _ (s.scale == 0) (nat_lt s.scale 4) _ _ (s.has_offset == 0) (nat_lt s.has_offset 2) _ _ _ _ _ _ _ _ _ (none s.base) (none s.index) (no_more s.scale 4 (omega arith)) (none s.trap) (no_more s.has_offset 2 (omega arith)) refl refl
within_by Constant s d base index trap = chains _ _ _ (s.scale == 0) (nat_lt s.scale 4) _ _ (s.has_offset == 0) (nat_lt s.has_offset 2) _ _ _ _ _ _ _ _ _ (none s.base) (none s.index) (no_more s.scale 4 (omega arith)) (none s.trap) (no_more s.has_offset 2 (omega arith)) refl refl
within_by NoTarget s d base index trap = chains _ _ _ (s.scale == 0) (nat_lt s.scale 4) _ _ (s.has_offset == 0) (nat_lt s.has_offset 2) _ _ _ _ _ _ _ _ _ (none s.base) (none s.index) (no_more s.scale 4 (omega arith)) (none s.trap) (no_more s.has_offset 2 (omega arith)) refl refl

pub within_whole : (kind : PlaceKind) (s : HqPlace) (d : Most) (n : ℕ) → kind_number kind ≡ s.place → n ≡ s.place → s.base ≤ 255 → s.index ≤ 255 → s.trap ≤ 255 → is_within (slice_index_or MOST n d) s ≡ is_whole kind s
within_whole kind s d n e k base index trap = subst (λ (m : ℕ). is_within (slice_index_or MOST m d) s ≡ is_whole kind s) (e ∙ sym k) (within_by kind s d base index trap)
