use Rattle.std.proofs.Common.{◌≡◌, ℕ, ◌+◌, ◌<◌, refl, ◌∙◌, ap, sym, List, [], ◌∷◌, Option, Some, None, length, drop, get_or, IsSome}
use Rattle.std.proofs.lemmas.List.{drop_more}
use Rattle.cax64_sink.specs.declared.DeferredTarget.{DeferredTarget}
use Rattle.cax64_sink.specs.declared.Notice.{Notice}
use Rattle.cax64_sink.specs.declared.Notice.TheVariants.{Trap, Target}
use Rattle.x64_code_buffer.specs.Patching.{notice_patched, all_patched}
use Rattle.x64_code_buffer.specs.Use.{uses_of, refusal_of, or_later, first_refusal}
use Rattle.x64_code_buffer.specs.declared.errors.FinishError.{FinishError}

-- One notice and then the next.

next_patched : (places : DeferredTarget → Option ℕ) (bytes : List ℕ) (n : Notice) (later : List Notice) → all_patched places bytes (uses_of (n ∷ later)) ≡ all_patched places (notice_patched places bytes n) (uses_of later)
next_patched places bytes (Trap at code) later = refl
next_patched places bytes (Target at target) later = refl

pub patched_more : (places : DeferredTarget → Option ℕ) (bytes : List ℕ) (ns : List Notice) (i : ℕ) (n : Notice) → i < length ns → n ≡ get_or ns i n → all_patched places bytes (uses_of (drop i ns)) ≡ all_patched places (notice_patched places bytes n) (uses_of (drop (i + 1) ns))
patched_more places bytes ns i n within is =
    let split : drop i ns ≡ n ∷ drop (i + 1) ns = drop_more ns i n within ∙ ap (λ (z : Notice). z ∷ drop (i + 1) ns) (sym is) in
    ap (λ (z : List Notice). all_patched places bytes (uses_of z)) split ∙ next_patched places bytes n (drop (i + 1) ns)

split_at : (ns : List Notice) (i : ℕ) (n : Notice) → i < length ns → n ≡ get_or ns i n → drop i ns ≡ n ∷ drop (i + 1) ns
split_at ns i n within is = drop_more ns i n within ∙ ap (λ (z : Notice). z ∷ drop (i + 1) ns) (sym is)

-- a trap is no use
pub none_at_trap : (places : DeferredTarget → Option ℕ) (bytes : List ℕ) (ns : List Notice) (i : ℕ) (n : Notice) → i < length ns → n ≡ get_or ns i n → uses_of (n ∷ []) ≡ [] → first_refusal places bytes (uses_of (drop i ns)) ≡ first_refusal places bytes (uses_of (drop (i + 1) ns))
none_at_trap places bytes ns i (Trap at code) within is e = ap (λ (z : List Notice). first_refusal places bytes (uses_of z)) (split_at ns i (Trap at code) within is)
none_at_trap places bytes ns i (Target at target) within is e = cc

pub refusal_at : (places : DeferredTarget → Option ℕ) (bytes : List ℕ) (ns : List Notice) (i at : ℕ) (target : DeferredTarget) → i < length ns → Target at target ≡ get_or ns i (Target at target) → first_refusal places bytes (uses_of (drop i ns)) ≡ or_later (refusal_of places bytes (at, target)) (first_refusal places bytes (uses_of (drop (i + 1) ns)))
refusal_at places bytes ns i at target within is = ap (λ (z : List Notice). first_refusal places bytes (uses_of z)) (split_at ns i (Target at target) within is)

pub some_first : (a b : Option FinishError) → IsSome a → or_later a b ≡ a
some_first None b h = cc
some_first (Some e) b h = refl

pub none_first : (a b : Option FinishError) → a ≡ None → or_later a b ≡ b
none_first None b h = refl
none_first (Some e) b h = cc
