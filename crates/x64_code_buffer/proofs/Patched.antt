use Rattle.std.proofs.Common.{◌≡◌, ◌⊎◌, inl, inr, ℕ, suc, ◌+◌, ◌-◌, ◌^◌, ◌<◌, ◌≤◌, arith, refl, ◌∙◌, ap, sym, List, [], ◌∷◌, ◌++◌, Bool, true, false, ℤ, pos, ◌+ℤ◌, ◌-ℤ◌, Option, Some, None, length, take, drop, get_or, All, append_assoc}
use Rattle.std.specs.Prelude.{option_and_then, if◌then◌else◌}
use Rattle.std.proofs.Math.ListN.{get_or-append}
use Rattle.std.proofs.Math.Seq.{drop-append_seam}
use Rattle.std.proofs.lemmas.Bool.{cases_lt}
use Rattle.std.proofs.lemmas.Int.{ints}
use Rattle.std.proofs.lemmas.Bool.Decides.{nat_tests}
use Rattle.std.proofs.lemmas.List.{get_or-append_right, get_or-take, get_or-drop, length-append, length-drop, length-take-le}
use Rattle.std.proofs.lemmas.List.Elements.{All-cons}
use Rattle.std.specs.Int.{cast_unsigned, to_le_bytes, w32}
use Rattle.std.specs.Int.RustNames.{FitsSigned}
use Rattle.cax64_address.specs.Offset.{fits_i32}
use Rattle.cax64_machine_code.proofs.Bytes.{s32_back, four_back}
use Rattle.cax64_sink.specs.Recorder.{written_over}
use Rattle.cax64_sink.specs.Sink.{State}
use Rattle.cax64_sink.specs.declared.DeferredTarget.{DeferredTarget}
use Rattle.cax64_sink.specs.declared.DeferredTarget.TheVariants as target
use Rattle.x64_code_buffer.specs.Field.{patched, stored_at}
use Rattle.x64_code_buffer.specs.Patching.{field_put, field_led, all_patched, with_bytes}
use Rattle.cax64_sink.specs.declared.Notice.{Notice}
use Rattle.x64_code_buffer.specs.Use.{Use, uses_of, patched_at, unless_patched, unless_bound, or_later, first_refusal, links, IsOutside, AreApart, EachApart, IsPatched}
use Rattle.x64_code_buffer.specs.declared.errors.FinishError.{FinishError}
use Rattle.x64_code_buffer.proofs.Fields.{stored_is, none_stored, all_there}

some_same : {A : Type 0} (a b : A) → ◌≡◌ {A = Option A} (Some a) (Some b) → a ≡ b
some_same a b e = cc

-- Four bytes written over others.

pub over_length : (bytes : List ℕ) (at : ℕ) (m : List ℕ) → length m ≡ 4 → at + 4 ≤ length bytes → length (written_over bytes at m) ≡ length bytes
over_length bytes at m four there =
    omega (arith, length-append (take at bytes ++ m) (drop (at + length m) bytes), length-append (take at bytes) m, length-take-le at bytes (omega arith), length-drop (at + length m) bytes)

pub over_other : (bytes : List ℕ) (at : ℕ) (m : List ℕ) (i : ℕ) → length m ≡ 4 → at + 4 ≤ length bytes → (i < at) ⊎ (at + 4 ≤ i) → get_or (written_over bytes at m) i 0 ≡ get_or bytes i 0
over_other bytes at m i four there (inl h) =
    let front : length (take at bytes) ≡ at = length-take-le at bytes (omega arith) in
    get_or-append (take at bytes ++ m) (drop (at + length m) bytes) 0 i (omega (arith, length-append (take at bytes) m))
    ∙ get_or-append (take at bytes) m 0 i (omega arith)
    ∙ get_or-take at bytes i 0 h
over_other bytes at m i four there (inr h) =
    let front : length (take at bytes) ≡ at = length-take-le at bytes (omega arith) in
    let both : length (take at bytes ++ m) ≡ at + length m = omega (arith, length-append (take at bytes) m) in
    let back : at + length m + (i - (at + length m)) ≡ i = omega arith in
    get_or-append_right (take at bytes ++ m) (drop (at + length m) bytes) (at + length m) i 0 both (omega arith)
    ∙ get_or-drop (at + length m) bytes (i - (at + length m)) 0
    ∙ ap (λ (n : ℕ). get_or bytes n 0) back

fits : (z : ℤ) → fits_i32 z ≡ true → FitsSigned w32 z
fits z h = grind (arith, ints, nat_tests)

pub over_stored : (bytes : List ℕ) (at : ℕ) (z : ℤ) → fits_i32 z ≡ true → at + 4 ≤ length bytes → stored_at (written_over bytes at (to_le_bytes w32 (cast_unsigned w32 z))) at ≡ Some z
over_stored bytes at z h there =
    let m = to_le_bytes w32 (cast_unsigned w32 z) in
    let rest = drop (at + 4) bytes in
    let front : length (take at bytes) ≡ at = length-take-le at bytes (omega arith) in
    let whole : written_over bytes at m ≡ take at bytes ++ (m ++ rest) = append_assoc (take at bytes) m rest in
    let left : drop at (take at bytes ++ (m ++ rest)) ≡ m ++ rest = ap (λ (n : ℕ). drop n (take at bytes ++ (m ++ rest))) (sym front) ∙ drop-append_seam (take at bytes) (m ++ rest) in
    let f : FitsSigned w32 z = fits z h in
    let small : cast_unsigned w32 z < 2 ^ 32 = omega (arith, ints) in
    rw (whole, left, four_back (cast_unsigned w32 z) rest small, s32_back z f) refl

-- what is stored depends on the four bytes alone
stored_by : (a b : List ℕ) (at : ℕ) → (length b < at + 4) ⊎ (at + 4 ≤ length b) → length a ≡ length b → ((i : ℕ) → at ≤ i → i < at + 4 → get_or a i 0 ≡ get_or b i 0) → stored_at a at ≡ stored_at b at
stored_by a b at (inl h) e same = none_stored a at (omega arith) ∙ sym (none_stored b at h)
stored_by a b at (inr h) e same =
    rw (stored_is a at (omega arith), stored_is b at h, same at (omega arith) (omega arith), same (at + 1) (omega arith) (omega arith), same (at + 2) (omega arith) (omega arith), same (at + 3) (omega arith) (omega arith)) refl

pub stored_same : (a b : List ℕ) (at : ℕ) → length a ≡ length b → ((i : ℕ) → at ≤ i → i < at + 4 → get_or a i 0 ≡ get_or b i 0) → stored_at a at ≡ stored_at b at
stored_same a b at e same = stored_by a b at (cases_lt (length b) (at + 4)) e same

-- A field that is patched.

if_fits : (z w : ℤ) (t : Bool) → fits_i32 z ≡ t → (if t then Some z else None) ≡ Some w → fits_i32 w ≡ true
if_fits z w true e h = let same : z ≡ w = some_same z w h in rw (← same) e
if_fits z w false e h = cc

by_stored : (bytes : List ℕ) (at place : ℕ) (field : ℤ) (o : Option ℤ) → stored_at bytes at ≡ o → option_and_then (patched at place) o ≡ Some field → (at + 4 ≤ length bytes) × (fits_i32 field ≡ true)
by_stored bytes at place field None e h = cc
by_stored bytes at place field (Some z) e h = (all_there bytes at z e, if_fits (z +ℤ pos place -ℤ pos (at + 4)) field (fits_i32 (z +ℤ pos place -ℤ pos (at + 4))) refl h)

pub field_fits : (bytes : List ℕ) (at place : ℕ) (field : ℤ) → patched_at bytes at place ≡ Some field → (at + 4 ≤ length bytes) × (fits_i32 field ≡ true)
field_fits bytes at place field h = by_stored bytes at place field (stored_at bytes at) refl h

put_length : (bytes : List ℕ) (at place : ℕ) (o : Option ℤ) → patched_at bytes at place ≡ o → length (field_put bytes at o) ≡ length bytes
put_length bytes at place None e = refl
put_length bytes at place (Some field) e = over_length bytes at (to_le_bytes w32 (cast_unsigned w32 field)) refl (field_fits bytes at place field e).0

led_length : (bytes : List ℕ) (at : ℕ) (o : Option ℕ) → length (field_led bytes at o) ≡ length bytes
led_length bytes at None = refl
led_length bytes at (Some place) = put_length bytes at place (patched_at bytes at place) refl

put_other : (bytes : List ℕ) (at place i : ℕ) (o : Option ℤ) → patched_at bytes at place ≡ o → (i < at) ⊎ (at + 4 ≤ i) → get_or (field_put bytes at o) i 0 ≡ get_or bytes i 0
put_other bytes at place i None e h = refl
put_other bytes at place i (Some field) e h = over_other bytes at (to_le_bytes w32 (cast_unsigned w32 field)) i refl (field_fits bytes at place field e).0 h

led_other : (bytes : List ℕ) (at : ℕ) (o : Option ℕ) (i : ℕ) → (i < at) ⊎ (at + 4 ≤ i) → get_or (field_led bytes at o) i 0 ≡ get_or bytes i 0
led_other bytes at None i h = refl
led_other bytes at (Some place) i h = put_other bytes at place i (patched_at bytes at place) refl h

record Led (bytes : List ℕ) (at : ℕ) (o : Option ℕ) : Type 0 where
  place : ℕ
  bound : o ≡ Some place
  field : ℤ
  leads : patched_at bytes at place ≡ Some field
  stored : stored_at (field_led bytes at o) at ≡ Some field

put_led : (bytes : List ℕ) (at place : ℕ) (o : Option ℤ) → patched_at bytes at place ≡ o → unless_patched at o ≡ None → Led bytes at (Some place)
put_led bytes at place None e h = cc
put_led bytes at place (Some field) e h =
    let f = field_fits bytes at place field e in
    let put : field_led bytes at (Some place) ≡ written_over bytes at (to_le_bytes w32 (cast_unsigned w32 field)) = ap (λ (z : Option ℤ). field_put bytes at z) e in
    record { place = place; bound = refl; field = field; leads = e; stored = ap (λ (z : List ℕ). stored_at z at) put ∙ over_stored bytes at field f.1 f.0 }

led : (t : DeferredTarget) (bytes : List ℕ) (at : ℕ) (o : Option ℕ) → unless_bound t bytes at o ≡ None → Led bytes at o
led t bytes at None h = cc
led t bytes at (Some place) h = put_led bytes at place (patched_at bytes at place) refl h

-- All fields.

head_of : {X : Type 0} (P : X → Type 0) (x : X) (xs : List X) → All P (x ∷ xs) → P x
head_of P x xs h = h 0 x (omega arith)

tail_of : {X : Type 0} (P : X → Type 0) (x : X) (xs : List X) → All P (x ∷ xs) → All P xs
tail_of P x xs h = λ k d within. h (suc k) d (omega arith)

each : {X : Type 0} (P Q R : X → Type 0) (xs : List X) → ((x : X) → P x → Q x → R x) → All P xs → All Q xs → All R xs
each P Q R xs f p q = λ k d within. f _ (p k d within) (q k d within)

pub all_length : (places : DeferredTarget → Option ℕ) (bytes : List ℕ) (us : List Use) → length (all_patched places bytes us) ≡ length bytes
all_length places bytes [] = refl
all_length places bytes ((at, target.Label l) ∷ later) = all_length places (field_led bytes at (places (target.Label l))) later ∙ led_length bytes at (places (target.Label l))
all_length places bytes ((at, target.Constant c) ∷ later) = all_length places (field_led bytes at (places (target.Constant c))) later ∙ led_length bytes at (places (target.Constant c))
all_length places bytes ((at, target.None) ∷ later) = all_length places bytes later

pub all_others : (places : DeferredTarget → Option ℕ) (bytes : List ℕ) (us : List Use) (i : ℕ) → All (IsOutside i) (links us) → get_or (all_patched places bytes us) i 0 ≡ get_or bytes i 0
all_others places bytes [] i h = refl
all_others places bytes ((at, target.Label l) ∷ later) i h =
    all_others places (field_led bytes at (places (target.Label l))) later i (tail_of (IsOutside i) (at, target.Label l) (links later) h) ∙ led_other bytes at (places (target.Label l)) i (head_of (IsOutside i) (at, target.Label l) (links later) h)
all_others places bytes ((at, target.Constant c) ∷ later) i h =
    all_others places (field_led bytes at (places (target.Constant c))) later i (tail_of (IsOutside i) (at, target.Constant c) (links later) h) ∙ led_other bytes at (places (target.Constant c)) i (head_of (IsOutside i) (at, target.Constant c) (links later) h)
all_others places bytes ((at, target.None) ∷ later) i h = all_others places bytes later i h

-- a field apart from the one that was patched is as before
abbrev Untouched : ℕ → List ℕ → List ℕ → Type 0
Untouched at a b = (length a ≡ length b) × ((i : ℕ) → (i < at) ⊎ (at + 4 ≤ i) → get_or a i 0 ≡ get_or b i 0)

outside_by : (at other i : ℕ) → (at + 4 ≤ other) ⊎ (other + 4 ≤ at) → other ≤ i → i < other + 4 → (i < at) ⊎ (at + 4 ≤ i)
outside_by at other i (inl h) low high = inr (omega arith)
outside_by at other i (inr h) low high = inl (omega arith)

stored_untouched : (at other : ℕ) (a b : List ℕ) → Untouched at a b → (at + 4 ≤ other) ⊎ (other + 4 ≤ at) → stored_at a other ≡ stored_at b other
stored_untouched at other a b h apart = stored_same a b other h.0 (λ i low high. h.1 i (outside_by at other i apart low high))

unless_same : (t : DeferredTarget) (a b : List ℕ) (at : ℕ) (o : Option ℕ) → stored_at a at ≡ stored_at b at → unless_bound t a at o ≡ unless_bound t b at o
unless_same t a b at None e = refl
unless_same t a b at (Some place) e = ap (λ (z : Option ℤ). unless_patched at (option_and_then (patched at place) z)) e

same_refusal : (places : DeferredTarget → Option ℕ) (a b : List ℕ) (u : Use) (us : List Use) → Untouched u.0 a b → All (AreApart u) (links us) → first_refusal places a us ≡ first_refusal places b us
same_refusal places a b u [] h apart = refl
same_refusal places a b u ((at, target.Label l) ∷ later) h apart =
    let one = unless_same (target.Label l) a b at (places (target.Label l)) (stored_untouched u.0 at a b h (head_of (AreApart u) (at, target.Label l) (links later) apart)) in
    let more = same_refusal places a b u later h (tail_of (AreApart u) (at, target.Label l) (links later) apart) in
    ap (λ (z : Option FinishError). or_later z (first_refusal places a later)) one ∙ ap (or_later (unless_bound (target.Label l) b at (places (target.Label l)))) more
same_refusal places a b u ((at, target.Constant c) ∷ later) h apart =
    let one = unless_same (target.Constant c) a b at (places (target.Constant c)) (stored_untouched u.0 at a b h (head_of (AreApart u) (at, target.Constant c) (links later) apart)) in
    let more = same_refusal places a b u later h (tail_of (AreApart u) (at, target.Constant c) (links later) apart) in
    ap (λ (z : Option FinishError). or_later z (first_refusal places a later)) one ∙ ap (or_later (unless_bound (target.Constant c) b at (places (target.Constant c)))) more
same_refusal places a b u ((at, target.None) ∷ later) h apart = same_refusal places a b u later h apart

neither : (a b : Option FinishError) → or_later a b ≡ None → (a ≡ None) × (b ≡ None)
neither None b h = (refl, h)
neither (Some e) b h = cc

-- the step of one link and the later ones
patched_first : (places : DeferredTarget → Option ℕ) (bytes : List ℕ) (at : ℕ) (t : DeferredTarget) (later : List Use) → EachApart ((at, t) ∷ links later) → or_later (unless_bound t bytes at (places t)) (first_refusal places bytes later) ≡ None
    → (first_refusal places (field_led bytes at (places t)) later ≡ None → All (IsPatched places (field_led bytes at (places t)) (all_patched places (field_led bytes at (places t)) later)) (links later))
    → All (IsPatched places bytes (all_patched places (field_led bytes at (places t)) later)) ((at, t) ∷ links later)
patched_first places bytes at t later apart none more =
    let now = field_led bytes at (places t) in
    let final = all_patched places now later in
    let both = neither (unless_bound t bytes at (places t)) (first_refusal places bytes later) none in
    let first = led t bytes at (places t) both.0 in
    let untouched : Untouched at now bytes = (led_length bytes at (places t), led_other bytes at (places t)) in
    let kept : stored_at final at ≡ stored_at now at = stored_same final now at (all_length places now later) (λ i low high. all_others places now later i (λ k d within. outside at i (get_or (links later) k d) (apart.0 k d within) low high)) in
    let rest = more (same_refusal places now bytes (at, t) later untouched apart.0 ∙ both.1) in
    All-cons (IsPatched places bytes final) (at, t) (links later)
    (record { place = first.place; bound = first.bound; field = first.field; leads = first.leads; stored = kept ∙ first.stored })
    (each (AreApart (at, t)) (IsPatched places now final) (IsPatched places bytes final) (links later)
    (λ x p q. record { place = q.place; bound = q.bound; field = q.field; leads = ap (λ (z : Option ℤ). option_and_then (patched x.0 q.place) z) (sym (stored_untouched at x.0 now bytes untouched p)) ∙ q.leads; stored = q.stored })
    apart.0 rest)
  where
    outside : (at i : ℕ) (x : Use) → (at + 4 ≤ x.0) ⊎ (x.0 + 4 ≤ at) → at ≤ i → i < at + 4 → IsOutside i x
    outside at i x (inl h) low high = inl (omega arith)
    outside at i x (inr h) low high = inr (omega arith)

pub all_fields : (places : DeferredTarget → Option ℕ) (bytes : List ℕ) (us : List Use) → EachApart (links us) → first_refusal places bytes us ≡ None → All (IsPatched places bytes (all_patched places bytes us)) (links us)
all_fields places bytes [] apart none = λ k d within. absurd (omega arith)
all_fields places bytes ((at, target.Label l) ∷ later) apart none = patched_first places bytes at (target.Label l) later apart none (all_fields places (field_led bytes at (places (target.Label l))) later apart.1)
all_fields places bytes ((at, target.Constant c) ∷ later) apart none = patched_first places bytes at (target.Constant c) later apart none (all_fields places (field_led bytes at (places (target.Constant c))) later apart.1)
all_fields places bytes ((at, target.None) ∷ later) apart none = all_fields places bytes later apart none

-- What was found first.

pub is_first : (places : DeferredTarget → Option ℕ) (a b : List ℕ) (ns ms : List Notice) {o : Option FinishError} → a ≡ b → ns ≡ ms → o ≡ first_refusal places a (uses_of ns) → first_refusal places b (uses_of ms) ≡ o
is_first places a b ns ms e f h = ap (λ (z : List Notice). first_refusal places b (uses_of z)) (sym f) ∙ ap (λ (z : List ℕ). first_refusal places z (uses_of ns)) (sym e) ∙ sym h

pub refused : (o : Option FinishError) (e : FinishError) → o ≡ Some e → (false ≡ true → o ≡ None) × (o ≡ None → false ≡ true)
refused o e h = (λ k. cc, λ k. cc)

pub bytes_are : (items : List ℕ) (old new : State) (bytes : List ℕ) → items ≡ new.bytes → new ≡ with_bytes bytes old → items ≡ bytes
bytes_are items old new bytes e h = e ∙ ap (λ (z : State). z.bytes) h
