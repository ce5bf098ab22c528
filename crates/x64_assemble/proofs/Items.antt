use Rattle.std.proofs.Common.{◌≡◌, ℕ, zero, suc, ◌+◌, ◌<◌, ◌≤◌, ◌⊎◌, inl, inr, arith, refl, ◌∙◌, ap, sym, Bool, true, false, Option, Some, None, List, [], ◌∷◌, ◌++◌, length, set, slice_get}
use Rattle.std.specs.Prelude.{◌==◌, IfSome, if◌then◌else◌, option_map, option_and_then}
use Rattle.std.specs.Option.{option_or}
use Rattle.std.proofs.lemmas.Bool.{cases_eq, eq-eqb, ne_eqb}
use Rattle.x64_assemble.specs.Assembled.{entries, spot_of}
use Rattle.x64_assemble.specs.Putting.{AreBinders, binds_it, spot_noted}
use Rattle.x64_assemble.specs.declared.binders.Binder.{Binder}
use Rattle.x64_assemble.specs.declared.item.Item.{Item}
use Rattle.x64_assemble.specs.declared.item.Item.TheVariants as item
use Rattle.cax64_sink.specs.declared.Label.{Label}

-- Lists with an item more.

-- an item is a span
abbrev pub counted : {I : Type 0} → Item I → ℕ
counted (item.Inst inst) = 1
counted (item.Jump jump to) = 1
counted (item.Bind bound) = 0

pub entries_push : {I : Type 0} (xs : List (Item I)) (x : Item I) → entries (xs ++ x ∷ []) ≡ entries xs + counted x
entries_push [] (item.Inst inst) = refl
entries_push [] (item.Jump jump to) = refl
entries_push [] (item.Bind bound) = refl
entries_push (item.Inst inst ∷ xs) x = omega (arith, entries_push xs x)
entries_push (item.Jump jump to ∷ xs) x = omega (arith, entries_push xs x)
entries_push (item.Bind bound ∷ xs) x = entries_push xs x

pub entries_most : {I : Type 0} (xs : List (Item I)) → entries xs ≤ length xs
entries_most [] = omega arith
entries_most (item.Inst inst ∷ xs) = omega (arith, entries_most xs)
entries_most (item.Jump jump to ∷ xs) = omega (arith, entries_most xs)
entries_most (item.Bind bound ∷ xs) = omega (arith, entries_most xs)

-- the spot of a label that the item behind so many spans has, if it is its position
abbrev pub spot_here : {I : Type 0} → ℕ → ℕ → Item I → Option ℕ
spot_here label n (item.Inst inst) = None
spot_here label n (item.Jump jump to) = None
spot_here label n (item.Bind bound) = if bound.0 == label then Some n else None

suc_or : (o p : Option ℕ) → option_map suc (option_or o p) ≡ option_or (option_map suc o) (option_map suc p)
suc_or None p = refl
suc_or (Some n) p = refl

suc_if : (b : Bool) (n : ℕ) → option_map suc (if b then Some n else None) ≡ (if b then Some (suc n) else None)
suc_if true n = refl
suc_if false n = refl

suc_here : {I : Type 0} (label n : ℕ) (x : Item I) → option_map suc (spot_here label n x) ≡ spot_here label (suc n) x
suc_here label n (item.Inst inst) = refl
suc_here label n (item.Jump jump to) = refl
suc_here label n (item.Bind bound) = suc_if (bound.0 == label) n

if_or : (b : Bool) (o p q : Option ℕ) → o ≡ option_or p q → (if b then Some 0 else o) ≡ option_or (if b then Some 0 else p) q
if_or true o p q e = refl
if_or false o p q e = e

pub spot_push : {I : Type 0} (label : ℕ) (xs : List (Item I)) (x : Item I) → spot_of label (xs ++ x ∷ []) ≡ option_or (spot_of label xs) (spot_here label (entries xs) x)
spot_push label [] (item.Inst inst) = refl
spot_push label [] (item.Jump jump to) = refl
spot_push label [] (item.Bind bound) = refl
spot_push label (item.Inst inst ∷ xs) x = ap (option_map suc) (spot_push label xs x) ∙ suc_or (spot_of label xs) (spot_here label (entries xs) x) ∙ ap (option_or (option_map suc (spot_of label xs))) (suc_here label (entries xs) x)
spot_push label (item.Jump jump to ∷ xs) x = ap (option_map suc) (spot_push label xs x) ∙ suc_or (spot_of label xs) (spot_here label (entries xs) x) ∙ ap (option_or (option_map suc (spot_of label xs))) (suc_here label (entries xs) x)
spot_push label (item.Bind bound ∷ xs) x = if_or (bound.0 == label) (spot_of label (xs ++ x ∷ [])) (spot_of label xs) (spot_here label (entries xs) x) (spot_push label xs x)

suc_most : (o : Option ℕ) (n : ℕ) → IfSome o (λ s. s ≤ n) → IfSome (option_map suc o) (λ s. s ≤ suc n)
suc_most None n h = tt
suc_most (Some s) n h = omega arith

if_most : (b : Bool) (o : Option ℕ) (n : ℕ) → IfSome o (λ s. s ≤ n) → IfSome (if b then Some 0 else o) (λ s. s ≤ n)
if_most true o n h = omega arith
if_most false o n h = h

pub spot_most : {I : Type 0} (label : ℕ) (xs : List (Item I)) → IfSome (spot_of label xs) (λ s. s ≤ entries xs)
spot_most label [] = tt
spot_most label (item.Inst inst ∷ xs) = suc_most (spot_of label xs) (entries xs) (spot_most label xs)
spot_most label (item.Jump jump to ∷ xs) = suc_most (spot_of label xs) (entries xs) (spot_most label xs)
spot_most label (item.Bind bound ∷ xs) = if_most (bound.0 == label) (spot_of label xs) (entries xs) (spot_most label xs)

or_none : (o : Option ℕ) → option_or o None ≡ o
or_none None = refl
or_none (Some n) = refl

-- Notes of labels.

at_nil : (I : Type 0) (o : Option Binder) (label : ℕ) → option_and_then (λ b. option_and_then (λ x. if binds_it label x then Some b.spot else None) (slice_get {X = Item I} [] b.item)) o ≡ None
at_nil I None label = refl
at_nil I (Some b) label = refl

pub none_noted : (I : Type 0) (binders : List Binder) → AreBinders {I = I} [] binders
none_noted I binders = λ label. at_nil I (slice_get binders label) label

get_push : {X : Type 0} (f : X → Option ℕ) (xs : List X) (x : X) (m : ℕ) → f x ≡ None → option_and_then f (slice_get (xs ++ x ∷ []) m) ≡ option_and_then f (slice_get xs m)
get_push f [] x zero h = h
get_push f [] x (suc m) h = refl
get_push f (y ∷ xs) x zero h = refl
get_push f (y ∷ xs) x (suc m) h = get_push f xs x m h

get_last : {X : Type 0} (xs : List X) (x : X) → slice_get (xs ++ x ∷ []) (length xs) ≡ Some x
get_last [] x = refl
get_last (y ∷ xs) x = get_last xs x

get_set_same : {X : Type 0} (xs : List X) (i : ℕ) (v : X) → i < length xs → slice_get (set xs i v) i ≡ Some v
get_set_same [] i v h = absurd (omega arith)
get_set_same (y ∷ xs) zero v h = refl
get_set_same (y ∷ xs) (suc i) v h = get_set_same xs i v (omega arith)

get_set_other : {X : Type 0} (xs : List X) (i k : ℕ) (v : X) → (k ≡ i → ⊥) → slice_get (set xs i v) k ≡ slice_get xs k
get_set_other [] i k v h = refl
get_set_other (y ∷ xs) zero zero v h = absurd (h refl)
get_set_other (y ∷ xs) zero (suc k) v h = refl
get_set_other (y ∷ xs) (suc i) zero v h = refl
get_set_other (y ∷ xs) (suc i) (suc k) v h = get_set_other xs i k v (λ e. h (ap suc e))

if_not : {b : Bool} (n : ℕ) → b ≡ false → (if b then Some n else None) ≡ None
if_not n h = rw h refl

at_other : {I : Type 0} (o : Option Binder) (label : ℕ) (xs : List (Item I)) (x : Item I) → binds_it label x ≡ false → option_and_then (λ b. option_and_then (λ y. if binds_it label y then Some b.spot else None) (slice_get (xs ++ x ∷ []) b.item)) o ≡ option_and_then (λ b. option_and_then (λ y. if binds_it label y then Some b.spot else None) (slice_get xs b.item)) o
at_other None label xs x h = refl
at_other (Some b) label xs x h = get_push (λ y. if binds_it label y then Some b.spot else None) xs x b.item (if_not b.spot h)

noted_other : {I : Type 0} (binders : List Binder) (label : ℕ) (xs : List (Item I)) (x : Item I) → binds_it label x ≡ false → spot_noted (xs ++ x ∷ []) binders label ≡ spot_noted xs binders label
noted_other binders label xs x h = at_other (slice_get binders label) label xs x h

-- an instruction or a jump behind them changes none
pub noted_inst : {I : Type 0} (binders : List Binder) (xs : List (Item I)) (x : Item I) → counted x ≡ 1 → AreBinders xs binders → AreBinders (xs ++ x ∷ []) binders
noted_inst binders xs (item.Inst inst) one h = λ label. noted_other binders label xs (item.Inst inst) refl ∙ h label ∙ sym (or_none (spot_of label xs)) ∙ sym (spot_push label xs (item.Inst inst))
noted_inst binders xs (item.Jump jump to) one h = λ label. noted_other binders label xs (item.Jump jump to) refl ∙ h label ∙ sym (or_none (spot_of label xs)) ∙ sym (spot_push label xs (item.Jump jump to))
noted_inst binders xs (item.Bind bound) one h = absurd (omega arith)

abbrev pub note : ℕ → ℕ → Binder
note n spot = record { item = n; spot = spot }

-- what is noted of a label's position behind some items
abbrev pub noted_at : {I : Type 0} → List (Item I) → Binder
noted_at xs = record { item = length xs; spot = entries xs }

bind_by : {I : Type 0} (binders : List Binder) (xs : List (Item I)) (bound : Label) (label : ℕ) → bound.0 < length binders → spot_of bound.0 xs ≡ None → AreBinders xs binders → (label ≡ bound.0) ⊎ (label ≡ bound.0 → ⊥) → spot_noted (xs ++ item.Bind bound ∷ []) (set binders bound.0 (noted_at xs)) label ≡ spot_of label (xs ++ item.Bind bound ∷ [])
bind_by binders xs bound label within free h (inl e) =
    let same : (bound.0 == label) ≡ true = eq-eqb bound.0 label (sym e) in
    let noted : slice_get (set binders bound.0 (noted_at xs)) label ≡ Some (noted_at xs) = ap (slice_get (set binders bound.0 (noted_at xs))) e ∙ get_set_same binders bound.0 (noted_at xs) within in
    let none : spot_of label xs ≡ None = ap (λ (n : ℕ). spot_of n xs) e ∙ free in
    rw (noted, spot_push label xs (item.Bind bound), none, get_last xs (item.Bind bound), same) refl
bind_by {I = I} binders xs bound label within free h (inr ne) =
    let not_it : (bound.0 == label) ≡ false = ne_eqb bound.0 label (λ e. ne (sym e)) in
    let before : slice_get (set binders bound.0 (noted_at xs)) label ≡ slice_get binders label = get_set_other binders bound.0 label (noted_at xs) ne in
    let here : spot_noted (xs ++ item.Bind bound ∷ []) (set binders bound.0 (noted_at xs)) label ≡ spot_noted (xs ++ item.Bind bound ∷ []) binders label = ap (option_and_then (λ b. option_and_then (λ x. if binds_it label x then Some b.spot else None) (slice_get (xs ++ item.Bind bound ∷ []) b.item))) before in
    let none : option_or (spot_of label xs) (spot_here {I = I} label (entries xs) (item.Bind bound)) ≡ spot_of label xs = ap (λ (b : Bool). option_or (spot_of label xs) (if b then Some (entries xs) else None)) not_it ∙ or_none (spot_of label xs) in
    here ∙ noted_other binders label xs (item.Bind bound) not_it ∙ h label ∙ sym none ∙ sym (spot_push label xs (item.Bind bound))

-- a label's position is noted
pub noted_bind : {I : Type 0} (binders : List Binder) (xs : List (Item I)) (bound : Label) → bound.0 < length binders → spot_of bound.0 xs ≡ None → AreBinders xs binders → AreBinders (xs ++ item.Bind bound ∷ []) (set binders bound.0 (noted_at xs))
noted_bind binders xs bound within free h = λ label. bind_by binders xs bound label within free h (cases_eq label bound.0)

pub noted_is : {I : Type 0} (xs : List (Item I)) (n spot : ℕ) → length xs ≡ n → spot ≡ entries xs → noted_at xs ≡ note n spot
noted_is xs n spot len is = ap (λ (k : ℕ). note k (entries xs)) len ∙ ap (note n) (sym is)
