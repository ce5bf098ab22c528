use Rattle.std.proofs.Common.{◌≡◌, ◌∙◌, ◌<◌, ◌≤◌, ◌⊎◌, inl, inr, ℕ, zero, suc, ℤ, pos, refl, sym, ap, subst, arith, Bool, true, false, Option, Some, None, List, [], ◌∷◌, ◌++◌, length, take, get_or, slice_get}
use Rattle.std.proofs.lemmas.Bool.{ltb-false, eq-eqb, eqb-true}
use Rattle.std.proofs.lemmas.Option.{same_Some, slice_get-get_or}
use Rattle.std.specs.Option.{option_or}
use Rattle.std.specs.Prelude.{◌==◌, Err, IfSome, Ok, OnOk, Result, if◌then◌else◌, is_err, is_ok, nat_lt, option_and_then, option_map}
use Rattle.cax64_encoder.specs.declared.fault.Fault.{Fault}
use Rattle.cax64_sink.specs.declared.DeferredTarget.{DeferredTarget}
use Rattle.cax64_sink.specs.declared.DeferredTarget.TheVariants as target
use Rattle.cax64_sink.specs.declared.Label.{Label}
use Rattle.huqmeris_c.specs.Each.{HasFault}
use Rattle.huqmeris_c.specs.Encodes.{no_offsets}
use Rattle.huqmeris_c.specs.Items.{Binds, CantBePut, FirstRefused, ListIs, jump_named}
use Rattle.huqmeris_c.specs.Putting.{Makes, MakesEach, NoCode, TellsOf, core_fault}
use Rattle.huqmeris_c.specs.declared.item.HqItem.{HqItem}
use Rattle.x64_assemble.proofs.Entries.{free_label}
use Rattle.x64_assemble.specs.Assembled.{spot_of}
use Rattle.x64_assemble.specs.Refused.{IsFirstRefusal, bind_refusal, error_in, item_refusal, number_in, refusal_at}
use Rattle.x64_assemble.specs.declared.errors.LayoutError.{LayoutError}
use Rattle.x64_assemble.specs.declared.errors.LayoutError.TheVariants as refusal
use Rattle.x64_assemble.specs.declared.item.Item.{Item}
use Rattle.x64_assemble.specs.declared.item.Item.TheVariants as item
use Rattle.x64_code_buffer.specs.Binding.{unless_bound}
use Rattle.x64_code_buffer.specs.declared.errors.BindError.{BindError}
use Rattle.x64_code_buffer.specs.declared.errors.BindError.TheVariants.{Unknown, Twice}
use Rattle.x64_code_buffer.specs.declared.jump.Jump.{Jump}
use Rattle.x64_core.specs.Core.{fault_of}
use Rattle.x64_core.specs.View.{CoreView}
use Rattle.x64_core.specs.declared.instruction.Core.{Core}
use Rattle.x64_layout.specs.declared.span.TheConstants.{MOST_SPANS}

-- Items and the list that they are.

pub makes_push : (hs : List HqItem) (xs : List (Item Core)) (h : HqItem) (x : Item Core) → MakesEach hs xs → Makes h x → MakesEach (hs ++ h ∷ []) (xs ++ x ∷ [])
makes_push [] [] h x e m = (m, tt)
makes_push [] (y ∷ ys) h x e m = absurd e
makes_push (g ∷ hs) [] h x e m = absurd e
makes_push (g ∷ hs) (y ∷ ys) h x e m = (e.0, makes_push hs ys h x e.1 m)

pub makes_length : (hs : List HqItem) (xs : List (Item Core)) → MakesEach hs xs → length xs ≡ length hs
makes_length [] [] e = refl
makes_length [] (y ∷ ys) e = absurd e
makes_length (g ∷ hs) [] e = absurd e
makes_length (g ∷ hs) (y ∷ ys) e = ap suc (makes_length hs ys e.1)

pub makes_take : (hs : List HqItem) (xs : List (Item Core)) (k : ℕ) → MakesEach hs xs → MakesEach (take k hs) (take k xs)
makes_take [] [] zero e = tt
makes_take [] [] (suc k) e = tt
makes_take [] (y ∷ ys) k e = absurd e
makes_take (g ∷ hs) [] k e = absurd e
makes_take (g ∷ hs) (y ∷ ys) zero e = tt
makes_take (g ∷ hs) (y ∷ ys) (suc k) e = (e.0, makes_take hs ys k e.1)

-- the item that a number of integers makes
pub record MadeOf (hs : List HqItem) (xs : List (Item Core)) (k : ℕ) (h : HqItem) : Type 0 where
  pub x : Item Core
  pub there : slice_get xs k ≡ Some x
  pub makes : Makes h x

made_first : (h g : HqItem) (y : Item Core) → g ≡ h → Makes g y → Makes h y
made_first h g y e m = subst (λ (z : HqItem). Makes z y) e m

pub made_of : (hs : List HqItem) (xs : List (Item Core)) (k : ℕ) (h : HqItem) → MakesEach hs xs → slice_get hs k ≡ Some h → MadeOf hs xs k h
made_of [] xs k h e is = cc
made_of (g ∷ hs) [] k h e is = absurd e
made_of (g ∷ hs) (y ∷ ys) zero h e is = record { x = y; there = refl; makes = made_first h g y (same_Some g h is) e.0 }
made_of (g ∷ hs) (y ∷ ys) (suc k) h e is =
    let later : MadeOf hs ys k h = made_of hs ys k h e.1 is in
    record { x = later.x; there = later.there; makes = later.makes }

-- the integers that an item was made of
pub record MadeFrom (hs : List HqItem) (k : ℕ) (x : Item Core) : Type 0 where
  pub h : HqItem
  pub there : slice_get hs k ≡ Some h
  pub makes : Makes h x

pub made_from : (hs : List HqItem) (xs : List (Item Core)) (k : ℕ) (x : Item Core) → MakesEach hs xs → slice_get xs k ≡ Some x → MadeFrom hs k x
made_from hs [] k x e is = cc
made_from [] (y ∷ ys) k x e is = absurd e
made_from (g ∷ hs) (y ∷ ys) zero x e is = record { h = g; there = refl; makes = subst (λ (z : Item Core). Makes g z) (same_Some y x is) e.0 }
made_from (g ∷ hs) (y ∷ ys) (suc k) x e is =
    let later : MadeFrom hs k x = made_from hs ys k x e.1 is in
    record { h = later.h; there = later.there; makes = later.makes }

pub list_is : (hs : List HqItem) (xs : List (Item Core)) → MakesEach hs xs → ListIs hs xs
list_is [] [] e = tt
list_is [] (y ∷ ys) e = absurd e
list_is (g ∷ hs) [] e = absurd e
list_is (g ∷ hs) (item.Inst core ∷ ys) e = ((e.0.0, e.0.1), list_is hs ys e.1)
list_is (g ∷ hs) (item.Bind bound ∷ ys) e = (e.0, list_is hs ys e.1)
list_is (g ∷ hs) (item.Jump jump to ∷ ys) e = (e.0, list_is hs ys e.1)

-- Kinds.

pub jump_not : (kind n : ℕ) (jump : Jump) → jump_named kind ≡ Some jump → jump_named n ≡ None → kind ≡ n → ⊥
jump_not kind n jump is none e = let k : ◌≡◌ {A = Option Jump} None (Some jump) = sym none ∙ ap jump_named (sym e) ∙ is in cc

jump_not_0 : (kind : ℕ) (jump : Jump) → jump_named kind ≡ Some jump → kind ≡ 0 → ⊥
jump_not_0 kind jump is e = jump_not kind 0 jump is refl e

jump_not_1 : (kind : ℕ) (jump : Jump) → jump_named kind ≡ Some jump → kind ≡ 1 → ⊥
jump_not_1 kind jump is e = jump_not kind 1 jump is refl e

two_kinds : (kind : ℕ) → kind ≡ 0 → kind ≡ 1 → ⊥
two_kinds kind a b = omega (arith, a, b)

-- What makes an item is none otherwise.
pub no_code_made : (h : HqItem) (x : Item Core) (status : ℤ) → Makes h x → NoCode h status → ⊥
no_code_made h (item.Inst core) status m (inl n) = n.1 m.0
no_code_made h (item.Inst core) status m (inr n) = n.2 core m.1
no_code_made h (item.Bind bound) status m (inl n) = n.2 m.0
no_code_made h (item.Bind bound) status m (inr n) = two_kinds h.kind n.1 m.0
no_code_made h (item.Jump jump to) status m (inl n) = let k : ◌≡◌ {A = Option Jump} None (Some jump) = sym n.3 ∙ m.0 in cc
no_code_made h (item.Jump jump to) status m (inr n) = jump_not_0 h.kind jump m.0 n.1

-- Labels.

pub map_none : {A B : Type 0} (f : A → B) (o : Option A) → option_map f o ≡ None → o ≡ None
map_none f None e = refl
map_none f (Some a) e = cc

pub if_none : (b : Bool) (o : Option ℕ) → (if b then Some 0 else o) ≡ None → (b ≡ false) × (o ≡ None)
if_none true o e = cc
if_none false o e = (refl, e)

pub binds_spot : (hs : List HqItem) (xs : List (Item Core)) (n : ℕ) → MakesEach hs xs → Binds 1 n hs → spot_of n xs ≡ None → ⊥
binds_spot [] xs n e b none = b
binds_spot (g ∷ hs) [] n e b none = absurd e
binds_spot (g ∷ hs) (item.Inst core ∷ ys) n e (inl b) none = two_kinds g.kind e.0.0 b.0
binds_spot (g ∷ hs) (item.Inst core ∷ ys) n e (inr b) none = binds_spot hs ys n e.1 b (map_none suc (spot_of n ys) none)
binds_spot (g ∷ hs) (item.Jump jump to ∷ ys) n e (inl b) none = jump_not_1 g.kind jump e.0.0 b.0
binds_spot (g ∷ hs) (item.Jump jump to ∷ ys) n e (inr b) none = binds_spot hs ys n e.1 b (map_none suc (spot_of n ys) none)
binds_spot (g ∷ hs) (item.Bind bound ∷ ys) n e (inl b) none =
    let same : (bound.0 == n) ≡ true = eq-eqb bound.0 n (e.0.1 ∙ b.1) in
    let not_same : (bound.0 == n) ≡ false = (if_none (bound.0 == n) (spot_of n ys) none).0 in
    let k : true ≡ false = sym same ∙ not_same in cc
binds_spot (g ∷ hs) (item.Bind bound ∷ ys) n e (inr b) none = binds_spot hs ys n e.1 b (if_none (bound.0 == n) (spot_of n ys) none).1

map_some : (o : Option ℕ) (spot : ℕ) → option_map suc o ≡ Some spot → (before : ℕ) × (o ≡ Some before)
map_some None spot e = cc
map_some (Some before) spot e = (before, refl)

if_some : (a n : ℕ) (b : Bool) (o : Option ℕ) (spot : ℕ) → (a == n) ≡ b → (if b then Some 0 else o) ≡ Some spot → (a ≡ n) ⊎ (o ≡ Some spot)
if_some a n true o spot t e = inl (eqb-true a n t)
if_some a n false o spot t e = inr e

bound_here : (hs : List HqItem) (g : HqItem) (n a : ℕ) → g.kind ≡ 1 → a ≡ g.number → (a ≡ n) ⊎ Binds 1 n hs → Binds 1 n (g ∷ hs)
bound_here hs g n a kind is (inl e) = inl (kind, sym is ∙ e)
bound_here hs g n a kind is (inr b) = inr b

or_more : {P Q R : Type 0} → (Q → R) → P ⊎ Q → P ⊎ R
or_more f (inl p) = inl p
or_more f (inr q) = inr (f q)

pub spot_binds : (hs : List HqItem) (xs : List (Item Core)) (n spot : ℕ) → MakesEach hs xs → spot_of n xs ≡ Some spot → Binds 1 n hs
spot_binds hs [] n spot e is = cc
spot_binds [] (y ∷ ys) n spot e is = absurd e
spot_binds (g ∷ hs) (item.Inst core ∷ ys) n spot e is = let before = map_some (spot_of n ys) spot is in inr (spot_binds hs ys n before.0 e.1 before.1)
spot_binds (g ∷ hs) (item.Jump jump to ∷ ys) n spot e is = let before = map_some (spot_of n ys) spot is in inr (spot_binds hs ys n before.0 e.1 before.1)
spot_binds (g ∷ hs) (item.Bind bound ∷ ys) n spot e is = bound_here hs g n bound.0 e.0.0 e.0.1 (or_more (λ (s : spot_of n ys ≡ Some spot). spot_binds hs ys n spot e.1 s) (if_some bound.0 n (bound.0 == n) (spot_of n ys) spot refl is))

-- Refusals.

-- why a label can't be bound
label_by : (b : Bool) (s : Option ℕ) (given label : ℕ) (why : BindError) → nat_lt label given ≡ b → error_in (if b then unless_bound s else Err Unknown) ≡ Some why → ((why ≡ Unknown) × (given ≤ label)) ⊎ ((why ≡ Twice) × ((spot : ℕ) × (s ≡ Some spot)))
label_by true None given label why t e = cc
label_by true (Some spot) given label why t e = inr (sym (same_Some Twice why e), (spot, refl))
label_by false s given label why t e = inl (sym (same_Some Unknown why e), ltb-false label given t)

record Mapped {A B : Type 0} (f : A → B) (o : Option A) (b : B) : Type 0 where
  pub a : A
  pub is : o ≡ Some a
  pub gives : f a ≡ b

mapped : {A B : Type 0} (f : A → B) (o : Option A) (b : B) → option_map f o ≡ Some b → Mapped f o b
mapped f None b e = cc
mapped f (Some a) b e = record { a = a; is = refl; gives = same_Some (f a) b e }

-- an item that can't be put is told so
abbrev Refuses : ℕ → List HqItem → ℕ → ℕ → ℤ → Type 0
Refuses given hs n number status = (status ≡ pos 11) ⊎ ((number ≡ n) × ((h : HqItem) × (slice_get hs n ≡ Some h) × CantBePut given (take n hs) h status))

refuses_fault : (given : ℕ) (hs : List HqItem) (xs : List (Item Core)) (places : DeferredTarget → Option ℕ) (n number : ℕ) (status : ℤ) (core : Core) (e : LayoutError) → MakesEach hs xs → slice_get xs n ≡ Some (item.Inst core) → option_map (refusal.Fault n) (core_fault core) ≡ Some e → TellsOf e number status → Refuses given hs n number status
refuses_fault given hs xs places n number status core e makes is why told =
    let m : Mapped (refusal.Fault n) (core_fault core) e = mapped (refusal.Fault n) (core_fault core) e why in
    let from : MadeFrom hs n (item.Inst core) = made_from hs xs n (item.Inst core) makes is in
    let tells : TellsOf (refusal.Fault n m.a) number status = subst (λ (w : LayoutError). TellsOf w number status) (sym m.gives) told in
    inr (tells.0, (from.h, from.there, inl (from.makes.0, record { core = core; is = from.makes.1; fault = m.a; found = m.is; named = tells.1 })))

refuses_label : (given : ℕ) (hs : List HqItem) (xs : List (Item Core)) (places : DeferredTarget → Option ℕ) (n number : ℕ) (status : ℤ) (bound : Label) (why : BindError) → MakesEach hs xs → slice_get xs n ≡ Some (item.Bind bound) → ((why ≡ Unknown) × (given ≤ bound.0)) ⊎ ((why ≡ Twice) × ((spot : ℕ) × (spot_of bound.0 (take n xs) ≡ Some spot))) → TellsOf (refusal.Bind n why) number status → Refuses given hs n number status
refuses_label given hs xs places n number status bound why makes is (inl u) told =
    let from : MadeFrom hs n (item.Bind bound) = made_from hs xs n (item.Bind bound) makes is in
    let tells : TellsOf (refusal.Bind n Unknown) number status = subst (λ (w : BindError). TellsOf (refusal.Bind n w) number status) u.0 told in
    inr (tells.0, (from.h, from.there, inr (inl (tells.1, from.makes.0, subst (λ (m : ℕ). given ≤ m) from.makes.1 u.1))))
refuses_label given hs xs places n number status bound why makes is (inr t) told =
    let from : MadeFrom hs n (item.Bind bound) = made_from hs xs n (item.Bind bound) makes is in
    let tells : TellsOf (refusal.Bind n Twice) number status = subst (λ (w : BindError). TellsOf (refusal.Bind n w) number status) t.0 told in
    let binds : Binds 1 bound.0 (take n hs) = spot_binds (take n hs) (take n xs) bound.0 t.1.0 (makes_take hs xs n makes) t.1.1 in
    inr (tells.0, (from.h, from.there, inr (inr (tells.1, inl from.makes.0, subst (λ (k : ℕ). Binds k from.h.number (take n hs)) (sym from.makes.0) (subst (λ (m : ℕ). Binds 1 m (take n hs)) from.makes.1 binds)))))

refuses_bind : (given : ℕ) (hs : List HqItem) (xs : List (Item Core)) (places : DeferredTarget → Option ℕ) (n number : ℕ) (status : ℤ) (bound : Label) (e : LayoutError) → MakesEach hs xs → ((goes_to : DeferredTarget) → places goes_to ≡ None) → slice_get xs n ≡ Some (item.Bind bound) → option_map (refusal.Bind n) (bind_refusal given places (take n xs) bound.0) ≡ Some e → TellsOf e number status → Refuses given hs n number status
refuses_bind given hs xs places n number status bound e makes none is why told =
    let m : Mapped (refusal.Bind n) (bind_refusal given places (take n xs) bound.0) e = mapped (refusal.Bind n) (bind_refusal given places (take n xs) bound.0) e why in
    let free : option_or (places (target.Label (record { 0 = bound.0 }))) (spot_of bound.0 (take n xs)) ≡ spot_of bound.0 (take n xs) = ap (λ (o : Option ℕ). option_or o (spot_of bound.0 (take n xs))) (none (target.Label (record { 0 = bound.0 }))) in
    let plain : error_in (if nat_lt bound.0 given then unless_bound (spot_of bound.0 (take n xs)) else Err Unknown) ≡ Some m.a = sym (ap (λ (o : Option ℕ). error_in (if nat_lt bound.0 given then unless_bound o else Err Unknown)) free) ∙ m.is in
    refuses_label given hs xs places n number status bound m.a makes is (label_by (nat_lt bound.0 given) (spot_of bound.0 (take n xs)) given bound.0 m.a refl plain) (subst (λ (w : LayoutError). TellsOf w number status) (sym m.gives) told)

refuses_by : (given : ℕ) (hs : List HqItem) (xs : List (Item Core)) (places : DeferredTarget → Option ℕ) (n number : ℕ) (status : ℤ) (e : LayoutError) (o : Option (Item Core)) → MakesEach hs xs → ((goes_to : DeferredTarget) → places goes_to ≡ None) → slice_get xs n ≡ o → option_and_then (item_refusal core_fault given places (take n xs) n) o ≡ Some e → TellsOf e number status → Refuses given hs n number status
refuses_by given hs xs places n number status e None makes none is why told = cc
refuses_by given hs xs places n number status e (Some (item.Inst core)) makes none is why told = refuses_fault given hs xs places n number status core e makes is why told
refuses_by given hs xs places n number status e (Some (item.Jump jump to)) makes none is why told = cc
refuses_by given hs xs places n number status e (Some (item.Bind bound)) makes none is why told = refuses_bind given hs xs places n number status bound e makes none is why told

-- One that isn't refused in the list can be put.

bound_kind : (kind n : ℕ) → kind ≡ n → (kind ≡ 1) ⊎ (kind ≡ 20) → (n ≡ 1 → ⊥) → (n ≡ 20 → ⊥) → ⊥
bound_kind kind n e (inl a) one twenty = one (sym e ∙ a)
bound_kind kind n e (inr a) one twenty = twenty (sym e ∙ a)

jump_binds : (kind : ℕ) (jump : Jump) → jump_named kind ≡ Some jump → (kind ≡ 1) ⊎ (kind ≡ 20) → ⊥
jump_binds kind jump is (inl e) = jump_not kind 1 jump is refl e
jump_binds kind jump is (inr e) = jump_not kind 20 jump is refl e

can_fault : (core : Core) (h : HqItem) (status : ℤ) → Makes h (item.Inst core) → core_fault core ≡ None → HasFault h.inst status → ⊥
can_fault core h status m none has =
    let k : ◌≡◌ {A = Option Fault} None (Some has.fault) = sym none ∙ ap (λ (v : CoreView). fault_of no_offsets v) (m.2 has.core has.is) ∙ has.found in cc

can_item : (given : ℕ) (hs : List HqItem) (xs : List (Item Core)) (places : DeferredTarget → Option ℕ) (k : ℕ) (h : HqItem) (x : Item Core) (status : ℤ) → MakesEach hs xs → Makes h x → item_refusal core_fault given places (take k xs) k x ≡ None → CantBePut given (take k hs) h status → ⊥
can_item given hs xs places k h (item.Inst core) status makes m none (inl c) = can_fault core h status m (map_none (refusal.Fault k) (core_fault core) none) c.1
can_item given hs xs places k h (item.Inst core) status makes m none (inr (inl c)) = two_kinds h.kind m.0 c.1
can_item given hs xs places k h (item.Inst core) status makes m none (inr (inr c)) = bound_kind h.kind 0 m.0 c.1 (λ z. cc) (λ z. omega (arith, z))
can_item given hs xs places k h (item.Jump jump to) status makes m none (inl c) = jump_not_0 h.kind jump m.0 c.0
can_item given hs xs places k h (item.Jump jump to) status makes m none (inr (inl c)) = jump_not_1 h.kind jump m.0 c.1
can_item given hs xs places k h (item.Jump jump to) status makes m none (inr (inr c)) = jump_binds h.kind jump m.0 c.1
can_item given hs xs places k h (item.Bind bound) status makes m none (inl c) = two_kinds h.kind c.0 m.0
can_item given hs xs places k h (item.Bind bound) status makes m none (inr (inl c)) =
    let free = free_label given places (take k xs) bound (map_none (refusal.Bind k) (bind_refusal given places (take k xs) bound.0) none) in
    let is : bound.0 ≡ h.number = m.1 in
    let few : bound.0 < given = free.0 in
    omega (arith, few, is, c.2)
can_item given hs xs places k h (item.Bind bound) status makes m none (inr (inr c)) =
    let free = free_label given places (take k xs) bound (map_none (refusal.Bind k) (bind_refusal given places (take k xs) bound.0) none) in
    binds_spot (take k hs) (take k xs) bound.0 (makes_take hs xs k makes) (subst (λ (n : ℕ). Binds 1 n (take k hs)) (sym m.1) (subst (λ (n : ℕ). Binds n h.number (take k hs)) m.0 c.2)) free.2

pub can_be_put : (given : ℕ) (hs : List HqItem) (xs : List (Item Core)) (places : DeferredTarget → Option ℕ) (k : ℕ) (h : HqItem) (status : ℤ) → MakesEach hs xs → slice_get hs k ≡ Some h → refusal_at core_fault given places xs k ≡ None → CantBePut given (take k hs) h status → ⊥
can_be_put given hs xs places k h status makes is none c =
    let of : MadeOf hs xs k h = made_of hs xs k h makes is in
    can_item given hs xs places k h of.x status makes of.makes (sym (ap (option_and_then (item_refusal core_fault given places (take k xs) k)) of.there) ∙ none) c

first_one : (given : ℕ) (hs : List HqItem) (xs : List (Item Core)) (places : DeferredTarget → Option ℕ) (n number : ℕ) (status : ℤ) → MakesEach hs xs → ((k : ℕ) → k < n → refusal_at core_fault given places xs k ≡ None) → Refuses given hs n number status → (status ≡ pos 11) ⊎ FirstRefused (CantBePut given) hs number status
first_one given hs xs places n number status makes before (inl m) = inl m
first_one given hs xs places n number status makes before (inr r) =
    let here : FirstRefused (CantBePut given) hs n status = record {
      item = r.1.0;
      there = r.1.1;
      why = r.1.2;
      first = λ k earlier other lt is c. can_be_put given hs xs places k earlier other makes is (before k lt) c;
    } in
    inr (subst (λ (m : ℕ). FirstRefused (CantBePut given) hs m status) (sym r.0) here)

refused_by : (given : ℕ) (hs : List HqItem) (xs : List (Item Core)) (places : DeferredTarget → Option ℕ) (n number : ℕ) (status : ℤ) (e : LayoutError) → MakesEach hs xs → ((goes_to : DeferredTarget) → places goes_to ≡ None) → IsFirstRefusal core_fault given places xs n e → TellsOf e number status → (status ≡ pos 11) ⊎ FirstRefused (CantBePut given) hs number status
refused_by given hs xs places n number status e makes none is told =
    first_one given hs xs places n number status makes is.first (refuses_by given hs xs places n number status e (slice_get xs n) makes none refl is.is told)

-- A list that isn't put is told so.
pub list_refused : (given : ℕ) (hs : List HqItem) (xs : List (Item Core)) (places : DeferredTarget → Option ℕ) (number : ℕ) (status : ℤ) (e : LayoutError) → MakesEach hs xs → length hs ≤ MOST_SPANS → ((goes_to : DeferredTarget) → places goes_to ≡ None) → IfSome (number_in e) (λ n. IsFirstRefusal core_fault given places xs n e) → (e ≡ refusal.TooMany → MOST_SPANS < length xs) → TellsOf e number status → (status ≡ pos 11) ⊎ FirstRefused (CantBePut given) hs number status
list_refused given hs xs places number status (refusal.Fault n why) makes few none is many told = refused_by given hs xs places n number status (refusal.Fault n why) makes none is told
list_refused given hs xs places number status (refusal.Bind n why) makes few none is many told = refused_by given hs xs places n number status (refusal.Bind n why) makes none is told
list_refused given hs xs places number status refusal.TooMany makes few none is many told = let e : length xs ≡ length hs = makes_length hs xs makes in let k : MOST_SPANS < length xs = many refl in absurd (omega (arith, few, e, k))
list_refused given hs xs places number status refusal.NoMemory makes few none is many told = inl told

-- The first that is no item.

get_take : {X : Type 0} (xs : List X) (n k : ℕ) → k < n → slice_get (take n xs) k ≡ slice_get xs k
get_take xs zero k lt = absurd (omega arith)
get_take [] (suc n) k lt = refl
get_take (x ∷ xs) (suc n) zero lt = refl
get_take (x ∷ xs) (suc n) (suc k) lt = get_take xs n k (omega arith)

pub first_none : (hs : List HqItem) (xs : List (Item Core)) (h : HqItem) (n : ℕ) (status : ℤ) → slice_get hs n ≡ Some h → MakesEach (take n hs) xs → NoCode h status → FirstRefused (λ before. NoCode) hs n status
first_none hs xs h n status is makes lacks = record {
  item = h;
  there = is;
  why = lacks;
  first = λ k earlier other lt there none.
      let of : MadeOf (take n hs) xs k earlier = made_of (take n hs) xs k earlier makes (get_take hs n k lt ∙ there) in
      no_code_made earlier of.x other of.makes none;
}

none_at : (hs : List HqItem) (xs : List (Item Core)) (d : HqItem) (i : ℕ) (status : ℤ) → i < length hs → MakesEach (take i hs) xs → (status ≡ pos 11) ⊎ NoCode (get_or hs i d) status → (status ≡ pos 11) ⊎ FirstRefused (λ before. NoCode) hs i status
none_at hs xs d i status within makes (inl m) = inl m
none_at hs xs d i status within makes (inr lacks) = inr (first_none hs xs (get_or hs i d) i status (slice_get-get_or hs i d within) makes lacks)

pub either_none : (hs : List HqItem) (xs : List (Item Core)) (d : HqItem) (i : ℕ) (status told : ℤ) → i < length hs → MakesEach (take i hs) xs → told ≡ status → (status ≡ pos 11) ⊎ NoCode (get_or hs i d) status → (told ≡ pos 11) ⊎ FirstRefused (λ before. NoCode) hs i told
either_none hs xs d i status told within makes is h = subst (λ (z : ℤ). (z ≡ pos 11) ⊎ FirstRefused (λ before. NoCode) hs i z) (sym is) (none_at hs xs d i status within makes h)

pub pushed_is : {T E : Type 0} (r : Result (Unit {0}) E) (new all some : List T) → is_err r ≡ false → new ≡ (if is_ok r then all else some) → new ≡ all
pushed_is (Ok tt) new all some well h = h
pushed_is (Err e) new all some well h = cc

pub finished : {T E P : Type 0} (r : Result T E) → is_err r ≡ false → OnOk r P → P
finished (Ok v) well h = h
finished (Err e) well h = cc
