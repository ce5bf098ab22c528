use Rattle.std.proofs.Common.{◌≡◌, ℕ, ◌+◌, ◌*◌, ◌^◌, ◌<◌, ◌≤◌, ◌≢◌, ◌⊎◌, inl, inr, arith, Bool, true, false, List, length, take, set, get_or, sum, refl, ap, sym, ◌∙◌, subst, Option, Some, None, IfSome, All, slice_get}
use Rattle.std.specs.Bool.{OnTrue, OnFalse}
use Rattle.std.proofs.lemmas.Bool.{cases_lt, cases_eq, OnTrue_at, OnTrue_from, OnFalse_at, OnFalse_from}
use Rattle.std.proofs.lemmas.List.{get_or-set_same, get_or-set_other, length-set, length-take-le, get_or_past}
use Rattle.std.proofs.lemmas.List.Elements.{All-get_or, All-from_get_or, All-take}
use Rattle.std.proofs.lemmas.List.Sums.{sum_by-le}
use Rattle.std.proofs.lemmas.Option.{same_Some, slice_get_within, slice_get-get_or, get_or_from_slice_get}
use Rattle.x64_layout.specs.Layout.{AreSpans, IsSpan, IsLayout, Stands, NoLonger, Reaches, ArePlaces, place_in}
use Rattle.x64_layout.specs.Growing.{IsBelow, room_at}
use Rattle.x64_layout.specs.declared.span.Span.{Span}
use Rattle.x64_layout.proofs.Places.{set_no_longer, sum_set_grows}
use Rattle.x64_layout.proofs.Rooms.{reaches_room, room_reaches, room_falls}

-- What a span says of itself.

-- what a read of a span past the end would give
abbrev pub no_span : Span
no_span = record { least = 0; more = 0; spot = None }

pub span_at : (spans : List Span) (n : ℕ) (s : Span) → slice_get spans n ≡ Some s → AreSpans spans → IsSpan (length spans) s
span_at spans n s is are = subst (IsSpan (length spans)) (get_or_from_slice_get spans n s s is) (All-get_or (IsSpan (length spans)) spans n s (slice_get_within spans n s is) are.each)

-- A jump that doesn't reach, where no span is longer than in a layout, is long in that.

not_short : (a b least more : ℕ) {P : Type 0} → ((b ≡ least) × P) ⊎ (b ≡ least + more) → (P → ⊥) → b ≡ least + more
not_short a b least more (inl h) far = absurd (far h.1)
not_short a b least more (inr h) far = h

pub forced : (spans : List Span) (lens other : List ℕ) (n : ℕ) (s : Span) → slice_get spans n ≡ Some s → room_at (place_in lens) n s.spot ≡ 0 → NoLonger lens other → IsLayout spans other → get_or other n 0 ≡ s.least + s.more
forced spans lens other n s is room longer layout =
    not_short 0 (get_or other n 0) s.least s.more (layout.each n s is) (λ h. omega (arith, reaches_room (place_in other) n s.spot h, room_falls lens other n s.spot longer))

chosen_by : (spans : List Span) (lens : List ℕ) (n : ℕ) (s : Span) (k : ℕ) (t : Span) → n < length lens → slice_get spans n ≡ Some s → slice_get spans k ≡ Some t → (get_or lens k 0 ≡ t.least) ⊎ (get_or lens k 0 ≡ t.least + t.more) → (k ≡ n) ⊎ (k ≢ n) → (get_or (set lens n (s.least + s.more)) k 0 ≡ t.least) ⊎ (get_or (set lens n (s.least + s.more)) k 0 ≡ t.least + t.more)
chosen_by spans lens n s k t within is there chosen (inl e) =
    let at_n : slice_get spans n ≡ Some t = subst (λ (i : ℕ). slice_get spans i ≡ Some t) e there in
    let same : s ≡ t = same_Some s t (sym is ∙ at_n) in
    inr (ap (λ (i : ℕ). get_or (set lens n (s.least + s.more)) i 0) e ∙ get_or-set_same lens n (s.least + s.more) 0 within ∙ ap (λ (x : Span). x.least + x.more) same)
chosen_by spans lens n s k t within is there chosen (inr ne) = rw (get_or-set_other lens n k (s.least + s.more) 0 ne) chosen

below_by : (a b least more : ℕ) → (a ≡ least) ⊎ (a ≡ least + more) → a ≤ least + more
below_by a b least more (inl h) = omega arith
below_by a b least more (inr h) = omega arith

pub at_most : (spans : List Span) (lens : List ℕ) (n : ℕ) (s : Span) → slice_get spans n ≡ Some s → IsBelow spans lens → get_or lens n 0 ≤ s.least + s.more
at_most spans lens n s is below = below_by (get_or lens n 0) 0 s.least s.more (below.chosen n s is)

-- so it gets its longer form
pub grown : (spans : List Span) (lens : List ℕ) (n : ℕ) (s : Span) → slice_get spans n ≡ Some s → IsBelow spans lens → ((other : List ℕ) → IsLayout spans other → get_or other n 0 ≡ s.least + s.more) → IsBelow spans (set lens n (s.least + s.more))
grown spans lens n s is below long =
    let within : n < length lens = omega (arith, slice_get_within spans n s is, below.as_many) in
    record {
      as_many = length-set lens n (s.least + s.more) ∙ below.as_many;
      chosen = λ k t there. chosen_by spans lens n s k t within is there (below.chosen k t there) (cases_eq k n);
      below = λ other layout. set_no_longer lens other n (s.least + s.more) within (below.below other layout) (omega (arith, long other layout));
    }

-- All short is below every layout.

least_by : (a least more : ℕ) {P : Type 0} → ((a ≡ least) × P) ⊎ (a ≡ least + more) → least ≤ a
least_by a least more (inl h) = omega (arith, h.0)
least_by a least more (inr h) = omega arith

short_below : (spans : List Span) (lens other : List ℕ) (n : ℕ) → length lens ≡ length spans → ((k : ℕ) (s : Span) → slice_get spans k ≡ Some s → get_or lens k 0 ≡ s.least) → IsLayout spans other → (n < length spans) ⊎ (length spans ≤ n) → get_or lens n 0 ≤ get_or other n 0
short_below spans lens other n as_many short layout (inl within) =
    let s : Span = get_or spans n no_span in
    let is : slice_get spans n ≡ Some s = slice_get-get_or spans n no_span within in
    omega (arith, short n s is, least_by (get_or other n 0) s.least s.more (layout.each n s is))
short_below spans lens other n as_many short layout (inr past) = omega (arith, get_or_past lens n 0 (omega arith))

pub begun : (spans : List Span) (lens : List ℕ) → length lens ≡ length spans → ((k : ℕ) (s : Span) → slice_get spans k ≡ Some s → get_or lens k 0 ≡ s.least) → IsBelow spans lens
begun spans lens as_many short = record {
  as_many = as_many;
  chosen = λ k s is. inl (short k s is);
  below = λ other layout n. short_below spans lens other n as_many short layout (cases_lt n (length spans));
}

-- Places that are noted.

pub room_noted : (lens places : List ℕ) (n : ℕ) (spot : Option ℕ) → ArePlaces lens places → n < length lens → IfSome spot (λ (x : ℕ). x ≤ length lens) → room_at (λ i. get_or places i 0) n spot ≡ room_at (place_in lens) n spot
room_noted lens places n None are within h = refl
room_noted lens places n (Some spot) are within h = rw (are (n + 1) (omega arith), are spot h) refl

pub noted_reaches : (lens places : List ℕ) (n : ℕ) (spot : Option ℕ) → ArePlaces lens places → n < length lens → IfSome spot (λ (x : ℕ). x ≤ length lens) → Reaches (λ i. get_or places i 0) n spot → Reaches (place_in lens) n spot
noted_reaches lens places n spot are within spot_in h =
    let room : 0 < room_at (λ i. get_or places i 0) n spot = reaches_room (λ i. get_or places i 0) n spot h in
    room_reaches (place_in lens) n spot (omega (arith, room_noted lens places n spot are within spot_in))

pub reaches_noted : (lens places : List ℕ) (n : ℕ) (spot : Option ℕ) → ArePlaces lens places → n < length lens → IfSome spot (λ (x : ℕ). x ≤ length lens) → Reaches (place_in lens) n spot → Reaches (λ i. get_or places i 0) n spot
reaches_noted lens places n spot are within spot_in h =
    let room : 0 < room_at (place_in lens) n spot = reaches_room (place_in lens) n spot h in
    room_reaches (λ i. get_or places i 0) n spot (omega (arith, room_noted lens places n spot are within spot_in))

-- How many bytes there are at most.

pub all_small : (spans : List Span) (lens : List ℕ) → AreSpans spans → IsBelow spans lens → All (λ len. len ≤ 13) lens
all_small spans lens are below =
    All-from_get_or (λ len. len ≤ 13) lens 0 (λ i h.
    let s : Span = get_or spans i no_span in
    let is : slice_get spans i ≡ Some s = slice_get-get_or spans i no_span (omega (arith, below.as_many)) in
    omega (arith, at_most spans lens i s is below, (span_at spans i s is are).most))

pub place_small : (lens : List ℕ) (n : ℕ) → All (λ len. len ≤ 13) lens → n ≤ length lens → place_in lens n ≤ 13 * n
place_small lens n small le =
    omega (arith, sum_by-le (λ x. x) 13 (take n lens) (All-take (λ len. len ≤ 13) n lens small), length-take-le n lens le)

pub sum_small : (lens : List ℕ) → All (λ len. len ≤ 13) lens → sum lens ≤ 13 * length lens
sum_small lens small = omega (arith, sum_by-le (λ x. x) 13 lens small)

stands_most : (len least more : ℕ) {P : Type 0} → ((len ≡ least) × P) ⊎ (len ≡ least + more) → len ≤ least + more
stands_most len least more (inl h) = omega (arith, h.0)
stands_most len least more (inr h) = omega arith

pub layout_small : (spans : List Span) (lens : List ℕ) → AreSpans spans → IsLayout spans lens → All (λ len. len ≤ 13) lens
layout_small spans lens are layout =
    All-from_get_or (λ len. len ≤ 13) lens 0 (λ i h.
    let s : Span = get_or spans i no_span in
    let is : slice_get spans i ≡ Some s = slice_get-get_or spans i no_span (omega (arith, layout.as_many)) in
    omega (arith, stands_most (get_or lens i 0) s.least s.more (layout.each i s is), (span_at spans i s is are).most))

pub layout_bytes : (spans : List Span) (lens : List ℕ) → AreSpans spans → IsLayout spans lens → sum lens < 2 ^ 31
layout_bytes spans lens are layout = omega (arith, sum_small lens (layout_small spans lens are layout), layout.as_many, are.few)

pub places_small : (spans : List Span) (lens places : List ℕ) → AreSpans spans → IsBelow spans lens → ArePlaces lens places → length places ≡ length spans + 1 → All (λ place. place < 2 ^ 31) places
places_small spans lens places are below noted as_many =
    All-from_get_or (λ place. place < 2 ^ 31) places 0 (λ i h.
    omega (arith, noted i (omega (arith, below.as_many)), place_small lens i (all_small spans lens are below) (omega (arith, below.as_many)), are.few))

-- A round, of which so many spans are done.

pub record Round (spans : List Span) (start lens : List ℕ) (grew : Bool) (n : ℕ) : Type 0 where
  pub below : IsBelow spans lens
  pub grown : OnTrue grew (sum start < sum lens)
  pub same : OnFalse grew (lens ≡ start)
  pub settled : OnFalse grew ((k : ℕ) (s : Span) → k < n → slice_get spans k ≡ Some s → Stands start k s (get_or start k 0))

pub round_none : (spans : List Span) (start : List ℕ) → IsBelow spans start → Round spans start start false 0
round_none spans start below = record {
  below = below;
  grown = search arith;
  same = OnFalse_from false (start ≡ start) (λ e. refl);
  settled = OnFalse_from false ((k : ℕ) (s : Span) → k < 0 → slice_get spans k ≡ Some s → Stands start k s (get_or start k 0)) (λ e k s lt is. absurd (omega arith));
}

stood : (a least more : ℕ) {P : Type 0} → (a ≡ least) ⊎ (a ≡ least + more) → (least + more ≤ a) ⊎ P → ((a ≡ least) × P) ⊎ (a ≡ least + more)
stood a least more (inr h) stands = inr h
stood a least more (inl h) (inl le) = inr (omega arith)
stood a least more (inl h) (inr p) = inl (h, p)

more_at : (n k : ℕ) → k < n + 1 → (k ≡ n) ⊎ (k ≢ n) → (k ≡ n) ⊎ (k < n)
more_at n k lt (inl e) = inl e
more_at n k lt (inr ne) = inr (omega arith)

more_by : (n : ℕ) (k : ℕ) → k < n + 1 → (k ≡ n) ⊎ (k < n)
more_by n k lt = more_at n k lt (cases_eq k n)

settled_by : (spans : List Span) (start lens : List ℕ) (n : ℕ) (s : Span) (k : ℕ) (t : Span) → slice_get spans n ≡ Some s → slice_get spans k ≡ Some t → IsBelow spans start → lens ≡ start → ((i : ℕ) (x : Span) → i < n → slice_get spans i ≡ Some x → Stands start i x (get_or start i 0)) → (s.least + s.more ≤ get_or lens n 0) ⊎ Reaches (place_in start) n s.spot → (k ≡ n) ⊎ (k < n) → Stands start k t (get_or start k 0)
settled_by spans start lens n s k t is there below same before stands (inr lt) = before k t lt there
settled_by spans start lens n s k t is there below same before stands (inl e) =
    let at_n : slice_get spans n ≡ Some t = subst (λ (i : ℕ). slice_get spans i ≡ Some t) e there in
    let same_span : s ≡ t = same_Some s t (sym is ∙ at_n) in
    let here : Stands start n s (get_or start n 0) = stood (get_or start n 0) s.least s.more (below.chosen n s is) (subst (λ (l : List ℕ). (s.least + s.more ≤ get_or l n 0) ⊎ Reaches (place_in start) n s.spot) same stands) in
    subst (λ (i : ℕ). Stands start i t (get_or start i 0)) (sym e) (subst (λ (x : Span). Stands start n x (get_or start n 0)) same_span here)

grown_so_far : (start lens : List ℕ) (grew : Bool) → OnTrue grew (sum start < sum lens) → OnFalse grew (lens ≡ start) → sum start ≤ sum lens
grown_so_far start lens true more same = omega (arith, OnTrue_at refl more)
grown_so_far start lens false more same = omega (arith, ap sum (OnFalse_at refl same))

no_room_by : (start : List ℕ) (n : ℕ) (spot : Option ℕ) → (Reaches (place_in start) n spot → ⊥) → (0 < room_at (place_in start) n spot) ⊎ (room_at (place_in start) n spot ≤ 0) → room_at (place_in start) n spot ≡ 0
no_room_by start n spot far (inl room) = absurd (far (room_reaches (place_in start) n spot room))
no_room_by start n spot far (inr le) = omega arith

pub no_room : (start : List ℕ) (n : ℕ) (spot : Option ℕ) → (Reaches (place_in start) n spot → ⊥) → room_at (place_in start) n spot ≡ 0
no_room start n spot far = no_room_by start n spot far (cases_lt 0 (room_at (place_in start) n spot))

-- a span stays as short as it is
pub round_stays : (spans : List Span) (start lens : List ℕ) (grew : Bool) (n : ℕ) (s : Span) → slice_get spans n ≡ Some s → (IsBelow spans start) → Round spans start lens grew n → (s.least + s.more ≤ get_or lens n 0) ⊎ Reaches (place_in start) n s.spot → Round spans start lens grew (n + 1)
round_stays spans start lens grew n s is below done stands = record {
  below = done.below;
  grown = done.grown;
  same = done.same;
  settled = OnFalse_from grew ((k : ℕ) (t : Span) → k < n + 1 → slice_get spans k ≡ Some t → Stands start k t (get_or start k 0)) (λ e k t lt there. settled_by spans start lens n s k t is there below (OnFalse_at e done.same) (OnFalse_at e done.settled) stands (more_by n k lt));
}

-- or is longer from now on
pub round_grows : (spans : List Span) (start lens : List ℕ) (grew : Bool) (n : ℕ) (s : Span) → slice_get spans n ≡ Some s → IsBelow spans start → Round spans start lens grew n → get_or lens n 0 < s.least + s.more → (Reaches (place_in start) n s.spot → ⊥) → Round spans start (set lens n (s.least + s.more)) true (n + 1)
round_grows spans start lens grew n s is below done short far =
    let within : n < length lens = omega (arith, slice_get_within spans n s is, done.below.as_many) in
    record {
      below = grown spans lens n s is done.below (λ other layout. forced spans start other n s is (no_room start n s.spot far) (below.below other layout) layout);
      grown = OnTrue_from true (sum start < sum (set lens n (s.least + s.more))) (λ e. omega (arith, grown_so_far start lens grew done.grown done.same, sum_set_grows lens n (s.least + s.more) within short));
      same = search arith;
      settled = search arith;
    }

pub round_settled : (spans : List Span) (start lens : List ℕ) (grew : Bool) (n : ℕ) → IsBelow spans start → Round spans start lens grew n → length spans ≤ n → OnFalse grew (IsLayout spans lens)
round_settled spans start lens grew n below done all = OnFalse_from grew (IsLayout spans lens) (λ e.
    let same : lens ≡ start = OnFalse_at e done.same in
    let layout : IsLayout spans start = record {
      as_many = below.as_many;
      each = λ k s is. OnFalse_at e done.settled k s (omega (arith, slice_get_within spans k s is)) is;
    } in
    rw same layout)
