use Rattle.std.proofs.Common.{◌≡◌, ℕ, ◌+◌, ◌-◌, ◌<◌, ◌≤◌, ◌≢◌, ◌⊎◌, inl, inr, arith, List, length, set, get_or, sym, ◌∙◌, subst, Option, Some, None, IfSome, slice_get}
use Rattle.std.proofs.lemmas.Bool.{cases_eq}
use Rattle.std.proofs.lemmas.List.{get_or-set_same, get_or-set_other}
use Rattle.std.proofs.lemmas.Option.{slice_get_within, same_Some}
use Rattle.x64_layout.specs.Layout.{AreSpans, NoLonger, ArePlaces, place_in}
use Rattle.x64_layout.specs.Growing.{IsBelow, HasRooms, GoesOver, room_at, room_of}
use Rattle.x64_layout.specs.declared.span.Span.{Span}
use Rattle.x64_layout.proofs.Places.{in_order, place_before, place_behind, no_longer_set}
use Rattle.x64_layout.proofs.Rooms.{RoomIs, room_is, room_falls}
use Rattle.x64_layout.proofs.Growth.{span_at, room_noted, grown, forced}

-- Rooms that are noted are no less than there is, whatever grows.

pub rooms_kept : (spans : List Span) (lens more rooms : List ℕ) → NoLonger lens more → HasRooms (place_in lens) spans rooms → HasRooms (place_in more) spans rooms
rooms_kept spans lens more rooms longer have = λ n s is. omega (arith, have n s is, room_falls lens more n s.spot longer)

pub rooms_of_places : (spans : List Span) (lens places rooms : List ℕ) → AreSpans spans → length lens ≡ length spans → ArePlaces lens places → HasRooms (λ i. get_or places i 0) spans rooms → HasRooms (place_in lens) spans rooms
rooms_of_places spans lens places rooms are as_many noted have = λ n s is.
    let within : n < length lens = omega (arith, slice_get_within spans n s is, as_many) in
    let spot_in : IfSome s.spot (λ (x : ℕ). x ≤ length lens) = subst (λ (count : ℕ). IfSome s.spot (λ (x : ℕ). x ≤ count)) (sym as_many) (span_at spans n s is are).within in
    omega (arith, have n s is, room_noted lens places n s.spot noted within spot_in)

-- A growth takes as much from the room of a jump over it.

away_by : (end place place' more : ℕ) → end ≤ place → place' ≡ place + more → RoomIs end place → RoomIs end place' → room_of end place' ≤ room_of end place - more
away_by end place place' more le e (inl h) (inl k) = omega (arith, h.0, h.1, k.0, k.1)
away_by end place place' more le e (inl h) (inr k) = omega (arith, h.0, h.1, k.0, k.1)
away_by end place place' more le e (inr h) (inl k) = omega (arith, h.0, h.1, k.0, k.1)
away_by end place place' more le e (inr h) (inr k) = omega (arith, h.0, h.1, k.0, k.1)

less_away : (end place place' more : ℕ) → end ≤ place → place' ≡ place + more → room_of end place' ≤ room_of end place - more
less_away end place place' more le e = away_by end place place' more le e (room_is end place) (room_is end place')

back_by : (end place end' more : ℕ) → place ≤ end → end' ≡ end + more → RoomIs end place → RoomIs end' place → room_of end' place ≤ room_of end place - more
back_by end place end' more le e (inl h) (inl k) = omega (arith, h.0, h.1, k.0, k.1)
back_by end place end' more le e (inl h) (inr k) = omega (arith, h.0, h.1, k.0, k.1)
back_by end place end' more le e (inr h) (inl k) = omega (arith, h.0, h.1, k.0, k.1)
back_by end place end' more le e (inr h) (inr k) = omega (arith, h.0, h.1, k.0, k.1)

less_back : (end place end' more : ℕ) → place ≤ end → end' ≡ end + more → room_of end' place ≤ room_of end place - more
less_back end place end' more le e = back_by end place end' more le e (room_is end place) (room_is end' place)

pub room_less : (lens : List ℕ) (n more by : ℕ) (spot : Option ℕ) → n < length lens → GoesOver by spot n → room_at (place_in (set lens n (get_or lens n 0 + more))) by spot ≤ room_at (place_in lens) by spot - more
room_less lens n more by None within over = absurd over
room_less lens n more by (Some spot) within (inl over) =
    let y : ℕ = get_or lens n 0 + more in
    rw (place_before lens n y (by + 1) (omega arith)) (less_away (place_in lens (by + 1)) (place_in lens spot) (place_in (set lens n y) spot) more (in_order lens (by + 1) spot (omega arith)) (omega (arith, place_behind lens n y spot within over.1)))
room_less lens n more by (Some spot) within (inr over) =
    let y : ℕ = get_or lens n 0 + more in
    rw (place_before lens n y spot over.1) (less_back (place_in lens (by + 1)) (place_in lens spot) (place_in (set lens n y) (by + 1)) more (in_order lens spot (by + 1) (omega arith)) (omega (arith, place_behind lens n y (by + 1) within (omega arith))))

-- A span that has no room gets its longer form.

pub grown_rippling : (spans : List Span) (lens rooms : List ℕ) (n : ℕ) (s : Span) → slice_get spans n ≡ Some s → IsBelow spans lens → HasRooms (place_in lens) spans rooms → get_or rooms n 0 ≡ 0 → IsBelow spans (set lens n (s.least + s.more))
grown_rippling spans lens rooms n s is below have room =
    grown spans lens n s is below (λ other layout. forced spans lens other n s is (omega (arith, have n s is)) (below.below other layout) layout)

short_is : (a least more : ℕ) → (a ≡ least) ⊎ (a ≡ least + more) → a < least + more → a ≡ least
short_is a least more (inl h) short = h
short_is a least more (inr h) short = absurd (omega arith)

-- The loop that takes its growth from rooms: those that it has done are right for the new lengths, the others for the old ones
-- too.
pub record Taking (spans : List Span) (start lens rooms : List ℕ) (by : ℕ) : Type 0 where
  pub have : HasRooms (place_in lens) spans rooms
  pub rest : (k : ℕ) (s : Span) → by ≤ k → slice_get spans k ≡ Some s → room_at (place_in start) k s.spot ≤ get_or rooms k 0

pub taking_none : (spans : List Span) (start rooms : List ℕ) (n : ℕ) (s : Span) (by : ℕ) → slice_get spans n ≡ Some s → IsBelow spans start → get_or start n 0 < s.least + s.more → HasRooms (place_in start) spans rooms → Taking spans start (set start n (s.least + s.more)) rooms by
taking_none spans start rooms n s by is below short have =
    let within : n < length start = omega (arith, slice_get_within spans n s is, below.as_many) in
    record {
      have = rooms_kept spans start (set start n (s.least + s.more)) rooms (no_longer_set start n (s.least + s.more) within (omega arith)) have;
      rest = λ k t le there. have k t there;
    }

pub taking_stays : (spans : List Span) (start lens rooms : List ℕ) (by : ℕ) → Taking spans start lens rooms by → Taking spans start lens rooms (by + 1)
taking_stays spans start lens rooms by done = record { have = done.have; rest = λ k t le there. done.rest k t (omega arith) there }

taken_by : (spans : List Span) (start rooms : List ℕ) (n : ℕ) (s : Span) (by : ℕ) (over : Span) → slice_get spans n ≡ Some s → slice_get spans by ≡ Some over → IsBelow spans start → get_or start n 0 < s.least + s.more → GoesOver by over.spot n → by < length rooms → Taking spans start (set start n (s.least + s.more)) rooms by → (k : ℕ) (t : Span) → slice_get spans k ≡ Some t → (k ≡ by) ⊎ (k ≢ by) → room_at (place_in (set start n (s.least + s.more))) k t.spot ≤ get_or (set rooms by (get_or rooms by 0 - s.more)) k 0
taken_by spans start rooms n s by over is there below short goes in_rooms done k t at_k (inl e) =
    let within : n < length start = omega (arith, slice_get_within spans n s is, below.as_many) in
    let old : get_or start n 0 ≡ s.least = short_is (get_or start n 0) s.least s.more (below.chosen n s is) short in
    let at_by : slice_get spans by ≡ Some t = subst (λ (i : ℕ). slice_get spans i ≡ Some t) e at_k in
    let same : over ≡ t = same_Some over t (sym there ∙ at_by) in
    let less : room_at (place_in (set start n (get_or start n 0 + s.more))) by over.spot ≤ room_at (place_in start) by over.spot - s.more = room_less start n s.more by over.spot within goes in
    let less' : room_at (place_in (set start n (s.least + s.more))) by over.spot ≤ room_at (place_in start) by over.spot - s.more = subst (λ (x : ℕ). room_at (place_in (set start n (x + s.more))) by over.spot ≤ room_at (place_in start) by over.spot - s.more) old less in
    let before : room_at (place_in start) by over.spot ≤ get_or rooms by 0 = done.rest by over (omega arith) there in
    let now : room_at (place_in (set start n (s.least + s.more))) by over.spot ≤ get_or rooms by 0 - s.more = omega arith in
    let now' : room_at (place_in (set start n (s.least + s.more))) by t.spot ≤ get_or rooms by 0 - s.more = subst (λ (x : Span). room_at (place_in (set start n (s.least + s.more))) by x.spot ≤ get_or rooms by 0 - s.more) same now in
    rw (e, get_or-set_same rooms by (get_or rooms by 0 - s.more) 0 in_rooms) now'
taken_by spans start rooms n s by over is there below short goes in_rooms done k t at_k (inr ne) = omega (arith, get_or-set_other rooms by k (get_or rooms by 0 - s.more) 0 ne, done.have k t at_k)

rest_by : (spans : List Span) (start lens rooms : List ℕ) (by y k : ℕ) (t : Span) → Taking spans start lens rooms by → by + 1 ≤ k → slice_get spans k ≡ Some t → room_at (place_in start) k t.spot ≤ get_or (set rooms by y) k 0
rest_by spans start lens rooms by y k t done le there =
    let ne : k ≢ by = omega arith in
    omega (arith, get_or-set_other rooms by k y 0 ne, done.rest k t (omega arith) there)

pub taking_takes : (spans : List Span) (start rooms : List ℕ) (n : ℕ) (s : Span) (by : ℕ) (over : Span) → slice_get spans n ≡ Some s → slice_get spans by ≡ Some over → IsBelow spans start → get_or start n 0 < s.least + s.more → GoesOver by over.spot n → by < length rooms → Taking spans start (set start n (s.least + s.more)) rooms by → Taking spans start (set start n (s.least + s.more)) (set rooms by (get_or rooms by 0 - s.more)) (by + 1)
taking_takes spans start rooms n s by over is there below short goes in_rooms done = record {
  have = λ k t at_k. taken_by spans start rooms n s by over is there below short goes in_rooms done k t at_k (cases_eq k by);
  rest = λ k t le at_k. rest_by spans start (set start n (s.least + s.more)) rooms by (get_or rooms by 0 - s.more) k t done le at_k;
}
