use Rattle.std.proofs.Common.{◌≡◌, ℕ, ◌+◌, ◌-◌, ◌<◌, ◌≤◌, ◌⊎◌, inl, inr, arith, leb, List, Option, Some, None, pos, ◌-ℤ◌}
use Rattle.std.specs.Prelude.{FitsSigned}
use Rattle.std.specs.Int.{w8}
use Rattle.std.proofs.lemmas.Bool.{cases_lt, cond-true, cond-false, le-leb, lt-leb}
use Rattle.std.proofs.lemmas.Int.{ints}
use Rattle.x64_layout.specs.Layout.{place_in, NoLonger, Reaches}
use Rattle.x64_layout.specs.Growing.{room_of, room_at}
use Rattle.x64_layout.proofs.Places.{gap_grows, in_order}

-- How much room a jump has.

-- a jump back, or to its end, and one away
abbrev pub RoomIs : ℕ → ℕ → Type 0
RoomIs end place = ((place ≤ end) × (room_of end place ≡ place + 129 - end)) ⊎ ((end < place) × (room_of end place ≡ end + 128 - place))

room_by : (end place : ℕ) → (end < place) ⊎ (place ≤ end) → RoomIs end place
room_by end place (inl lt) = inr (lt, cond-false (leb place end) (place + 129 - end) (end + 128 - place) (lt-leb place end lt))
room_by end place (inr le) = inl (le, cond-true (leb place end) (place + 129 - end) (end + 128 - place) (le-leb place end le))

pub room_is : (end place : ℕ) → RoomIs end place
room_is end place = room_by end place (cases_lt end place)

room_fits_by : (end place : ℕ) → FitsSigned w8 (pos place -ℤ pos end) → RoomIs end place → 0 < room_of end place
room_fits_by end place fits (inl h) = omega (arith, ints, h.0, h.1)
room_fits_by end place fits (inr h) = omega (arith, ints, h.0, h.1)

pub room_fits : (end place : ℕ) → FitsSigned w8 (pos place -ℤ pos end) → 0 < room_of end place
room_fits end place fits = room_fits_by end place fits (room_is end place)

fits_room_by : (end place : ℕ) → 0 < room_of end place → RoomIs end place → FitsSigned w8 (pos place -ℤ pos end)
fits_room_by end place room (inl h) = omega (arith, ints, h.0, h.1)
fits_room_by end place room (inr h) = omega (arith, ints, h.0, h.1)

pub fits_room : (end place : ℕ) → 0 < room_of end place → FitsSigned w8 (pos place -ℤ pos end)
fits_room end place room = fits_room_by end place room (room_is end place)

pub reaches_room : (place : ℕ → ℕ) (n : ℕ) (spot : Option ℕ) → Reaches place n spot → 0 < room_at place n spot
reaches_room place n None h = omega arith
reaches_room place n (Some spot) h = room_fits (place (n + 1)) (place spot) h

pub room_reaches : (place : ℕ → ℕ) (n : ℕ) (spot : Option ℕ) → 0 < room_at place n spot → Reaches place n spot
room_reaches place n None h = search arith
room_reaches place n (Some spot) h = fits_room (place (n + 1)) (place spot) h

-- It has no more where spans are longer.

away_by : (end place end' place' : ℕ) → end ≤ place → place + end' ≤ place' + end → RoomIs end place → RoomIs end' place' → room_of end' place' ≤ room_of end place
away_by end place end' place' le grows (inl h) (inl k) = omega (arith, h.0, h.1, k.0, k.1)
away_by end place end' place' le grows (inl h) (inr k) = omega (arith, h.0, h.1, k.0, k.1)
away_by end place end' place' le grows (inr h) (inl k) = omega (arith, h.0, h.1, k.0, k.1)
away_by end place end' place' le grows (inr h) (inr k) = omega (arith, h.0, h.1, k.0, k.1)

back_by : (end place end' place' : ℕ) → place ≤ end → end + place' ≤ end' + place → RoomIs end place → RoomIs end' place' → room_of end' place' ≤ room_of end place
back_by end place end' place' le grows (inl h) (inl k) = omega (arith, h.0, h.1, k.0, k.1)
back_by end place end' place' le grows (inl h) (inr k) = omega (arith, h.0, h.1, k.0, k.1)
back_by end place end' place' le grows (inr h) (inl k) = omega (arith, h.0, h.1, k.0, k.1)
back_by end place end' place' le grows (inr h) (inr k) = omega (arith, h.0, h.1, k.0, k.1)

away : (end place end' place' : ℕ) → end ≤ place → place + end' ≤ place' + end → room_of end' place' ≤ room_of end place
away end place end' place' le grows = away_by end place end' place' le grows (room_is end place) (room_is end' place')

back : (end place end' place' : ℕ) → place ≤ end → end + place' ≤ end' + place → room_of end' place' ≤ room_of end place
back end place end' place' le grows = back_by end place end' place' le grows (room_is end place) (room_is end' place')

falls_by : (a b : List ℕ) (n spot : ℕ) → NoLonger a b → (n < spot) ⊎ (spot ≤ n) → room_of (place_in b (n + 1)) (place_in b spot) ≤ room_of (place_in a (n + 1)) (place_in a spot)
falls_by a b n spot longer (inl lt) = away (place_in a (n + 1)) (place_in a spot) (place_in b (n + 1)) (place_in b spot) (in_order a (n + 1) spot (omega arith)) (gap_grows a b (n + 1) spot longer (omega arith))
falls_by a b n spot longer (inr le) = back (place_in a (n + 1)) (place_in a spot) (place_in b (n + 1)) (place_in b spot) (in_order a spot (n + 1) (omega arith)) (gap_grows a b spot (n + 1) longer (omega arith))

pub room_falls : (a b : List ℕ) (n : ℕ) (spot : Option ℕ) → NoLonger a b → room_at (place_in b) n spot ≤ room_at (place_in a) n spot
room_falls a b n None longer = omega arith
room_falls a b n (Some spot) longer = falls_by a b n spot longer (cases_lt n spot)
