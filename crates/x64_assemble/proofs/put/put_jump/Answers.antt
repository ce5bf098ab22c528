use Rattle.std.proofs.Common.{◌≡◌, ◌≢◌, ℕ, ◌+◌, ◌≤◌, arith, ◌∙◌, ap, sym, subst, Option, Some, None, List, length, ℤ, pos, ◌-ℤ◌, ◌<◌, ◌^◌, to_z, of_z}
use Rattle.std.specs.Int.{w8, w32, w64}
use Rattle.std.proofs.lemmas.List.Sums.{sum_by-take-le}
use Rattle.std.specs.Prelude.{IfSome, slice_index}
use Rattle.cax64_sink.specs.Sink.{State}
use Rattle.x64_code_buffer.specs.Buffer.{buffer_state, places_of}
use Rattle.x64_layout.specs.Layout.{Stands, place_in}
use Rattle.x64_assemble.specs.Assembled.{JumpReads, distance_in, jump_told, span_of}
use Rattle.x64_assemble.specs.Listed.{GotEntry}
use Rattle.x64_assemble.proofs.Entries.{far_stands, near_stands, open_len}
use Rattle.x64_assemble.proofs.Steps.{far_is, given_ok, got_far, got_near, got_open, near_is}
use Rattle.x64_assemble.proofs.put.put_jump.Goals as goal

pub returns-in_default-clause-got : goal.returns-in_default-clause-got
returns-in_default-clause-got g c =
    let lens : List ℕ = c.args.lens.now in
    let n : ℕ = c.args.n in
    let s : State = buffer_state c.args.buffer.now in
    let t : State = buffer_state c.push_long_jump.new.self in
    let none : c.args.spot ≡ None = c.in_default.is in
    let stands : Stands lens n (span_of c.args.jump None) (slice_index lens n) = subst (λ (o : Option ℕ). Stands lens n (span_of c.args.jump o) (slice_index lens n)) none c.requires.stands in
    let put = c.push_long_jump.ensures in
    let ok = c.unwrap.ensures in
    subst (λ (o : Option ℕ). GotEntry (JumpReads lens n c.args.jump o) (jump_told o c.args.label) (slice_index lens n) s t (places_of c.args.buffer.now) (places_of c.push_long_jump.new.self)) (sym none)
    (got_open c.args.jump c.args.label lens n s t (places_of c.args.buffer.now) (places_of c.push_long_jump.new.self) (open_len c.args.jump lens n stands)
    (given_ok c.push_long_jump.result _ ok put.adds) put.places put.keeps put.byte_room put.notice_room
    (λ pieces h. given_ok c.push_long_jump.result _ ok (put.laid pieces h)))

pub returns-then-lens-n-eq2-clause-got : goal.returns-then-lens-n-eq2-clause-got
returns-then-lens-n-eq2-clause-got g c =
    let lens : List ℕ = c.args.lens.now in
    let n : ℕ = c.args.n in
    let spot : ℕ = c.in-Some.spot in
    let s : State = buffer_state c.args.buffer.now in
    let t : State = buffer_state c.push_near.new.self in
    let e : c.args.spot ≡ Some spot = c.in-Some.is in
    let stands : Stands lens n (span_of c.args.jump (Some spot)) (slice_index lens n) = subst (λ (o : Option ℕ). Stands lens n (span_of c.args.jump o) (slice_index lens n)) e c.requires.stands in
    let in_lens : spot ≤ length lens = subst (λ (o : Option ℕ). IfSome o (λ (k : ℕ). k ≤ length lens)) e c.requires.spot in
    let to_at : slice_index c.args.places.now spot ≡ place_in lens spot = c.requires.places spot in_lens in
    let from_at : slice_index c.args.places.now (n + 1) ≡ place_in lens (n + 1) = c.requires.places (n + 1) (omega (arith, c.requires.within)) in
    let z : ℤ = to_z w8 (of_z w8 (to_z w64 (of_z w64 (to_z w64 (of_z w64 c.from.result) -ℤ to_z w64 (of_z w64 c.from-2.result))))) in
    let first : c.from.result ≡ pos (place_in lens spot) = c.from.ensures ∙ ap (λ (k : ℕ). pos k) to_at in
    let second : c.from-2.result ≡ pos (place_in lens (n + 1)) = c.from-2.ensures ∙ ap (λ (k : ℕ). pos k) from_at in
    let two : slice_index lens n ≡ 2 = c.if-lens-n-eq2.true in
    let to_small : place_in lens spot < 2 ^ 31 = omega (arith, c.requires.small, sum_by-take-le (λ (x : ℕ). x) lens spot) in
    let from_small : place_in lens (n + 1) < 2 ^ 31 = omega (arith, c.requires.small, sum_by-take-le (λ (x : ℕ). x) lens (n + 1)) in
    let same : z ≡ distance_in lens n spot = near_is (place_in lens spot) (place_in lens (n + 1)) c.from.result c.from-2.result first second to_small from_small (near_stands c.args.jump lens n spot stands two).1 in
    let put = c.push_near.ensures in
    let ok = c.unwrap-then-lens-n-eq2.ensures in
    subst (λ (o : Option ℕ). GotEntry (JumpReads lens n c.args.jump o) (jump_told o c.args.label) (slice_index lens n) s t (places_of c.args.buffer.now) (places_of c.push_near.new.self)) (sym e)
    (got_near c.args.jump c.args.label lens n spot z s t (places_of c.args.buffer.now) (places_of c.push_near.new.self) (near_stands c.args.jump lens n spot stands two).0 two same
    (given_ok c.push_near.result _ ok put.adds) put.places put.keeps put.byte_room put.notice_room
    (λ pieces h. given_ok c.push_near.result _ ok (put.laid pieces h)))

pub returns-else-lens-n-eq2-clause-got : goal.returns-else-lens-n-eq2-clause-got
returns-else-lens-n-eq2-clause-got g c =
    let lens : List ℕ = c.args.lens.now in
    let n : ℕ = c.args.n in
    let spot : ℕ = c.in-Some.spot in
    let s : State = buffer_state c.args.buffer.now in
    let t : State = buffer_state c.push_far.new.self in
    let e : c.args.spot ≡ Some spot = c.in-Some.is in
    let stands : Stands lens n (span_of c.args.jump (Some spot)) (slice_index lens n) = subst (λ (o : Option ℕ). Stands lens n (span_of c.args.jump o) (slice_index lens n)) e c.requires.stands in
    let in_lens : spot ≤ length lens = subst (λ (o : Option ℕ). IfSome o (λ (k : ℕ). k ≤ length lens)) e c.requires.spot in
    let to_at : slice_index c.args.places.now spot ≡ place_in lens spot = c.requires.places spot in_lens in
    let from_at : slice_index c.args.places.now (n + 1) ≡ place_in lens (n + 1) = c.requires.places (n + 1) (omega (arith, c.requires.within)) in
    let z : ℤ = to_z w32 (of_z w32 (to_z w64 (of_z w64 (to_z w64 (of_z w64 c.from.result) -ℤ to_z w64 (of_z w64 c.from-2.result))))) in
    let first : c.from.result ≡ pos (place_in lens spot) = c.from.ensures ∙ ap (λ (k : ℕ). pos k) to_at in
    let second : c.from-2.result ≡ pos (place_in lens (n + 1)) = c.from-2.ensures ∙ ap (λ (k : ℕ). pos k) from_at in
    let not_two : slice_index lens n ≢ 2 = c.if-lens-n-eq2.false in
    let to_small : place_in lens spot < 2 ^ 31 = omega (arith, c.requires.small, sum_by-take-le (λ (x : ℕ). x) lens spot) in
    let from_small : place_in lens (n + 1) < 2 ^ 31 = omega (arith, c.requires.small, sum_by-take-le (λ (x : ℕ). x) lens (n + 1)) in
    let same : z ≡ distance_in lens n spot = far_is (place_in lens spot) (place_in lens (n + 1)) c.from.result c.from-2.result first second to_small from_small in
    let put = c.push_far.ensures in
    let ok = c.unwrap-else-lens-n-eq2.ensures in
    subst (λ (o : Option ℕ). GotEntry (JumpReads lens n c.args.jump o) (jump_told o c.args.label) (slice_index lens n) s t (places_of c.args.buffer.now) (places_of c.push_far.new.self)) (sym e)
    (got_far c.args.jump c.args.label lens n spot z s t (places_of c.args.buffer.now) (places_of c.push_far.new.self) (far_stands c.args.jump lens n spot stands not_two) same
    (given_ok c.push_far.result _ ok put.adds) put.places put.keeps put.byte_room put.notice_room
    (λ pieces h. given_ok c.push_far.result _ ok (put.laid pieces h)))
