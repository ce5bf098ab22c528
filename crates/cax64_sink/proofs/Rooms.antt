use Rattle.std.proofs.Common.{◌≡◌, ℕ, ◌+◌, ◌-◌, ◌≤◌, List, [], ◌∷◌, ◌++◌, length, Result, Ok, Err, inl, inr, refl, ◌∙◌, ap, arith, subst, length-append, length-take, IsOk, ◌↔◌}
use Rattle.cax64_sink.specs.Room.{Room, HasRoom, FallsBy, endless, count}
use Rattle.cax64_sink.specs.Sink.{State}
use Rattle.cax64_sink.specs.Run.{Went, Ran, byte_total, notice_total, all_bytes, all_notices}
use Rattle.cax64_sink.specs.Call.{Action, bytes_of, notice_count_of, notice_of, put, trap, target}
use Rattle.cax64_sink.specs.FixedSink.{fixed_sink_state}
use Rattle.cax64_sink.specs.declared.SinkError.{SinkError}
use Rattle.cax64_sink.specs.declared.fixed_sink.FixedSink.{FixedSink}
use Rattle.cax64_sink.proofs.Runs.{ran_bytes}

-- where there is room for more there is room for less
pub less_room : (r : Room) (more less : ℕ) → less ≤ more → HasRoom r more → HasRoom r less
less_room endless more less h k = tt
less_room (count m) more less h k = omega arith

went_succeeds : (acts : List Action) (s t : State) (r : Result (Unit {0}) SinkError) → Went acts s t r → HasRoom s.byte_room (byte_total acts) → HasRoom s.notice_room (notice_total acts) → IsOk r
unfolding Went
went_succeeds [] s t r (e, _) hb hn = rw e refl
went_succeeds (act ∷ acts) s t r (inl (u, h, rest)) hb hn = went_succeeds acts u t r rest (h.byte_room (byte_total acts) hb) (h.notice_room (notice_total acts) hn)
went_succeeds (act ∷ acts) s t r (inr (e, is, h)) hb hn =
    rw is (h.succeeds (less_room s.byte_room (byte_total acts + length (bytes_of act)) (length (bytes_of act)) (omega arith) hb) (less_room s.notice_room (notice_total acts + notice_count_of act) (notice_count_of act) (omega arith) hn))

-- a run with room for all of it is not refused
pub ran_succeeds : {acts : List Action} {s t : State} {r : Result (Unit {0}) SinkError} → Ran acts s t r → HasRoom s.byte_room (byte_total acts) → HasRoom s.notice_room (notice_total acts) → IsOk r
ran_succeeds {acts} {s} {t} {r} h hb hn = went_succeeds acts s t r h.went hb hn

-- a room that doesn't change falls by nothing
pub falls_by_none : (r : Room) → FallsBy r r 0
falls_by_none r k h = less_room r (k + 0) k (omega arith) h

-- one fall after another
falls_next : (r q p : Room) (m n : ℕ) → FallsBy r q n → FallsBy q p m → FallsBy r p (m + n)
falls_next r q p m n first second k h = second k (first (k + m) (less_room r (k + (m + n)) ((k + m) + n) (omega arith) h))

-- a fall by at most so many is one by at most more
falls_more : (r q : Room) (m n : ℕ) → FallsBy r q n → FallsBy r q (m + n)
falls_more r q m n fall k h = fall k (less_room r (k + (m + n)) (k + n) (omega arith) h)

went_byte_room : (acts : List Action) (s t : State) (r : Result (Unit {0}) SinkError) → Went acts s t r → FallsBy s.byte_room t.byte_room (byte_total acts)
unfolding Went
went_byte_room [] s t r (_, e) = subst (λ (x : State). FallsBy s.byte_room x.byte_room 0) e (falls_by_none s.byte_room)
went_byte_room (act ∷ acts) s t r (inl (u, h, rest)) = falls_next s.byte_room u.byte_room t.byte_room (byte_total acts) (length (bytes_of act)) h.byte_room (went_byte_room acts u t r rest)
went_byte_room (act ∷ acts) s t r (inr (e, is, h)) = falls_more s.byte_room t.byte_room (byte_total acts) (length (bytes_of act)) h.byte_room

-- a run lowers the byte room by at most its bytes, whatever it answers
pub ran_byte_room : {acts : List Action} {s t : State} {r : Result (Unit {0}) SinkError} → Ran acts s t r → FallsBy s.byte_room t.byte_room (byte_total acts)
ran_byte_room {acts} {s} {t} {r} h = went_byte_room acts s t r h.went

went_notice_room : (acts : List Action) (s t : State) (r : Result (Unit {0}) SinkError) → Went acts s t r → FallsBy s.notice_room t.notice_room (notice_total acts)
unfolding Went
went_notice_room [] s t r (_, e) = subst (λ (x : State). FallsBy s.notice_room x.notice_room 0) e (falls_by_none s.notice_room)
went_notice_room (act ∷ acts) s t r (inl (u, h, rest)) = falls_next s.notice_room u.notice_room t.notice_room (notice_total acts) (notice_count_of act) h.notice_room (went_notice_room acts u t r rest)
went_notice_room (act ∷ acts) s t r (inr (e, is, h)) = falls_more s.notice_room t.notice_room (notice_total acts) (notice_count_of act) h.notice_room

-- a run lowers the notice room by at most its notices, whatever it answers
pub ran_notice_room : {acts : List Action} {s t : State} {r : Result (Unit {0}) SinkError} → Ran acts s t r → FallsBy s.notice_room t.notice_room (notice_total acts)
ran_notice_room {acts} {s} {t} {r} h = went_notice_room acts s t r h.went

pub size_is_length : (acts : List Action) → byte_total acts ≡ length (all_bytes acts)
size_is_length [] = refl
size_is_length (act ∷ acts) = omega (arith, size_is_length acts, length-append (bytes_of act) (all_bytes acts))

pub size_append : (acts more : List Action) → byte_total (acts ++ more) ≡ byte_total acts + byte_total more
size_append [] more = omega arith
size_append (act ∷ acts) more = omega (arith, size_append acts more)

notes_of_is_length : (act : Action) (at : ℕ) → notice_count_of act ≡ length (notice_of act at)
notes_of_is_length (put bytes) at = refl
notes_of_is_length (trap code) at = refl
notes_of_is_length (target t) at = refl

pub notes_is_length : (acts : List Action) (at : ℕ) → notice_total acts ≡ length (all_notices acts at)
notes_is_length [] at = refl
notes_is_length (act ∷ acts) at =
    let next : ℕ = at + length (bytes_of act) in
    let here : notice_count_of act ≡ length (notice_of act at) = notes_of_is_length act at in
    let later : notice_total acts ≡ length (all_notices acts next) = notes_is_length acts next in
    let both : length (notice_of act at ++ all_notices acts next) ≡ length (notice_of act at) + length (all_notices acts next) = length-append (notice_of act at) (all_notices acts next) in
    omega arith

pub notes_append : (acts more : List Action) → notice_total (acts ++ more) ≡ notice_total acts + notice_total more
notes_append [] more = omega arith
notes_append (act ∷ acts) more = omega (arith, notes_append acts more)

-- what a fixed sink holds is within its size
pub bytes_fit : {N : ℕ} (s : FixedSink N) → length (fixed_sink_state s).bytes ≤ N
bytes_fit {N = N} s = let h : s.len ≤ N = s.within in grind (arith, length-take)

went_fits : {N : ℕ} (acts : List Action) (s t : FixedSink N) → Ran acts (fixed_sink_state s) (fixed_sink_state t) (Ok tt) → byte_total acts ≤ N - length (fixed_sink_state s).bytes
went_fits {N = N} acts s t h =
    let old : List ℕ = (fixed_sink_state s).bytes in
    let new : List ℕ = (fixed_sink_state t).bytes in
    let sum : length new ≡ length old + length (all_bytes acts) = ap length (ran_bytes h refl) ∙ length-append old (all_bytes acts) in
    let all : byte_total acts ≡ length (all_bytes acts) = size_is_length acts in
    let fit : length new ≤ N = bytes_fit t in
    omega arith

-- a fixed sink takes a run exactly where its bytes fit in what is left
pub ran_fits : {N : ℕ} {acts : List Action} {r : Result (Unit {0}) SinkError} (s t : FixedSink N) → Ran acts (fixed_sink_state s) (fixed_sink_state t) r → IsOk r ↔ (byte_total acts ≤ N - length (fixed_sink_state s).bytes)
ran_fits {N = N} {acts = acts} {r = Ok tt} s t h = (λ _. went_fits acts s t h, λ _. refl)
ran_fits {N = N} {acts = acts} {r = Err e} s t h = (λ (bad : IsOk {T = Unit {0}} (Err e)). cc, λ fit. ran_succeeds h fit tt)
