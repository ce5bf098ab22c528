use Rattle.std.proofs.Common.{◌≡◌, ℕ, ◌+◌, List, [], ◌∷◌, ◌++◌, length, Bool, true, false, Result, Ok, Err, inl, inr, refl, sym, ◌∙◌, ap, append_assoc, arith, append-nil, length-append, add_assoc, subst, if◌then◌else◌}
use Rattle.cax64_sink.specs.Sink.{State}
use Rattle.cax64_sink.specs.Run.{Went, Ran, all_bytes, all_notices}
use Rattle.cax64_sink.specs.Call.{Action, Step, bytes_of, notice_of}
use Rattle.cax64_sink.specs.declared.SinkError.{SinkError}
use Rattle.cax64_sink.specs.declared.Notice.{Notice}

-- no call is a run
pub ran_none : (s : State) (r : Result (Unit {0}) SinkError) → r ≡ Ok tt → Ran [] s s r
unfolding Went
ran_none s r e = record { went = (e, refl) }

-- one call is a run
pub ran_one : {act : Action} {s t : State} {r : Result (Unit {0}) SinkError} → Step act s t r → Ran (act ∷ []) s t r
unfolding Went
ran_one {t = t} {r = Ok tt} h = record { went = inl (t, h, (refl, refl)) }
ran_one {r = Err e} h = record { went = inr (e, refl, h) }

-- a call that succeeded, and what follows it
pub ran_next : {act : Action} {acts : List Action} {s u t : State} {q r : Result (Unit {0}) SinkError} → Step act s u q → q ≡ Ok tt → Ran acts u t r → Ran (act ∷ acts) s t r
unfolding Went
ran_next {act} {acts} {s} {u} h e k = record { went = inl (u, rw e at h, k.went) }

-- a call that was refused
pub ran_halt : {act : Action} {s t : State} {q : Result (Unit {0}) SinkError} {e : SinkError} (acts : List Action) (r : Result (Unit {0}) SinkError) → Step act s t q → q ≡ Err e → r ≡ Err e → Ran (act ∷ acts) s t r
unfolding Went
ran_halt {act} {s} {t} {q} {e} acts r h was is = record { went = inr (e, is, rw was at h) }

went_append : (acts more : List Action) (s u t : State) (r : Result (Unit {0}) SinkError) → Went acts s u (Ok tt) → Went more u t r → Went (acts ++ more) s t r
unfolding Went
went_append [] more s u t r (_, e) k = subst (λ (x : State). Went more x t r) (sym e) k
went_append (act ∷ acts) more s u t r (inl (v, h, rest)) k = inl (v, h, went_append acts more v u t r rest k)
went_append (act ∷ acts) more s u t r (inr (e, bad, h)) k = cc

-- a run goes on after what succeeded
pub ran_append : {acts more : List Action} {s u t : State} {q r : Result (Unit {0}) SinkError} → Ran acts s u q → q ≡ Ok tt → Ran more u t r → Ran (acts ++ more) s t r
ran_append {acts} {more} {s} {u} {t} {q} {r} h e k = let j : Ran acts s u (Ok tt) = rw e at h in record { went = went_append acts more s u t r j.went k.went }

went_refused : (acts more : List Action) (s t : State) (e : SinkError) → Went acts s t (Err e) → Went (acts ++ more) s t (Err e)
unfolding Went
went_refused [] more s t e (bad, _) = cc
went_refused (act ∷ acts) more s t e (inl (v, h, rest)) = inl (v, h, went_refused acts more v t e rest)
went_refused (act ∷ acts) more s t e (inr (d, same, h)) = inr (d, same, h)

-- what is refused stays refused
pub ran_refused : {acts : List Action} {s t : State} {q : Result (Unit {0}) SinkError} {e : SinkError} (more : List Action) (r : Result (Unit {0}) SinkError) → Ran acts s t q → q ≡ Err e → r ≡ Err e → Ran (acts ++ more) s t r
ran_refused {acts} {s} {t} {q} {e} more r h was is = let j : Ran acts s t (Err e) = rw was at h in rw is (record { went = went_refused acts more s t e j.went })

went_bytes : (acts : List Action) (s t : State) → Went acts s t (Ok tt) → t.bytes ≡ s.bytes ++ all_bytes acts
unfolding Went
went_bytes [] s t (_, e) = rw e (sym (append-nil t.bytes))
went_bytes (act ∷ acts) s t (inl (u, h, rest)) = went_bytes acts u t rest ∙ ap (λ x. x ++ all_bytes acts) h.bytes ∙ append_assoc s.bytes (bytes_of act) (all_bytes acts)
went_bytes (act ∷ acts) s t (inr (e, bad, h)) = cc

-- the bytes after a run that succeeded
pub ran_bytes : {acts : List Action} {s t : State} {r : Result (Unit {0}) SinkError} → Ran acts s t r → r ≡ Ok tt → t.bytes ≡ s.bytes ++ all_bytes acts
ran_bytes {acts} {s} {t} h e = let j : Ran acts s t (Ok tt) = rw e at h in went_bytes acts s t j.went

went_offsets : (acts : List Action) (s t : State) (r : Result (Unit {0}) SinkError) → Went acts s t r → t.offsets ≡ s.offsets
unfolding Went
went_offsets [] s t r (_, e) = ap (λ x. x.offsets) (sym e)
went_offsets (act ∷ acts) s t r (inl (u, h, rest)) = went_offsets acts u t r rest ∙ h.offsets
went_offsets (act ∷ acts) s t r (inr (e, _, h)) = h.offsets

-- no call changes the offsets
pub ran_offsets : {acts : List Action} {s t : State} {r : Result (Unit {0}) SinkError} → Ran acts s t r → t.offsets ≡ s.offsets
ran_offsets {acts} {s} {t} {r} h = went_offsets acts s t r h.went

-- what is told by one call and by those after it, in a sink that records or doesn't
pub told_next : (records : Bool) (old mid new more rest : List Notice) → mid ≡ (if records then old ++ more else old) → new ≡ (if records then mid ++ rest else mid) → new ≡ (if records then old ++ (more ++ rest) else old)
told_next true old mid new more rest e k = k ∙ ap (λ x. x ++ rest) e ∙ append_assoc old more rest
told_next false old mid new more rest e k = k ∙ e

-- notices that are told after a first call stand after its bytes
pub notices_next : (act : Action) (acts : List Action) (s u t : State) → Step act s u (Ok tt) → t.notices ≡ (if u.records then u.notices ++ all_notices acts (length u.bytes) else u.notices) → t.notices ≡ (if s.records then s.notices ++ all_notices (act ∷ acts) (length s.bytes) else s.notices)
notices_next act acts s u t h k =
    let same : t.notices ≡ (if s.records then u.notices ++ all_notices acts (length s.bytes + length (bytes_of act)) else u.notices) =
    k ∙ ap (λ (b : Bool). if b then u.notices ++ all_notices acts (length u.bytes) else u.notices) h.records
    ∙ ap (λ (n : ℕ). if s.records then u.notices ++ all_notices acts n else u.notices) (ap length h.bytes ∙ length-append s.bytes (bytes_of act)) in
    told_next s.records s.notices u.notices t.notices (notice_of act (length s.bytes)) (all_notices acts (length s.bytes + length (bytes_of act))) h.notices same

-- nothing is told by no call
pub told_nothing : (records : Bool) (old new : List Notice) → new ≡ old → new ≡ (if records then old ++ [] else old)
told_nothing true old new e = e ∙ sym (append-nil old)
told_nothing false old new e = e

went_notices : (acts : List Action) (s t : State) → Went acts s t (Ok tt) → t.notices ≡ (if s.records then s.notices ++ all_notices acts (length s.bytes) else s.notices)
unfolding Went
went_notices [] s t (_, e) = told_nothing s.records s.notices t.notices (ap (λ x. x.notices) (sym e))
went_notices (act ∷ acts) s t (inl (u, h, rest)) = notices_next act acts s u t h (went_notices acts u t rest)
went_notices (act ∷ acts) s t (inr (e, bad, h)) = cc

-- the notices after a run that succeeded
pub ran_notices : {acts : List Action} {s t : State} {r : Result (Unit {0}) SinkError} → Ran acts s t r → r ≡ Ok tt → t.notices ≡ (if s.records then s.notices ++ all_notices acts (length s.bytes) else s.notices)
ran_notices {acts} {s} {t} h e = let j : Ran acts s t (Ok tt) = rw e at h in went_notices acts s t j.went

went_records : (acts : List Action) (s t : State) (r : Result (Unit {0}) SinkError) → Went acts s t r → t.records ≡ s.records
unfolding Went
went_records [] s t r (_, e) = ap (λ x. x.records) (sym e)
went_records (act ∷ acts) s t r (inl (u, h, rest)) = went_records acts u t r rest ∙ h.records
went_records (act ∷ acts) s t r (inr (e, _, h)) = h.records

-- no call changes whether the sink records
pub ran_records : {acts : List Action} {s t : State} {r : Result (Unit {0}) SinkError} → Ran acts s t r → t.records ≡ s.records
ran_records {acts} {s} {t} {r} h = went_records acts s t r h.went

went_answers : (acts : List Action) (s t : State) (r : Result (Unit {0}) SinkError) → Went acts s t r → t.answers ≡ s.answers
unfolding Went
went_answers [] s t r (_, e) = ap (λ x. x.answers) (sym e)
went_answers (act ∷ acts) s t r (inl (u, h, rest)) = went_answers acts u t r rest ∙ h.answers
went_answers (act ∷ acts) s t r (inr (e, _, h)) = h.answers

-- no call changes which errors the sink can answer
pub ran_answers : {acts : List Action} {s t : State} {r : Result (Unit {0}) SinkError} → Ran acts s t r → t.answers ≡ s.answers
ran_answers {acts} {s} {t} {r} h = went_answers acts s t r h.went

went_error : (acts : List Action) (s t : State) (e : SinkError) → Went acts s t (Err e) → s.answers e ≡ true
unfolding Went
went_error [] s t e (bad, _) = cc
went_error (act ∷ acts) s t e (inl (u, h, rest)) = ap (λ (f : SinkError → Bool). f e) (sym h.answers) ∙ went_error acts u t e rest
went_error (act ∷ acts) s t e (inr (d, same, h)) = let is : d ≡ e = cc in subst (λ (x : SinkError). s.answers x ≡ true) is h.error

-- a run is refused with an error that the sink can answer
pub ran_error : {acts : List Action} {s t : State} {r : Result (Unit {0}) SinkError} {e : SinkError} → Ran acts s t r → r ≡ Err e → s.answers e ≡ true
ran_error {acts} {s} {t} {r} {e} h is = let j : Ran acts s t (Err e) = rw is at h in went_error acts s t e j.went

pub all_bytes_append : (acts more : List Action) → all_bytes (acts ++ more) ≡ all_bytes acts ++ all_bytes more
all_bytes_append [] more = refl
all_bytes_append (act ∷ acts) more = ap (λ x. bytes_of act ++ x) (all_bytes_append acts more) ∙ sym (append_assoc (bytes_of act) (all_bytes acts) (all_bytes more))

pub all_notices_append : (acts more : List Action) (at : ℕ) → all_notices (acts ++ more) at ≡ all_notices acts at ++ all_notices more (at + length (all_bytes acts))
all_notices_append [] more at = ap (all_notices more) (omega arith)
all_notices_append (act ∷ acts) more at =
    let next : ℕ = at + length (bytes_of act) in
    let place : next + length (all_bytes acts) ≡ at + length (bytes_of act ++ all_bytes acts) =
    add_assoc at (length (bytes_of act)) (length (all_bytes acts)) ∙ ap (λ n. at + n) (sym (length-append (bytes_of act) (all_bytes acts))) in
    ap (λ x. notice_of act at ++ x) (all_notices_append acts more next)
    ∙ sym (append_assoc (notice_of act at) (all_notices acts next) (all_notices more (next + length (all_bytes acts))))
    ∙ ap (λ n. (notice_of act at ++ all_notices acts next) ++ all_notices more n) place

went_front : (acts : List Action) (s t : State) (r : Result (Unit {0}) SinkError) → Went acts s t r → (c : List ℕ) × (t.bytes ≡ s.bytes ++ c)
unfolding Went
went_front [] s t r (_, e) = ([], rw e (sym (append-nil t.bytes)))
went_front (act ∷ acts) s t r (inl (u, h, rest)) = let k = went_front acts u t r rest in (bytes_of act ++ k.0, k.1 ∙ ap (λ x. x ++ k.0) h.bytes ∙ append_assoc s.bytes (bytes_of act) k.0)
went_front (act ∷ acts) s t r (inr (e, _, h)) = ([], h.bytes ∙ sym (append-nil s.bytes))

-- whatever a run answers, the old bytes still stand at the front
pub ran_front : {acts : List Action} {s t : State} {r : Result (Unit {0}) SinkError} → Ran acts s t r → (c : List ℕ) × (t.bytes ≡ s.bytes ++ c)
ran_front {acts} {s} {t} {r} h = went_front acts s t r h.went
