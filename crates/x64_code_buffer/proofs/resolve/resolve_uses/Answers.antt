use Rattle.std.proofs.Common.{◌≡◌, ◌≤◌, ◌∙◌, arith, ap, ℕ, List, length, get_or, None}
use Rattle.cax64_sink.specs.Sink.{State}
use Rattle.x64_code_buffer.specs.Binding.{place_bound}
use Rattle.x64_code_buffer.specs.Patching.{all_patched}
use Rattle.x64_code_buffer.specs.Use.{uses_of, first_refusal}
use Rattle.x64_code_buffer.proofs.Finished.{settle}
use Rattle.x64_code_buffer.proofs.Patched.{all_length, all_others, all_fields, refused, is_first}
use Rattle.x64_code_buffer.proofs.Settling.{each_apart}
use Rattle.cax64_sink.specs.Recorder.{recorder_state}
use Rattle.x64_code_buffer.specs.Laid.{whole_pieces}
use Rattle.x64_code_buffer.proofs.Pieces.{filled_is_laid, laid_out_is_finished}
use Rattle.x64_code_buffer.proofs.resolve.resolve_uses.Goals as goal

pub returns-in-Some-clause-ok : goal.returns-in-Some-clause-ok
returns-in-Some-clause-ok g c = refused _ c.in-Some.error (is_first (place_bound c.args.bindings.now) _ _ _ _ c.bytes.ensures c.notices.ensures c.first_refusal-refused.ensures ∙ c.in-Some.is)

pub returns-clause-length : goal.returns-clause-length
returns-clause-length g c =
    let s = c.args.recorder.now in
    let all : c.patch_uses.new.recorder.code.items ≡ all_patched (place_bound c.args.bindings.now) s.code.items (uses_of s.told.items) = ap (λ (z : State). z.bytes) c.patch_uses.ensures in
    ap length all ∙ all_length (place_bound c.args.bindings.now) s.code.items (uses_of s.told.items)

pub returns-clause-fields : goal.returns-clause-fields
returns-clause-fields g c apart =
    let s = c.args.recorder.now in
    let all : c.patch_uses.new.recorder.code.items ≡ all_patched (place_bound c.args.bindings.now) s.code.items (uses_of s.told.items) = ap (λ (z : State). z.bytes) c.patch_uses.ensures in
    let none : first_refusal (place_bound c.args.bindings.now) s.code.items (uses_of s.told.items) ≡ None = is_first (place_bound c.args.bindings.now) _ _ _ _ c.bytes.ensures c.notices.ensures c.first_refusal-refused.ensures ∙ c.in_default.is in
    rw all (all_fields (place_bound c.args.bindings.now) s.code.items (uses_of s.told.items) apart none)

pub returns-clause-others : goal.returns-clause-others
returns-clause-others g c i outside =
    let s = c.args.recorder.now in
    let all : c.patch_uses.new.recorder.code.items ≡ all_patched (place_bound c.args.bindings.now) s.code.items (uses_of s.told.items) = ap (λ (z : State). z.bytes) c.patch_uses.ensures in
    ap (λ (z : List ℕ). get_or z i 0) all ∙ all_others (place_bound c.args.bindings.now) s.code.items (uses_of s.told.items) i outside

pub returns-clause-laid : goal.returns-clause-laid
returns-clause-laid g c pieces n h =
    let s = c.args.recorder.now in
    let old : List ℕ = s.code.items in
    let new : List ℕ = c.patch_uses.new.recorder.code.items in
    let length_is = returns-clause-length g c in
    let within : n ≤ length old = h.within in
    let all = settle (place_bound c.args.bindings.now) n old new within (omega arith) pieces 0 (uses_of s.told.items) (omega arith) h.reads h.opened h.told
    (λ i low outside. returns-clause-others g c i outside)
    (returns-clause-fields g c (each_apart pieces 0 (uses_of s.told.items) _ h.reads h.opened h.told)) in
    record { now = all.now; reads = all.reads; settled = all.settled }

pub returns-clause-finished : goal.returns-clause-finished
returns-clause-finished g c readings n h =
    let s = recorder_state c.args.recorder.now in
    let places = place_bound c.args.bindings.now in
    laid_out_is_finished readings n s places c.patch_uses.new.recorder.code.items (returns-clause-laid g c (whole_pieces readings) n (filled_is_laid readings n s places h))
