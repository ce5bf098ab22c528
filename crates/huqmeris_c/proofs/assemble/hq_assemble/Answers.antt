use Rattle.std.proofs.Common.{◌≡◌, ◌∙◌, ℕ, ℤ, inl, inr, refl, sym, ap, subst, rules, Option, List, ◌++◌, drop, length, FitsSigned, w32}
use Rattle.std.proofs.lemmas.Int.{to_z-of_z}
use Rattle.cax64_sink.specs.declared.DeferredTarget.{DeferredTarget}
use Rattle.huqmeris_c.proofs.Settled.{either_full, finished_counted}
use Rattle.huqmeris_c.proofs.Untold.{unfinished_as}
use Rattle.huqmeris_c.specs.Items.{AssembledTo, Counted, NotAssembled, Unlisted}
use Rattle.huqmeris_c.proofs.Splits.{joined}
use Rattle.huqmeris_c.specs.Putting.{HasPlaces, Unfinished, traps_in}
use Rattle.x64_plain.specs.declared.status.TheConstants.{HQ_OUT_OF_RANGE}
use Rattle.huqmeris_c.specs.declared.item.HqItem.{HqItem}
use Rattle.x64_plain.specs.declared.told.HqUse.{HqUse}
use Rattle.huqmeris_c.specs.declared.progress.HqDone.{HqDone}
use Rattle.x64_code_buffer.specs.Buffer.{buffer_state, places_of}
use Rattle.huqmeris_c.proofs.assemble.hq_assemble.Goals as goal

pub returns-in-Err : goal.returns-in-Err
returns-in-Err c =
    let small : FitsSigned w32 c.in-Err.refused.status = search rules in
    inr (refl, refl, inl (subst (λ (z : ℤ). Unlisted c.args.items.now c.number_told-done.result z) (sym (to_z-of_z w32 c.in-Err.refused.status small)) (c.number_told-done.ensures c.args.items.now c.in-Err.ensures.refused), refl))

pub returns-then-code-bytes : goal.returns-then-code-bytes
returns-then-code-bytes c =
    let bytes : List ℕ = c.bytes-bytes.result.now in
    let heard : List HqUse = c.as_slice-told.result.now in
    let done : HqDone = record { items = length c.args.items.now; bytes = length bytes; uses = length heard } in
    let counted : Counted c.args.items.now done = finished_counted c.finish_in_place.result (length c.args.items.now) c.args.items.now heard done (buffer_state c.put_items.new.buffer) (places_of c.put_items.new.buffer) (buffer_state c.finish_in_place.new.self).bytes bytes (sym c.is_err.ensures.value ∙ c.if-is_err.false) c.in_default.ensures.put c.finish_in_place.ensures.laid c.finish_in_place.ensures.length c.finish_in_place.ensures.others c.bytes-bytes.ensures (c.as_slice-told.ensures.value ∙ c.in_default-list_traps.ensures.listed ∙ ap traps_in c.notices.ensures) refl refl refl in
    inr (refl, refl, inr (c.in_default.ensures.tested, inr (inr (refl, counted, either_full (length c.args.code.now) (length bytes) (length c.args.uses.now) (length heard) c.if-code-bytes.true))))

pub returns : goal.returns
returns c =
    let bytes : List ℕ = c.bytes-bytes.result.now in
    let heard : List HqUse = c.as_slice-told.result.now in
    let done : HqDone = record { items = length c.args.items.now; bytes = length bytes; uses = length heard } in
    let put : AssembledTo c.args.items.now c.args.code.now (bytes ++ drop (length bytes) c.args.code.now) c.args.uses.now (heard ++ drop (length heard) c.args.uses.now) done = record {
      counted = finished_counted c.finish_in_place.result (length c.args.items.now) c.args.items.now heard done (buffer_state c.put_items.new.buffer) (places_of c.put_items.new.buffer) (buffer_state c.finish_in_place.new.self).bytes bytes (sym c.is_err.ensures.value ∙ c.if-is_err.false) c.in_default.ensures.put c.finish_in_place.ensures.laid c.finish_in_place.ensures.length c.finish_in_place.ensures.others c.bytes-bytes.ensures (c.as_slice-told.ensures.value ∙ c.in_default-list_traps.ensures.listed ∙ ap traps_in c.notices.ensures) refl refl refl;
      front = refl;
      told = refl;
    } in
    let codes = subst (λ (l : List ℕ). AssembledTo c.args.items.now c.args.code.now (l ++ drop (length bytes) c.args.code.now) c.args.uses.now (heard ++ drop (length heard) c.args.uses.now) done) (sym c.copy_from_slice.ensures.after) put in
    inl (refl, c.in_default.ensures.tested, subst (λ (l : List HqUse). AssembledTo c.args.items.now c.args.code.now (c.copy_from_slice.new.self ++ drop (length bytes) c.args.code.now) c.args.uses.now (l ++ drop (length heard) c.args.uses.now) done) (sym c.copy_from_slice-2.ensures.after) codes)

pub unfinished-requires-clause-places : goal.unfinished-requires-clause-places
unfinished-requires-clause-places c = subst (λ (l : List HqItem). HasPlaces (places_of c.put_items.new.buffer) l) (joined c.args.items.now) c.in_default.ensures.put.are

pub unfinished-requires-then-is_err-clause-places : goal.unfinished-requires-then-is_err-clause-places
unfinished-requires-then-is_err-clause-places c =
    let same : places_of c.finish_in_place.new.self ≡ places_of c.put_items.new.buffer = λ i goes_to. c.finish_in_place.ensures.places goes_to i in
    subst (λ (p : DeferredTarget → Option ℕ). HasPlaces p c.args.items.now) (sym same) (subst (λ (l : List HqItem). HasPlaces (places_of c.put_items.new.buffer) l) (joined c.args.items.now) c.in_default.ensures.put.are)

pub returns-in-Err-list_traps : goal.returns-in-Err-list_traps
returns-in-Err-list_traps c =
    let small : FitsSigned w32 c.unfinished.result = search rules in
    let why : FitsSigned w32 c.in-Err-list_traps.status = search rules in
    let left : Unfinished c.args.items.now c.in-Err-list_traps.status c.unfinished.new.done c.unfinished.result = subst (λ (z : ℤ). Unfinished c.args.items.now z c.unfinished.new.done c.unfinished.result) (to_z-of_z w32 c.in-Err-list_traps.status why) c.unfinished.ensures in
    let told = unfinished_as c.args.items.now (length c.args.code.now) (length c.args.uses.now) c.in-Err-list_traps.status c.unfinished.result c.unfinished.new.done c.in_default.ensures.tested c.in-Err-list_traps.ensures.refused left in
    inr (refl, refl, subst (λ (z : ℤ). NotAssembled c.args.items.now (length c.args.code.now) (length c.args.uses.now) c.unfinished.new.done z) (sym (to_z-of_z w32 c.unfinished.result small)) told)

pub returns-then-is_err : goal.returns-then-is_err
returns-then-is_err c =
    let small : FitsSigned w32 c.unfinished-then-is_err.result = search rules in
    let told = unfinished_as c.args.items.now (length c.args.code.now) (length c.args.uses.now) HQ_OUT_OF_RANGE c.unfinished-then-is_err.result c.unfinished-then-is_err.new.done c.in_default.ensures.tested (inr refl) c.unfinished-then-is_err.ensures in
    inr (refl, refl, subst (λ (z : ℤ). NotAssembled c.args.items.now (length c.args.code.now) (length c.args.uses.now) c.unfinished-then-is_err.new.done z) (sym (to_z-of_z w32 c.unfinished-then-is_err.result small)) told)
