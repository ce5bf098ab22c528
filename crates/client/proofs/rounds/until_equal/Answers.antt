use Rattle.std.proofs.Common.{◌≡◌, ◌∙◌, ap, refl, sym, subst, ℕ, ℤ, Option, Some, None, List, [], ◌∷◌, ◌+◌, ◌-◌, length, length-append}
use Rattle.std.specs.Prelude.{IfSome}
use Rattle.cranelift_assembler_x64.specs.Meant.{Meant}
use Rattle.cranelift_assembler_x64.specs.Relative.{relative_in}
use Rattle.cranelift_assembler_x64.specs.Sink.{State}
use Rattle.cranelift_assembler_x64.specs.declared.DeferredTarget.TheVariants as target
use Rattle.x64_code_buffer.specs.Buffer.{buffer_state, places_of}
use Rattle.cranelift_assembler_x64.specs.Rows.{line_of}
use Rattle.cranelift_assembler_x64.specs.declared.DeferredTarget.{DeferredTarget}
use Rattle.x64_code_buffer.specs.Jump.{AddsNear, jump_parts, near_distance, short_row}
use Rattle.x64_code_buffer.specs.Laid.{Laid, LaidOn, Piece, led_to, open_jump, whole}
use Rattle.x64_code_buffer.specs.declared.jump.Condition.TheVariants.{E}
use Rattle.x64_code_buffer.specs.declared.jump.Jump.TheVariants.{Always, If}
use Rattle.client.proofs.Round.{at_some, either, goes_round, goes_round_near, leads_back, near_len, none_near, none_told, one_use, other_label, two_uses}
use Rattle.client.proofs.rounds.until_equal.Goals as goal

pub returns-in-Ok-finish : goal.returns-in-Ok-finish
returns-in-Ok-finish g c =
    let s0 = buffer_state c.args.buffer in
    let s2 = buffer_state c.new_label-2.new.self in
    let s3 = buffer_state c.bind.new.self in
    let s4 = buffer_state c.push_jump.new.self in
    let s5 = buffer_state c.push.new.self in
    let s6 = buffer_state c.push_jump-2.new.self in
    let s7 = buffer_state c.bind-2.new.self in
    let places = places_of c.bind-2.new.self in
    let top = c.in_ok-top.top in
    let end = c.in_ok-end.end in
    let n = length s6.bytes in
    let before : s3 ≡ s0 = c.bind.ensures.state ∙ c.new_label-2.ensures.state ∙ c.new_label.ensures.state in
    let l2 = c.new_label-2.ensures.filled.laid [] 0 (c.new_label.ensures.filled.laid [] 0 c.requires.laid) in
    let l3 : Laid [] 0 s3 (places_of c.bind.new.self) = c.bind.ensures.filled.laid [] 0 l2 in
    let none : length s3.bytes ≡ 0 = ap (λ (z : State). length z.bytes) before ∙ ap length c.requires.empty in
    let two : end.0 ≡ top.0 + 1 = c.in_ok-end.ensures.number ∙ c.in_ok-top.ensures.labels ∙ ap (λ (k : ℕ). k + 1) (sym c.in_ok-top.ensures.number) in
    let apart : ◌≡◌ {A = DeferredTarget} (target.Label end) (target.Label top) → ⊥ = λ e. other_label top end top.0 refl two (sym e) in
    let open_end : places_of c.bind.new.self (target.Label end) ≡ None =
    c.in-Ok.ensures.binds.others (target.Label end) apart ∙ c.new_label-2.ensures.places (target.Label end) ∙ c.new_label.ensures.places (target.Label end) ∙ c.requires.free (target.Label end) in
    let forward = none_near (If E) (places_of c.bind.new.self (target.Label end)) (length s3.bytes) open_end in
    let on1 = c.in_ok-push_jump.ensures.laid_far [] (subst (λ (k : ℕ). Laid [] k s3 (places_of c.bind.new.self)) (sym none) l3) forward in
    let on2 = c.in_ok-push.ensures.laid (open_jump on1.reading ∷ []) on1.laid in
    let offsets : s4.offsets ≡ s0.offsets = c.push_jump.ensures.keeps.offsets ∙ ap (λ (z : State). z.offsets) before in
    let meant : (ℕ → Option ℤ) → Meant g.row.I-Family-ReadGpr.Denot = g.I.Instruction.meant c.args.body.now in
    let plain : relative_in on2.reading.place ≡ None = ap (λ p. relative_in p.place) on2.same ∙ ap (λ (o : ℕ → Option ℤ). relative_in (meant o).parts.place) offsets ∙ c.requires.place in
    let memory : (meant s4.offsets).memory ≡ None = ap (λ (o : ℕ → Option ℤ). (meant o).memory) offsets ∙ c.requires.memory in
    let adds = c.in_ok-push.ensures.adds in
    let first = c.in_ok-push_jump.ensures.far forward in
    let same : s7 ≡ s6 = c.bind-2.ensures.state in
    let end_at : places (target.Label end) ≡ Some n = c.in-Ok-bind.ensures.binds.bound in
    let begun : length s2.bytes ≡ 0 = ap (λ (z : State). length z.bytes) (c.new_label-2.ensures.state ∙ c.new_label.ensures.state) ∙ ap length c.requires.empty in
    let top_there : places_of c.push.new.self (target.Label top) ≡ Some 0 =
    c.push.ensures.places (target.Label top)
    ∙ c.push_jump.ensures.places (target.Label top)
    ∙ c.in-Ok.ensures.binds.bound
    ∙ ap (λ (k : ℕ). Some k) begun in
    let top_at : places (target.Label top) ≡ Some 0 = c.in-Ok-bind.ensures.binds.others (target.Label top) (other_label top end top.0 refl two) ∙ c.push_jump-2.ensures.places (target.Label top) ∙ top_there in
    let len : n ≡ length c.in-Ok-finish.code.items = ap (λ (z : State). length z.bytes) (sym same) ∙ sym c.in-Ok-finish.ensures.length in
    let none_of_body = none_told (meant s4.offsets).memory (length s4.bytes) adds.reads.reading memory in
    let back = c.in_ok-push_jump-2.ensures in
    let reach : Option ℤ = near_distance Always (places_of c.push.new.self (target.Label top)) (length s5.bytes) in
    either reach
    (λ is.
    let on3 = back.laid_far (open_jump on1.reading ∷ whole on2.reading ∷ []) on2.laid is in
    let last = back.far is in
    let pieces : List Piece = open_jump on1.reading ∷ whole on2.reading ∷ open_jump on3.reading ∷ [] in
    let l7 : Laid pieces n s7 places = c.bind-2.ensures.filled.laid pieces n on3.laid in
    let uses = two_uses s3.notices s4.notices s5.notices s7.notices _ (length s3.bytes + length first.added - 4) (length s5.bytes + length last.added - 4) (target.Label end) (target.Label top) l3.told first.notices adds.notices none_of_body (ap (λ (z : State). z.notices) same ∙ last.notices) in
    goes_round places top end _ _ n on1.reading on2.reading on3.reading s7 c.in-Ok-finish.code.items plain len end_at top_at uses (c.in-Ok-finish.ensures.laid pieces n l7))
    (λ d is.
    let near : AddsNear Always d s5 s6 = at_some (λ (z : ℤ). AddsNear Always z s5 s6) reach d is back.near in
    let on3 = at_some (λ (z : ℤ). IfSome (short_row Always) (λ row. LaidOn whole (jump_parts (line_of row) z) (open_jump on1.reading ∷ whole on2.reading ∷ []) s6 (places_of c.push_jump-2.new.self))) reach d is (back.laid_near (open_jump on1.reading ∷ whole on2.reading ∷ []) on2.laid) in
    let pieces : List Piece = open_jump on1.reading ∷ whole on2.reading ∷ whole on3.reading ∷ [] in
    let l7 : Laid pieces n s7 places = c.bind-2.ensures.filled.laid pieces n on3.laid in
    let uses = one_use s3.notices s4.notices s5.notices s7.notices _ (length s3.bytes + length first.added - 4) (target.Label end) l3.told first.notices adds.notices none_of_body (ap (λ (z : State). z.notices) same ∙ near.notices) in
    let size : n ≡ length s5.bytes + 2 = ap length near.bytes ∙ length-append s5.bytes near.added ∙ ap (λ (k : ℕ). length s5.bytes + k) (near.length ∙ near_len d) in
    let led = ap (led_to (Some d)) size ∙ leads_back (places_of c.push.new.self (target.Label top)) (length s5.bytes) d top_there is in
    goes_round_near places end _ n d on1.reading on2.reading on3.reading s7 c.in-Ok-finish.code.items plain (ap (λ p. relative_in p.place) on3.same) (ap (λ p. p.imm) on3.same) len led end_at uses (c.in-Ok-finish.ensures.laid pieces n l7))
