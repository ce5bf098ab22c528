use Rattle.std.proofs.Common.{◌∙◌, ap, ℕ, ◌+◌, ◌<◌, ◌≤◌, length, arith, sym, get_or, Some}
use Rattle.x64_code_buffer.proofs.Fields.{none_stored, stored_is, signed_again, in_places, four_fit}
use Rattle.x64_code_buffer.proofs.field.stored_at.Goals as goal
use Rattle.x64_code_buffer.proofs.field.stored_at.Goals.{then-bytes-lt4-via-then-bytes-lt4, then-bytes-lt4-via-else-bytes-lt4+then-bytes-at}

pub returns-then-bytes-lt4 : goal.returns-then-bytes-lt4
returns-then-bytes-lt4 c =
    let short : length c.args.bytes.now < c.args.at + 4 = elim c.then-bytes-lt4.branch [ then-bytes-lt4-via-then-bytes-lt4 w ↦ omega arith | then-bytes-lt4-via-else-bytes-lt4+then-bytes-at w ↦ omega arith ] in
    sym (none_stored c.args.bytes.now c.args.at short)

pub returns : goal.returns
returns c =
    let bytes = c.args.bytes.now in
    let at = c.args.at in
    let there : at + 4 ≤ length bytes = omega arith in
    let e = rw (in_places (get_or bytes at 0) (get_or bytes (at + 1) 0) (get_or bytes (at + 2) 0) (get_or bytes (at + 3) 0)) at c.from_le_bytes.ensures in
    let byte : (i : ℕ) → get_or bytes i 0 < 256 = λ i. let f = c.type_inv.bytes i in omega arith in
    ap Some (signed_again _ _ (four_fit _ _ _ _ (byte at) (byte (at + 1)) (byte (at + 2)) (byte (at + 3))) e) ∙ sym (stored_is bytes at there)
