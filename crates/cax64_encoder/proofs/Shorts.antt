use Rattle.std.proofs.Common.{◌≡◌, ℕ, ◌+◌, ◌*◌, ◌%◌, ◌^◌, ◌<◌, refl, ◌∙◌, ap, arith, Option, Some, None, List, [], ◌∷◌, ◌++◌, take, w64}
use Rattle.std.specs.Prelude.{if◌then◌else◌, is_some, unwrap_or}
use Rattle.std.specs.Int.{from_bool, to_le_bytes}
use Rattle.cax64_sink.proofs.LowBytes.{view_append}
use Rattle.cax64_encoder.specs.ByteWhen.{byte_of}

-- A few bytes behind one, if there is one.

abbrev pub behind_word : Option ℕ → ℕ → ℕ
behind_word byte word = if is_some byte then unwrap_or byte 0 + 256 * word else word

pub behind_is : (byte : Option ℕ) (len word : ℕ) → unwrap_or byte 0 < 256 → len < 8 → word < 256 ^ len → take (len + from_bool (is_some byte)) (to_le_bytes w64 (behind_word byte word)) ≡ byte_of byte ++ take len (to_le_bytes w64 word)
behind_is None len word h few below =
    let same : len + 0 ≡ len = omega arith in
    rw same refl
behind_is (Some byte) len word h few below =
    let sum : byte + 256 * word ≡ byte + word * 256 ^ 1 = omega arith in
    let more : len + 1 ≡ 1 + len = omega arith in
    let own : byte % 256 ≡ byte = omega (arith, h) in
    let first : take 1 (to_le_bytes w64 byte) ≡ byte ∷ [] = rw own refl in
    rw (sum, more) (view_append 1 len byte word (omega (arith, few)) (omega (arith, h)) below ∙ ap (λ (bytes : List ℕ). bytes ++ take len (to_le_bytes w64 word)) first)
