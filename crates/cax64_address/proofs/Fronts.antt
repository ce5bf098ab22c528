-- What is taken back of a text leaves what stood in front.
use Rattle.std.proofs.Common.{◌≡◌, ℕ, ap, sym, ◌∙◌, subst, length, take, IsUtf8, String, string_bytes, string_len}
use Rattle.std.proofs.lemmas.List.{take_at}
use Rattle.std.proofs.lemmas.Str.{IsUtf8-string_bytes}
use Rattle.cax64_machine_code.specs.Sequence.{IsFront}

pub taken_utf8 : {Z : Type 0} (s t : String Z) (n : ℕ) → n ≡ string_len s → IsFront (string_bytes s) (string_bytes t) → IsUtf8 (take n (string_bytes t))
taken_utf8 s t n e f =
    let len : length (string_bytes s) ≡ n = sym (e ∙ s.bytes.ok.0) in
    subst IsUtf8 (sym (ap (take n) (sym f.whole) ∙ take_at (string_bytes s) f.rest n len)) (IsUtf8-string_bytes s)
