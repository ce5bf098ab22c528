use Rattle.std.proofs.Common.{◌≡◌, ◌∙◌, ◌+◌, ◌-◌, ◌<◌, ◌≤◌, ℕ, Bool, true, false, refl, sym, ap, subst, arith, Option, Some, None, List, [], ◌∷◌, ◌++◌, drop, take, length, set, add-one}
use Rattle.std.proofs.lemmas.List.{drop-drop, drop-set-lt, length-drop}
use Rattle.std.proofs.Math.Seq.{take-length, take-suc-set}
use Rattle.std.specs.Prelude.{MatchOption, option_map}
use Rattle.cax64_machine_code.specs.Reading.{FoundOf}
use Rattle.cax64_machine_code.specs.ReadLine.{LineReading, find_line, line_reading_of, or_else, read_line, read_of}
use Rattle.cax64_machine_code.specs.declared.line.Line.{Line}
use Rattle.x64_plain.specs.Reading.{IsReading}
use Rattle.x64_plain.specs.declared.reading.HqReading.{HqReading}
use Rattle.huqmeris_c.specs.InTurn.{InTurn, IsRead}
use Rattle.x64_lines.specs.Lines.{core_lines}

-- Instructions read one behind the other.

one_more : (plains : List HqReading) (bytes rest : List ℕ) (plain : HqReading) → InTurn bytes plains rest → IsRead rest plain → InTurn bytes (plains ++ plain ∷ []) (drop plain.length rest)
unfolding InTurn
one_more [] bytes rest plain h r = (subst (λ (b : List ℕ). IsRead b plain) (sym h) r, ap (λ (b : List ℕ). drop plain.length b) h)
one_more (first ∷ plains) bytes rest plain h r = (h.0, one_more plains (drop first.length bytes) rest plain h.1 r)

pub none_yet : (bytes : List ℕ) → InTurn bytes [] (drop 0 bytes)
unfolding InTurn
none_yet bytes = refl

-- a reading has no more bytes than there are

abbrev length_in : Option LineReading → ℕ
length_in None = 0
length_in (Some r) = r.length

found_within : (bytes : List ℕ) (o : Option (FoundOf Line)) → length_in (option_map (line_reading_of bytes) o) ≤ length bytes
found_within bytes None = omega arith
found_within bytes (Some found) = omega arith

line_within : (line : Line) (bytes : List ℕ) → length_in (read_line line bytes) ≤ length bytes
unfolding read_line
line_within line bytes = found_within bytes (find_line line bytes)

either_within : (a b : Option LineReading) (n : ℕ) → length_in a ≤ n → length_in b ≤ n → length_in (or_else a b) ≤ n
either_within None b n h k = k
either_within (Some r) b n h k = h

within : (lines : List Line) (bytes : List ℕ) → length_in (read_of lines bytes) ≤ length bytes
unfolding read_of
within [] bytes = omega arith
within (line ∷ lines) bytes = either_within (read_line line bytes) (read_of lines bytes) (length bytes) (line_within line bytes) (within lines bytes)

-- all that stands behind so many bytes
rest_is : (at : ℕ) (bytes : List ℕ) → take (length bytes - at) (drop at bytes) ≡ drop at bytes
rest_is at bytes = ap (λ (n : ℕ). take n (drop at bytes)) (sym (length-drop at bytes)) ∙ take-length (drop at bytes)

-- what the reader's integers say of them
Answered : Option LineReading → Bool → HqReading → HqReading → Type 0
Answered found is old plain = MatchOption found ((is ≡ false) × (plain ≡ old)) (λ reading. (is ≡ true) × IsReading reading plain)

pub read_at : (at : ℕ) (bytes : List ℕ) (is : Bool) (old plain : HqReading) → MatchOption (read_of core_lines (take (length bytes - at) (drop at bytes))) ((is ≡ false) × (plain ≡ old)) (λ reading. (is ≡ true) × IsReading reading plain) → is ≡ true → IsRead (drop at bytes) plain × (plain.length ≤ length (drop at bytes))
unfolding Answered
read_at at bytes is old plain h e = by_found (read_of core_lines (drop at bytes)) refl (subst (λ (b : List ℕ). Answered (read_of core_lines b) is old plain) (rest_is at bytes) h)
  where
    by_found : (found : Option LineReading) → read_of core_lines (drop at bytes) ≡ found → Answered found is old plain → IsRead (drop at bytes) plain × (plain.length ≤ length (drop at bytes))
    by_found None k m = let bad : true ≡ false = sym e ∙ m.0 in absurd cc
    by_found (Some reading) k m =
        let long : plain.length ≡ reading.length = ap (λ (p : HqReading). p.length) m.1.is in
        let fits : reading.length ≤ length (drop at bytes) = subst (λ (o : Option LineReading). length_in o ≤ length (drop at bytes)) k (within core_lines (drop at bytes)) in
        (record { reading = reading; is = k; plain_is = m.1 }, subst (λ (n : ℕ). n ≤ length (drop at bytes)) (sym long) fits)

-- what the loop has done
pub record ReadSoFar (bytes : List ℕ) (first out : List HqReading) (at i : ℕ) : Type 0 where
  pub turn : InTurn bytes (take i out) (drop at bytes)
  pub others : drop i out ≡ drop i first
  pub end : at ≤ length bytes

further : (i : ℕ) (a b : List HqReading) → drop i a ≡ drop i b → drop (i + 1) a ≡ drop (i + 1) b
further i a b h = sym (drop-drop 1 i a) ∙ ap (λ (l : List HqReading). drop 1 l) h ∙ drop-drop 1 i b

taken : (i : ℕ) (out : List HqReading) (plain : HqReading) → i < length out → take (i + 1) (set out i plain) ≡ take i out ++ plain ∷ []
taken i out plain h = rw add-one (take-suc-set out i plain h)

pub next : (bytes : List ℕ) (first out : List HqReading) (at i n : ℕ) (plain : HqReading) → ReadSoFar bytes first out at i → i < length out → IsRead (drop at bytes) plain → n ≡ plain.length → n ≤ length (drop at bytes) → ReadSoFar bytes first (set out i plain) (at + n) (i + 1)
next bytes first out at i n plain h k r e m = record {
  turn = subst (λ (l : List HqReading). InTurn bytes l (drop (at + n) bytes)) (sym (taken i out plain k)) (subst (λ (b : List ℕ). InTurn bytes (take i out ++ plain ∷ []) b) rest (one_more (take i out) bytes (drop at bytes) plain h.turn r));
  others = drop-set-lt (i + 1) out i plain (omega arith) ∙ further i out first h.others;
  end = let d : length (drop at bytes) ≡ length bytes - at = length-drop at bytes in let w : at ≤ length bytes = h.end in omega (arith, d, m, w);
}
  where
    rest : drop plain.length (drop at bytes) ≡ drop (at + n) bytes
    rest = drop-drop plain.length at bytes ∙ ap (λ (x : ℕ). drop (at + x) bytes) (sym e)
