use Rattle.std.proofs.Common.{◌≡◌, ℕ, suc, ◌-◌, ◌<◌, ◌≤◌, arith, refl, ap, true, List, [], ◌∷◌, ◌++◌, length, Option, Some}
use Rattle.std.specs.Prelude.{nat_lt}
use Rattle.std.specs.List.{list_all}
use Rattle.std.proofs.lemmas.Bool.{and_parts}
use Rattle.std.proofs.lemmas.Bool.Decides.{nat_tests}
use Rattle.cax64_machine_code.specs.Fields.{IsBytes, number_at}
use Rattle.cax64_machine_code.specs.Line.{after}
use Rattle.cax64_machine_code.specs.Prefix.{prefix_at, legacy_at, rex_at, vex_at}
use Rattle.cax64_machine_code.specs.Reading.{Found, find, row_at, operands_at}
use Rattle.cax64_machine_code.proofs.Matched.{reads_as}
use Rattle.cax64_machine_code.specs.Rows.{line_of, all_rows}
use Rattle.cax64_machine_code.specs.declared.row.Row.{Row}
use Rattle.cax64_operand.specs.NopRow.{nop_row}
use Rattle.cax64_encoder.proofs.Bytes.{no_bytes, more_bytes}
use Rattle.cax64_machine_code.specs.Tail.{read_tail, sib_at, disp_at}
use Rattle.cax64_sink.specs.Run.{all_bytes, all_notices}
use Rattle.cax64_sink.specs.Ends.{EndsInBytes}
use Rattle.cax64_encoder.specs.Encodes.{EncodesAs}
use Rattle.cax64_encoder.specs.Meant.{nop_meant}
use Rattle.cax64_encoder.specs.Nop.{nop_bytes, nop_parts}
use Rattle.cax64_encoder.specs.NopActions.{nop_actions}
use Rattle.cax64_operand.specs.declared.nop.Nop.{Nop}
use Rattle.cax64_operand.specs.declared.nop.Nop.TheVariants.{One, Two, Three, Four, Five, Six, Seven, Eight, Nine}

-- A nop's bytes read as it.

abbrev nop_tail : Nop → ℕ
nop_tail One = 0
nop_tail Two = 0
nop_tail Three = 1
nop_tail Four = 2
nop_tail Five = 3
nop_tail Six = 3
nop_tail Seven = 5
nop_tail Eight = 6
nop_tail Nine = 6

abbrev nop_found : Nop → List ℕ → ℕ → Option Found
nop_found nop rest tail = Some (record { parts = nop_parts (nop_row nop) nop; tail = tail; rest = rest })

-- of so many bytes more, so many are left
one_more : (n : ℕ) → suc n - n ≡ 1
one_more n = omega arith

two_more : (n : ℕ) → suc (suc n) - n ≡ 2
two_more n = omega arith

three_more : (n : ℕ) → suc (suc (suc n)) - n ≡ 3
three_more n = omega arith

five_more : (n : ℕ) → suc (suc (suc (suc (suc n)))) - n ≡ 5
five_more n = omega arith

six_more : (n : ℕ) → suc (suc (suc (suc (suc (suc n))))) - n ≡ 6
six_more n = omega arith

nop_reads : (nop : Nop) (rest : List ℕ) → find (nop_bytes nop ++ rest) ≡ nop_found nop rest (nop_tail nop)
unfolding find row_at operands_at line_of all_rows after prefix_at legacy_at rex_at vex_at read_tail sib_at disp_at number_at
nop_reads One rest = refl
nop_reads Two rest = refl
nop_reads Three rest = ap (nop_found Three rest) (one_more (length rest))
nop_reads Four rest = ap (nop_found Four rest) (two_more (length rest))
nop_reads Five rest = ap (nop_found Five rest) (three_more (length rest))
nop_reads Six rest = ap (nop_found Six rest) (three_more (length rest))
nop_reads Seven rest = ap (nop_found Seven rest) (five_more (length rest))
nop_reads Eight rest = ap (nop_found Eight rest) (six_more (length rest))
nop_reads Nine rest = ap (nop_found Nine rest) (six_more (length rest))

-- a nop's actions write it
nop_written : (M : Type 0) (row : Row) (nop : Nop) → row ≡ nop_row nop → all_bytes (nop_actions nop) ≡ nop_bytes nop → ((at : ℕ) → all_notices (nop_actions nop) at ≡ []) → EndsInBytes (nop_actions nop) → IsBytes (nop_bytes nop) → 1 ≤ length (nop_bytes nop) → length (nop_bytes nop) ≤ 13 → EncodesAs {M = M} (nop_meant row nop) (nop_actions nop)
nop_written M row nop is e told ends bytes least most = rw is (record {
  written = record {
    are_bytes = rw e bytes;
    reads = rw e (reads_as (nop_parts (nop_row nop) nop) (nop_tail nop) (nop_bytes nop) (nop_reads nop) least most);
    notices = told;
    shortest = tt;
    ends = ends;
  };
  length = ap length e;
  exact = e;
})

are_bytes : (bytes : List ℕ) → list_all (λ byte. nat_lt byte 256) bytes ≡ true → IsBytes bytes
are_bytes [] h = no_bytes
are_bytes (byte ∷ later) h =
    let p = and_parts (nat_lt byte 256) (list_all (λ (byte : ℕ). nat_lt byte 256) later) h in
    more_bytes byte later (below byte p.0) (are_bytes later p.1)
  where
    below : (byte : ℕ) → nat_lt byte 256 ≡ true → byte < 256
    below byte h = grind (arith, nat_tests)

pub nop_encodes : (M : Type 0) (row : Row) (nop : Nop) → row ≡ nop_row nop → EncodesAs {M = M} (nop_meant row nop) (nop_actions nop)
nop_encodes M row One is = nop_written M row One is refl (λ at. refl) (omega arith) (are_bytes (nop_bytes One) refl) (omega arith) (omega arith)
nop_encodes M row Two is = nop_written M row Two is refl (λ at. refl) (omega arith) (are_bytes (nop_bytes Two) refl) (omega arith) (omega arith)
nop_encodes M row Three is = nop_written M row Three is refl (λ at. refl) (omega arith) (are_bytes (nop_bytes Three) refl) (omega arith) (omega arith)
nop_encodes M row Four is = nop_written M row Four is refl (λ at. refl) (omega arith) (are_bytes (nop_bytes Four) refl) (omega arith) (omega arith)
nop_encodes M row Five is = nop_written M row Five is refl (λ at. refl) (omega arith) (are_bytes (nop_bytes Five) refl) (omega arith) (omega arith)
nop_encodes M row Six is = nop_written M row Six is refl (λ at. refl) (omega arith) (are_bytes (nop_bytes Six) refl) (omega arith) (omega arith)
nop_encodes M row Seven is = nop_written M row Seven is refl (λ at. refl) (omega arith) (are_bytes (nop_bytes Seven) refl) (omega arith) (omega arith)
nop_encodes M row Eight is = nop_written M row Eight is refl (λ at. refl) (omega arith) (are_bytes (nop_bytes Eight) refl) (omega arith) (omega arith)
nop_encodes M row Nine is = nop_written M row Nine is refl (λ at. refl) (omega arith) (are_bytes (nop_bytes Nine) refl) (omega arith) (omega arith)
