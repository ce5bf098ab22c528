use Rattle.std.proofs.Common.{◌≡◌, ℕ, suc, ◌≤◌, arith, refl, ◌∙◌, ap, sym, Option, Some, None, List, [], ◌∷◌, ◌++◌, length, drop}
use Rattle.std.specs.Prelude.{option_map, option_and_then}
use Rattle.std.proofs.lemmas.List.{drop-append-le, length-drop}
use Rattle.cax64_machine_code.specs.Reading.{Parts, read}
use Rattle.cax64_machine_code.specs.Sequence.{EachSame, read_all, total_length, ReadsAllAs}
use Rattle.cax64_machine_code.specs.declared.reading.Reading.{Reading}
use Rattle.cax64_sequence.specs.List.{FirstReads}

-- A list of readings, one by one.

abbrev Taken : List ℕ → ℕ → Reading → List Reading → List ℕ → Type 0
Taken bytes count r rs rest = (read bytes ≡ Some r) × (read_all (drop r.length bytes) count ≡ Some (rs, rest))

by_later : (bytes : List ℕ) (count : ℕ) (first r : Reading) (rs : List Reading) (rest : List ℕ) (o : Option (List Reading × List ℕ)) → read bytes ≡ Some first → read_all (drop first.length bytes) count ≡ o → option_map {T = List Reading × List ℕ} {U = List Reading × List ℕ} (λ later. (first ∷ later.0, later.1)) o ≡ Some (r ∷ rs, rest) → Taken bytes count r rs rest
by_later bytes count first r rs rest None e k h = cc
by_later bytes count first r rs rest (Some later) e k h =
    let same : (first ∷ later.0, later.1) ≡ (r ∷ rs, rest) = some_same _ _ h in
    let readings : first ∷ later.0 ≡ r ∷ rs = ap (λ (z : List Reading × List ℕ). z.0) same in
    let is : first ≡ r = cc in
    let are : later.0 ≡ rs = cc in
    let left : later.1 ≡ rest = ap (λ (z : List Reading × List ℕ). z.1) same in
    let both : later ≡ (rs, rest) = ap (λ (z : List Reading). (z, later.1)) are ∙ ap (λ (z : List ℕ). (rs, z)) left in
    (e ∙ ap Some is, ap (λ (x : Reading). read_all (drop x.length bytes) count) (sym is) ∙ k ∙ ap Some both)
  where
    some_same : {A : Type 0} (a b : A) → ◌≡◌ {A = Option A} (Some a) (Some b) → a ≡ b
    some_same a b e = cc

by_first : (bytes : List ℕ) (count : ℕ) (r : Reading) (rs : List Reading) (rest : List ℕ) (o : Option Reading) → read bytes ≡ o → option_and_then {T = Reading} {U = List Reading × List ℕ} (λ first. option_map (λ later. (first ∷ later.0, later.1)) (read_all (drop first.length bytes) count)) o ≡ Some (r ∷ rs, rest) → Taken bytes count r rs rest
by_first bytes count r rs rest None e h = cc
by_first bytes count r rs rest (Some first) e h = by_later bytes count first r rs rest (read_all (drop first.length bytes) count) e refl h

taken : (bytes : List ℕ) (count : ℕ) (r : Reading) (rs : List Reading) (rest : List ℕ) → read_all bytes (suc count) ≡ Some (r ∷ rs, rest) → Taken bytes count r rs rest
unfolding read_all
taken bytes count r rs rest h = by_first bytes count r rs rest (read bytes) refl h

by_readings : (meant : Parts) (later : List Parts) (b : List ℕ) (readings : List Reading) → length b ≡ total_length readings → ((rest : List ℕ) → read_all (b ++ rest) (length (meant ∷ later)) ≡ Some (readings, rest)) → EachSame readings (meant ∷ later) → FirstReads meant later b
by_readings meant later b [] lengths reads same = absurd same
by_readings meant later b (r ∷ rs) lengths reads same =
    let within : r.length ≤ length b = omega (arith, lengths) in
    record {
      reading = r;
      reads = λ rest. (taken (b ++ rest) (length later) r rs rest (reads rest)).0;
      same = same.0;
      within = within;
      left = record {
        readings = rs;
        lengths = length-drop r.length b ∙ omega (arith, lengths);
        reads = λ rest. ap (λ (x : List ℕ). read_all x (length later)) (sym (drop-append-le r.length b rest within)) ∙ (taken (b ++ rest) (length later) r rs rest (reads rest)).1;
        same = same.3;
      };
    }

pub first_reads : (meant : Parts) (later : List Parts) (b : List ℕ) → ReadsAllAs (meant ∷ later) b → FirstReads meant later b
first_reads meant later b h = by_readings meant later b h.readings h.lengths h.reads h.same
