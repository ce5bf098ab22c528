use Rattle.std.proofs.Common.{◌≡◌, ◌∙◌, ◌+◌, ◌-◌, ◌≤◌, ℕ, sym, ap, subst, arith, List, ◌++◌, drop, take, length}
use Rattle.std.proofs.lemmas.List.{drop-drop}
use Rattle.cax64_encoder.specs.EncodesLine.{line_notices_of}
use Rattle.cax64_encoder.specs.Place.{memory_in}
use Rattle.x64_plain.specs.declared.told.HqUse.{HqUse}
use Rattle.huqmeris_c.specs.Each.{uses_told}
use Rattle.huqmeris_c.specs.Listed.{PutBehind}
use Rattle.huqmeris_c.specs.PutCode.{PutCode}
use Rattle.huqmeris_c.proofs.Coded.{added_is}
use Rattle.huqmeris_c.proofs.Listing.{number_told}
use Rattle.x64_core.specs.View.{CoreView}

-- Bytes that are made apart, and written in the middle.

pub middle_put : (v : CoreView) (at : ℕ) (code copied whole whole' : List ℕ) (behind len size : ℕ) (heard : List HqUse) → copied ≡ take size whole' → size ≡ len → (put : PutCode v whole whole' behind len) → heard ≡ uses_told (line_notices_of (memory_in v.place) at put.adds.line.reads.reading)
    → PutBehind v at code (take at code ++ (copied ++ drop (at + size - at) (drop at code))) size heard
middle_put v at code copied whole whole' behind len size heard c same put tells =
    let here : at + (at + size - at) ≡ at + size = omega arith in
    let rest : drop (at + size - at) (drop at code) ≡ drop (at + size) code = drop-drop (at + size - at) at code ∙ ap (λ (n : ℕ). drop n code) here in
    let first : copied ≡ put.added = c ∙ ap (λ (n : ℕ). take n whole') same ∙ added_is v whole whole' behind len put in
    record {
      added = put.added;
      is = ap (λ (l : List ℕ). take at code ++ (l ++ drop (at + size - at) (drop at code))) first ∙ ap (λ (l : List ℕ). take at code ++ (put.added ++ l)) rest;
      count = same ∙ put.count;
      most = subst (λ (n : ℕ). n ≤ 13) (sym same) put.most;
      size = same ∙ put.size;
      adds = put.adds;
      tells = tells;
      number = ap (λ (l : List HqUse). length l) tells ∙ number_told (memory_in v.place) at put.adds.line.reads.reading;
    }
