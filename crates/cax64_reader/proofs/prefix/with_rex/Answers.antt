use Rattle.std.proofs.Common.{◌≡◌, ◌∙◌, ◌%◌, arith, refl, true}
use Rattle.std.specs.Int.{from_bool}
use Rattle.cax64_table.specs.Legacy.{set_in}
use Rattle.cax64_table.specs.PrefixNumbers.{rex_with}
use Rattle.cax64_table.proofs.Again.{legacy_again}
use Rattle.cax64_reader.proofs.Fronts.{with_rex_are}
use Rattle.cax64_reader.proofs.prefix.with_rex.Goals as goal

pub invariant_of-result : goal.invariant_of-result
invariant_of-result c = record {
  meant = with_rex_are c.legacy.result (set_in c.args.seen) c.bit.result c.bit-2.result c.bit-3.result c.bit-4.result
      (c.legacy.ensures (rex_with true (from_bool c.bit.result) c.bit-2.result c.bit-3.result c.bit-4.result) refl);
}

pub returns : goal.returns
returns c =
    let last : from_bool c.bit-4.result ≡ c.args.byte % 2 = omega arith in
    legacy_again c.legacy.result (set_in c.args.seen) true c.bit.result c.bit-2.result c.bit-3.result c.bit-4.result
    (c.legacy.ensures (rex_with true (from_bool c.bit.result) c.bit-2.result c.bit-3.result c.bit-4.result) refl)
    ∙ rw (c.bit.ensures, c.bit-2.ensures, c.bit-3.ensures, last) refl
