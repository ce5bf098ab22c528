use Rattle.std.proofs.Common.{refl, subst}
use Rattle.huqmeris_c.specs.OfReading.{IsInstOf}
use Rattle.x64_core.specs.View.{core_view}
use Rattle.x64_reader.specs.declared.reading.CoreReading.{CoreReading}
use Rattle.huqmeris_c.proofs.convert.hq_inst_of_reading.Goals as goal

pub returns-in-Some-of_reading-clause-is : goal.returns-in-Some-of_reading-clause-is
returns-in-Some-of_reading-clause-is c = λ r h taken.
    let made : IsInstOf c.in-Some.reading c.of.result = record {
      v = core_view c.in-Some-of_reading.core;
      is = c.of.ensures;
      op = c.in-Some-of_reading.ensures.op;
      means = c.in-Some-of_reading.ensures.means;
      bare = c.in-Some-of_reading.ensures.bare;
      encodable = c.in-Some-of_reading.ensures.encodable;
    } in
    (refl, subst (λ (x : CoreReading). IsInstOf x c.of.result) (c.in-Some.ensures.alone r h) made)
