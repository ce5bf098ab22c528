-- What the tests' processor answers.
use Rattle.std.specs.Prelude.{Bool}
use Rattle.cax64_feature.specs.declared.feature.Feature.{Feature}
use Rattle.cax64_feature.specs.declared.feature.Feature.TheVariants as feature

abbrev pub answer : Bool → Bool → Feature → Bool
answer compat_and_bmi2 others feature._64b = others
answer compat_and_bmi2 others feature.compat = compat_and_bmi2
answer compat_and_bmi2 others feature.sse = others
answer compat_and_bmi2 others feature.sse2 = others
answer compat_and_bmi2 others feature.avx = others
answer compat_and_bmi2 others feature.bmi2 = compat_and_bmi2
answer compat_and_bmi2 others feature.cmpxchg16b = others
