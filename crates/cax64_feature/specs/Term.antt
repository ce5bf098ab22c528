-- Terms of features, their texts, and when they are true.
use Rattle.std.specs.Prelude.{ℕ, Bool, ◌&&◌, ◌||◌, List, ◌++◌, codes}
use Rattle.cax64_feature.specs.declared.feature.Feature.{Feature}
use Rattle.cax64_feature.specs.declared.feature.Feature.TheVariants as feature
use Rattle.cax64_feature.specs.declared.features.Features as features

pub data Term : Type 0 where
  both : Term → Term → Term
  either : Term → Term → Term
  has : Feature → Term

-- a feature's name
abbrev pub feature_name : Feature → List ℕ
feature_name feature._64b = codes "_64b"
feature_name feature.compat = codes "compat"
feature_name feature.sse = codes "sse"
feature_name feature.sse2 = codes "sse2"
feature_name feature.avx = codes "avx"
feature_name feature.bmi2 = codes "bmi2"
feature_name feature.cmpxchg16b = codes "cmpxchg16b"

abbrev pub term_text : Term → List ℕ
term_text (both a b) = codes "(" ++ term_text a ++ codes " & " ++ term_text b ++ codes ")"
term_text (either a b) = codes "(" ++ term_text a ++ codes " | " ++ term_text b ++ codes ")"
term_text (has f) = feature_name f

-- whether a term is true where a processor answers so for each feature
abbrev pub truth : (Feature → Bool) → Term → Bool
truth answer (both a b) = truth answer a && truth answer b
truth answer (either a b) = truth answer a || truth answer b
truth answer (has f) = answer f

-- the term that a tree of boxes holds
abbrev pub term_of : {A : Type 0} → features.Features A → Term
term_of (features.And' p a q b) = both (term_of a) (term_of b)
term_of (features.Or' p a q b) = either (term_of a) (term_of b)
term_of (features.Feature f) = has f
