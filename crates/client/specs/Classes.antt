use Rattle.std.specs.Prelude.{Bool, false, ℕ, nat_lt}
use Rattle.client.specs.declared.classes.General.{General}
use Rattle.client.specs.declared.classes.General.TheVariants as general
use Rattle.client.specs.declared.classes.Vector.{Vector}
use Rattle.client.specs.declared.classes.Vector.TheVariants as vector

-- which registers have a number of the machine, and that number

abbrev pub general_settled : General → Bool
general_settled (general.Real number) = nat_lt number 16
general_settled (general.Virtual number) = false

abbrev pub general_number : General → ℕ
general_number (general.Real number) = number
general_number (general.Virtual number) = 0

abbrev pub vector_settled : Vector → Bool
vector_settled (vector.Real number) = nat_lt number 16
vector_settled (vector.Virtual number) = false

abbrev pub vector_number : Vector → ℕ
vector_number (vector.Real number) = number
vector_number (vector.Virtual number) = 0
