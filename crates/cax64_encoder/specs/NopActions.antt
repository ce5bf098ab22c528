use Rattle.std.specs.Prelude.{ℕ, List, [], ◌∷◌, ◌++◌}
use Rattle.cax64_operand.specs.declared.nop.Nop.{Nop}
use Rattle.cax64_operand.specs.declared.nop.Nop.TheVariants.{One, Two, Three, Four, Five, Six, Seven, Eight, Nine}
use Rattle.cax64_sink.specs.Puts.{puts}
use Rattle.cax64_sink.specs.Call.{Action}
use Rattle.cax64_sink.specs.Rest.{word_actions}

-- The sink calls of a no-operation: bytes that are put each by itself, and zeros behind them that are put at once.

abbrev pub nop_lead : Nop → List ℕ
nop_lead One = 0x90 ∷ []
nop_lead Two = 0x66 ∷ 0x90 ∷ []
nop_lead Three = 0x0F ∷ 0x1F ∷ 0x00 ∷ []
nop_lead Four = 0x0F ∷ 0x1F ∷ 0x40 ∷ 0x00 ∷ []
nop_lead Five = 0x0F ∷ 0x1F ∷ 0x44 ∷ []
nop_lead Six = 0x66 ∷ 0x0F ∷ 0x1F ∷ 0x44 ∷ []
nop_lead Seven = 0x0F ∷ 0x1F ∷ 0x80 ∷ []
nop_lead Eight = 0x0F ∷ 0x1F ∷ 0x84 ∷ 0x00 ∷ []
nop_lead Nine = 0x66 ∷ 0x0F ∷ 0x1F ∷ 0x84 ∷ 0x00 ∷ []

-- how many
abbrev pub nop_zeros : Nop → ℕ
nop_zeros One = 0
nop_zeros Two = 0
nop_zeros Three = 0
nop_zeros Four = 0
nop_zeros Five = 2
nop_zeros Six = 2
nop_zeros Seven = 4
nop_zeros Eight = 4
nop_zeros Nine = 4

abbrev pub nop_actions : Nop → List Action
nop_actions nop = puts (nop_lead nop) ++ word_actions (nop_zeros nop) 0
