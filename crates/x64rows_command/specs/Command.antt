-- Which words are a command.
use Rattle.std.specs.Prelude.{◌≡◌, ◌⊎◌, List, [], ◌∷◌, ℕ, codes}
use Rattle.x64rows_command.specs.Tail.{HasOperand, IsTailOf}

-- no word, or `rows`
abbrev pub AsksForRows : List (List ℕ) → Type 0
AsksForRows [] = Unit {0}
AsksForRows (command ∷ []) = command ≡ codes "rows"
AsksForRows words = ⊥

-- `buffer`
abbrev pub AsksForBuffer : List (List ℕ) → Type 0
AsksForBuffer (command ∷ []) = command ≡ codes "buffer"
AsksForBuffer words = ⊥

-- `tail`, and six words that write an operand
abbrev pub AsksForTail : List (List ℕ) → Type 0
AsksForTail (command ∷ reg ∷ base ∷ index ∷ scale ∷ disp ∷ factor ∷ []) = (command ≡ codes "tail") × HasOperand reg base index scale disp factor
AsksForTail words = ⊥

-- the bytes are the shortest tail of what the six words behind `tail` write
abbrev pub IsAskedTail : List (List ℕ) → List ℕ → Type 0
IsAskedTail (command ∷ reg ∷ base ∷ index ∷ scale ∷ disp ∷ factor ∷ []) bytes = IsTailOf reg base index scale disp factor bytes
IsAskedTail words bytes = ⊥

abbrev pub IsCommand : List (List ℕ) → Type 0
IsCommand words = AsksForRows words ⊎ (AsksForBuffer words ⊎ AsksForTail words)
