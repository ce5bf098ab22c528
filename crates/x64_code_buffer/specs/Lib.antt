-- What the clauses of public functions say.
pub mod Field
pub mod Label
pub mod Binding
pub mod Use
pub mod Filled
pub mod Laid
pub mod Jump
pub mod Put
pub mod Padding
pub mod Buffer
pub mod Message
-- Steps of the proofs.
pub mod Patching
