-- What the clauses say.
pub mod NotCore
pub mod Numbers
pub mod Message
-- Steps of the proofs.
pub mod Place
pub mod Given
pub mod Task
