-- What the clauses of public functions say.
pub mod Room
pub mod Sink
pub mod Call
pub mod Run
pub mod Puts
pub mod Rest
pub mod Keeps
pub mod Vec
pub mod Known
pub mod Recorder
pub mod FixedSink
pub mod TrapCode
pub mod Message
pub mod Cleared
pub mod Ends
pub mod Laws
