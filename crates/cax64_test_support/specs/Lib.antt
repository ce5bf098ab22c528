pub mod CallRecorder
pub mod RefusingSink
