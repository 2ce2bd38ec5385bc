pub mod Shape
pub mod Replay
pub mod ReplayFacts
pub mod Errors
pub mod Phases
