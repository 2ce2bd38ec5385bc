pub mod AcceptedProofs
pub mod Running
pub mod Misuses
pub mod Words
pub mod SampleRun
pub mod StatementRun
pub mod Arguments
