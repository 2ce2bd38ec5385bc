pub mod KeyRuns
pub mod KeyWords
