pub mod Grammars
pub mod Many
pub mod Naming
pub mod Reading
pub mod Scanning
