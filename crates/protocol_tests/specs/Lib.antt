pub mod SizedAirs
pub mod DeclaringAirs
pub mod NamedAirs
pub mod Reads
