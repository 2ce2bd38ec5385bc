pub mod Bytes
pub mod BytesFacts
pub mod Elements
pub mod Roots
pub mod FriBytes
pub mod ClearBytes
pub mod Parts
pub mod ProofBytes
