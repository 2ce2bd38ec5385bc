pub mod KeyBytes
