-- The memories as lists of bytes.
pub mod Memory
pub mod Image
pub mod Runs
pub mod Splices
pub mod Words
