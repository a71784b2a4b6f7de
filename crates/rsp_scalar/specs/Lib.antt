-- The scalar instructions.
pub mod Registers
pub mod ScalarRules
pub mod Flow
