-- The divide instructions and VMOV.
pub mod Dividers
pub mod Entries
pub mod Quotients
pub mod DivideRules
