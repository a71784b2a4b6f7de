pub mod OperandValues
pub mod Capping
pub mod Words
pub mod FieldsFit
pub mod Puts
pub mod Rows
pub mod Lookups
