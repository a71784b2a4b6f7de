-- Scaffolding of the contracts: operands and labels as the code has them.
pub mod Labels
pub mod OperandValues
pub mod Fields
pub mod FieldsFit
