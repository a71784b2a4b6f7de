pub mod BitFields
pub mod Keys
pub mod OneRow
pub mod SelectingBits
pub mod WordOfInstruction
pub mod InstructionOfWord
