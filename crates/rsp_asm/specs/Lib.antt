-- The assembler: the faults that it returns, blocks, and the laws of its words. What a text means is in rsp_syntax.
pub mod LineParts
pub mod Operands
pub mod Statements
pub mod Forms
pub mod AssembleFaults
pub mod Decoding
pub mod Block
pub mod BlockFault
pub mod Explanations
pub mod FormOperands
pub mod LabelList
pub mod OperandFaults
pub mod TextFaults
