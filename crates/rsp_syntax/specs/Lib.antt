-- The syntax of the assembler: what a source text means, and how a word is disassembled. Begin with
-- `rsp_syntax/specs/SourceText.antt` and `rsp_syntax/specs/Disassembly.antt`.
pub mod Chars
pub mod Cuts
pub mod Numbers
pub mod Names
pub mod Capping
pub mod Operands
pub mod Statement
pub mod OperandResults
pub mod SourceLine
pub mod SourceText
pub mod TableSearch
pub mod Disassembly
pub mod Faults
