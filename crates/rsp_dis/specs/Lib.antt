-- The disassembly of words with labels. Scaffolding of the disassembler: how long its texts are, which bytes they have, and which
-- addresses have labels.
pub mod Labels
pub mod LabelTests
pub mod TextLength
pub mod NoSeparators
