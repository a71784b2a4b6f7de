pub mod WordCuts
pub mod Numbers
pub mod Texts
pub mod HexBytes
pub mod LongLines
