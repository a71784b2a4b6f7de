-- Lemmas on numbers.
pub mod Wrap
pub mod Signed
pub mod Join
pub mod Roots
